-- A file that is being taken, and what shows of it.
use Rattle.std.specs.Prelude.{◌≡◌, ℕ, List, [], ◌∷◌, ◌++◌, Option, is_some}
use Rattle.std.specs.Io.KnownBytes.{Appends}
use Rattle.sr_capture_script.specs.declared.choice.Inlet.{Inlet}
use Rattle.sr_capture_script.specs.declared.choice.Choice.{Choice}
use Rattle.sr_capture_script.specs.declared.source.Source.{Source}
use Rattle.sr_capture_script.specs.declared.fault.ScriptFault.{ScriptFault}
use Rattle.sr_capture_script.specs.declared.fault.ScriptFault.TheVariants.{File, Write, NoMemory, Endless}
use Rattle.sr_capture.specs.declared.fault.CaptureFault.{CaptureFault}
use Rattle.sr_capture_file.specs.declared.format.Format.{Format}
use Rattle.sr_capture_script.specs.Items.{Item}
use Rattle.sr_capture_script.specs.Picking.{NotBefore}
use Rattle.sr_capture_script.specs.Sources.{Progress, left_of, Feeds, IsFaulty}
use Rattle.sr_capture_script.specs.Texts.{piece_of}

abbrev pub progress_of : {R : Type 0} → Source R → Progress
progress_of s =
    record { state = s.state; place = s.place; moment = s.moment; number = s.number; flaws = s.flaws; due = s.due; shown = s.packet }

-- form, delay and whether there is a file stay
pub record IsSame {R : Type 0} (old new : Source R) : Type 0 where
  pub form : new.form ≡ old.form
  pub delay : new.delay ≡ old.delay
  pub file : is_some new.reader ≡ is_some old.reader

-- the file's packets came from these octets: some are gone, and the next one is due
abbrev pub IsFed : {R : Type 0} → (R → Option (List ℕ)) → Inlet → Option (List ℕ) → Source R → List Item → Type 0
IsFed remaining inlet start s gone = Feeds inlet s.form s.delay start (left_of remaining s.reader) (progress_of s) gone

-- the item that was due is gone and printed behind a line of the time `last`, and the next one is due
pub record Serves {R : Type 0} (remaining : R → Option (List ℕ)) (inlet : Inlet) (choice : Choice) (base m : ℕ) (last : Option ℕ)
    (start : Option (List ℕ))
    (gone : List Item) (after : Source R) (held now : Option (List ℕ)) : Type 0 where
  pub item : Item
  pub at : item.inlet ≡ inlet
  pub when : item.moment ≡ m
  pub later : NotBefore after.due m
  pub fed : IsFed remaining inlet start after (gone ++ item ∷ [])
  pub wrote : Appends held now (piece_of choice base last item)

-- the item that was due is gone and printed, and behind it the file has a fault
pub record Sticks (inlet : Inlet) (choice : Choice) (form : Format) (delay base m : ℕ) (last : Option ℕ) (fault : CaptureFault)
    (start : Option (List ℕ))
    (gone : List Item) (held now : Option (List ℕ)) : Type 0 where
  pub item : Item
  pub at : item.inlet ≡ inlet
  pub when : item.moment ≡ m
  pub faulty : IsFaulty inlet form delay fault start (gone ++ item ∷ [])
  pub wrote : Appends held now (piece_of choice base last item)

-- a fault of a writer, or of memory before it wrote anything; what a writer that fails wrote is not known
abbrev pub StopsPrinting : ScriptFault → Option (List ℕ) → Option (List ℕ) → Type 0
StopsPrinting Write held now = Unit {0}
StopsPrinting NoMemory held now = now ≡ held
StopsPrinting (File at fault) held now = ⊥
StopsPrinting Endless held now = ⊥

-- a fault while an item was printed: of memory, and nothing has changed, or of the file; what a writer that fails wrote is not known
abbrev pub StopsServing : {R : Type 0} → (R → Option (List ℕ)) → Inlet → Choice → ℕ → ℕ → Option ℕ → ScriptFault → Source R → Source R
    → Option (List ℕ) → Option (List ℕ) → Type 0
StopsServing remaining inlet choice base m last (File at fault) before after held now = (at ≡ inlet)
    × ((start : Option (List ℕ)) (gone : List Item) → IsFed remaining inlet start before gone
    → Sticks inlet choice before.form before.delay base m last fault start gone held now)
StopsServing remaining inlet choice base m last NoMemory before after held now = (after ≡ before) × (now ≡ held)
StopsServing remaining inlet choice base m last Write before after held now = Unit {0}
StopsServing remaining inlet choice base m last Endless before after held now = ⊥
