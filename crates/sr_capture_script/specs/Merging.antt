-- A script of up to three files, or as much of it as comes before a fault.
use Rattle.std.specs.Prelude.{◌≡◌, ◌≤◌, ℕ, ◌-◌, ◌^◌, min, List, [], ◌∷◌, ◌++◌, length, Option, Some, None, Bool, true, false, IfSome, ◌⊎◌}
use Rattle.std.specs.Io.KnownBytes.{Appends}
use Rattle.sr_capture.specs.declared.fault.CaptureFault.{CaptureFault}
use Rattle.sr_capture_file.specs.declared.format.Format.{Format}
use Rattle.sr_capture.specs.Taking.{Loses}
use Rattle.sr_capture.specs.Records.{Captured}
use Rattle.sr_capture_script.specs.declared.choice.Choice.{Choice}
use Rattle.sr_capture_script.specs.declared.choice.Inlet.{Inlet}
use Rattle.sr_capture_script.specs.declared.choice.Inlet.TheVariants.{A, B, C}
use Rattle.sr_capture_script.specs.declared.fault.ScriptFault.{ScriptFault}
use Rattle.sr_capture_script.specs.declared.fault.ScriptFault.TheVariants.{File, Endless}
use Rattle.sr_capture_script.specs.declared.flaws.FlawCounts.{FlawCounts}
use Rattle.sr_capture_script.specs.declared.source.Source.{Source}
use Rattle.sr_capture_file.specs.Formats.{AreTaken, HasPackets}
use Rattle.sr_capture_script.specs.Flaws.{tallied}
use Rattle.sr_capture_script.specs.Items.{Item, items_of, came_at, key_of, AllTo, IsInOrder, IsMerge}
use Rattle.sr_capture_script.specs.Sources.{IsFaulty}
use Rattle.sr_capture_script.specs.Texts.{numbers_line, lines_of, last_line, last_ticks}

-- a file behind its front: what the front says, how far its times are put off, and its octets, where they are known
pub record Feed : Type 0 where
  pub form : Format
  pub delay : ℕ
  pub start : Option (List ℕ)

abbrev pub feed_of : {R : Type 0} → Source R → Option (List ℕ) → Feed
feed_of s start = record { form = s.form; delay = s.delay; start = start }

-- where the octets are known, they have these packets
abbrev pub HasRecords : Feed → List Captured → Type 0
HasRecords feed packets = IfSome feed.start (λ octets. HasPackets feed.form octets packets)

-- the counts of a file, if there is one
abbrev pub numbers_of : Bool → Inlet → ℕ → FlawCounts → List ℕ
numbers_of true inlet number counts = numbers_line inlet number counts
numbers_of false inlet number counts = []

abbrev pub counts_of : Bool → Inlet → List Captured → List ℕ
counts_of there inlet packets = numbers_of there inlet (min (length packets) (2 ^ 64 - 1)) (tallied packets)

-- what was counted of a file that has these packets
pub record HasCounted {R : Type 0} (s : Source R) (packets : List Captured) : Type 0 where
  pub number : s.number ≡ min (length packets) (2 ^ 64 - 1)
  pub flaws : s.flaws ≡ tallied packets

-- the packets of three files are merged and printed
pub record Merges {R : Type 0} (choice : Choice) (x y z : Feed) (a b c : Source R) (last : Option ℕ) (held now : Option (List ℕ)) : Type 0
  where
    pub packets_a : List Captured
    pub packets_b : List Captured
    pub packets_c : List Captured
    pub has_a : HasRecords x packets_a
    pub has_b : HasRecords y packets_b
    pub has_c : HasRecords z packets_c
    pub counted_a : HasCounted a packets_a
    pub counted_b : HasCounted b packets_b
    pub counted_c : HasCounted c packets_c
    pub merged : List Item
    pub is_merge : IsMerge (items_of A x.delay packets_a) (items_of B y.delay packets_b) (items_of C z.delay packets_c) merged
    pub last_is : last ≡ last_line choice merged
    pub wrote : Appends held now (lines_of choice merged)

-- the end of a script: ticks, and the counts of each file
abbrev pub end_of : Choice → Option ℕ → List ℕ → List ℕ → List ℕ → List ℕ
end_of choice last a b c = last_ticks choice last ++ (a ++ (b ++ c))

-- the text is the script of three files
pub record Scripts (choice : Choice) (x y z : Feed) (there_a there_b there_c : Bool) (text : List ℕ) : Type 0 where
  pub packets_a : List Captured
  pub packets_b : List Captured
  pub packets_c : List Captured
  pub has_a : HasRecords x packets_a
  pub has_b : HasRecords y packets_b
  pub has_c : HasRecords z packets_c
  pub merged : List Item
  pub is_merge : IsMerge (items_of A x.delay packets_a) (items_of B y.delay packets_b) (items_of C z.delay packets_c) merged
  pub is : text ≡ lines_of choice merged ++ end_of choice (last_line choice merged)
      (counts_of there_a A packets_a) (counts_of there_b B packets_b) (counts_of there_c C packets_c)

-- the fault of the file of an inlet
abbrev pub fault_at : Inlet → ScriptFault → Option CaptureFault
fault_at A (File A fault) = Some fault
fault_at B (File B fault) = Some fault
fault_at C (File C fault) = Some fault
fault_at inlet other = None

-- the item of the packets that is next: it comes behind all that are printed, or with the last of them
abbrev pub IsNext : Inlet → ℕ → List Captured → List Item → Type 0
IsNext inlet delay packets printed = (item : Item) × (items_of inlet delay packets ≡ came_at inlet printed ++ item ∷ [])
    × AllTo (key_of inlet item.moment) printed

-- a file begins with these packets, and the last of them is next
pub record Waits (inlet : Inlet) (feed : Feed) (packets : List Captured) (printed : List Item) : Type 0 where
  pub octets : List ℕ
  pub left : Option (List ℕ)
  pub lost : Loses octets feed.start left
  pub last : Format
  pub records : AreTaken feed.form octets packets last
  pub next : IsNext inlet feed.delay packets printed

-- how far a file came that has no fault: all of its packets are printed, or all up to one
abbrev pub HasCome : Inlet → Feed → List Item → Type 0
HasCome inlet feed printed = (packets : List Captured)
    × ((HasRecords feed packets × (came_at inlet printed ≡ items_of inlet feed.delay packets)) ⊎ Waits inlet feed packets printed)

abbrev pub Stands : Option CaptureFault → Inlet → Feed → List Item → Type 0
Stands None inlet feed printed = HasCome inlet feed printed
Stands (Some fault) inlet feed printed = IsFaulty inlet feed.form feed.delay fault feed.start (came_at inlet printed)

-- going over packets is endless behind 2^64 - 1 of them, and not before
abbrev pub AreEnoughFor : ScriptFault → List Item → Type 0
AreEnoughFor Endless items = 2 ^ 64 - 1 ≤ length items
AreEnoughFor other items = Unit {0}

-- the lines of the packets that come before a fault
pub record Halts (choice : Choice) (x y z : Feed) (fault : ScriptFault) (held now : Option (List ℕ)) : Type 0 where
  pub printed : List Item
  pub at_a : Stands (fault_at A fault) A x printed
  pub at_b : Stands (fault_at B fault) B y printed
  pub at_c : Stands (fault_at C fault) C z printed
  pub order : IsInOrder printed
  pub enough : AreEnoughFor fault printed
  pub wrote : Appends held now (lines_of choice printed)
