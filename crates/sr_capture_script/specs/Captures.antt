-- Captures whose packets are taken one by one.
use Rattle.std.specs.Prelude.{◌≡◌, ℕ, List, Option}
use Rattle.sr_capture.specs.declared.fault.CaptureFault.{CaptureFault}
use Rattle.sr_capture_script.specs.declared.captures.Captures.{Captures}
use Rattle.sr_capture_script.specs.declared.captures.Front.{Front}
use Rattle.sr_capture_script.specs.declared.choice.Inlet.{Inlet}
use Rattle.sr_capture_script.specs.declared.choice.Inlet.TheVariants.{A, B, C}
use Rattle.sr_capture_script.specs.declared.fault.ScriptFault.{ScriptFault}
use Rattle.sr_capture_script.specs.declared.fault.ScriptFault.TheVariants.{File}
use Rattle.sr_capture_script.specs.declared.source.Source.{Source}
use Rattle.sr_capture_script.specs.Picking.{IsEarliest, NoneDue}
use Rattle.sr_capture_script.specs.Sources.{left_of, GoesOn, IsStuck}
use Rattle.sr_capture_script.specs.SourceViews.{progress_of, IsSame}

-- the file of an inlet
abbrev pub file_at : {R : Type 0} → Inlet → Captures R → Source R
file_at A all = all.a
file_at B all = all.b
file_at C all = all.c

-- the packet that is due comes first of those of all files, and has this number in its own
abbrev pub IsDueFirst : {R : Type 0} → Captures R → Front → Type 0
IsDueFirst all front = IsEarliest front.inlet front.moment all.a.due all.b.due all.c.due
    × (front.number ≡ (file_at front.inlet all).number)

-- all files are at their ends
abbrev pub HasNoFront : {R : Type 0} → Captures R → Type 0
HasNoFront all = NoneDue all.a.due all.b.due all.c.due

-- one packet more of a file was taken, or it is at its end
abbrev pub Advances : {R : Type 0} → (R → Option (List ℕ)) → Source R → Source R → Type 0
Advances remaining old new = IsSame old new
    × GoesOn old.state old.delay new.due (left_of remaining old.reader) (left_of remaining new.reader) (progress_of old) (progress_of new)

-- the file has no next packet, for this fault
abbrev pub StopsAt : {R : Type 0} → (R → Option (List ℕ)) → Inlet → Source R → Source R → ScriptFault → Type 0
StopsAt remaining inlet old new fault = (own : CaptureFault) × (fault ≡ File inlet own)
    × IsStuck old.state old.place own (left_of remaining old.reader) (left_of remaining new.reader)

-- the files of the other inlets are as they were
abbrev pub KeepsOthers : {R : Type 0} → Inlet → Captures R → Captures R → Type 0
KeepsOthers A old new = (new.b ≡ old.b) × (new.c ≡ old.c)
KeepsOthers B old new = (new.a ≡ old.a) × (new.c ≡ old.c)
KeepsOthers C old new = (new.a ≡ old.a) × (new.b ≡ old.b)
