-- A capture whose packets are taken one by one.
use Rattle.std.specs.Prelude.{◌≡◌, ℕ, ◌+◌, ◌-◌, ◌^◌, min, List, Option, Bool}
use Rattle.sr_capture.specs.declared.fault.CaptureFault.{CaptureFault}
use Rattle.sr_capture_file.specs.Formats.{front_len, Takes, IsNoNext}
use Rattle.sr_capture_file.specs.Fronts.{TakesFront, HasNoFront}
use Rattle.sr_intake.specs.declared.capture.Intake.{Intake}
use Rattle.sr_capture_file.specs.declared.front.Reading.{Reading}

-- its front was read, and nothing behind it
abbrev pub IsBegun : {R : Type 0} → (R → Option (List ℕ)) → Reading → R → Intake R → Type 0
IsBegun remaining how reader own = TakesFront how own.format (remaining reader) (remaining own.reader) × (own.place ≡ front_len own.format)

-- the octets of a reader have no front
abbrev pub HasNoFrontOf : {R : Type 0} → (R → Option (List ℕ)) → R → CaptureFault → Type 0
HasNoFrontOf {R = R} remaining reader fault = (left : R) × HasNoFront fault (remaining reader) (remaining left)

-- the next packet was taken, of so many octets; or there is none, and nothing is left
abbrev pub GoesOnBy : {R : Type 0} → (R → Option (List ℕ)) → Bool → Intake R → Intake R → Type 0
GoesOnBy remaining more old new = Takes more old.format new.format new.packet (remaining old.reader) (remaining new.reader)
    × (new.place ≡ min (old.place + new.packet.size) (2 ^ 64 - 1))

-- why there is no next packet, at the octet of the capture
abbrev pub HasNoPacket : {R : Type 0} → (R → Option (List ℕ)) → CaptureFault → Intake R → Intake R → Type 0
HasNoPacket remaining fault old new = (own : CaptureFault) × IsNoNext old.format own (remaining old.reader) (remaining new.reader)
    × (fault.reason ≡ own.reason) × (fault.at ≡ min (old.place + own.at) (2 ^ 64 - 1))
