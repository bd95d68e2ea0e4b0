-- What is printed.
use Rattle.std.specs.Prelude.{◌≡◌, ℕ, List, [], ◌∷◌, ◌++◌, codes, Option, Some, None}
use Rattle.std.specs.Fmt.{decimal}
use Rattle.hex.specs.Hex.{encode_lower}
use Rattle.sr_frame.specs.declared.ports.Port.{Port}
use Rattle.sr_forwarding.specs.declared.fault.ReadFault.TheVariants as read
use Rattle.sr_forwarding.specs.Encoding.{IsWritten}
use Rattle.sr_forwarding.specs.Parcels.{ParcelImage}
use Rattle.sr_node.specs.declared.fault.StepFault.{StepFault}
use Rattle.sr_node.specs.declared.fault.StepFault.TheVariants as fault
use Rattle.sr_forwarding.specs.declared.kind.RoleKind.{RoleKind}
use Rattle.sr_session.specs.Octets.{spaced}
use Rattle.sr_script.specs.Commands.{letter_of}
use Rattle.sr_forwarding.specs.Kinds.{carriage}

-- words as a line of their own
abbrev pub printed : List (List ℕ) → List ℕ
printed words = spaced words ++ 10 ∷ []

-- octets that go out at a port, in lower case
abbrev pub frame_line : Port → List ℕ → List ℕ
frame_line port octets = printed (letter_of port ∷ encode_lower octets ∷ [])

-- the octets that a parcel goes out as: what the framing of the port writes, at the host's port too
abbrev pub GoesAs : RoleKind → Port → ParcelImage → List ℕ → Type 0
GoesAs role port p octets = IsWritten (carriage role port) p.form p octets

-- the line of a parcel
abbrev pub IsLine : RoleKind → Port → ParcelImage → List ℕ → Type 0
IsLine role port p line = (octets : List ℕ) × GoesAs role port p octets × (line ≡ frame_line port octets)

-- the lines of parcels, in order
abbrev pub AreLines : RoleKind → Port → List ParcelImage → List ℕ → Type 0
AreLines role port [] text = text ≡ []
AreLines role port (p ∷ ps) text =
    (line : List ℕ) × (rest : List ℕ) × IsLine role port p line × AreLines role port ps rest × (text ≡ line ++ rest)

-- what a refusal is called; an allocation that failed is none
abbrev pub name_of : StepFault → Option (List ℕ)
name_of (fault.Reading read.TooShort) = Some (codes "TooShort")
name_of (fault.Reading read.TooLong) = Some (codes "TooLong")
name_of (fault.Reading read.Truncated) = Some (codes "Truncated")
name_of (fault.Reading read.NotOwn) = Some (codes "NotOwn")
name_of (fault.Reading read.Untagged) = Some (codes "Untagged")
name_of (fault.Reading read.NoMemory) = None
name_of fault.Untagged = Some (codes "Untagged")
name_of fault.TableFull = Some (codes "TableFull")
name_of (fault.OutboxFull port) = Some (codes "OutboxFull")
name_of fault.NoMemory = None

-- the line for an event that is refused
abbrev pub refusal_line : ℕ → List ℕ → List ℕ
refusal_line number name = printed (codes "refused" ∷ decimal number ∷ name ∷ [])
