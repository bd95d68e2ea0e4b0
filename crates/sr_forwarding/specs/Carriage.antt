-- What a node of each role takes in at its ports, and what it puts out.
use Rattle.std.specs.Prelude.{◌≡◌, ℕ, ◌≤◌, List, length, Option, None, Some}
use Rattle.sr_frame.specs.Frame.{HasFrameLength}
use Rattle.sr_frame.specs.declared.ports.Port.{Port}
use Rattle.sr_frame.specs.declared.ports.Port.TheVariants as port
use Rattle.sr_sequence.specs.declared.Seq.{Seq}
use Rattle.sr_forwarding.specs.declared.form.Form.{Form}
use Rattle.sr_forwarding.specs.declared.form.Form.TheVariants as form
use Rattle.sr_forwarding.specs.declared.kind.RoleKind.{RoleKind}
use Rattle.sr_forwarding.specs.Limits.{longest_plain}
use Rattle.sr_forwarding.specs.Parcels.{ParcelImage, plain_of, as_plain}
use Rattle.sr_forwarding.specs.Framings.{FramingImage, Tagged, Trailed, Ordinary}
use Rattle.sr_forwarding.specs.Kinds.{framing_at}
use Rattle.sr_forwarding.specs.Decoding.{IsRead}
use Rattle.sr_forwarding.specs.Encoding.{padded_plain}

-- an ordinary frame that got a number from the node
pub record IsNumberedPlain (p : ParcelImage) : Type 0 where
  pub seq : Seq
  pub form : p.form ≡ form.Plain
  pub numbered : p.seq ≡ Some seq
  pub frame : HasFrameLength p.octets
  pub most : length p.octets ≤ longest_plain

-- a parcel that a port with this framing takes in: as it is read, and an ordinary frame under the node's number
abbrev pub IsTakenBy : FramingImage → ParcelImage → Type 0
IsTakenBy (Tagged path) p = (octets : List ℕ) × IsRead (Tagged path) octets p
IsTakenBy (Trailed lan net) p = (octets : List ℕ) × IsRead (Trailed lan net) octets p
IsTakenBy Ordinary p = IsNumberedPlain p

abbrev pub IsTakenAt : Option FramingImage → ParcelImage → Type 0
IsTakenAt None p = ⊥
IsTakenAt (Some f) p = IsTakenBy f p

-- a parcel that comes in at this port of a role of this kind
abbrev pub IsTaken : RoleKind → Port → ParcelImage → Type 0
IsTaken kind inlet p = IsTakenAt (framing_at kind inlet) p

-- the host gets the plain form, every other outlet the parcel as it came
abbrev pub copy_for : Port → ParcelImage → ParcelImage
copy_for port.H p = as_plain p
copy_for port.A p = p
copy_for port.B p = p
copy_for port.C p = p

-- what stands in what is written, without what carries the number: the plain form, padded where a tag or a trailer is new
abbrev pub plain_written : FramingImage → Form → ParcelImage → List ℕ
plain_written (Tagged path) form.Plain p = padded_plain p
plain_written (Tagged path) form.Hsr p = plain_of p
plain_written (Tagged path) form.Prp p = padded_plain p
plain_written (Trailed lan net) form.Plain p = padded_plain p
plain_written (Trailed lan net) form.Hsr p = padded_plain p
plain_written (Trailed lan net) form.Prp p = plain_of p
plain_written Ordinary form p = plain_of p

-- a tag and a trailer carry the number on
abbrev pub KeepsNumber : FramingImage → ParcelImage → ParcelImage → Type 0
KeepsNumber (Tagged path) p q = q.seq ≡ p.seq
KeepsNumber (Trailed lan net) p q = q.seq ≡ p.seq
KeepsNumber Ordinary p q = Unit {0}

-- a port with the same framing reads the octets as a parcel with that plain form and number
pub record IsReadAgain (f : FramingImage) (p : ParcelImage) (octets : List ℕ) : Type 0 where
  pub parcel : ParcelImage
  pub read : IsRead f octets parcel
  pub plain : plain_of parcel ≡ plain_written f p.form p
  pub number : KeepsNumber f p parcel
