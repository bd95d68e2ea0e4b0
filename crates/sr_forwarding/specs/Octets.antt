-- What the octets of a frame say by their places, and what a tag or a trailer adds to them.
use Rattle.std.specs.Prelude.{ℕ, ◌+◌, ◌-◌, ◌==◌, ◌&&◌, nat_eq, Bool, List, ◌++◌, length, take, drop}
use Rattle.std.specs.Int.{w16, from_be_bytes}
use Rattle.std.specs.Cmp.Lexicographic.{pointwise}
use Rattle.sr_frame.specs.Frame.{least_len}
use Rattle.sr_frame.specs.declared.fields.Mac.{Mac}
use Rattle.sr_supervision.specs.Supervised.{supervision_address}
use Rattle.sr_forwarding.specs.declared.form.Form.{Form}
use Rattle.sr_forwarding.specs.declared.form.Form.TheVariants.{Plain, Hsr, Prp}

-- the destination: the first six octets
abbrev pub dst_in : List ℕ → Mac
dst_in octets = record { 0 = take 6 octets }

-- the source: the six behind
abbrev pub src_in : List ℕ → Mac
src_in octets = record { 0 = take 6 (drop 6 octets) }

-- the type: the two octets before the payload, behind a VLAN tag where there is one
abbrev pub type_in : List ℕ → ℕ
type_in octets = from_be_bytes w16 (take 2 (drop (least_len octets - 2) octets))

-- destination and type are those of supervision
abbrev pub is_supervision : List ℕ → Bool
is_supervision octets = pointwise nat_eq (take 6 octets) supervision_address && (type_in octets == 0x88FB)

-- the octets without the tag, which begins with the type
abbrev pub without_tag : List ℕ → List ℕ
without_tag octets = take (least_len octets - 2) octets ++ drop (least_len octets + 4) octets

-- the octets without the trailer, which are the last six
abbrev pub without_trailer : List ℕ → List ℕ
without_trailer octets = take (length octets - 6) octets

-- the octets without what carries the number
abbrev pub plain_in : Form → List ℕ → List ℕ
plain_in Plain octets = octets
plain_in Hsr octets = without_tag octets
plain_in Prp octets = without_trailer octets
