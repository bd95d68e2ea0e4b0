-- Frames with an HSR tag: relations between values and whole lists of octets.
use Rattle.std.specs.Prelude.{◌≡◌, ℕ, ◌+◌, ◌-◌, ◌*◌, ◌^◌, ◌<◌, List, ◌++◌, length}
use Rattle.std.specs.Int.{w16, to_be_bytes}
use Rattle.sr_frame.specs.Frame.{Fields, IsLegal, head_of, spelling, least_len}
use Rattle.sr_hsr_tag.specs.declared.tag.HsrTag.{HsrTag}

-- what stands behind the type of a tagged frame: path and size, number, inner type
abbrev pub tag_octets : HsrTag → List ℕ
tag_octets t = to_be_bytes w16 (t.path * 4096 + t.size) ++ to_be_bytes w16 t.seq.0 ++ to_be_bytes w16 t.inner

-- the values fit into their bits
pub record IsTag (t : HsrTag) : Type 0 where
  pub path : t.path < 16
  pub size : t.size < 4096
  pub seq : t.seq.0 < 2 ^ 16
  pub inner : t.inner < 2 ^ 16

-- the octets of the frame with another type and payload
abbrev pub with_type : Fields → ℕ → List ℕ → List ℕ
with_type f ethertype payload = head_of f ++ to_be_bytes w16 ethertype ++ payload

-- The octets are a frame of type 0x892F whose payload begins with this tag. Plain is that frame without the tag:
-- its type is the inner one, and its payload what stands behind. It may be too short for a frame.
pub record IsTagged (octets plain : List ℕ) (t : HsrTag) : Type 0 where
  pub fields : Fields
  pub rest : List ℕ
  pub legal : IsLegal fields
  pub spelled : octets ≡ spelling fields
  pub ethertype : fields.ethertype ≡ 0x892F
  pub payload : fields.payload ≡ tag_octets t ++ rest
  pub plain_is : plain ≡ with_type fields t.inner rest
  pub tag : IsTag t

-- how many octets stand behind the type
abbrev pub octets_behind_type : List ℕ → ℕ
octets_behind_type octets = length octets - least_len octets
