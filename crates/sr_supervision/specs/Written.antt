-- The supervision frame that is written of a value.
use Rattle.std.specs.Prelude.{◌≡◌, ℕ, ◌-◌, ◌^◌, ◌<◌, List, [], ◌∷◌, ◌++◌, length, replicate, Option, Some, None, unwrap_or}
use Rattle.std.specs.Int.{w16, to_be_bytes}
use Rattle.sr_frame.specs.Frame.{Fields, spelling}
use Rattle.sr_frame.specs.declared.fields.Mac.{Mac}
use Rattle.sr_supervision.specs.declared.message.Supervision.{Supervision}
use Rattle.sr_supervision.specs.Supervised.{supervision_address, life_type}

-- the addresses have six octets, and the number two
pub record Fits (s : Supervision) : Type 0 where
  pub seq : s.seq.0 < 2 ^ 16
  pub mac : length s.mac.0 ≡ 6
  pub redbox : (mac : Mac) → s.redbox ≡ Some mac → length mac.0 ≡ 6

-- a TLV of length 6
abbrev pub address_tlv : ℕ → Mac → List ℕ
address_tlv kind mac = kind ∷ 6 ∷ mac.0

-- a TLV of type 30, where there is a RedBox
abbrev pub redbox_tlv : Option Mac → List ℕ
redbox_tlv None = []
redbox_tlv (Some mac) = address_tlv 30 mac

-- path 0 and version 1, the number, the node's address, its RedBox's, and the end of the list
abbrev pub content_octets : Supervision → List ℕ
content_octets s = to_be_bytes w16 1 ++ to_be_bytes w16 s.seq.0 ++ address_tlv (life_type s.life) s.mac ++ redbox_tlv s.redbox ++ 0 ∷ 0 ∷ []

-- sent by the RedBox where there is one, and else by the node, with zeros up to 46 octets of payload
abbrev pub written_fields : Supervision → Fields
written_fields s = record {
  dst = supervision_address;
  src = (unwrap_or s.redbox s.mac).0;
  vlan = None;
  ethertype = 0x88FB;
  payload = content_octets s ++ replicate (46 - length (content_octets s)) 0;
}

-- all octets
abbrev pub written : Supervision → List ℕ
written s = spelling (written_fields s)
