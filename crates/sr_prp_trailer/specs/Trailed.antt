-- Frames with a PRP redundancy control trailer: relations between values and whole lists of octets.
use Rattle.std.specs.Prelude.{◌≡◌, ℕ, ◌+◌, ◌*◌, ◌^◌, ◌<◌, List, [], ◌∷◌, ◌++◌, length}
use Rattle.std.specs.Int.{w16, to_be_bytes}
use Rattle.sr_frame.specs.Frame.{HasFrameLength, least_len}
use Rattle.sr_prp_trailer.specs.declared.trailer.Lan.{Lan}
use Rattle.sr_prp_trailer.specs.declared.trailer.Lan.TheVariants.{A, B}
use Rattle.sr_prp_trailer.specs.declared.trailer.Trailer.{Trailer}

-- the four bits that name the network
abbrev pub lan_id : Lan → ℕ
lan_id A = 10
lan_id B = 11

-- number, network and size, suffix 0x88FB
abbrev pub trailer_octets : Trailer → List ℕ
trailer_octets t = to_be_bytes w16 t.seq.0 ++ to_be_bytes w16 (lan_id t.lan * 4096 + t.size) ++ 0x88 ∷ 0xFB ∷ []

-- The octets are those of the frame plain, and behind them this trailer. Its size counts what stands behind
-- the addresses, the VLAN tag and the type, the trailer too.
pub record IsTrailed (octets plain : List ℕ) (t : Trailer) : Type 0 where
  pub frame : HasFrameLength plain
  pub spelled : octets ≡ plain ++ trailer_octets t
  pub size : t.size + least_len plain ≡ length octets
  pub seq : t.seq.0 < 2 ^ 16
