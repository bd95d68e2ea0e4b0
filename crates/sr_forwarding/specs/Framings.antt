-- How a port carries frames, as data.
use Rattle.std.specs.Prelude.{ℕ, ◌+◌, ◌*◌}
use Rattle.sr_prp_trailer.specs.declared.trailer.Lan.{Lan}
use Rattle.sr_prp_trailer.specs.declared.trailer.Lan.TheVariants as lan
use Rattle.sr_forwarding.specs.declared.form.Form.{Form}
use Rattle.sr_forwarding.specs.declared.form.Form.TheVariants as form

-- with an HSR tag, in which plain frames get this path; with a PRP trailer, in this LAN of the network of this number,
-- which is 0 at a node of a PRP network and has frames without trailer too; or as ordinary frames
pub data FramingImage : Type 0 where
  Tagged : (path : ℕ) → FramingImage
  Trailed : (lan : Lan) → (net : ℕ) → FramingImage
  Ordinary : FramingImage

-- the form that the framing writes
abbrev pub form_of : FramingImage → Form
form_of (Tagged path) = form.Hsr
form_of (Trailed lan net) = form.Prp
form_of Ordinary = form.Plain

-- 0 for LAN A, 1 for LAN B
abbrev pub lane_of : Lan → ℕ
lane_of lan.A = 0
lane_of lan.B = 1

-- the path of a frame of this LAN of this network
abbrev pub path_of : Lan → ℕ → ℕ
path_of l net = 2 * net + lane_of l
