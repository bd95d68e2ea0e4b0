-- What the two ways of a frame are called.
use Rattle.std.specs.Prelude.{ℕ, List, codes}
use Rattle.sr_page.specs.declared.topology.Topology.{Topology}
use Rattle.sr_page.specs.declared.topology.Topology.TheVariants.{Lans, Ring}
use Rattle.sr_page.specs.declared.topology.Way.{Way}
use Rattle.sr_page.specs.declared.topology.Way.TheVariants.{A, B}

-- a LAN of two, or a way of a ring
abbrev pub way_name : Topology → Way → List ℕ
way_name Lans A = codes "LAN A"
way_name Lans B = codes "LAN B"
way_name Ring A = codes "way A"
way_name Ring B = codes "way B"

-- the first text where there are two LANs, and the second one where there is a ring
abbrev pub text_for : Topology → List ℕ → List ℕ → List ℕ
text_for Lans lans ring = lans
text_for Ring lans ring = ring
