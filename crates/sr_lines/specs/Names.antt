-- Which wires a line has. That is its name: it never changes.
use Rattle.std.specs.Prelude.{List, map}
use Rattle.sr_lines.specs.declared.cable.Cable.{Cable}
use Rattle.sr_lines.specs.declared.ends.Ends.{Ends}
use Rattle.sr_lines.specs.declared.lan.Lan.{Lan as ALan}
use Rattle.sr_lines.specs.declared.line.Line.{Line}
use Rattle.sr_lines.specs.declared.line.Line.TheVariants.{Host, Ring, Lan}
use Rattle.sr_lines.specs.Pairs.{WirePair, wire_pair}

-- the host's feed of this name, the wires to a neighbour, or those to each other node
pub data LineName (N : Type 0) : Type 0 where
  OfHost : N → LineName N
  OfRing : WirePair → LineName N
  OfLan : List WirePair → LineName N

-- the two wires of an end
abbrev pub end_wires : Ends → WirePair
end_wires e = wire_pair e.send.wire e.take.wire

abbrev pub all_wires : List Ends → List WirePair
all_wires es = map (λ e. end_wires e) es

abbrev pub wires_of : Cable → WirePair
wires_of c = end_wires c.ends

abbrev pub wires_in : ALan → List WirePair
wires_in l = all_wires l.ends.items

abbrev pub line_name : {F N : Type 0} → (F → N) → Line F → LineName N
line_name n (Host f) = OfHost (n f)
line_name n (Ring c) = OfRing (wires_of c)
line_name n (Lan l) = OfLan (wires_in l)
