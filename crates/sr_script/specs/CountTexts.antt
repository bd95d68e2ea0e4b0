-- What is printed of what a run counted.
use Rattle.std.specs.Prelude.{ℕ, ◌==◌, List, [], ◌∷◌, ◌++◌, codes, if◌then◌else◌}
use Rattle.std.specs.Fmt.{decimal}
use Rattle.sr_frame.specs.declared.ports.Port.{Port}
use Rattle.sr_frame.specs.declared.ports.Port.TheVariants.{A, B, C}
use Rattle.sr_node.specs.Images.{Image}
use Rattle.sr_node.specs.PerPort.{at}
use Rattle.sr_session.specs.Octets.{spaced}
use Rattle.sr_script.specs.declared.counts.Counts.{Counts}
use Rattle.sr_forwarding.specs.declared.kind.RoleKind.{RoleKind}
use Rattle.sr_forwarding.specs.Kinds.{has_interlink}
use Rattle.sr_script.specs.Commands.{letter_of}

-- a port, how many frames came in there, how many of these had the other LAN's id, and how many were refused
abbrev pub port_words : Port → ℕ → ℕ → ℕ → List (List ℕ)
port_words port frames wrong_lan refused = codes "port" ∷ letter_of port ∷ codes "frames" ∷ decimal frames
    ∷ codes "wrong_lan" ∷ decimal wrong_lan ∷ codes "refused" ∷ decimal refused ∷ []

-- the line of a port, by what the node counted of other LANs, and the run of its lines
abbrev pub port_line : Image → Counts → Port → List ℕ
port_line i c port = spaced (port_words port (at c.frames port) (at i.wrong_lan port) (at c.refused port)) ++ 10 ∷ []

-- the line of the interlink, where the role has one
abbrev pub interlink_line : RoleKind → Image → Counts → List ℕ
interlink_line role i c = if has_interlink role then port_line i c C else []

-- the line for frames of further sources than a table has, where there were some
abbrev pub left_out_line : ℕ → List ℕ
left_out_line count = if count == 0 then [] else codes "sources left out " ++ decimal count ++ 10 ∷ []

-- a line for each port at which frames come in, and then that of the sources that were left out
abbrev pub counts_text : RoleKind → Image → Counts → List ℕ
counts_text role i c = port_line i c A ++ port_line i c B ++ interlink_line role i c ++ left_out_line c.left_out
