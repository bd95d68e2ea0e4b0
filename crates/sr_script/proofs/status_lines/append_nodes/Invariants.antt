use Rattle.std.proofs.Common.{◌≡◌, ◌++◌, take}
use Rattle.std.specs.List.{flat_map}
use Rattle.sr_node.specs.Images.{shown}
use Rattle.sr_node_table.specs.Stating.{status_at}
use Rattle.sr_script.specs.StatusTexts.{status_line}
use Rattle.sr_script.proofs.status_lines.append_nodes.Given as goal

abbrev pub invariant-loop-mac : goal.invariant-loop-mac
invariant-loop-mac g l =
    l.text.items ≡ l.fn.text.items ++ flat_map (λ mac. status_line (status_at (shown l.node.core).nodes mac (shown l.node.core).time)) (take l.mac-index l.macs)
