use Rattle.std.proofs.Common.{◌≡◌, ◌++◌}
use Rattle.std.specs.List.{filter_map}
use Rattle.sr_verdict.specs.Verdicts.{node_verdict, node_verdicts}
use Rattle.sr_verdict.proofs.judging.note_nodes.Given as goal

abbrev pub invariant-loop-mac : goal.invariant-loop-mac
invariant-loop-mac l = l.fn.verdicts.items ++ node_verdicts l.kind l.ports l.sources.sources.entries
    ≡ l.verdicts.items ++ filter_map (node_verdict l.kind l.ports l.end_a l.end_b) l.mac-iterator
