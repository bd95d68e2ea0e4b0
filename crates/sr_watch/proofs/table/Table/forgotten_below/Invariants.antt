use Rattle.std.proofs.Common.{◌≡◌}
use Rattle.sr_watch.specs.Forgetting.{forgotten_from}
use Rattle.sr_watch.proofs.table.Table.forgotten_below.Given as goal

abbrev pub invariant-loop-source : goal.invariant-loop-source
invariant-loop-source l =
    forgotten_from l.limit l.source-iterator l.forgotten ≡ forgotten_from l.limit l.self.sources.entries l.self.forgotten
