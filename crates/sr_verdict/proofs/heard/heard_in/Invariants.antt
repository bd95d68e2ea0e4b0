use Rattle.std.proofs.Common.{List, ◌++◌}
use Rattle.sr_verdict.specs.declared.heard.Heard.{Heard}
use Rattle.sr_verdict.specs.Heards.{AreHeard}
use Rattle.sr_verdict.proofs.heard.heard_in.Given as goal

abbrev pub invariant-loop-mac : goal.invariant-loop-mac
invariant-loop-mac l = (rest : List Heard) → AreHeard l.spans l.mac-iterator rest
    → AreHeard l.spans l.audit.sources.entries (l.heard.items ++ rest)
