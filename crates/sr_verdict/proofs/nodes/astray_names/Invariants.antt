use Rattle.std.proofs.Common.{◌≡◌, fold}
use Rattle.sr_verdict.specs.Names.{no_names}
use Rattle.sr_verdict.specs.Verdicts.{astray_with}
use Rattle.sr_verdict.proofs.nodes.astray_names.Given as goal

abbrev pub invariant-loop-mac : goal.invariant-loop-mac
invariant-loop-mac l = fold (astray_with l.side) no_names l.sources.sources.entries ≡ fold (astray_with l.side) l.names l.mac-iterator
