use Rattle.std.proofs.Common.{◌≡◌, fold}
use Rattle.sr_sources.specs.Kinds.{end_with}
use Rattle.sr_sources.proofs.table.Sources.end_at.Given as goal

abbrev pub invariant-loop-source : goal.invariant-loop-source
invariant-loop-source l = fold (end_with l.lan) 0 l.self.sources.entries ≡ fold (end_with l.lan) l.end l.source-iterator
