use Rattle.std.proofs.Common.{◌-◌, ◌^◌, ap, ◌∙◌}
use Rattle.std.specs.Prelude.{min}
use Rattle.sr_streams.proofs.Missing.{missing_kept}
use Rattle.sr_streams.proofs.numbers.Numbers.missing.Goals as goal

pub returns : goal.returns
returns c course keeps = c.capped.ensures ∙ ap (λ n. min n (2 ^ 64 - 1)) (c.missing.ensures ∙ missing_kept c.args.kind course.spots c.args.self.now keeps.spots)
