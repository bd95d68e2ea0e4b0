use Rattle.std.proofs.Common.{ap, arith}
use Rattle.sr_dup_window.specs.declared.lane_sets.Lanes.{Lanes}
use Rattle.std.proofs.Common.{ℕ}
use Rattle.sr_dup_window.specs.LaneLemmas.{difference_bits}
use Rattle.sr_dup_window.proofs.lane_sets.Lanes.difference.Goals as goal

pub returns : goal.returns
returns c = let lanes : ℕ → Lanes = λ n. record { 0 = n } in ap lanes (difference_bits c.args.self c.args.other (omega arith))
