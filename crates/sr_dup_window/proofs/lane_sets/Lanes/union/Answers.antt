use Rattle.std.proofs.Common.{ap}
use Rattle.sr_dup_window.specs.declared.lane_sets.Lanes.{Lanes}
use Rattle.std.proofs.Common.{ℕ}
use Rattle.sr_dup_window.specs.LaneLemmas.{union_bits}
use Rattle.sr_dup_window.proofs.lane_sets.Lanes.union.Goals as goal

pub returns : goal.returns
returns c = let lanes : ℕ → Lanes = λ n. record { 0 = n } in ap lanes (union_bits c.args.self c.args.other)
