use Rattle.std.proofs.Common.{ℕ, ◌^◌, ◌<◌, ◌≤◌, arith}
use Rattle.std.proofs.Math.Nat.{one-le-pow, pow-le-pow_right}
use Rattle.std.proofs.lemmas.Nat.{pow_below}
use Rattle.sr_pcapng.proofs.times.units_of.Goals as goal

small : (k : ℕ) → k ≤ 38 → 10 ^ k < 2 ^ 128
small k few = omega (arith, pow-le-pow_right {n = 10} (omega arith) few)

pub pow-requires : goal.pow-requires
pow-requires c = small c.from.result (omega (arith, c.from.ensures, c.min.ensures))

pub pow-requires-else-resolution-lt-OF_TWO : goal.pow-requires-else-resolution-lt-OF_TWO
pow-requires-else-resolution-lt-OF_TWO c =
    pow_below c.from-else-resolution-lt-OF_TWO.result 128 (omega (arith, c.from-else-resolution-lt-OF_TWO.ensures, c.ranges.resolution.fits))

pub returns-then-resolution-lt-OF_TWO-clause-some : goal.returns-then-resolution-lt-OF_TWO-clause-some
returns-then-resolution-lt-OF_TWO-clause-some c = omega (arith, c.pow.ensures, one-le-pow c.from.result 10 (omega arith))
