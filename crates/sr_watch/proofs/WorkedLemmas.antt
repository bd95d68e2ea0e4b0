-- A source worked out.
use Rattle.std.proofs.Common.{◌≡◌, ℕ, ℤ, pos, arith, refl, ap}
use Rattle.std.specs.Prelude.{◌+ℤ◌}
use Rattle.std.proofs.lemmas.Int.{ints}
use Rattle.sr_audit.specs.Waiting.{last_numbers}
use Rattle.sr_watch.specs.Worked.{FalseLinesAreRefused, WorkedSourceIsTold}

pub worked : WorkedSourceIsTold
unfolding last_numbers
worked = record { waits = refl; called = refl; lost = refl; late = refl; both = refl; copies = refl }

-- a sum that would have to be another number
other_sum : (z : ℤ) (n m : ℕ) → z ≡ pos n → z +ℤ pos 0 ≡ pos m → n ≡ m
other_sum z n m is same = omega (arith, ints, is, same)

twice_more : (z : ℤ) (n : ℕ) → z ≡ pos n → z +ℤ (z +ℤ pos 0) ≡ pos n → n ≡ 0
twice_more z n is same = omega (arith, ints, is, same)

pub refused : FalseLinesAreRefused
unfolding last_numbers
refused = record {
  untold = λ line is same. let e = other_sum line.interval.rx.a 0 4 (ap (λ c. c.rx.a) is) (ap (λ c. c.rx.a) same) in absurd (omega (arith, e));
  twice = λ line is same. let e = twice_more line.interval.rx.a 4 (ap (λ c. c.rx.a) is) (ap (λ c. c.rx.a) same) in absurd (omega (arith, e));
  late_is_none_lost = λ line is same. let e = other_sum line.interval.lost.b 1 2 is (ap (λ c. c.lost.b) same) in absurd (omega (arith, e));
  waiting_is_lost = λ line is same. let e = other_sum line.interval.lost.b 2 0 is (ap (λ c. c.lost.b) same) in absurd (omega (arith, e));
}
