-- Shifts of times in milliseconds, and the delays that stand for them.
use Rattle.std.specs.Prelude.{◌≡◌, ℕ, ◌^◌, ℤ, pos, ◌-ℤ◌, ◌*ℤ◌, ◌<ℤ◌, ◌⊎◌}
use Rattle.std.specs.Int.{int_min}
use Rattle.sr_capture_script.specs.declared.choice.Delays.{Delays}

-- a delay in nanoseconds is as long as a shift is above the least
abbrev pub IsDelay : ℤ → ℤ → ℕ → Type 0
IsDelay least shift delay = pos delay ≡ (shift -ℤ least) *ℤ pos 1000000

-- a shift is more than 2^62 nanoseconds above the least; none is just as far, since these are no whole number of milliseconds
abbrev pub IsTooFar : ℤ → ℤ → Type 0
IsTooFar least shift = pos (2 ^ 62) <ℤ ((shift -ℤ least) *ℤ pos 1000000)

-- the least of three shifts
abbrev pub least_of : ℤ → ℤ → ℤ → ℤ
least_of a b c = int_min (int_min a b) c

-- each delay stands for its shift
pub record AreDelays (a b c : ℤ) (delays : Delays) : Type 0 where
  pub of_a : IsDelay (least_of a b c) a delays.a
  pub of_b : IsDelay (least_of a b c) b delays.b
  pub of_c : IsDelay (least_of a b c) c delays.c

-- a shift is too far above the least
abbrev pub AreTooFar : ℤ → ℤ → ℤ → Type 0
AreTooFar a b c = IsTooFar (least_of a b c) a ⊎ (IsTooFar (least_of a b c) b ⊎ IsTooFar (least_of a b c) c)
