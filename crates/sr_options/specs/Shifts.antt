-- Shifts of times in nanoseconds, and the delays that stand for them.
use Rattle.std.specs.Prelude.{◌≡◌, ℕ, ◌+◌, ◌^◌, ◌<◌, ℤ, pos, negsuc, ◌-ℤ◌, ◌<ℤ◌, ◌⊎◌}
use Rattle.sr_capture_script.specs.declared.choice.Delays.{Delays}
use Rattle.sr_capture_script.specs.Shifts.{least_of}

-- a delay is as long as a shift is above the least
abbrev pub IsPutOffBy : ℤ → ℤ → ℕ → Type 0
IsPutOffBy least shift delay = pos delay ≡ shift -ℤ least

-- a shift is more than 2^62 nanoseconds above the least
abbrev pub IsShiftedTooFar : ℤ → ℤ → Type 0
IsShiftedTooFar least shift = pos (2 ^ 62) <ℤ (shift -ℤ least)

-- each delay stands for its shift
pub record ArePutOffBy (a b c : ℤ) (delays : Delays) : Type 0 where
  pub of_a : IsPutOffBy (least_of a b c) a delays.a
  pub of_b : IsPutOffBy (least_of a b c) b delays.b
  pub of_c : IsPutOffBy (least_of a b c) c delays.c

-- a shift is too far above the least
abbrev pub AreShiftedTooFar : ℤ → ℤ → ℤ → Type 0
AreShiftedTooFar a b c = IsShiftedTooFar (least_of a b c) a ⊎ (IsShiftedTooFar (least_of a b c) b ⊎ IsShiftedTooFar (least_of a b c) c)

-- how much longer times are put off of recorders beside one whose clock is so far ahead, and its own where it is behind
abbrev pub others_longer : ℤ → ℕ
others_longer (pos n) = n
others_longer (negsuc n) = 0

abbrev pub own_longer : ℤ → ℕ
own_longer (pos n) = 0
own_longer (negsuc n) = n + 1

-- the times of B are earlier beside those of A and C, by how far its clock is ahead
pub record AreSetBack (old : Delays) (ahead : ℤ) (new : Delays) : Type 0 where
  pub of_a : new.a ≡ old.a + others_longer ahead
  pub of_b : new.b ≡ old.b + own_longer ahead
  pub of_c : new.c ≡ old.c + others_longer ahead

-- a delay would be more than 2^62 nanoseconds
abbrev pub AreSetBackTooFar : Delays → ℤ → Type 0
AreSetBackTooFar old ahead = (2 ^ 62 < old.a + others_longer ahead)
    ⊎ ((2 ^ 62 < old.b + own_longer ahead) ⊎ (2 ^ 62 < old.c + others_longer ahead))
