-- What is told of the clocks of two recorders, and how times are put off for one that is ahead.
use Rattle.std.specs.Prelude.{◌≡◌, ℕ, ◌+◌, ◌^◌, ◌<◌, ℤ, pos, negsuc, List}
use Rattle.sr_clocks.specs.declared.clocks.Clocks.{Clocks}
use Rattle.sr_clocks.specs.declared.clocks.Clocks.TheVariants.{Unknown, Two, One}
use Rattle.sr_clocks.specs.declared.pair.Pair.{Pair}
use Rattle.sr_clocks.specs.Lines.{ahead_at}
use Rattle.sr_clocks.specs.Telling.{AreClocks}
use Rattle.sr_capture_script.specs.declared.choice.Delays.{Delays}

-- how far a clock is ahead at a time of its own, where a line is told; else nothing
abbrev pub ahead_told : Clocks → ℕ → ℤ
ahead_told (One line held) time = ahead_at line time
ahead_told (Two most others) time = pos 0
ahead_told Unknown time = pos 0

-- what frames tell of two clocks, and how far the second one is ahead at a time of its own
pub record AreClocksTold (clocks : Clocks) (ahead : ℤ) : Type 0 where
  pub pairs : List Pair
  pub time : ℕ
  pub of_pairs : AreClocks pairs clocks
  pub at_time : ahead ≡ ahead_told clocks time

-- how far a clock is ahead that is ahead, and how far one is behind that is behind
abbrev pub lead : ℤ → ℕ
lead (pos n) = n
lead (negsuc n) = 0

abbrev pub lag : ℤ → ℕ
lag (pos n) = 0
lag (negsuc n) = n + 1

-- where the clock of B is ahead, the times of A are put off by as much, and those of B where it is behind
pub record ArePutOff (old : Delays) (ahead : ℤ) (new : Delays) : Type 0 where
  pub a : new.a ≡ old.a + lead ahead
  pub b : new.b ≡ old.b + lag ahead
  pub c : new.c ≡ old.c

-- the delay of the clock that is behind: that of A, unless the clock of B is
abbrev pub put_off : Delays → ℤ → ℕ
put_off delays (pos n) = delays.a
put_off delays (negsuc n) = delays.b

-- that delay would be more than 2^62 ns
abbrev pub IsPutOffTooFar : Delays → ℤ → Type 0
IsPutOffTooFar old ahead = 2 ^ 62 < put_off old ahead + (lead ahead + lag ahead)
