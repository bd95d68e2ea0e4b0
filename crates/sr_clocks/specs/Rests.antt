-- What is left of a line where times are moved by an offset.
use Rattle.std.specs.Prelude.{◌≡◌, ℕ, ◌+◌, ◌-◌, ◌^◌, ◌<◌, ◌≤◌, ◌⊎◌, List, ℤ, pos, ◌+ℤ◌, ◌-ℤ◌, FitsSigned}
use Rattle.std.specs.Int.{w64, int_div_euclid}
use Rattle.sr_clocks.specs.declared.clocks.Clocks.TheVariants.{One}
use Rattle.sr_clocks.specs.declared.line.Line.{Line}
use Rattle.sr_clocks.specs.declared.pair.Pair.{Pair}
use Rattle.sr_clocks.specs.Lines.{clamped_time, corrected_scaled, corrected}
use Rattle.sr_clocks.specs.Telling.{AreClocks}

-- the line of the same clock, so many nanoseconds less ahead, where its times are put off by a delay and counted from a start
pub record IsRest (l : Line) (ahead : ℤ) (delay start : ℕ) (own : Line) : Type 0 where
  pub counted : start ≤ l.at + delay
  pub at : own.at ≡ (l.at + delay) - start
  pub ahead_is : own.ahead ≡ l.ahead -ℤ ahead
  pub drift : own.drift ≡ l.drift

-- the clock of its time begins behind that time or does not reach it, or it is too far ahead
abbrev pub HasNoRest : Line → ℤ → ℕ → ℕ → Type 0
HasNoRest l ahead delay start =
    (l.at + delay < start) ⊎ (2 ^ 64 ≤ l.at + delay) ⊎ (FitsSigned w64 (l.ahead -ℤ ahead) → ⊥)

-- of two times of a clock the later one is by the other clock not before the earlier one, if lines are told by frames
abbrev pub ToldTimesKeepTheirOrder : Type 0
ToldTimesKeepTheirOrder = (ps : List Pair) (l own : Line) (held : ℕ) (ahead : ℤ) (delay start : ℕ) (s t : ℕ) → AreClocks ps (One l held) →
    IsRest l ahead delay start own → s ≤ t → (corrected l s ≤ corrected l t) × (corrected own s ≤ corrected own t)

-- a time by the other clock, in whole nanoseconds
abbrev pub corrected_whole : Line → ℕ → ℤ
corrected_whole l time = int_div_euclid (corrected_scaled l time) (pos 1000000000)

-- A time that is put off and counted from a start is, by what is left of the line, what the whole line makes of it, moved as a time of the
-- first clock is: put off by the delay and the offset, and counted from the start.
abbrev pub RestsPutTimesRight : Type 0
RestsPutTimesRight = (l own : Line) (ahead : ℤ) (delay start time : ℕ) → IsRest l ahead delay start own → start ≤ time + delay →
    corrected own ((time + delay) - start) ≡ clamped_time ((corrected_whole l time +ℤ ahead) +ℤ (pos delay -ℤ pos start))
