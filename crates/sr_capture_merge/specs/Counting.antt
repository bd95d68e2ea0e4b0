-- What is counted of the packets that are merged.
use Rattle.std.specs.Prelude.{◌≡◌, ℕ, ◌+◌, ◌-◌, ◌^◌, min, Bool, true, false, Option, None, Some, if◌then◌else◌}
use Rattle.sr_audit.specs.declared.side.Side.{Side}
use Rattle.sr_audit.specs.declared.side.Side.TheVariants.{A, B}
use Rattle.sr_capture_merge.specs.declared.counts.Counts.{Counts}
use Rattle.sr_merge.specs.declared.waiting.Verdict.{Verdict}
use Rattle.sr_merge.specs.declared.waiting.Verdict.TheVariants.{Both, Alone, Unnumbered}
use Rattle.sr_merge.specs.Merging.{Read}

-- a count with one more, up to the greatest of 64 bits
abbrev pub more : ℕ → ℕ
more count = min (count + 1) (2 ^ 64 - 1)

-- a frame that came by one side alone
abbrev pub counted_alone : Side → Counts → Counts
counted_alone A c = record c { a = more c.a }
counted_alone B c = record c { b = more c.b }

-- a packet by its verdict
abbrev pub counted_by : Side → Bool → Option Verdict → Counts → Counts
counted_by side astray (Some Alone) c = counted_alone side c
counted_by side astray (Some Unnumbered) c = record c { unnumbered = more c.unnumbered }
counted_by side true (Some Both) c = record c { astray = more c.astray }
counted_by side false (Some Both) c = record c { both = more c.both }
counted_by side astray None c = record c { «open» = more c.«open» }

abbrev pub with_packet : Read → Option Verdict → Counts → Counts
with_packet p verdict c = counted_by p.came.side p.is_astray verdict (record c { packets = more c.packets })

-- a packet that is written
abbrev pub counted_written : Bool → Counts → Counts
counted_written true c = record c { written = more c.written }
counted_written false c = c

-- one packet more is counted as cut, and one more as too long, where these say so
pub record CountsLeftOut (was_cut is_long : Bool) (old new : Counts) : Type 0 where
  pub cut : new.cut ≡ (if was_cut then more old.cut else old.cut)
  pub long : new.long ≡ (if is_long then more old.long else old.long)
