-- What the counts of a merge say: of the packets that have their verdicts, and of those that are left out.
use Rattle.std.specs.Prelude.{◌≡◌, ℕ, ◌-◌, ◌^◌, min, Bool, true, false, not, ◌&&◌, List, length, Option, None, Some, count_by}
use Rattle.sr_audit.specs.declared.side.Side.{Side}
use Rattle.sr_audit.specs.declared.side.Side.TheVariants.{A, B}
use Rattle.sr_capture_script.specs.declared.choice.Choice.{Choice}
use Rattle.sr_capture_script.specs.Items.{Item}
use Rattle.sr_capture_script.specs.Texts.{is_wanted, time_since}
use Rattle.sr_capture_merge.specs.declared.counts.Counts.{Counts}
use Rattle.sr_capture_merge.specs.declared.plan.Plan.{Plan}
use Rattle.sr_capture_merge.specs.Entries.{is_shown}
use Rattle.sr_capture_merge.specs.Reading.{was_cut, is_long}
use Rattle.sr_capture_merge.specs.Remarks.{remark_of}
use Rattle.sr_capture_merge.specs.Settling.{Settled}
use Rattle.sr_merge.specs.declared.waiting.Verdict.{Verdict}
use Rattle.sr_merge.specs.declared.waiting.Verdict.TheVariants.{Both, Alone, Unnumbered}

-- how many packets pass a test, as far as 64 bits tell
abbrev pub saturated_count : {A : Type 0} → (A → Bool) → List A → ℕ
saturated_count test xs = min (count_by test xs) (2 ^ 64 - 1)

-- what a verdict is; there is none where it is not known
abbrev pub is_both : Option Verdict → Bool
is_both (Some Both) = true
is_both other = false

abbrev pub is_alone : Option Verdict → Bool
is_alone (Some Alone) = true
is_alone other = false

abbrev pub is_unnumbered : Option Verdict → Bool
is_unnumbered (Some Unnumbered) = true
is_unnumbered other = false

abbrev pub is_open : Option Verdict → Bool
is_open None = true
is_open other = false

abbrev pub is_at_a : Side → Bool
is_at_a A = true
is_at_a B = false

-- how many packets there are of each verdict, and how many of them are written
pub record AreCountsOf (plan : Plan) (xs : List Settled) (c : Counts) : Type 0 where
  pub packets : c.packets ≡ saturated_count (λ x. true) xs
  pub both : c.both ≡ saturated_count (λ x. is_both x.verdict && not x.packet.is_astray) xs
  pub a : c.a ≡ saturated_count (λ x. is_alone x.verdict && is_at_a x.packet.came.side) xs
  pub b : c.b ≡ saturated_count (λ x. is_alone x.verdict && not (is_at_a x.packet.came.side)) xs
  pub astray : c.astray ≡ saturated_count (λ x. is_both x.verdict && x.packet.is_astray) xs
  pub unnumbered : c.unnumbered ≡ saturated_count (λ x. is_unnumbered x.verdict) xs
  pub unknown : c.«open» ≡ saturated_count (λ x. is_open x.verdict) xs
  pub written : c.written ≡ saturated_count (λ x. is_shown plan.scope (remark_of plan.network x.verdict x.packet)) xs

-- how many packets of files are wanted and left out: cut by the recorder, or else longer than a frame
pub record AreLeftOut (choice : Choice) (start : ℕ) (items : List Item) (c : Counts) : Type 0 where
  pub cut : c.cut ≡ saturated_count (λ x. is_wanted choice (time_since start x.moment) && was_cut x.packet.extent) items
  pub long : c.long
      ≡ saturated_count (λ x. is_wanted choice (time_since start x.moment) && is_long x.packet.extent (length x.packet.octets)) items
