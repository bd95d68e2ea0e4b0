-- The limits of a user: what was lost within one is a notice, and a source whose copies are further apart than one allows is a fault.
use Rattle.std.specs.Prelude.{
  ℕ,
  ◌*◌,
  nat_lt,
  nat_le,
  List,
  [],
  ◌++◌,
  Option,
  None,
  Some,
  is_some,
  ℤ,
  unsigned_abs,
  if◌then◌else◌,
}
use Rattle.std.specs.List.{filter_map}
use Rattle.sr_audit.specs.declared.skew.Skews.{Skews}
use Rattle.sr_verdict.specs.declared.heard.Heard.{Heard}
use Rattle.sr_verdict.specs.declared.verdict.Verdict.{Verdict}
use Rattle.sr_verdict.specs.declared.verdict.Verdict.TheVariants.{BothLost, Loss, Skew, BothLostWithin, LossWithin}

-- a verdict in the place of another one, where a count is within a limit
abbrev pub when_within : ℕ → ℕ → Verdict → Option Verdict
when_within most n v = if nat_le n most then Some v else None

-- the notice that stands in the place of a fault by which so many were lost at most
abbrev pub within : ℕ → Verdict → Option Verdict
within most (BothLost mac numbers) = when_within most numbers (BothLostWithin mac numbers)
within most (Loss lan share other) = when_within most share.frames (LossWithin lan share other)
within most rest = None

-- without a limit there is none
abbrev pub notice_in_place : Option ℕ → Verdict → Option Verdict
notice_in_place None v = None
notice_in_place (Some most) v = within most v

abbrev pub fault_beyond : Option ℕ → Verdict → Option Verdict
fault_beyond limit v = if is_some (notice_in_place limit v) then None else Some v

-- faults by a limit: those beyond it, and behind them the notices in the places of the others
abbrev pub limited : Option ℕ → List Verdict → List Verdict
limited limit vs = filter_map (fault_beyond limit) vs ++ filter_map (notice_in_place limit) vs

-- the skew of a source that is the greatest by its size
abbrev pub farthest : Skews → ℤ
farthest k = if nat_lt (unsigned_abs k.greatest) (unsigned_abs k.least) then k.least else k.greatest

-- of a source a pair is further apart than so many microseconds
abbrev pub skew_on : ℕ → Heard → Option Verdict
skew_on most h =
    if nat_lt (1000 * most) (unsigned_abs (farthest h.figures.skews)) then Some (Skew h.mac (farthest h.figures.skews) most) else None

abbrev pub skew_verdicts : Option ℕ → List Heard → List Verdict
skew_verdicts None hs = []
skew_verdicts (Some most) hs = filter_map (skew_on most) hs
