-- What recorders dropped: where one dropped at least as many packets as its LAN is said to have lost, its losses may be none.
use Rattle.std.specs.Prelude.{
  ℕ,
  nat_lt,
  nat_le,
  Bool,
  true,
  false,
  not,
  ◌&&◌,
  ◌||◌,
  List,
  [],
  ◌∷◌,
  ◌++◌,
  Option,
  None,
  Some,
  filter,
  fold,
  if◌then◌else◌,
}
use Rattle.std.specs.List.{list_any}
use Rattle.sr_audit.specs.declared.side.Side.{Side}
use Rattle.sr_audit.specs.declared.side.Side.TheVariants.{A, B}
use Rattle.sr_audit.specs.declared.tally.Sides.{Sides}
use Rattle.sr_audit.specs.Lanes.{other_side}
use Rattle.sr_audit.specs.Shown.{bounded_sum}
use Rattle.sr_audit.specs.Stretches.{same_side}
use Rattle.sr_capture_audit.specs.declared.network.Ports.{Ports}
use Rattle.sr_capture_audit.specs.declared.network.Ports.TheVariants.{Two, Mirror}
use Rattle.sr_verdict.specs.declared.drops.Explained.{Explained}
use Rattle.sr_verdict.specs.declared.shared.Cut.{Cut}
use Rattle.sr_verdict.specs.declared.verdict.Verdict.{Verdict}
use Rattle.sr_verdict.specs.declared.verdict.Verdict.TheVariants.{
  Unjudged,
  BothLost,
  CutRing,
  DeadPort,
  Loss,
  BothLostWithin,
  LossWithin,
  RecorderDropped,
}
use Rattle.sr_verdict.specs.declared.why.Why.{Why}
use Rattle.sr_verdict.specs.declared.why.Why.TheVariants.{Dropped}
use Rattle.sr_verdict.specs.Verdicts.{when_counted, as_list, is_a_fault}

abbrev pub frames_where : Bool → ℕ → ℕ
frames_where holds frames = if holds then frames else 0

-- whether a port of a ring lacks sources that stand behind a cut: those that the other one alone brings
abbrev pub lacks_behind : Side → Cut → Bool
lacks_behind A cut = nat_lt 0 cut.at_b
lacks_behind B cut = nat_lt 0 cut.at_a

-- how many frames a LAN, or a port of a ring, lost by a verdict
abbrev pub loss_in : Side → Verdict → ℕ
loss_in lan (BothLost mac numbers) = numbers
loss_in lan (DeadPort mac row) = frames_where (same_side row.side (other_side lan)) row.frames
loss_in lan (CutRing cut place) = frames_where (lacks_behind lan cut) cut.frames
loss_in lan (Loss own share other) = frames_where (same_side own lan) share.frames
loss_in lan (BothLostWithin mac numbers) = numbers
loss_in lan (LossWithin own share other) = frames_where (same_side own lan) share.frames
loss_in lan rest = 0

abbrev pub losses_with : Side → ℕ → Verdict → ℕ
losses_with lan n v = bounded_sum n (loss_in lan v)

abbrev pub losses_in : Side → List Verdict → ℕ
losses_in lan vs = fold (losses_with lan) 0 vs

-- whether a recorder dropped at least as many packets as are said to be lost
abbrev pub explains : ℕ → ℕ → Bool
explains dropped lost = nat_lt 0 lost && nat_le lost dropped

-- that of a mirror port records both LANs
abbrev pub dropped_of_b : Ports → Sides → ℕ
dropped_of_b Two dropped = dropped.b
dropped_of_b Mirror dropped = dropped.a

abbrev pub explained_by : Ports → Sides → List Verdict → Explained
explained_by ports dropped vs =
    record { a = explains dropped.a (losses_in A vs); b = explains (dropped_of_b ports dropped) (losses_in B vs) }

abbrev pub is_explained_at : Explained → Side → Bool
is_explained_at by A = by.a
is_explained_at by B = by.b

-- whether what a verdict says was lost may have been dropped by a recorder; of numbers that neither has, either may have dropped the frames
abbrev pub is_explained : Explained → Verdict → Bool
is_explained by (BothLost mac numbers) = by.a || by.b
is_explained by (DeadPort mac row) = is_explained_at by (other_side row.side)
is_explained by (CutRing cut place) = (by.a || not (lacks_behind A cut)) && (by.b || not (lacks_behind B cut))
is_explained by (Loss lan share other) = is_explained_at by lan
is_explained by (BothLostWithin mac numbers) = by.a || by.b
is_explained by (LossWithin lan share other) = is_explained_at by lan
is_explained by rest = false

abbrev pub left_unexplained : Explained → List Verdict → List Verdict
left_unexplained by vs = filter (λ v. not (is_explained by v)) vs

abbrev pub any_dropped : Sides → Bool
any_dropped dropped = nat_lt 0 dropped.a || nat_lt 0 dropped.b

abbrev pub why_dropped : Ports → Sides → Explained → Why
why_dropped Mirror dropped by = Dropped None dropped.a
why_dropped Two dropped by = if by.a then Dropped (Some A) dropped.a else Dropped (Some B) dropped.b

-- what is left of what is told; where all faults may be the recorders' nothing can be judged
abbrev pub settled_by : Ports → Sides → Explained → List Verdict → List Verdict
settled_by ports dropped by vs =
    if list_any is_a_fault vs && not (list_any is_a_fault (left_unexplained by vs))
    then Unjudged (why_dropped ports dropped by) ∷ left_unexplained by vs
    else left_unexplained by vs

abbrev pub settled : Ports → Sides → List Verdict → List Verdict
settled ports dropped vs = if any_dropped dropped then settled_by ports dropped (explained_by ports dropped vs) vs else vs

-- so many packets were dropped by the recorder of a LAN, or of a mirror port
abbrev pub dropped_at : Option Side → ℕ → Option Verdict
dropped_at lan n = when_counted n (RecorderDropped lan n)

abbrev pub dropped_told : Ports → Sides → List Verdict
dropped_told Two dropped = as_list (dropped_at (Some A) dropped.a) ++ as_list (dropped_at (Some B) dropped.b)
dropped_told Mirror dropped = as_list (dropped_at None dropped.a)
