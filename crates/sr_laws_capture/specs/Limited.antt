-- How a check ends by the limits of a user.
use Rattle.std.specs.Prelude.{
  ◌≡◌,
  ℕ,
  ◌-◌,
  ◌*◌,
  ◌^◌,
  min,
  nat_lt,
  Bool,
  false,
  not,
  ◌&&◌,
  ◌||◌,
  List,
  Option,
  None,
  Some,
  ℤ,
  unsigned_abs,
  sum_by,
  if◌then◌else◌,
}
use Rattle.std.specs.List.{list_any}
use Rattle.sr_frame.specs.declared.fields.Mac.{Mac}
use Rattle.sr_audit.specs.declared.side.Side.{Side}
use Rattle.sr_audit.specs.declared.side.Side.TheVariants.{A, B}
use Rattle.sr_audit.specs.declared.tally.Sides.{Sides}
use Rattle.sr_audit.specs.Faults.{last_class}
use Rattle.sr_audit.specs.Lanes.{other_side}
use Rattle.sr_capture_audit.specs.declared.figures.Report.{Report}
use Rattle.sr_capture_audit.specs.declared.judgement.Judgement.{Judgement}
use Rattle.sr_capture_audit.specs.declared.judgement.Judgement.TheVariants.{Sound, Faulty, Unjudged}
use Rattle.sr_capture_audit.specs.declared.network.Network.{Network}
use Rattle.sr_capture_audit.specs.declared.network.Ports.{Ports}
use Rattle.sr_capture_audit.specs.Faults.{have_faults}
use Rattle.sr_sources.specs.declared.source.Source.{Source as Node}
use Rattle.sr_sources.specs.declared.table.Sources.{Sources}
use Rattle.sr_verdict.specs.declared.heard.Heard.{Heard}
use Rattle.sr_verdict.specs.declared.judging.Outside.{Outside}
use Rattle.sr_verdict.specs.declared.limits.Limits.{Limits}
use Rattle.sr_verdict.specs.declared.verdict.Verdict.{Verdict}
use Rattle.sr_verdict.specs.declared.verdict.Verdict.TheVariants.{BothLost, Loss}
use Rattle.sr_verdict.specs.declared.why.Why.{Why}
use Rattle.sr_verdict.specs.declared.why.Why.TheVariants.{Figures}
use Rattle.sr_verdict.specs.Drops.{explained_by, left_unexplained, any_dropped, why_dropped}
use Rattle.sr_verdict.specs.Heards.{rest_at}
use Rattle.sr_verdict.specs.Mending.{cut_time}
use Rattle.sr_verdict.specs.Told.{why_told, AreVerdictsOf}
use Rattle.sr_verdict.specs.Verdicts.{has_all_sent, sided_verdicts, is_a_fault, reason_in, block_status}
use Rattle.sr_laws_capture.specs.Ending.{nodes_tell, faults_told}
use Rattle.sr_laws_capture.specs.Exact.{judged_by}

-- how much may be lost without a fault: nothing where the user has no limit
abbrev pub allowed : Option ℕ → ℕ
allowed None = 0
allowed (Some most) = most

-- more numbers of some source are of no frame, in captures that have all that was sent
abbrev pub lack_beyond : Option ℕ → Report → List Heard → Bool
lack_beyond limit r counters =
    has_all_sent r.sight r.counters && list_any (λ h. nat_lt (allowed limit) h.figures.neither) counters

-- how many frames a LAN lost that came by the other one, besides those of rows at last and while a ring was cut; a count stays at 2^64 - 1
abbrev pub frames_lost_of : Network → Side → List Heard → ℕ
frames_lost_of network lan telling = min (sum_by (rest_at (cut_time network telling) (other_side lan)) telling) (2 ^ 64 - 1)

-- a LAN lost more frames than may be
abbrev pub loss_beyond : Option ℕ → Network → List Heard → Bool
loss_beyond limit network telling =
    nat_lt (allowed limit) (frames_lost_of network A telling) || nat_lt (allowed limit) (frames_lost_of network B telling)

-- a skew is more than so many microseconds, whichever copy came first
abbrev pub is_wider : Option ℕ → ℤ → Bool
is_wider None skew = false
is_wider (Some most) skew = nat_lt (1000 * most) (unsigned_abs skew)

-- so is the least or the greatest one of a source
abbrev pub is_wide : Option ℕ → Heard → Bool
is_wide limit h = is_wider limit h.figures.skews.least || is_wider limit h.figures.skews.greatest

-- copies of a source came again by the same side, or 400 ms apart or more
abbrev pub come_again : Heard → Bool
come_again h = nat_lt 0 h.figures.tally.repeats.a || nat_lt 0 h.figures.tally.repeats.b

abbrev pub come_late : Heard → Bool
come_late h = nat_lt 0 (last_class h.figures.skews.classes)

-- what is a fault whatever the limits: a port is dead, a ring is or was cut, an id or a trailer is wrong, copies come again or late
abbrev pub faulty_anyway : Report → List Heard → List Heard → Bool
faulty_anyway r own telling =
    list_any is_a_fault (sided_verdicts r.subject.network (cut_time r.subject.network telling) telling)
    || (have_faults r.counts || (list_any come_again own || list_any come_late own))

-- a fault stands that is beyond the limits
abbrev pub stands_beyond : Limits → Report → List (Mac × Node) → List Heard → List Heard → List Heard → Bool
stands_beyond limits r nodes own telling counters =
    nodes_tell r.subject nodes || (faulty_anyway r own telling || (lack_beyond limits.lost r counters
    || (loss_beyond limits.lost r.subject.network telling || list_any (is_wide limits.skew) own)))

-- verdicts beyond a limit: one of a loss where more is lost, each other one where it is a fault
abbrev pub is_fault_over : ℕ → Verdict → Bool
is_fault_over most (BothLost mac numbers) = nat_lt most numbers
is_fault_over most (Loss lan share other) = nat_lt most share.frames
is_fault_over most v = is_a_fault v

abbrev pub is_fault_beyond : Option ℕ → Verdict → Bool
is_fault_beyond None v = is_a_fault v
is_fault_beyond (Some most) v = is_fault_over most v

-- recorders dropped packets, and may have made each fault beyond the limits
abbrev pub may_be_dropped : Limits → Ports → Sides → List Verdict → List Heard → Bool
may_be_dropped limits ports dropped faults own =
    any_dropped dropped
    && not (list_any (is_fault_beyond limits.lost) (left_unexplained (explained_by ports dropped faults) faults)
    || list_any (is_wide limits.skew) own)

-- how a check ends by a judgement, where its faults may be the recorders' doing or not
abbrev pub status_in : Judgement → Bool → ℕ
status_in Sound doubt = 0
status_in Faulty doubt = if doubt then 4 else 3
status_in (Unjudged why) doubt = 4

-- why nothing can be judged, by the figures or for what recorders dropped
abbrev pub reason_for : Judgement → Bool → Why → Option Why
reason_for Sound doubt drops = None
reason_for Faulty doubt drops = if doubt then Some drops else None
reason_for (Unjudged why) doubt drops = Some (Figures why)

pub record EndExactly (j : Judgement) (doubt : Bool) (drops : Why) (vs : List Verdict) : Type 0 where
  pub status : block_status vs ≡ status_in j doubt
  pub reason : reason_in vs ≡ reason_for j doubt drops

-- The verdicts on any report, by any limits, end a check with 4 where nothing can be judged, by the figures or for something besides
-- them, or where recorders may have made each fault beyond the limits; else with 3 where such a fault stands; else with 0.
abbrev pub VerdictsEndByLimits : Type 0
VerdictsEndByLimits = (r : Report) (sources : Sources) (outside : Outside) (vs : List Verdict) (are : AreVerdictsOf r sources outside vs)
    → EndExactly
    (judged_by (why_told outside.reason r) (stands_beyond outside.limits r sources.sources.entries are.own are.telling are.counters))
    (may_be_dropped outside.limits r.subject.ports outside.dropped (faults_told r sources outside vs are) are.own)
    (why_dropped r.subject.ports outside.dropped (explained_by r.subject.ports outside.dropped (faults_told r sources outside vs are))) vs
