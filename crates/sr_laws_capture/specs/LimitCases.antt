-- Checks by limits worked out, and what they are not.
use Rattle.std.specs.Prelude.{
  ◌≡◌,
  ◌≤◌,
  ◌+◌,
  ◌-◌,
  ◌*◌,
  ℕ,
  length,
  true,
  false,
  List,
  [],
  ◌∷◌,
  Option,
  None,
  Some,
  ℤ,
  pos,
  negsuc,
  All,
  ◌||◌,
}
use Rattle.std.specs.List.{list_any}
use Rattle.sr_frame.specs.declared.fields.Mac.{Mac}
use Rattle.sr_audit.specs.declared.arrival.Arrival.{Arrival}
use Rattle.sr_audit.specs.declared.source.Source.{Source}
use Rattle.sr_audit.specs.declared.span.Spans.{Spans}
use Rattle.sr_audit.specs.Limits.{exact_arrivals}
use Rattle.sr_audit.specs.Shown.{figures_of}
use Rattle.sr_audit.specs.Skewing.{skews_of}
use Rattle.sr_audit.specs.Stretches.{stretches}
use Rattle.sr_audit.specs.Taken.{HasTaken}
use Rattle.sr_capture_audit.specs.declared.figures.Report.{Report}
use Rattle.sr_capture_audit.specs.declared.judgement.Reason.{Reason}
use Rattle.sr_capture_audit.specs.declared.network.Ports.TheVariants.{Two}
use Rattle.sr_capture_audit.specs.Faults.{have_faults, has_faults}
use Rattle.sr_sources.specs.declared.table.Sources.{Sources}
use Rattle.sr_verdict.specs.declared.heard.Heard.{Heard}
use Rattle.sr_verdict.specs.declared.judging.Outside.{Outside}
use Rattle.sr_verdict.specs.declared.limits.Limits.{Limits}
use Rattle.sr_verdict.specs.declared.verdict.Verdict.{Verdict}
use Rattle.sr_verdict.specs.Drops.{any_dropped}
use Rattle.sr_verdict.specs.Mending.{cut_time}
use Rattle.sr_verdict.specs.Told.{why_told, AreVerdictsOf}
use Rattle.sr_verdict.specs.Verdicts.{telling_entries, sided_verdicts, IsSingleHearing, is_a_fault, block_status}
use Rattle.sr_laws_capture.specs.Ending.{nodes_tell, HasNoLimits}
use Rattle.sr_laws_capture.specs.Limited.{is_wider, is_wide, stands_beyond}

-- Where a user has no limits, a fault stands beyond them exactly where the frames of sources, or the figures, tell of one.
abbrev pub NoLimitsLeaveEachFault : Type 0
NoLimitsLeaveEachFault = (r : Report) (sources : Sources) (outside : Outside) (own telling counters : List Heard) → HasNoLimits outside
    → IsSingleHearing r sources.sources.entries own telling counters
    → stands_beyond outside.limits r sources.sources.entries own telling counters
    ≡ (nodes_tell r.subject sources.sources.entries || has_faults r)

-- Some pair of a source's copies came further apart than a limit exactly where the least or the greatest skew of it tells so.
abbrev pub PairsBeyondALimitAreTold : Type 0
PairsBeyondALimitAreTold = (limit : Option ℕ) (spans : Spans) (xs : List Arrival) (s : Source) (h : Heard) → length xs ≤ exact_arrivals
    → HasTaken spans xs s → h.figures ≡ figures_of s → is_wide limit h ≡ list_any (is_wider limit) (skews_of (stretches xs))

-- what is kept of a source is of arrivals that came
pub record IsOfArrivals (spans : Spans) (s : Source) : Type 0 where
  pub arrivals : List Arrival
  pub taken : HasTaken spans arrivals s

abbrev pub AreOfArrivals : Spans → List (Mac × Source) → Type 0
AreOfArrivals spans es = All (λ (e : Mac × Source). IsOfArrivals spans e.1) es

-- so of all sources of a report, of those that tell what was lost, and of the counters
pub record IsReportOfArrivals (r : Report) : Type 0 where
  pub own : AreOfArrivals r.spans r.audit.sources.entries
  pub telling : AreOfArrivals r.spans (telling_entries r.judged r.audit)
  pub counters : AreOfArrivals r.spans (telling_entries r.counters r.audit)

-- A report of arrivals has one list of verdicts.
abbrev pub VerdictsAreOfTheRun : Type 0
VerdictsAreOfTheRun = (r : Report) (sources : Sources) (outside : Outside) (vs ws : List Verdict) → IsReportOfArrivals r
    → AreVerdictsOf r sources outside vs → AreVerdictsOf r sources outside ws → vs ≡ ws

-- what is heard of a source of which 97 frames came by both sides and so many by A alone, none of them in a row; the copies of
-- one of the pairs came so far apart, and those of the others at once
abbrev pub pairs_heard : ℕ
pairs_heard = 97

abbrev pub heard_alone : Mac → ℕ → ℤ → List ℕ → Heard
heard_alone mac alone least classes = record {
  mac = mac;
  figures = record {
    tally = record {
      rx = record { a = pairs_heard + alone; b = pairs_heard };
      pairs = pairs_heard;
      alone = record { a = alone; b = 0 };
      repeats = record { a = 0; b = 0 };
    };
    edges = record { a = 0; b = 0 };
    neither = 0;
    order = record { a = 0; b = 0 };
    jumps = 0;
    restarts = 0;
    skews = record { count = pairs_heard; least = least; greatest = pos 0; sum = least; classes = classes };
  };
  sided = None;
  was_sided = None;
}

-- two sources, of each of which three frames came by A alone
abbrev pub six_lost : Mac → Mac → List Heard
six_lost m n = heard_alone m 3 (pos 0) (97 ∷ 0 ∷ 0 ∷ 0 ∷ 0 ∷ 0 ∷ 0 ∷ []) ∷ heard_alone n 3 (pos 0) (97 ∷ 0 ∷ 0 ∷ 0 ∷ 0 ∷ 0 ∷ 0 ∷ []) ∷ []

-- a source of which a copy by B came 1500 microseconds before that by A
abbrev pub most_apart : ℕ
most_apart = 1500

abbrev pub one_wide : Mac → List Heard
one_wide m = heard_alone m 0 (negsuc (1000 * most_apart - 1)) (96 ∷ 0 ∷ 0 ∷ 1 ∷ 0 ∷ 0 ∷ 0 ∷ []) ∷ []

abbrev pub limits_of : Option ℕ → Option ℕ → Limits
limits_of lost skew = record { lost = lost; skew = skew }

-- the verdicts on a report that can be judged, where no recorder dropped packets, by limits and of what is heard of its sources
pub record IsCheckOf (limits : Limits) (own telling : List Heard) (r : Report) (sources : Sources) (outside : Outside) (vs : List Verdict)
    : Type 0 where
  pub are : AreVerdictsOf r sources outside vs
  pub limits_are : outside.limits ≡ limits
  pub own_is : are.own ≡ own
  pub telling_is : are.telling ≡ telling
  pub judges : why_told outside.reason r ≡ None
  pub dropped : any_dropped outside.dropped ≡ false

-- its other figures tell of no fault
pub record IsElseQuiet (r : Report) (sources : Sources) (counters : List Heard) : Type 0 where
  pub none_missing : counters ≡ []
  pub nodes : nodes_tell r.subject sources.sources.entries ≡ false
  pub counts : have_faults r.counts ≡ false

-- how checks end, worked out
pub record WorkedLimitsEndChecks : Type 0 where
  -- six lost frames are within a limit of six, and beyond one of five, though of each source three were lost
  pub within : (m n : Mac) (r : Report) (sources : Sources) (outside : Outside) (vs : List Verdict)
      (check : IsCheckOf (limits_of (Some 6) None) (six_lost m n) (six_lost m n) r sources outside vs) →
      IsElseQuiet r sources check.are.counters → block_status vs ≡ 0
  pub beyond : (m n : Mac) (r : Report) (sources : Sources) (outside : Outside) (vs : List Verdict)
      (check : IsCheckOf (limits_of (Some 5) None) (six_lost m n) (six_lost m n) r sources outside vs) → block_status vs ≡ 3
  -- 1500 microseconds are within a limit of as many, and beyond one of 1499, whichever copy came first
  pub near : (m : Mac) (r : Report) (sources : Sources) (outside : Outside) (vs : List Verdict)
      (check : IsCheckOf (limits_of None (Some most_apart)) (one_wide m) (one_wide m) r sources outside vs) →
      IsElseQuiet r sources check.are.counters → block_status vs ≡ 0
  pub far : (m : Mac) (r : Report) (sources : Sources) (outside : Outside) (vs : List Verdict)
      (check : IsCheckOf (limits_of None (Some (most_apart - 1))) (one_wide m) (one_wide m) r sources outside vs) → block_status vs ≡ 3

-- statuses that a check does not end with
pub record FalseEndsAreRefused : Type 0 where
  -- a limit is of each source, and not of what a LAN lost of all
  pub by_source : (m n : Mac) (r : Report) (sources : Sources) (outside : Outside) (vs : List Verdict) →
      IsCheckOf (limits_of (Some 5) None) (six_lost m n) (six_lost m n) r sources outside vs → block_status vs ≡ 0 → ⊥
  -- a loss of just the limit is a fault
  pub at_limit : (m n : Mac) (r : Report) (sources : Sources) (outside : Outside) (vs : List Verdict)
      (check : IsCheckOf (limits_of (Some 6) None) (six_lost m n) (six_lost m n) r sources outside vs) →
      IsElseQuiet r sources check.are.counters → block_status vs ≡ 3 → ⊥
  -- a pair is far apart only where its copy by A came first
  pub by_order : (m : Mac) (r : Report) (sources : Sources) (outside : Outside) (vs : List Verdict) →
      IsCheckOf (limits_of None (Some (most_apart - 1))) (one_wide m) (one_wide m) r sources outside vs → block_status vs ≡ 0 → ⊥
  -- a limit of losses is one of dead ports and cuts too
  pub of_rows : (limits : Limits) (own telling : List Heard) (r : Report) (sources : Sources) (outside : Outside) (vs : List Verdict) →
      IsCheckOf limits own telling r sources outside vs →
      list_any is_a_fault (sided_verdicts r.subject.network (cut_time r.subject.network telling) telling) ≡ true → block_status vs ≡ 0 → ⊥
  -- a limit judges where nothing can be judged
  pub unjudged : (r : Report) (sources : Sources) (outside : Outside) (vs : List Verdict) (why : Reason) →
      AreVerdictsOf r sources outside vs → why_told outside.reason r ≡ Some why → (block_status vs ≡ 4 → ⊥) → ⊥
  -- a recorder that dropped fewer packets than its LAN lost may have made that loss
  pub excused : (m n : Mac) (r : Report) (sources : Sources) (outside : Outside) (vs : List Verdict)
      (are : AreVerdictsOf r sources outside vs) → outside.limits ≡ limits_of (Some 5) None → are.telling ≡ six_lost m n →
      why_told outside.reason r ≡ None → r.subject.ports ≡ Two → outside.dropped ≡ record { a = 0; b = 5 } → block_status vs ≡ 4 → ⊥
