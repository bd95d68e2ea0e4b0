-- Checks by limits worked out.
use Rattle.std.proofs.Common.{◌≡◌, ℕ, ◌+◌, ◌-◌, ◌^◌, ◌≤◌, Bool, true, false, cond, not, ◌&&◌, ◌||◌, List, [], ◌∷◌, ◌++◌, Option, None, Some, arith, refl, sym, ap, ap₂, ◌∙◌}
use Rattle.std.specs.Prelude.{min, nat_lt, nat_le, filter, sum_by}
use Rattle.std.specs.List.{list_any}
use Rattle.std.proofs.lemmas.Bool.{and_left, and_right, not_from_true, lt-leb, or_from, or_left, or_right}
use Rattle.std.proofs.lemmas.List.Elements.{All-head, All-tail}
use Rattle.std.proofs.lemmas.List.Folds.{list_any-append}
use Rattle.std.proofs.lemmas.List.Sums.{sum_by-append}
use Rattle.sr_frame.specs.declared.fields.Mac.{Mac}
use Rattle.sr_audit.specs.declared.row.Row.{Row}
use Rattle.sr_audit.specs.declared.side.Side.TheVariants.{B}
use Rattle.sr_audit.specs.declared.source.Source.{Source}
use Rattle.sr_audit.specs.declared.span.Spans.{Spans}
use Rattle.sr_audit.specs.declared.tally.Sides.{Sides}
use Rattle.sr_audit.specs.Shown.{figures_of}
use Rattle.sr_capture_audit.specs.declared.figures.Report.{Report}
use Rattle.sr_capture_audit.specs.declared.judgement.Reason.{Reason}
use Rattle.sr_capture_audit.specs.declared.judgement.Judgement.TheVariants.{Faulty}
use Rattle.sr_capture_audit.specs.declared.network.Network.{Network}
use Rattle.sr_capture_audit.specs.declared.network.Network.TheVariants.{Prp, Hsr}
use Rattle.sr_capture_audit.specs.declared.network.Ports.{Ports}
use Rattle.sr_capture_audit.specs.declared.network.Ports.TheVariants.{Two}
use Rattle.sr_capture_audit.specs.Faults.{have_faults}
use Rattle.sr_sources.specs.declared.table.Sources.{Sources}
use Rattle.sr_verdict.specs.declared.heard.Heard.{Heard}
use Rattle.sr_verdict.specs.declared.judging.Outside.{Outside}
use Rattle.sr_verdict.specs.declared.limits.Limits.{Limits}
use Rattle.sr_verdict.specs.declared.verdict.Verdict.{Verdict}
use Rattle.sr_verdict.specs.Drops.{loss_in, losses_in, explains, explained_by, is_explained, any_dropped, settled, dropped_told}
use Rattle.sr_verdict.specs.Heards.{AreHeard}
use Rattle.sr_verdict.specs.Mending.{cut_time}
use Rattle.sr_verdict.specs.Told.{why_told, verdicts_for, limited_faults, AreVerdictsOf}
use Rattle.sr_verdict.specs.Verdicts.{single_in, loss_at, sided_verdicts, fault_verdicts, notice_verdicts, is_a_fault, block_status}
use Rattle.sr_laws_capture.specs.Ending.{nodes_tell, faults_told}
use Rattle.sr_laws_capture.specs.Exact.{judged_by}
use Rattle.sr_laws_capture.specs.Limited.{lack_beyond, loss_beyond, is_wide, faulty_anyway, stands_beyond, is_fault_beyond, may_be_dropped, status_in}
use Rattle.sr_laws_capture.specs.LimitCases.{IsOfArrivals, AreOfArrivals, VerdictsAreOfTheRun, six_lost, most_apart, one_wide, limits_of, IsCheckOf, IsElseQuiet, WorkedLimitsEndChecks, FalseEndsAreRefused}
use Rattle.sr_laws_capture.proofs.LimitLemmas.{any_filter, fold_bounded}
use Rattle.sr_laws_capture.proofs.LimitedLemmas.{verdicts_end_limited}

-- what is heard of sources of arrivals is one list
same_heard : (spans : Spans) (es : List (Mac × Source)) (hs gs : List Heard) → AreOfArrivals spans es → AreHeard spans es hs → AreHeard spans es gs → hs ≡ gs
same_heard spans [] hs gs all are also = are ∙ sym also
same_heard spans (e ∷ es) hs gs all are also =
    let own : IsOfArrivals spans e.1 = All-head (λ (x : Mac × Source). IsOfArrivals spans x.1) e es all in
    let row : are.0 ≡ also.0 = are.3.row_is own.arrivals own.taken ∙ sym (also.3.row_is own.arrivals own.taken) in
    let closed : are.1 ≡ also.1 = are.3.closed_is own.arrivals own.taken ∙ sym (also.3.closed_is own.arrivals own.taken) in
    let rest : are.2 ≡ also.2 = same_heard spans es are.2 also.2 (All-tail (λ (x : Mac × Source). IsOfArrivals spans x.1) e es all) are.5 also.5 in
    are.4 ∙ ap₂ (λ (r c : Option Row). record { mac = e.0; figures = figures_of e.1; sided = r; was_sided = c } ∷ are.2) row closed
    ∙ ap (λ (l : List Heard). record { mac = e.0; figures = figures_of e.1; sided = also.0; was_sided = also.1 } ∷ l) rest ∙ sym also.4

pub verdicts_are_one : VerdictsAreOfTheRun
verdicts_are_one r sources outside vs ws of are also =
    let nodes = sources.sources.entries in
    let own : are.own ≡ also.own =
    are.are_heard.own_is ∙ ap (single_in nodes)
    (same_heard r.spans _ are.are_heard.all_own also.are_heard.all_own of.own are.are_heard.are_heard.are_own also.are_heard.are_heard.are_own)
    ∙ sym also.are_heard.own_is in
    let telling : are.telling ≡ also.telling =
    are.are_heard.telling_is ∙ ap (single_in nodes)
    (same_heard r.spans _ are.are_heard.all_telling also.are_heard.all_telling of.telling are.are_heard.are_heard.are_telling
    also.are_heard.are_heard.are_telling) ∙ sym also.are_heard.telling_is in
    let counters : are.counters ≡ also.counters =
    are.are_heard.counters_is ∙ ap (single_in nodes)
    (same_heard r.spans _ are.are_heard.all_counters also.are_heard.all_counters of.counters are.are_heard.are_heard.are_counters
    also.are_heard.are_heard.are_counters) ∙ sym also.are_heard.counters_is in
    are.verdicts ∙ ap (λ (l : List Heard). told l are.telling are.counters) own ∙ ap (λ (l : List Heard). told also.own l are.counters) telling
    ∙ ap (λ (l : List Heard). told also.own also.telling l) counters ∙ sym also.verdicts
  where
    told : List Heard → List Heard → List Heard → List Verdict
    told own telling counters =
        verdicts_for (why_told outside.reason r)
        (settled r.subject.ports outside.dropped (limited_faults outside.limits r sources own telling counters)
        ++ dropped_told r.subject.ports outside.dropped ++ notice_verdicts r sources.sources.entries outside.ahead counters)

-- how a check ends that judges
abbrev ending : Bool → ℕ
ending b = cond b 3 0

status_is : (limits : Limits) (own telling : List Heard) (r : Report) (sources : Sources) (outside : Outside) (vs : List Verdict)
    (check : IsCheckOf limits own telling r sources outside vs) (b : Bool) →
    stands_beyond limits r sources.sources.entries own telling check.are.counters ≡ b → block_status vs ≡ ending b
status_is limits own telling r sources outside vs check b is =
    (verdicts_end_limited r sources outside vs check.are).status
    ∙ ap (λ (o : Option Reason). status_in (judged_by o (stands outside.limits check.are.own check.are.telling)) doubt) check.judges
    ∙ ap (λ (l : Limits). status_in (judged_by None (stands l check.are.own check.are.telling)) doubt) check.limits_are
    ∙ ap (λ (l : List Heard). status_in (judged_by None (stands limits l check.are.telling)) doubt) check.own_is
    ∙ ap (λ (l : List Heard). status_in (judged_by None (stands limits own l)) doubt) check.telling_is
    ∙ ap (λ t. status_in (judged_by None t) doubt) is
    ∙ ap (status_in (judged_by None b)) none_dropped
    ∙ by b
  where
    stands : Limits → List Heard → List Heard → Bool
    stands l hs gs = stands_beyond l r sources.sources.entries hs gs check.are.counters

    doubt : Bool
    doubt = may_be_dropped outside.limits r.subject.ports outside.dropped (faults_told r sources outside vs check.are) check.are.own

    none_dropped : doubt ≡ false
    none_dropped = and_left (any_dropped outside.dropped) _ check.dropped

    by : (b : Bool) → status_in (judged_by None b) false ≡ ending b
    by true = refl
    by false = refl

-- a fault by what was lost, by how far apart copies came, or by what no limit is for
by_loss : (n f m l w : Bool) → l ≡ true → (n || (f || (m || (l || w)))) ≡ true
by_loss n f m l w e = or_right n _ (or_right f _ (or_right m _ (or_left l w e)))

by_skew : (n f m l w : Bool) → w ≡ true → (n || (f || (m || (l || w)))) ≡ true
by_skew n f m l w e = or_right n _ (or_right f _ (or_right m _ (or_right l w e)))

by_others : (n f m l w : Bool) → f ≡ true → (n || (f || (m || (l || w)))) ≡ true
by_others n f m l w e = or_right n _ (or_left f _ e)

by_none : (n f m l w : Bool) → n ≡ false → f ≡ false → m ≡ false → l ≡ false → w ≡ false → (n || (f || (m || (l || w)))) ≡ false
by_none n f m l w a b c d e = or_from n _ a (or_from f _ b (or_from m _ c (or_from l w d e)))

-- no row is at the end of these sources
six_sided : (network : Network) (m n : Mac) → list_any is_a_fault (sided_verdicts network (cut_time network (six_lost m n)) (six_lost m n)) ≡ false
six_sided Prp m n = refl
six_sided Hsr m n = refl

wide_sided : (network : Network) (m : Mac) → list_any is_a_fault (sided_verdicts network (cut_time network (one_wide m)) (one_wide m)) ≡ false
wide_sided Prp m = refl
wide_sided Hsr m = refl

-- six frames, and none
six_within : (network : Network) (m n : Mac) → loss_beyond (Some 6) network (six_lost m n) ≡ false
six_within Prp m n = refl
six_within Hsr m n = refl

six_beyond : (network : Network) (m n : Mac) → loss_beyond (Some 5) network (six_lost m n) ≡ true
six_beyond Prp m n = refl
six_beyond Hsr m n = refl

wide_lost : (network : Network) (m : Mac) → loss_beyond None network (one_wide m) ≡ false
wide_lost Prp m = refl
wide_lost Hsr m = refl

none_lack : (limit : Option ℕ) (r : Report) (counters : List Heard) → counters ≡ [] → lack_beyond limit r counters ≡ false
none_lack limit r counters none = ap (lack_beyond limit r) none ∙ and_right _ false refl

within : (m n : Mac) (r : Report) (sources : Sources) (outside : Outside) (vs : List Verdict)
    (check : IsCheckOf (limits_of (Some 6) None) (six_lost m n) (six_lost m n) r sources outside vs) → IsElseQuiet r sources check.are.counters →
    block_status vs ≡ 0
within m n r sources outside vs check quiet =
    status_is (limits_of (Some 6) None) (six_lost m n) (six_lost m n) r sources outside vs check false
    (by_none _ (faulty_anyway r (six_lost m n) (six_lost m n)) (lack_beyond (Some 6) r check.are.counters) (loss_beyond (Some 6) r.subject.network (six_lost m n))
    (list_any (is_wide None) (six_lost m n)) quiet.nodes
    (or_from (list_any is_a_fault (sided_verdicts r.subject.network (cut_time r.subject.network (six_lost m n)) (six_lost m n))) _ (six_sided r.subject.network m n)
    (or_from (have_faults r.counts) _ quiet.counts refl)) (none_lack (Some 6) r check.are.counters quiet.none_missing) (six_within r.subject.network m n) refl)

beyond : (m n : Mac) (r : Report) (sources : Sources) (outside : Outside) (vs : List Verdict) →
    IsCheckOf (limits_of (Some 5) None) (six_lost m n) (six_lost m n) r sources outside vs → block_status vs ≡ 3
beyond m n r sources outside vs check =
    status_is (limits_of (Some 5) None) (six_lost m n) (six_lost m n) r sources outside vs check true
    (by_loss (nodes_tell r.subject sources.sources.entries) (faulty_anyway r (six_lost m n) (six_lost m n)) (lack_beyond (Some 5) r check.are.counters)
    (loss_beyond (Some 5) r.subject.network (six_lost m n)) (list_any (is_wide None) (six_lost m n)) (six_beyond r.subject.network m n))

near : (m : Mac) (r : Report) (sources : Sources) (outside : Outside) (vs : List Verdict)
    (check : IsCheckOf (limits_of None (Some most_apart)) (one_wide m) (one_wide m) r sources outside vs) → IsElseQuiet r sources check.are.counters →
    block_status vs ≡ 0
near m r sources outside vs check quiet =
    status_is (limits_of None (Some most_apart)) (one_wide m) (one_wide m) r sources outside vs check false
    (by_none _ (faulty_anyway r (one_wide m) (one_wide m)) (lack_beyond None r check.are.counters) (loss_beyond None r.subject.network (one_wide m))
    (list_any (is_wide (Some most_apart)) (one_wide m)) quiet.nodes
    (or_from (list_any is_a_fault (sided_verdicts r.subject.network (cut_time r.subject.network (one_wide m)) (one_wide m))) _ (wide_sided r.subject.network m)
    (or_from (have_faults r.counts) _ quiet.counts refl)) (none_lack None r check.are.counters quiet.none_missing) (wide_lost r.subject.network m) refl)

far : (m : Mac) (r : Report) (sources : Sources) (outside : Outside) (vs : List Verdict) →
    IsCheckOf (limits_of None (Some (most_apart - 1))) (one_wide m) (one_wide m) r sources outside vs → block_status vs ≡ 3
far m r sources outside vs check =
    status_is (limits_of None (Some (most_apart - 1))) (one_wide m) (one_wide m) r sources outside vs check true
    (by_skew (nodes_tell r.subject sources.sources.entries) (faulty_anyway r (one_wide m) (one_wide m)) (lack_beyond None r check.are.counters)
    (loss_beyond None r.subject.network (one_wide m)) (list_any (is_wide (Some (most_apart - 1))) (one_wide m)) refl)

pub limits_worked : WorkedLimitsEndChecks
limits_worked = record { within = within; beyond = beyond; near = near; far = far }

-- a loss in the midst of a list
abbrev Amid : List Verdict → List Verdict → List Verdict → List Verdict → List Verdict → List Verdict
Amid before xs c d e = (((before ++ xs) ++ c) ++ d) ++ e

any_amid : (p : Verdict → Bool) (before xs c d e : List Verdict) → list_any p xs ≡ true → list_any p (Amid before xs c d e) ≡ true
any_amid p before xs c d e is =
    list_any-append p (((before ++ xs) ++ c) ++ d) e ∙ or_left (list_any p (((before ++ xs) ++ c) ++ d)) (list_any p e)
    (list_any-append p ((before ++ xs) ++ c) d ∙ or_left (list_any p ((before ++ xs) ++ c)) (list_any p d)
    (list_any-append p (before ++ xs) c ∙ or_left (list_any p (before ++ xs)) (list_any p c)
    (list_any-append p before xs ∙ or_right (list_any p before) (list_any p xs) is)))

sum_amid : (f : Verdict → ℕ) (before xs c d e : List Verdict) → sum_by f xs ≤ sum_by f (Amid before xs c d e)
sum_amid f before xs c d e =
    omega (
      arith,
      sum_by-append f (((before ++ xs) ++ c) ++ d) e,
      sum_by-append f ((before ++ xs) ++ c) d,
      sum_by-append f (before ++ xs) c,
      sum_by-append f before xs,
    )

-- a recorder that dropped five packets made no loss of six
abbrev five_dropped : Sides
five_dropped = record { a = 0; b = 5 }

none_excused : (m n : Mac) (before c d e : List Verdict) (own : List Heard) →
    may_be_dropped (limits_of (Some 5) None) Two five_dropped (Amid before (loss_at None B (six_lost m n)) c d e) own ≡ false
none_excused m n before c d e own =
    and_right (any_dropped five_dropped) _ (not_from_true (list_any (is_fault_beyond (Some 5)) (filter stays faults) || list_any (is_wide None) own)
    (or_left (list_any (is_fault_beyond (Some 5)) (filter stays faults)) (list_any (is_wide None) own)
    (any_filter (is_fault_beyond (Some 5)) stays faults
    ∙ any_amid (λ v. stays v && is_fault_beyond (Some 5) v) before (loss_at None B (six_lost m n)) c d e (ap (λ b. (not b && true) || false) unexplained))))
  where
    faults : List Verdict
    faults = Amid before (loss_at None B (six_lost m n)) c d e

    stays : Verdict → Bool
    stays v = not (is_explained (explained_by Two five_dropped faults) v)

    six : 6 ≤ sum_by (loss_in B) faults
    six = sum_amid (loss_in B) before (loss_at None B (six_lost m n)) c d e

    losses : losses_in B faults ≡ min (0 + sum_by (loss_in B) faults) (2 ^ 64 - 1)
    losses = fold_bounded (loss_in B) 0 faults (omega arith)

    not_few : nat_le (losses_in B faults) 5 ≡ false
    not_few = lt-leb (losses_in B faults) 5 (omega (arith, six, losses))

    unexplained : explains 5 (losses_in B faults) ≡ false
    unexplained = and_right (nat_lt 0 (losses_in B faults)) (nat_le (losses_in B faults) 5) not_few

no_cut : (network : Network) (m n : Mac) → cut_time network (six_lost m n) ≡ None
no_cut Prp m n = refl
no_cut Hsr m n = refl

none_excused_at : (m n : Mac) (mended : Option ℕ) → mended ≡ None → (faults before c d e : List Verdict) →
    faults ≡ Amid before (loss_at mended B (six_lost m n)) c d e → (own : List Heard) →
    may_be_dropped (limits_of (Some 5) None) Two five_dropped faults own ≡ false
none_excused_at m n mended none faults before c d e is own =
    ap (λ (l : List Verdict). may_be_dropped (limits_of (Some 5) None) Two five_dropped l own) is
    ∙ ap (λ (t : Option ℕ). may_be_dropped (limits_of (Some 5) None) Two five_dropped (Amid before (loss_at t B (six_lost m n)) c d e) own) none
    ∙ none_excused m n before c d e own

excused : (m n : Mac) (r : Report) (sources : Sources) (outside : Outside) (vs : List Verdict)
    (are : AreVerdictsOf r sources outside vs) → outside.limits ≡ limits_of (Some 5) None → are.telling ≡ six_lost m n →
    why_told outside.reason r ≡ None → r.subject.ports ≡ Two → outside.dropped ≡ five_dropped → block_status vs ≡ 3
excused m n r sources outside vs are limits telling judges ports dropped =
    (verdicts_end_limited r sources outside vs are).status
    ∙ ap (λ (o : Option Reason). status_in (judged_by o (stands outside.limits are.telling)) (doubt outside.limits r.subject.ports outside.dropped are.telling))
    judges
    ∙ ap (λ (l : Limits). status_in (judged_by None (stands l are.telling)) (doubt l r.subject.ports outside.dropped are.telling)) limits
    ∙ ap (λ (t : List Heard). status_in (judged_by None (stands five t)) (doubt five r.subject.ports outside.dropped t)) telling
    ∙ ap (λ (p : Ports). status_in (judged_by None (stands five (six_lost m n))) (doubt five p outside.dropped (six_lost m n))) ports
    ∙ ap (λ (d : Sides). status_in (judged_by None (stands five (six_lost m n))) (doubt five Two d (six_lost m n))) dropped
    ∙ ap (λ b. status_in (judged_by None b) (doubt five Two five_dropped (six_lost m n)))
    (by_loss (nodes_tell r.subject sources.sources.entries) (faulty_anyway r are.own (six_lost m n)) (lack_beyond (Some 5) r are.counters)
    (loss_beyond (Some 5) r.subject.network (six_lost m n)) (list_any (is_wide None) are.own) (six_beyond r.subject.network m n))
    ∙ ap (status_in Faulty) (none_excused_at m n (cut_time r.subject.network (six_lost m n)) (no_cut r.subject.network m n)
    (fault_verdicts r sources.sources.entries are.own (six_lost m n) are.counters) _ _ _ _ refl are.own)
  where
    five : Limits
    five = limits_of (Some 5) None

    stands : Limits → List Heard → Bool
    stands l t = stands_beyond l r sources.sources.entries are.own t are.counters

    doubt : Limits → Ports → Sides → List Heard → Bool
    doubt l p d t = may_be_dropped l p d (fault_verdicts r sources.sources.entries are.own t are.counters) are.own

-- what a check does not end with
pub ends_refused : FalseEndsAreRefused
ends_refused = record {
  by_source = λ m n r sources outside vs check sound. absurd (omega (arith, beyond m n r sources outside vs check, sound));
  at_limit = λ m n r sources outside vs check quiet faulty. absurd (omega (arith, within m n r sources outside vs check quiet, faulty));
  by_order = λ m r sources outside vs check sound. absurd (omega (arith, far m r sources outside vs check, sound));
  of_rows = λ limits own telling r sources outside vs check row sound. absurd (omega (
    arith,
    sound,
    status_is limits own telling r sources outside vs check true
        (by_others (nodes_tell r.subject sources.sources.entries) (faulty_anyway r own telling) (lack_beyond limits.lost r check.are.counters)
        (loss_beyond limits.lost r.subject.network telling) (list_any (is_wide limits.skew) own) (or_left _ _ row)),
  ));
  excused = λ m n r sources outside vs are limits telling judges ports dropped doubt.
      absurd (omega (arith, excused m n r sources outside vs are limits telling judges ports dropped, doubt));
  unjudged = λ r sources outside vs why are is other. other ((verdicts_end_limited r sources outside vs are).status
      ∙ ap (λ (o : Option Reason). status_in (judged_by o (stands_beyond outside.limits r sources.sources.entries are.own are.telling are.counters))
      (may_be_dropped outside.limits r.subject.ports outside.dropped (faults_told r sources outside vs are) are.own)) is);
}
