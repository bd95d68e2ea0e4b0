-- A check is judged by arrivals.
use Rattle.std.proofs.Common.{◌≡◌, Bool, true, false, cond, not, ◌&&◌, ◌||◌, List, [], Option, None, Some, refl, sym, ap, ◌∙◌}
use Rattle.std.specs.Prelude.{nat_lt}
use Rattle.std.specs.List.{list_any}
use Rattle.sr_audit.specs.declared.audit.Audit.{Audit}
use Rattle.sr_audit.specs.declared.side.Side.TheVariants.{A, B}
use Rattle.sr_audit.specs.declared.source.Figures.{Figures}
use Rattle.sr_audit.specs.declared.span.Spans.{Spans}
use Rattle.sr_audit.specs.Audits.{Sent}
use Rattle.sr_audit.specs.Faults.{tells_of_faults}
use Rattle.sr_audit.specs.Shown.{figures_of}
use Rattle.sr_laws_audit.specs.Exactly.{figures_by, some_source}
use Rattle.sr_laws_audit.proofs.ExactLemmas.{tests_are}
use Rattle.sr_capture_audit.specs.declared.counts.Counts.{Counts}
use Rattle.sr_capture_audit.specs.declared.figures.Report.{Report}
use Rattle.sr_capture_audit.specs.declared.flows.Sight.{Sight}
use Rattle.sr_capture_audit.specs.declared.flows.Sight.TheVariants.{All, Part}
use Rattle.sr_capture_audit.specs.declared.judgement.Judgement.TheVariants.{Sound, Faulty}
use Rattle.sr_capture_audit.specs.declared.judgement.Reason.{Reason}
use Rattle.sr_capture_audit.specs.declared.judgement.Reason.TheVariants as reason
use Rattle.sr_capture_audit.specs.Auditing.{sent_in}
use Rattle.sr_capture_audit.specs.Counting.{all_figures}
use Rattle.sr_capture_audit.specs.Edging.{tells_of_lost, tells_of_missing}
use Rattle.sr_capture_audit.specs.Faults.{shows_lost, have_lost, shows_missing, have_missing, lost_told, missing_told, have_faults, judged_have_lost, counters_have_missing, has_faults}
use Rattle.sr_capture_audit.specs.Hints.{are_swapped}
use Rattle.sr_capture_audit.specs.Judging.{shows_pairs, has_pairs, are_cut, reason_of, judged, network_judgement, check_status}
use Rattle.sr_laws_capture.specs.Exact.{lost_among, missing_among, paired_among, tells_beside, sees_all, reason_by, judged_by, judgement_by, ChecksAreByArrivals}
use Rattle.sr_laws_capture.specs.Judged.{with_counters_if, with_judged_if}

-- no arrival tells of anything
beside_none : (spans : Spans) (lost missing : Bool) → tells_beside lost missing (figures_by spans []) ≡ false
beside_none spans true true = refl
beside_none spans true false = refl
beside_none spans false true = refl
beside_none spans false false = refl

-- what a report is judged by, with these other audits
abbrev faults_with : Report → Option Audit → Sight → Option Audit → Bool
faults_with r j s c = have_faults r.counts || (judged_have_lost j || (counters_have_missing s c
    || list_any (λ e. tells_of_faults (missing_told c (lost_told j (figures_of e.1)))) r.audit.sources.entries))

all_four : (a b c d a' b' c' d' : Bool) → a ≡ a' → b ≡ b' → c ≡ c' → d ≡ d' → (a || (b || (c || d))) ≡ (a' || (b' || (c' || d')))
all_four a b c d a' b' c' d' e f g h = ap (λ t. t || (b || (c || d))) e ∙ ap (λ t. a' || (t || (c || d))) f ∙ ap (λ t. a' || (b' || (t || d))) g
    ∙ ap (λ t. a' || (b' || (c' || t))) h

none_with : (s : Sight) → counters_have_missing s None ≡ false
none_with All = refl
none_with Part = refl

some_with : (s : Sight) (c : Audit) (b : Bool) → have_missing c ≡ b → counters_have_missing s (Some c) ≡ (sees_all s && b)
some_with All c b e = e
some_with Part c b e = refl

pub checks_are : ChecksAreByArrivals
checks_are judged_spans subject xs r counters sight frames by_counter by_flow told own has has_frames has_counters =
    by (tells_of_lost r) (tells_of_missing r) refl refl
  where
    sent : List Sent
    sent = sent_in told.seen

    counts : Counts
    counts = all_figures told.seen

    tested : (test : Figures → Bool) → test (figures_by judged_spans []) ≡ false →
        list_any (λ e. test (figures_of e.1)) r.audit.sources.entries ≡ some_source test judged_spans sent
    tested test none = tests_are test judged_spans sent r.audit.sources.entries has none

    lost_is : tells_of_lost r ≡ lost_among judged_spans sent
    lost_is = tested shows_lost refl

    missing_is : tells_of_missing r ≡ missing_among judged_spans sent
    missing_is = tested shows_missing refl

    pairs_is : has_pairs r ≡ paired_among judged_spans sent
    pairs_is = tested shows_pairs refl

    frames_is : tells_of_lost r ≡ true → have_lost frames ≡ lost_among judged_spans by_flow
    frames_is e = tests_are shows_lost judged_spans by_flow frames.sources.entries (has_frames e) refl

    counters_is : tells_of_missing r ≡ true → have_missing counters ≡ missing_among judged_spans by_counter
    counters_is e = tests_are shows_missing judged_spans by_counter counters.sources.entries (has_counters e) refl

    beside : (l m : Bool) → list_any (λ e. tells_beside l m (figures_of e.1)) r.audit.sources.entries
        ≡ some_source (tells_beside l m) judged_spans sent
    beside l m = tested (tells_beside l m) (beside_none judged_spans l m)

    -- the same by whether frames were lost, and numbers missing
    faults_if : Bool → Bool → Bool
    faults_if l m = have_faults counts || ((l && lost_among judged_spans by_flow) || ((m && (sees_all sight && missing_among judged_spans by_counter))
        || some_source (tells_beside l m) judged_spans sent))

    with_own : (j : Option Audit) (s : Sight) (c : Option Audit) (b d l m : Bool) → judged_have_lost j ≡ b → counters_have_missing s c ≡ d →
        list_any (λ e. tells_of_faults (missing_told c (lost_told j (figures_of e.1)))) r.audit.sources.entries
        ≡ list_any (λ e. tells_beside l m (figures_of e.1)) r.audit.sources.entries →
        faults_with r j s c ≡ (have_faults counts || (b || (d || some_source (tells_beside l m) judged_spans sent)))
    with_own j s c b d l m e f g = all_four (have_faults r.counts) (judged_have_lost j) (counters_have_missing s c) _ (have_faults counts) b d _
        (ap have_faults told.counts) e f (g ∙ beside l m)

    faults : (l m : Bool) → tells_of_lost r ≡ l → tells_of_missing r ≡ m →
        has_faults (with_judged_if l frames (with_counters_if m counters sight r)) ≡ faults_if l m
    faults true true is_l is_m = with_own (Some frames) sight (Some counters) _ _ true true (frames_is is_l)
        (some_with sight counters (missing_among judged_spans by_counter) (counters_is is_m)) refl
    faults true false is_l is_m = ap (faults_with r (Some frames) r.sight) own.no_counters
        ∙ with_own (Some frames) r.sight None _ _ true false (frames_is is_l) (none_with r.sight) refl
    faults false true is_l is_m = ap (λ j. faults_with r j sight (Some counters)) own.no_judged
        ∙ with_own None sight (Some counters) _ _ false true refl
        (some_with sight counters (missing_among judged_spans by_counter) (counters_is is_m)) refl
    faults false false is_l is_m = ap (λ j. faults_with r j r.sight r.counters) own.no_judged
        ∙ ap (faults_with r None r.sight) own.no_counters
        ∙ with_own None r.sight None _ _ false false refl (none_with r.sight) refl

    -- the reason
    reason_with : Counts → Bool → Option Reason
    reason_with c p =
        cond (are_cut c) (Some reason.Cut) (cond (not (nat_lt 0 c.a.numbered)) (Some (reason.Unnumbered A))
        (cond (not (nat_lt 0 c.b.numbered)) (Some (reason.Unnumbered B)) (cond (are_swapped c) (Some reason.Swapped)
        (cond p None (Some reason.Unpaired)))))

    reason_is : reason_of r ≡ reason_by counts judged_spans sent
    reason_is = ap (λ c. reason_with c (has_pairs r)) told.counts ∙ ap (reason_with counts) pairs_is

    judged_is : (o : Option Reason) (q : Report) (b : Bool) → has_faults q ≡ b → judged o q ≡ judged_by o b
    judged_is None q b e = ap (λ t. cond t Faulty Sound) e
    judged_is (Some why) q b e = refl

    same_reason : (l m : Bool) → reason_of (with_judged_if l frames (with_counters_if m counters sight r)) ≡ reason_of r
    same_reason true true = refl
    same_reason true false = refl
    same_reason false true = refl
    same_reason false false = refl

    by : (l m : Bool) → tells_of_lost r ≡ l → tells_of_missing r ≡ m →
        check_status (network_judgement (with_judged_if l frames (with_counters_if m counters sight r)))
        ≡ check_status (judgement_by counts judged_spans sent by_flow by_counter sight)
    by l m is_l is_m =
        let q = with_judged_if l frames (with_counters_if m counters sight r) in
        ap check_status
        (judged_is (reason_of q) q (faults_if l m) (faults l m is_l is_m)
        ∙ ap (λ o. judged_by o (faults_if l m)) (same_reason l m ∙ reason_is)
        ∙ ap (λ b. judged_by (reason_by counts judged_spans sent) (faults_if b m)) (sym is_l ∙ lost_is)
        ∙ ap (λ b. judged_by (reason_by counts judged_spans sent) (faults_if (lost_among judged_spans sent) b)) (sym is_m ∙ missing_is))
