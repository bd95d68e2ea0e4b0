-- Verdicts end a check by the limits of a user.
use Rattle.std.proofs.Common.{◌≡◌, ℕ, ◌+◌, ◌-◌, ◌*◌, ◌^◌, ◌≤◌, Bool, true, false, cond, not, ◌&&◌, ◌||◌, is_some, List, [], ◌∷◌, ◌++◌, Option, None, Some, arith, refl, sym, ap, ap₂, ◌∙◌, subst}
use Rattle.std.specs.Prelude.{min, nat_lt, unsigned_abs, fold, sum_by}
use Rattle.std.specs.List.{filter_map, list_any}
use Rattle.std.proofs.lemmas.Bool.{lt-ltb, le-ltb, ltb-true, ltb-false}
use Rattle.std.proofs.lemmas.List.Folds.{list_any-append}
use Rattle.std.proofs.lemmas.List.Sums.{sum_by-cons}
use Rattle.sr_frame.specs.declared.fields.Mac.{Mac}
use Rattle.sr_prp_trailer.specs.declared.trailer.Lan.{Lan}
use Rattle.sr_sources.specs.declared.lane.Tail.{Tail}
use Rattle.sr_sources.specs.declared.source.Source.{Source as Node}
use Rattle.sr_sources.specs.Kinds.{doubled_since, lost_redundancy}
use Rattle.sr_audit.specs.declared.row.Row.{Row}
use Rattle.sr_audit.specs.declared.side.Side.{Side}
use Rattle.sr_audit.specs.declared.side.Side.TheVariants.{A, B}
use Rattle.sr_audit.specs.declared.tally.Sides.{Sides}
use Rattle.sr_audit.specs.Faults.{last_class}
use Rattle.sr_audit.specs.Lanes.{other_side}
use Rattle.sr_audit.specs.Shown.{bounded_sum}
use Rattle.sr_capture_audit.specs.declared.counts.Counts.{Counts}
use Rattle.sr_capture_audit.specs.declared.figures.Report.{Report}
use Rattle.sr_capture_audit.specs.declared.judgement.Reason.{Reason}
use Rattle.sr_capture_audit.specs.declared.network.Network.{Network}
use Rattle.sr_capture_audit.specs.declared.network.Network.TheVariants.{Prp, Hsr}
use Rattle.sr_capture_audit.specs.declared.network.Ports.{Ports}
use Rattle.sr_capture_audit.specs.declared.network.Subject.{Subject}
use Rattle.sr_verdict.specs.declared.heard.Heard.{Heard}
use Rattle.sr_verdict.specs.declared.heard.When.{When}
use Rattle.sr_verdict.specs.declared.heard.When.TheVariants.{AtLast, At}
use Rattle.sr_verdict.specs.declared.place.Place.{Place}
use Rattle.sr_verdict.specs.declared.shared.Cut.{Cut}
use Rattle.sr_verdict.specs.declared.shared.Share.{Share}
use Rattle.sr_verdict.specs.declared.verdict.Verdict.{Verdict}
use Rattle.sr_verdict.specs.declared.verdict.Verdict.TheVariants.{Unjudged as Undecided, BothLost, TwoSenders, CutRing, DeadPort, Crossed, LostRedundancy, Loss, WrongLan, Misfit, Repeated, Late, Skew}
use Rattle.sr_verdict.specs.declared.why.Why.{Why}
use Rattle.sr_verdict.specs.Drops.{explained_by, is_explained, left_unexplained, any_dropped, why_dropped, settled_by, settled}
use Rattle.sr_verdict.specs.Heards.{row_in, rest_at}
use Rattle.sr_verdict.specs.Limits.{limited, farthest, skew_on, skew_verdicts}
use Rattle.sr_verdict.specs.Mending.{cut_time}
use Rattle.sr_verdict.specs.Names.{names_with}
use Rattle.sr_verdict.specs.Places.{cut_place}
use Rattle.sr_verdict.specs.Shared.{no_share, share_with, share_by, cut_in}
use Rattle.sr_verdict.specs.Told.{why_told, verdicts_for}
use Rattle.sr_verdict.specs.Verdicts.{as_list, when_counted, when_either, dead_by, verdict_on, verdicts_where, two_senders_told, lost_told, told_lan, in_prp, cut_told, cut_at, cut_mended, sided_verdicts, loss_by, loss_at, are_crossed, astray_names, wrong_at, misfit_at, id_verdicts, other_id_verdicts, has_all_sent, fault_verdicts, notice_verdicts, is_a_fault}
use Rattle.sr_laws_capture.specs.Ending.{of_prp, nodes_tell}
use Rattle.sr_laws_capture.specs.Exact.{judged_by}
use Rattle.sr_laws_capture.specs.LimitCases.{NoLimitsLeaveEachFault}
use Rattle.sr_laws_capture.specs.Limited.{allowed, lack_beyond, frames_lost_of, loss_beyond, is_wide, come_again, come_late, stands_beyond, is_fault_over, is_fault_beyond, may_be_dropped, status_in, reason_for, EndExactly, VerdictsEndByLimits}
use Rattle.sr_laws_capture.proofs.EndingLemmas.{Behind, behind_told, any_left, told_of_single}
use Rattle.sr_laws_capture.proofs.LimitLemmas.{passes, any_map, any_same, any_false, any_filter, left_beyond, left_judging, same_explained, skews_told}
use Rattle.sr_laws_capture.proofs.ToldLemmas.{Tells, two_told, lost_told_in, wrong_told, others_told, tells_faults, tells_notices, tells_loss, tells_ids, tells_other_ids, is_unjudged, judged_first}

-- a verdict of another kind than a loss is a fault whatever the limit
whichever : (limit : Option ℕ) (v : Verdict) → ((most : ℕ) → is_fault_over most v ≡ is_a_fault v) → is_fault_beyond limit v ≡ is_a_fault v
whichever None v same = refl
whichever (Some most) v same = same most

or_false : (b : Bool) → (b || false) ≡ b
or_false true = refl
or_false false = refl

any_listed : (p : Verdict → Bool) (o : Option Verdict) → list_any p (as_list o) ≡ passes p o
any_listed p None = refl
any_listed p (Some v) = or_false (p v)

joined : (p : Verdict → Bool) (xs ys : List Verdict) (b c : Bool) → list_any p xs ≡ b → list_any p ys ≡ c → list_any p (xs ++ ys) ≡ (b || c)
joined p xs ys b c e f = list_any-append p xs ys ∙ ap₂ (λ x y. x || y) e f

counted : (limit : Option ℕ) (n : ℕ) (v : Verdict) → is_fault_beyond limit v ≡ true → passes (is_fault_beyond limit) (when_counted n v) ≡ nat_lt 0 n
counted limit n v is = by (nat_lt 0 n)
  where
    by : (b : Bool) → passes (is_fault_beyond limit) (cond b (Some v) None) ≡ b
    by true = is
    by false = refl

either : (limit : Option ℕ) (n m : ℕ) (v : Verdict) → is_fault_beyond limit v ≡ true →
    passes (is_fault_beyond limit) (when_either n m v) ≡ (nat_lt 0 n || nat_lt 0 m)
either limit n m v is = by (nat_lt 0 n)
  where
    by : (b : Bool) → passes (is_fault_beyond limit) (cond b (Some v) (when_counted m v)) ≡ (b || nat_lt 0 m)
    by true = is
    by false = counted limit m v is

-- of numbers that no frame had
numbers_beyond : (limit : Option ℕ) (mac : Mac) (n : ℕ) → passes (is_fault_beyond limit) (when_counted n (BothLost mac n)) ≡ nat_lt (allowed limit) n
numbers_beyond None mac n = counted None n (BothLost mac n) refl
numbers_beyond (Some most) mac n = by (nat_lt 0 n) refl
  where
    by : (b : Bool) → nat_lt 0 n ≡ b → passes (is_fault_beyond (Some most)) (cond b (Some (BothLost mac n)) None) ≡ nat_lt most n
    by true e = refl
    by false e = sym (le-ltb most n (omega (arith, ltb-false 0 n e)))

lack_told : (limit : Option ℕ) (k : _) → ((h : Heard) → passes (is_fault_beyond limit) (verdict_on k h) ≡ nat_lt (allowed limit) h.figures.neither) →
    (all : Bool) (hs : List Heard) →
    list_any (is_fault_beyond limit) (verdicts_where all k hs) ≡ (all && list_any (λ h. nat_lt (allowed limit) h.figures.neither) hs)
lack_told limit k each true hs = any_map (is_fault_beyond limit) (verdict_on k) hs ∙ any_same _ (λ h. nat_lt (allowed limit) h.figures.neither) each hs
lack_told limit k each false hs = refl

-- of sources by their frames
two_beyond : (limit : Option ℕ) (nodes : List (Mac × Node)) →
    list_any (is_fault_beyond limit) (filter_map (λ (e : Mac × Node). two_senders_told e.0 (doubled_since e.1)) nodes) ≡ two_told nodes
two_beyond limit nodes =
    any_map (is_fault_beyond limit) (λ e. two_senders_told e.0 (doubled_since e.1)) nodes
    ∙ any_same _ (λ e. is_some (doubled_since e.1)) (λ e. by e.0 (doubled_since e.1)) nodes
  where
    by : (mac : Mac) (o : Option ℕ) → passes (is_fault_beyond limit) (two_senders_told mac o) ≡ is_some o
    by mac None = refl
    by mac (Some since) = whichever limit (TwoSenders mac since) (λ most. refl)

lost_beyond : (limit : Option ℕ) (subject : Subject) (nodes : List (Mac × Node)) → list_any (is_fault_beyond limit)
    (in_prp subject.network (filter_map (λ (e : Mac × Node). lost_told subject.ports e.0 (lost_redundancy e.1)) nodes)) ≡ lost_told_in subject nodes
lost_beyond limit subject nodes = by_network subject.network
  where
    by : (mac : Mac) (o : Option (Lan × Tail)) → passes (is_fault_beyond limit) (lost_told subject.ports mac o) ≡ is_some o
    by mac None = refl
    by mac (Some lost) = whichever limit (LostRedundancy mac (told_lan subject.ports lost.0) lost.1) (λ most. refl)

    by_network : (network : Network) → list_any (is_fault_beyond limit)
        (in_prp network (filter_map (λ (e : Mac × Node). lost_told subject.ports e.0 (lost_redundancy e.1)) nodes))
        ≡ of_prp network (list_any (λ e. is_some (lost_redundancy e.1)) nodes)
    by_network Prp = any_map (is_fault_beyond limit) (λ e. lost_told subject.ports e.0 (lost_redundancy e.1)) nodes
        ∙ any_same _ (λ e. is_some (lost_redundancy e.1)) (λ e. by e.0 (lost_redundancy e.1)) nodes
    by_network Hsr = refl

-- of ids and trailers
counted_same : (limit : Option ℕ) (n : ℕ) (v : Verdict) → is_fault_beyond limit v ≡ is_a_fault v →
    list_any (is_fault_beyond limit) (as_list (when_counted n v)) ≡ list_any is_a_fault (as_list (when_counted n v))
counted_same limit n v same = by (nat_lt 0 n)
  where
    by : (b : Bool) → list_any (is_fault_beyond limit) (as_list (cond b (Some v) None)) ≡ list_any is_a_fault (as_list (cond b (Some v) None))
    by true = ap (λ b. b || false) same
    by false = refl

both_same : (limit : Option ℕ) (xs ys : List Verdict) → list_any (is_fault_beyond limit) xs ≡ list_any is_a_fault xs →
    list_any (is_fault_beyond limit) ys ≡ list_any is_a_fault ys → list_any (is_fault_beyond limit) (xs ++ ys) ≡ list_any is_a_fault (xs ++ ys)
both_same limit xs ys e f =
    joined (is_fault_beyond limit) xs ys (list_any is_a_fault xs) (list_any is_a_fault ys) e f ∙ sym (list_any-append is_a_fault xs ys)

-- of sources that are heard by one side alone, at last or while a ring was cut
cut_same : (limit : Option ℕ) (when : When) (hs : List Heard) → list_any (is_fault_beyond limit) (cut_at when hs) ≡ list_any is_a_fault (cut_at when hs)
cut_same limit when hs = by (cut_place when hs) (cut_in when hs)
  where
    by : (place : Place) (c : Option Cut) →
        list_any (is_fault_beyond limit) (as_list (cut_told place c)) ≡ list_any is_a_fault (as_list (cut_told place c))
    by place None = refl
    by place (Some c) = ap (λ b. b || false) (whichever limit (CutRing c place) (λ most. refl))

mended_same : (limit mended : Option ℕ) (hs : List Heard) →
    list_any (is_fault_beyond limit) (cut_mended mended hs) ≡ list_any is_a_fault (cut_mended mended hs)
mended_same limit None hs = refl
mended_same limit (Some time) hs = cut_same limit (At time) hs

sided_beyond : (limit : Option ℕ) (network : Network) (mended : Option ℕ) (hs : List Heard) →
    list_any (is_fault_beyond limit) (sided_verdicts network mended hs) ≡ list_any is_a_fault (sided_verdicts network mended hs)
sided_beyond limit Prp mended hs =
    any_map (is_fault_beyond limit) (λ h. dead_by h.mac (row_in h)) hs
    ∙ any_same _ (λ h. passes is_a_fault (dead_by h.mac (row_in h))) (λ h. by h.mac (row_in h)) hs
    ∙ sym (any_map is_a_fault (λ h. dead_by h.mac (row_in h)) hs)
  where
    by : (mac : Mac) (o : Option Row) → passes (is_fault_beyond limit) (dead_by mac o) ≡ passes is_a_fault (dead_by mac o)
    by mac None = refl
    by mac (Some row) = whichever limit (DeadPort mac row) (λ most. refl)
sided_beyond limit Hsr mended hs = both_same limit (cut_at AtLast hs) (cut_mended mended hs) (cut_same limit AtLast hs) (mended_same limit mended hs)

-- of the ids of a side, and of both
wrong_same : (limit : Option ℕ) (side : Option Side) (n : ℕ) (nodes : List (Mac × Node)) →
    list_any (is_fault_beyond limit) (wrong_at side n nodes) ≡ list_any is_a_fault (wrong_at side n nodes)
wrong_same limit side n nodes =
    counted_same limit n (WrongLan side n (astray_names side nodes)) (whichever limit (WrongLan side n (astray_names side nodes)) (λ most. refl))

misfit_same : (limit : Option ℕ) (side : Option Side) (n : ℕ) →
    list_any (is_fault_beyond limit) (misfit_at side n) ≡ list_any is_a_fault (misfit_at side n)
misfit_same limit side n = counted_same limit n (Misfit side n) (whichever limit (Misfit side n) (λ most. refl))

ids_beyond : (limit : Option ℕ) (c : Counts) (nodes : List (Mac × Node)) →
    list_any (is_fault_beyond limit) (id_verdicts c nodes) ≡ (nat_lt 0 c.a.wrong_lan || nat_lt 0 c.b.wrong_lan)
ids_beyond limit c nodes = by (are_crossed c) ∙ (tells_ids c nodes).faults
  where
    crossed : Verdict
    crossed = Crossed (record { a = c.a.wrong_lan; b = c.b.wrong_lan }) (astray_names None nodes)

    told : Bool → List Verdict
    told b = cond b (crossed ∷ []) (wrong_at (Some A) c.a.wrong_lan nodes ++ wrong_at (Some B) c.b.wrong_lan nodes)

    by : (b : Bool) → list_any (is_fault_beyond limit) (told b) ≡ list_any is_a_fault (told b)
    by true = ap (λ b. b || false) (whichever limit crossed (λ most. refl))
    by false = both_same limit (wrong_at (Some A) c.a.wrong_lan nodes) (wrong_at (Some B) c.b.wrong_lan nodes)
        (wrong_same limit (Some A) c.a.wrong_lan nodes) (wrong_same limit (Some B) c.b.wrong_lan nodes)

other_ids_beyond : (limit : Option ℕ) (c : Counts) (nodes : List (Mac × Node)) → list_any (is_fault_beyond limit) (other_id_verdicts c nodes)
    ≡ (((nat_lt 0 c.neither.wrong_lan || nat_lt 0 c.a.misfit) || nat_lt 0 c.b.misfit) || nat_lt 0 c.neither.misfit)
other_ids_beyond limit c nodes =
    both_same limit _ (misfit_at None c.neither.misfit)
    (both_same limit _ (misfit_at (Some B) c.b.misfit)
    (both_same limit (wrong_at None c.neither.wrong_lan nodes) (misfit_at (Some A) c.a.misfit)
    (wrong_same limit None c.neither.wrong_lan nodes) (misfit_same limit (Some A) c.a.misfit)) (misfit_same limit (Some B) c.b.misfit))
    (misfit_same limit None c.neither.misfit) ∙ (tells_other_ids c nodes).faults

-- of the frames that a LAN lost: as many as the sources that share them have together
share_frames : (mended : Option ℕ) (side : Side) (s : Share) (hs : List Heard) → s.frames ≤ 2 ^ 64 - 1 →
    (fold (share_with mended side) s hs).frames ≡ min (s.frames + sum_by (rest_at mended side) hs) (2 ^ 64 - 1)
share_frames mended side s [] le = omega (arith, le)
share_frames mended side s (h ∷ hs) le = by (nat_lt 0 (rest_at mended side h)) refl (λ t. share_frames mended side t hs)
  where
    with_one : Share
    with_one = record {
      frames = bounded_sum s.frames (rest_at mended side h);
      brought = bounded_sum s.brought (bounded_sum h.figures.tally.pairs (rest_at mended side h));
      sources = bounded_sum s.sources 1;
      names = names_with h.mac s.names;
    }

    by : (b : Bool) → nat_lt 0 (rest_at mended side h) ≡ b →
        ((t : Share) → t.frames ≤ 2 ^ 64 - 1 → (fold (share_with mended side) t hs).frames ≡ min (t.frames + sum_by (rest_at mended side) hs) (2 ^ 64 - 1)) →
        (fold (share_with mended side) (cond {A = Share} b with_one s) hs).frames ≡ min (s.frames + sum_by (rest_at mended side) (h ∷ hs)) (2 ^ 64 - 1)
    by true e rest = rest with_one (omega arith) ∙ omega (arith, sum_by-cons (rest_at mended side) h hs)
    by false e rest = rest s le ∙ omega (arith, sum_by-cons (rest_at mended side) h hs, ltb-false 0 (rest_at mended side h) e)

some_sum : (f : Heard → ℕ) (hs : List Heard) → nat_lt 0 (sum_by f hs) ≡ list_any (λ h. nat_lt 0 (f h)) hs
some_sum f [] = refl
some_sum f (h ∷ hs) = by (nat_lt 0 (f h)) refl (some_sum f hs)
  where
    by : (b : Bool) → nat_lt 0 (f h) ≡ b → nat_lt 0 (sum_by f hs) ≡ list_any (λ g. nat_lt 0 (f g)) hs →
        nat_lt 0 (sum_by f (h ∷ hs)) ≡ (b || list_any (λ g. nat_lt 0 (f g)) hs)
    by true e rest = lt-ltb 0 (sum_by f (h ∷ hs)) (omega (arith, sum_by-cons f h hs, ltb-true 0 (f h) e))
    by false e rest =
        let none : sum_by f (h ∷ hs) ≡ sum_by f hs = omega (arith, sum_by-cons f h hs, ltb-false 0 (f h) e) in
        ap (λ n. nat_lt 0 n) none ∙ rest

some_counted : (n : ℕ) → nat_lt 0 (min n (2 ^ 64 - 1)) ≡ nat_lt 0 n
some_counted n = by (nat_lt 0 n) refl
  where
    by : (b : Bool) → nat_lt 0 n ≡ b → nat_lt 0 (min n (2 ^ 64 - 1)) ≡ b
    by true e = lt-ltb 0 (min n (2 ^ 64 - 1)) (omega (arith, ltb-true 0 n e))
    by false e = le-ltb 0 (min n (2 ^ 64 - 1)) (omega (arith, ltb-false 0 n e))

loss_told : (limit : Option ℕ) (network : Network) (lan : Side) (hs : List Heard) →
    list_any (is_fault_beyond limit) (loss_at (cut_time network hs) lan hs) ≡ nat_lt (allowed limit) (frames_lost_of network lan hs)
loss_told limit network lan hs = any_listed (is_fault_beyond limit) (loss_by lan own (share_by mended lan hs)) ∙ by_limit limit
  where
    mended : Option ℕ
    mended = cut_time network hs

    own : Share
    own = share_by mended (other_side lan) hs

    verdict : Verdict
    verdict = Loss lan own (share_by mended lan hs).frames

    none_more : (n : ℕ) → 0 + n ≡ n
    none_more n = omega arith

    frames_are : own.frames ≡ frames_lost_of network lan hs
    frames_are = share_frames mended (other_side lan) no_share hs (omega arith) ∙ ap (λ n. min n (2 ^ 64 - 1)) (none_more (sum_by (rest_at mended (other_side lan)) hs))

    if_some : (b : Bool) → passes is_a_fault (cond b (Some verdict) None) ≡ b
    if_some true = refl
    if_some false = refl

    sources_are : nat_lt 0 own.sources ≡ nat_lt 0 (frames_lost_of network lan hs)
    sources_are =
        sym (if_some (nat_lt 0 own.sources)) ∙ sym (any_listed is_a_fault (loss_by lan own (share_by mended lan hs))) ∙ (tells_loss mended lan hs).faults
        ∙ sym (some_sum (rest_at mended (other_side lan)) hs) ∙ sym (some_counted (sum_by (rest_at mended (other_side lan)) hs))

    by_limit : (limit : Option ℕ) → passes (is_fault_beyond limit) (cond (nat_lt 0 own.sources) (Some verdict) None) ≡ nat_lt (allowed limit) (frames_lost_of network lan hs)
    by_limit None = if_some (nat_lt 0 own.sources) ∙ sources_are
    by_limit (Some most) = by (nat_lt 0 own.sources) sources_are
      where
        by : (b : Bool) → b ≡ nat_lt 0 (frames_lost_of network lan hs) → passes (is_fault_beyond (Some most)) (cond b (Some verdict) None) ≡ nat_lt most (frames_lost_of network lan hs)
        by true e = ap (λ n. nat_lt most n) frames_are
        by false e = sym (le-ltb most (frames_lost_of network lan hs) (omega (arith, ltb-false 0 (frames_lost_of network lan hs) (sym e))))

-- of all faults
repeated_beyond : (limit : Option ℕ) (hs : List Heard) →
    list_any (is_fault_beyond limit) (filter_map (λ (h : Heard). when_either h.figures.tally.repeats.a h.figures.tally.repeats.b (Repeated h.mac h.figures.tally.repeats)) hs) ≡ list_any come_again hs
repeated_beyond limit hs =
    any_map (is_fault_beyond limit) (λ h. when_either h.figures.tally.repeats.a h.figures.tally.repeats.b (Repeated h.mac h.figures.tally.repeats)) hs
    ∙ any_same _ come_again (λ h. either limit h.figures.tally.repeats.a h.figures.tally.repeats.b (Repeated h.mac h.figures.tally.repeats)
    (whichever limit (Repeated h.mac h.figures.tally.repeats) (λ most. refl))) hs

late_beyond : (limit : Option ℕ) (hs : List Heard) →
    list_any (is_fault_beyond limit) (filter_map (λ (h : Heard). when_counted (last_class h.figures.skews.classes) (Late h.mac (last_class h.figures.skews.classes))) hs) ≡ list_any come_late hs
late_beyond limit hs =
    any_map (is_fault_beyond limit) (λ h. when_counted (last_class h.figures.skews.classes) (Late h.mac (last_class h.figures.skews.classes))) hs
    ∙ any_same _ come_late (λ h. counted limit (last_class h.figures.skews.classes) (Late h.mac (last_class h.figures.skews.classes))
    (whichever limit (Late h.mac (last_class h.figures.skews.classes)) (λ most. refl))) hs

abbrev told_beyond : Option ℕ → Report → List (Mac × Node) → List Heard → List Heard → List Heard → Bool
told_beyond limit r nodes own telling counters =
    ((((((((lack_beyond limit r counters || two_told nodes) || list_any is_a_fault (sided_verdicts r.subject.network (cut_time r.subject.network telling) telling)) || wrong_told r)
    || lost_told_in r.subject nodes) || nat_lt (allowed limit) (frames_lost_of r.subject.network A telling)) || nat_lt (allowed limit) (frames_lost_of r.subject.network B telling))
    || others_told r) || list_any come_again own) || list_any come_late own

beyond_told : (limit : Option ℕ) (r : Report) (nodes : List (Mac × Node)) (own telling counters : List Heard) →
    list_any (is_fault_beyond limit) (fault_verdicts r nodes own telling counters) ≡ told_beyond limit r nodes own telling counters
beyond_told limit r nodes own telling counters =
    two _ _ _ _ (two _ _ _ _ (two _ _ _ _ (two _ _ _ _ (two _ _ _ _ (two _ _ _ _ (two _ _ _ _ (two _ _ _ _ (two _ _ _ _
    (lack_told limit _ (λ h. numbers_beyond limit h.mac h.figures.neither) (has_all_sent r.sight r.counters) counters) (two_beyond limit nodes)) (sided_beyond limit r.subject.network (cut_time r.subject.network telling) telling))
    (ids_beyond limit r.counts nodes)) (lost_beyond limit r.subject nodes)) (loss_told limit r.subject.network A telling)) (loss_told limit r.subject.network B telling))
    (other_ids_beyond limit r.counts nodes)) (repeated_beyond limit own)) (late_beyond limit own)
  where
    two : (xs ys : List Verdict) (b c : Bool) → list_any (is_fault_beyond limit) xs ≡ b → list_any (is_fault_beyond limit) ys ≡ c →
        list_any (is_fault_beyond limit) (xs ++ ys) ≡ (b || c)
    two = joined (is_fault_beyond limit)

-- in the order of the law
ids_in_order : (wa wb wn ma mb mn : Bool) → ((wa || wb) || (((wn || ma) || mb) || mn)) ≡ ((wa || ma) || ((wb || mb) || (wn || mn)))
ids_in_order wa wb wn ma mb mn = grind arith

all_in_order : (m t s w lr la lb o p q k : Bool) → ((((((((((m || t) || s) || w) || lr) || la) || lb) || o) || p) || q) || k)
    ≡ ((t || lr) || ((s || ((w || o) || (p || q))) || (m || ((la || lb) || k))))
all_in_order m t s w lr la lb o p q k = grind arith

stands_is : (limit skew : Option ℕ) (r : Report) (nodes : List (Mac × Node)) (own telling counters : List Heard) →
    (told_beyond limit r nodes own telling counters || list_any (is_wide skew) own)
    ≡ stands_beyond (record { lost = limit; skew = skew }) r nodes own telling counters
stands_is limit skew r nodes own telling counters =
    all_in_order (lack_beyond limit r counters) (two_told nodes) sided (wrong_told r) (lost_told_in r.subject nodes)
    (nat_lt (allowed limit) (frames_lost_of r.subject.network A telling)) (nat_lt (allowed limit) (frames_lost_of r.subject.network B telling)) (others_told r) (list_any come_again own)
    (list_any come_late own) (list_any (is_wide skew) own)
    ∙ ap (λ b. nodes_tell r.subject nodes || ((sided || (b || (list_any come_again own || list_any come_late own))) || (lack_beyond limit r counters
    || (loss_beyond limit r.subject.network telling || list_any (is_wide skew) own))))
    (ids_in_order (nat_lt 0 r.counts.a.wrong_lan) (nat_lt 0 r.counts.b.wrong_lan) (nat_lt 0 r.counts.neither.wrong_lan)
    (nat_lt 0 r.counts.a.misfit) (nat_lt 0 r.counts.b.misfit) (nat_lt 0 r.counts.neither.misfit))
  where
    sided : Bool
    sided = list_any is_a_fault (sided_verdicts r.subject.network (cut_time r.subject.network telling) telling)

-- by limits the faults tell so
none_judging : (skew : Option ℕ) (hs : List Heard) → list_any is_unjudged (skew_verdicts skew hs) ≡ false
none_judging None hs = refl
none_judging (Some most) hs = any_map is_unjudged (skew_on most) hs ∙ any_false _ (λ h. by h (nat_lt (1000 * most) (unsigned_abs (farthest h.figures.skews)))) hs
  where
    by : (h : Heard) (b : Bool) → passes is_unjudged (cond b (Some (Skew h.mac (farthest h.figures.skews) most)) None) ≡ false
    by h true = refl
    by h false = refl

tells_limited : (limit skew : Option ℕ) (r : Report) (nodes : List (Mac × Node)) (own telling counters : List Heard) →
    Tells (stands_beyond (record { lost = limit; skew = skew }) r nodes own telling counters)
    (limited limit (fault_verdicts r nodes own telling counters ++ skew_verdicts skew own))
tells_limited limit skew r nodes own telling counters =
    let faults = fault_verdicts r nodes own telling counters in
    record {
      judging = left_judging limit (faults ++ skew_verdicts skew own)
          (joined is_unjudged faults (skew_verdicts skew own) false false (tells_faults r nodes own telling counters).judging (none_judging skew own));
      faults = left_beyond limit (λ v. true) (faults ++ skew_verdicts skew own)
          ∙ joined (is_fault_beyond limit) faults (skew_verdicts skew own) _ _ (beyond_told limit r nodes own telling counters)
          (skews_told limit skew (λ v. true) (λ mac z most. refl) own)
          ∙ stands_is limit skew r nodes own telling counters;
    }

-- which faults are left where recorders may have made some
left_is : (limit skew : Option ℕ) (ports : Ports) (dropped : Sides) (faults : List Verdict) (own : List Heard) →
    list_any is_a_fault (left_unexplained (explained_by ports dropped faults) (limited limit (faults ++ skew_verdicts skew own)))
    ≡ (list_any (is_fault_beyond limit) (left_unexplained (explained_by ports dropped faults) faults) || list_any (is_wide skew) own)
left_is limit skew ports dropped faults own =
    any_filter is_a_fault stays (limited limit (faults ++ skew_verdicts skew own))
    ∙ left_beyond limit stays (faults ++ skew_verdicts skew own)
    ∙ joined (λ v. stays v && is_fault_beyond limit v) faults (skew_verdicts skew own) _ _ (sym (any_filter (is_fault_beyond limit) stays faults))
    (skews_told limit skew stays (λ mac z most. refl) own)
  where
    stays : Verdict → Bool
    stays v = not (is_explained (explained_by ports dropped faults) v)

-- a check ends by what is left
ends_exactly : (ports : Ports) (dropped : Sides) (why : Option Reason) (faults limits notices : List Verdict) (faulty wrong : Bool) →
    Tells faulty limits → Tells false notices → explained_by ports dropped limits ≡ explained_by ports dropped faults →
    list_any is_a_fault (left_unexplained (explained_by ports dropped faults) limits) ≡ wrong →
    EndExactly (judged_by why faulty) (any_dropped dropped && not wrong) (why_dropped ports dropped (explained_by ports dropped faults))
    (verdicts_for why (Behind ports dropped notices (settled ports dropped limits)))
ends_exactly ports dropped (Some why) faults limits notices faulty wrong told none same is_wrong = record { status = refl; reason = refl }
ends_exactly ports dropped None faults limits notices faulty wrong told none same is_wrong = by_drops (any_dropped dropped)
  where
    drops : Why
    drops = why_dropped ports dropped (explained_by ports dropped faults)

    left : List Verdict
    left = left_unexplained (explained_by ports dropped faults) limits

    ends : (f doubt : Bool) (vs : List Verdict) → Tells f vs → (f ≡ true → doubt ≡ false) →
        EndExactly (judged_by None f) doubt drops (Behind ports dropped notices vs)
    ends f doubt vs own sure =
        let all = behind_told ports dropped notices vs f own none in
        record {
          status = ap (λ (o : Option Why). cond {A = ℕ} (is_some o) 4 (cond {A = ℕ} (list_any is_a_fault (Behind ports dropped notices vs)) 3 0))
              (judged_first (Behind ports dropped notices vs) all.judging)
              ∙ ap (λ b. cond {A = ℕ} b 3 0) all.faults ∙ status_by f doubt sure;
          reason = judged_first (Behind ports dropped notices vs) all.judging ∙ reason_by f doubt sure;
        }
      where
        status_by : (f doubt : Bool) → (f ≡ true → doubt ≡ false) → cond {A = ℕ} f 3 0 ≡ status_in (judged_by None f) doubt
        status_by true doubt sure = ap (λ b. cond {A = ℕ} b 4 3) (sym (sure refl))
        status_by false doubt sure = refl

        reason_by : (f doubt : Bool) → (f ≡ true → doubt ≡ false) → None ≡ reason_for (judged_by None f) doubt drops
        reason_by true doubt sure = ap (λ b. cond {A = Option Why} b (Some drops) None) (sym (sure refl))
        reason_by false doubt sure = refl

    judging : list_any is_unjudged left ≡ false
    judging = any_left is_unjudged (λ v. not (is_explained (explained_by ports dropped faults) v)) limits told.judging

    by_faults : (f w : Bool) → faulty ≡ f → wrong ≡ w → EndExactly (judged_by None f) (true && not w) drops
        (Behind ports dropped notices (cond (f && not w) (Undecided drops ∷ left) left))
    by_faults true true e h = ends true false left (record { judging = judging; faults = is_wrong ∙ h }) (λ t. refl)
    by_faults true false e h = record { status = refl; reason = refl }
    by_faults false w e h = ends false (not w) left (record {
      judging = judging;
      faults = any_left is_a_fault (λ v. not (is_explained (explained_by ports dropped faults) v)) limits (told.faults ∙ e);
    }) (λ t. absurd cc)

    by_drops : (d : Bool) → EndExactly (judged_by None faulty) (d && not wrong) drops
        (Behind ports dropped notices (cond d (settled_by ports dropped (explained_by ports dropped limits) limits) limits))
    by_drops true =
        subst (λ e. EndExactly (judged_by None faulty) (not wrong) drops (Behind ports dropped notices (settled_by ports dropped e limits))) (sym same)
        (subst (λ (b : Bool). EndExactly (judged_by None faulty) (not wrong) drops
        (Behind ports dropped notices (cond (b && not (list_any is_a_fault left)) (Undecided drops ∷ left) left))) (sym told.faults)
        (subst (λ (b : Bool). EndExactly (judged_by None faulty) (not wrong) drops
        (Behind ports dropped notices (cond (faulty && not b) (Undecided drops ∷ left) left))) (sym is_wrong)
        (by_faults faulty wrong refl refl)))
    by_drops false = ends faulty false limits told (λ t. refl)

pub verdicts_end_limited : VerdictsEndByLimits
verdicts_end_limited r sources outside vs are =
    let nodes = sources.sources.entries in
    let ports = r.subject.ports in
    let dropped = outside.dropped in
    let lost = outside.limits.lost in
    let skew = outside.limits.skew in
    let faults = fault_verdicts r nodes are.own are.telling are.counters in
    let limits = limited lost (faults ++ skew_verdicts skew are.own) in
    let notices = notice_verdicts r nodes outside.ahead are.counters in
    let faulty = stands_beyond outside.limits r nodes are.own are.telling are.counters in
    let wrong = list_any (is_fault_beyond lost) (left_unexplained (explained_by ports dropped faults) faults) || list_any (is_wide skew) are.own in
    subst (λ (l : List Verdict). EndExactly (judged_by (why_told outside.reason r) faulty) (may_be_dropped outside.limits ports dropped faults are.own)
    (why_dropped ports dropped (explained_by ports dropped faults)) l) (sym are.verdicts)
    (ends_exactly ports dropped (why_told outside.reason r) faults limits notices faulty wrong
    (tells_limited lost skew r nodes are.own are.telling are.counters) (tells_notices r nodes outside.ahead are.counters)
    (same_explained lost skew ports dropped faults are.own) (left_is lost skew ports dropped faults are.own))

-- without limits it is as the figures tell
pub no_limits : NoLimitsLeaveEachFault
no_limits r sources outside own telling counters free heard =
    let nodes = sources.sources.entries in
    let told = told_beyond None r nodes own telling counters in
    ap (λ (l : Option ℕ). stands_beyond (record { lost = l; skew = outside.limits.skew }) r nodes own telling counters) free.no_loss
    ∙ ap (λ (k : Option ℕ). stands_beyond (record { lost = None; skew = k }) r nodes own telling counters) free.no_skew
    ∙ sym (stands_is None None r nodes own telling counters)
    ∙ ap (λ b. told || b) (any_false (is_wide None) (λ h. refl) own) ∙ or_false told
    ∙ sym (beyond_told None r nodes own telling counters)
    ∙ (tells_faults r nodes own telling counters).faults
    ∙ told_of_single r nodes own telling counters heard
