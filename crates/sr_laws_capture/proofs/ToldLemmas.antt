-- What lists of verdicts tell.
use Rattle.std.proofs.Common.{◌≡◌, ℕ, Bool, true, false, cond, ◌&&◌, ◌||◌, is_some, List, [], ◌∷◌, ◌++◌, Option, None, Some, arith, refl, sym, ap, ap₂, ◌∙◌, subst}
use Rattle.std.specs.Prelude.{ℤ, nat_lt, fold}
use Rattle.std.specs.List.{cons_option, filter_map, list_any}
use Rattle.std.proofs.lemmas.Bool.{and_parts, leb-true, lt-ltb, or_left, or_right}
use Rattle.std.proofs.lemmas.List.Folds.{list_any-append}
use Rattle.sr_frame.specs.declared.fields.Mac.{Mac}
use Rattle.sr_prp_trailer.specs.declared.trailer.Lan.{Lan}
use Rattle.sr_prp_trailer.specs.declared.trailer.Lan.TheVariants as lan
use Rattle.sr_sources.specs.declared.lane.Tail.{Tail}
use Rattle.sr_sources.specs.declared.rates.Second.{Second}
use Rattle.sr_sources.specs.declared.source.Source.{Source as Node}
use Rattle.sr_sources.specs.Kinds.{doubled_since, lost_redundancy, san_of, babbling, end_at}
use Rattle.sr_laws_capture.specs.Ending.{of_prp}
use Rattle.sr_audit.specs.declared.row.Row.{Row}
use Rattle.sr_audit.specs.declared.side.Side.{Side}
use Rattle.sr_audit.specs.declared.side.Side.TheVariants.{A, B}
use Rattle.sr_audit.specs.declared.source.Figures.{Figures}
use Rattle.sr_audit.specs.declared.tally.Sides.{Sides}
use Rattle.sr_audit.specs.Faults.{last_class}
use Rattle.sr_audit.specs.Lanes.{other_side}
use Rattle.sr_audit.specs.Shown.{bounded_sum}
use Rattle.sr_capture_audit.specs.declared.counts.Counts.{Counts}
use Rattle.sr_capture_audit.specs.declared.figures.Report.{Report}
use Rattle.sr_capture_audit.specs.declared.network.Network.{Network}
use Rattle.sr_capture_audit.specs.declared.network.Network.TheVariants.{Prp, Hsr}
use Rattle.sr_capture_audit.specs.declared.network.Ports.{Ports}
use Rattle.sr_capture_audit.specs.declared.network.Ports.TheVariants.{Two, Mirror}
use Rattle.sr_capture_audit.specs.declared.network.Subject.{Subject}
use Rattle.sr_capture_audit.specs.Faults.{shows_missing}
use Rattle.sr_verdict.specs.declared.heard.Heard.{Heard}
use Rattle.sr_verdict.specs.declared.heard.When.{When}
use Rattle.sr_verdict.specs.declared.heard.When.TheVariants.{AtLast, At}
use Rattle.sr_verdict.specs.declared.place.Place.{Place}
use Rattle.sr_verdict.specs.declared.shared.Cut.{Cut}
use Rattle.sr_verdict.specs.declared.shared.Share.{Share}
use Rattle.sr_verdict.specs.declared.verdict.Verdict.{Verdict}
use Rattle.sr_verdict.specs.declared.verdict.Verdict.TheVariants.{Unjudged, BothLost, TwoSenders, CutRing, DeadPort, Crossed, LostRedundancy, Loss, WrongLan, Misfit, Repeated, Late, Skew, BothLostWithin, LossWithin, RecorderDropped, Restart, Babbling, Unseen, San, Clock}
use Rattle.sr_verdict.specs.declared.why.Why.{Why}
use Rattle.sr_verdict.specs.Drops.{dropped_told}
use Rattle.sr_verdict.specs.Heards.{row_in, row_when, row_mended, rest_at}
use Rattle.sr_verdict.specs.Mending.{cut_time}
use Rattle.sr_verdict.specs.Places.{cut_place}
use Rattle.sr_verdict.specs.Shared.{no_share, share_with, share_by, cut_by_row, cut_with, cut_in}
use Rattle.sr_verdict.specs.Names.{names_with}
use Rattle.sr_verdict.specs.Verdicts.{two_senders_told, lost_told, babbling_told, san_told, told_lan, in_prp, astray_names, when_counted, when_either, dead_by, verdict_on, verdicts_where, as_list, cut_told, cut_at, cut_mended, sided_verdicts, loss_at, are_crossed, wrong_at, misfit_at, id_verdicts, other_id_verdicts, has_all_sent, has_part, fault_verdicts, clock_told, notice_verdicts, is_a_fault, reason_in}

-- tests of lists
pub same_tests : {X : Type 0} (p q : X → Bool) → ((x : X) → p x ≡ q x) → (xs : List X) → list_any p xs ≡ list_any q xs
same_tests p q same [] = refl
same_tests p q same (x ∷ xs) = ap₂ (λ a b. a || b) (same x) (same_tests p q same xs)

interchanged : (a b c d : Bool) → ((a || b) || (c || d)) ≡ ((a || c) || (b || d))
interchanged true b c d = refl
interchanged false true true d = refl
interchanged false true false d = refl
interchanged false false c d = refl

pub any_either : {X : Type 0} (p q : X → Bool) (xs : List X) → list_any (λ x. p x || q x) xs ≡ (list_any p xs || list_any q xs)
any_either p q [] = refl
any_either p q (x ∷ xs) = ap (λ b. (p x || q x) || b) (any_either p q xs) ∙ interchanged (p x) (q x) (list_any p xs) (list_any q xs)

pub any_none : {X : Type 0} (p : X → Bool) → ((x : X) → p x ≡ false) → (xs : List X) → list_any p xs ≡ false
any_none p none [] = refl
any_none p none (x ∷ xs) = ap₂ (λ a b. a || b) (none x) (any_none p none xs)

pub or_none : (b c : Bool) → c ≡ false → (b || c) ≡ b
or_none true c e = refl
or_none false c e = e

-- none says that nothing can be judged, and some is a fault or none is
abbrev pub is_unjudged : Verdict → Bool
is_unjudged v = is_some (reason_in (v ∷ []))

pub record Tells (faulty : Bool) (vs : List Verdict) : Type 0 where
  pub judging : list_any is_unjudged vs ≡ false
  pub faults : list_any is_a_fault vs ≡ faulty

pub tells_none : Tells false []
tells_none = record { judging = refl; faults = refl }

same_first : (v : Verdict) (xs ys : List Verdict) → reason_in (v ∷ xs) ≡ None → reason_in (v ∷ ys) ≡ None
same_first (Unjudged why) xs ys e = e
same_first (BothLost mac numbers) xs ys e = refl
same_first (TwoSenders mac since) xs ys e = refl
same_first (CutRing cut place) xs ys e = refl
same_first (DeadPort mac row) xs ys e = refl
same_first (Crossed copies names) xs ys e = refl
same_first (LostRedundancy mac lan tail) xs ys e = refl
same_first (Loss lan share other) xs ys e = refl
same_first (WrongLan side copies names) xs ys e = refl
same_first (Misfit side frames) xs ys e = refl
same_first (Repeated mac copies) xs ys e = refl
same_first (Late mac pairs) xs ys e = refl
same_first (Skew mac skew most) xs ys e = refl
same_first (BothLostWithin mac numbers) xs ys e = refl
same_first (LossWithin lan share other) xs ys e = refl
same_first (RecorderDropped lan packets) xs ys e = refl
same_first (Restart mac times) xs ys e = refl
same_first (Babbling mac second) xs ys e = refl
same_first (Unseen mac numbers) xs ys e = refl
same_first (San mac lan frames) xs ys e = refl
same_first (Clock ahead) xs ys e = refl

pub judged_first : (vs : List Verdict) → list_any is_unjudged vs ≡ false → reason_in vs ≡ None
judged_first [] e = refl
judged_first (v ∷ vs) e = same_first v [] vs (none_of (reason_in (v ∷ [])) (first_false (is_unjudged v) (list_any is_unjudged vs) e))
  where
    none_of : (o : Option Why) → is_some o ≡ false → o ≡ None
    none_of None h = refl
    none_of (Some why) h = absurd cc

    first_false : (a b : Bool) → (a || b) ≡ false → a ≡ false
    first_false true b h = h
    first_false false b h = refl

-- of two lists
pub tells_both : (b c : Bool) (xs ys : List Verdict) → Tells b xs → Tells c ys → Tells (b || c) (xs ++ ys)
tells_both b c xs ys t u = record {
  judging = list_any-append is_unjudged xs ys ∙ ap₂ (λ x y. x || y) t.judging u.judging;
  faults = list_any-append is_a_fault xs ys ∙ ap₂ (λ x y. x || y) t.faults u.faults;
}

-- of a verdict for each of the sources that have one
put_first : (o : Option Verdict) (vs : List Verdict) → as_list o ++ vs ≡ cons_option o vs
put_first None vs = refl
put_first (Some v) vs = refl

tells_each : {X : Type 0} (on : X → Option Verdict) (test : X → Bool) → ((h : X) → Tells (test h) (as_list (on h))) → (hs : List X) →
    Tells (list_any test hs) (filter_map on hs)
tells_each on test each [] = tells_none
tells_each on test each (h ∷ hs) =
    subst (λ (vs : List Verdict). Tells (test h || list_any test hs) vs) (put_first (on h) (filter_map on hs))
    (tells_both (test h) (list_any test hs) (as_list (on h)) (filter_map on hs) (each h) (tells_each on test each hs))

none_each : {X : Type 0} (on : X → Option Verdict) → ((h : X) → Tells false (as_list (on h))) → (hs : List X) → Tells false (filter_map on hs)
none_each on each [] = tells_none
none_each on each (h ∷ hs) =
    subst (λ (vs : List Verdict). Tells false vs) (put_first (on h) (filter_map on hs))
    (tells_both false false (as_list (on h)) (filter_map on hs) (each h) (none_each on each hs))

-- of a count
counted : (n : ℕ) (v : Verdict) → Tells true (v ∷ []) → Tells (nat_lt 0 n) (as_list (when_counted n v))
counted n v told = by (nat_lt 0 n)
  where
    by : (b : Bool) → Tells b (as_list (cond b (Some v) None))
    by true = told
    by false = tells_none

uncounted : (n : ℕ) (v : Verdict) → Tells false (v ∷ []) → Tells false (as_list (when_counted n v))
uncounted n v told = by (nat_lt 0 n)
  where
    by : (b : Bool) → Tells false (as_list (cond b (Some v) None))
    by true = told
    by false = tells_none

either : (n m : ℕ) (v : Verdict) → Tells true (v ∷ []) → Tells (nat_lt 0 n || nat_lt 0 m) (as_list (when_either n m v))
either n m v told = by (nat_lt 0 n)
  where
    by : (b : Bool) → Tells (b || nat_lt 0 m) (as_list (cond b (Some v) (when_counted m v)))
    by true = told
    by false = counted m v told

a_fault : (v : Verdict) → reason_in (v ∷ []) ≡ None → is_a_fault v ≡ true → Tells true (v ∷ [])
a_fault v e f = record { judging = ap (λ (o : Option Why). is_some o || false) e; faults = ap (λ b. b || false) f }

a_notice : (v : Verdict) → reason_in (v ∷ []) ≡ None → is_a_fault v ≡ false → Tells false (v ∷ [])
a_notice v e f = record { judging = ap (λ (o : Option Why). is_some o || false) e; faults = ap (λ b. b || false) f }

-- of a kind of verdicts on sources, where a test holds
tells_where : (k : _) (test : Heard → Bool) → ((h : Heard) → Tells (test h) (as_list (verdict_on k h))) → (b : Bool) (hs : List Heard) →
    Tells (b && list_any test hs) (verdicts_where b k hs)
tells_where k test each false hs = tells_none
tells_where k test each true hs = tells_each (verdict_on k) test each hs

none_where : (k : _) → ((h : Heard) → Tells false (as_list (verdict_on k h))) → (b : Bool) (hs : List Heard) →
    Tells false (verdicts_where b k hs)
none_where k each false hs = tells_none
none_where k each true hs = none_each (verdict_on k) each hs

-- of one source, at last, or while a ring was cut that was mended
abbrev is_last : Heard → Bool
is_last h = is_some (row_in h)

abbrev pub is_sided : Option ℕ → Heard → Bool
is_sided mended h = is_some (row_in h) || is_some (row_mended mended h)

tells_dead : (h : Heard) → Tells (is_last h) (as_list (dead_by h.mac (row_in h)))
tells_dead h = by (row_in h)
  where
    by : (o : Option Row) → Tells (is_some o) (as_list (dead_by h.mac o))
    by None = tells_none
    by (Some row) = a_fault (DeadPort h.mac row) refl refl

abbrev pub shows_repeated : Figures → Bool
shows_repeated f = nat_lt 0 f.tally.repeats.a || nat_lt 0 f.tally.repeats.b

abbrev pub shows_late : Figures → Bool
shows_late f = nat_lt 0 (last_class f.skews.classes)

-- of the notices
pub tells_dropped : (ports : Ports) (dropped : Sides) → Tells false (dropped_told ports dropped)
tells_dropped Two dropped = tells_both false false _ _
    (uncounted dropped.a (RecorderDropped (Some A) dropped.a) (a_notice (RecorderDropped (Some A) dropped.a) refl refl))
    (uncounted dropped.b (RecorderDropped (Some B) dropped.b) (a_notice (RecorderDropped (Some B) dropped.b) refl refl))
tells_dropped Mirror dropped =
    uncounted dropped.a (RecorderDropped None dropped.a) (a_notice (RecorderDropped None dropped.a) refl refl)

tells_clock : (ahead : Option ℤ) → Tells false (as_list (clock_told ahead))
tells_clock None = tells_none
tells_clock (Some ahead) = a_notice (Clock ahead) refl refl

-- of sources by their frames
tells_two : (ports : Ports) (nodes : List (Mac × Node)) →
    Tells (list_any (λ e. is_some (doubled_since e.1)) nodes) (filter_map (λ (e : Mac × Node). two_senders_told e.0 (doubled_since e.1)) nodes)
tells_two ports nodes =
    tells_each (λ e. two_senders_told e.0 (doubled_since e.1)) (λ e. is_some (doubled_since e.1)) (λ e. by e.0 (doubled_since e.1)) nodes
  where
    by : (mac : Mac) (o : Option ℕ) → Tells (is_some o) (as_list (two_senders_told mac o))
    by mac None = tells_none
    by mac (Some since) = a_fault (TwoSenders mac since) refl refl

tells_lost : (subject : Subject) (nodes : List (Mac × Node)) →
    Tells (of_prp subject.network (list_any (λ e. is_some (lost_redundancy e.1)) nodes)) (in_prp subject.network (filter_map (λ (e : Mac × Node). lost_told subject.ports e.0 (lost_redundancy e.1)) nodes))
tells_lost subject nodes = by_network subject.network
  where
    by : (mac : Mac) (o : Option (Lan × Tail)) → Tells (is_some o) (as_list (lost_told subject.ports mac o))
    by mac None = tells_none
    by mac (Some lost) = a_fault (LostRedundancy mac (told_lan subject.ports lost.0) lost.1) refl refl

    by_network : (network : Network) → Tells (of_prp network (list_any (λ e. is_some (lost_redundancy e.1)) nodes))
        (in_prp network (filter_map (λ (e : Mac × Node). lost_told subject.ports e.0 (lost_redundancy e.1)) nodes))
    by_network Prp = tells_each (λ e. lost_told subject.ports e.0 (lost_redundancy e.1)) (λ e. is_some (lost_redundancy e.1))
        (λ e. by e.0 (lost_redundancy e.1)) nodes
    by_network Hsr = tells_none

none_babbling : (ports : Ports) (nodes : List (Mac × Node)) → Tells false (filter_map (λ (e : Mac × Node). babbling_told e.0 (babbling (end_at lan.A nodes) (end_at lan.B nodes) e.1)) nodes)
none_babbling ports nodes =
    none_each (λ e. babbling_told e.0 (babbling (end_at lan.A nodes) (end_at lan.B nodes) e.1)) (λ e. by e.0 (babbling (end_at lan.A nodes) (end_at lan.B nodes) e.1)) nodes
  where
    by : (mac : Mac) (o : Option Second) → Tells false (as_list (babbling_told mac o))
    by mac None = tells_none
    by mac (Some second) = a_notice (Babbling mac second) refl refl

none_san : (subject : Subject) (nodes : List (Mac × Node)) → Tells false (in_prp subject.network (filter_map (λ (e : Mac × Node). san_told subject.ports e.0 (san_of e.1)) nodes))
none_san subject nodes = by_network subject.network
  where
    by : (mac : Mac) (o : Option (Lan × ℕ)) → Tells false (as_list (san_told subject.ports mac o))
    by mac None = tells_none
    by mac (Some san) = a_notice (San mac (told_lan subject.ports san.0) san.1) refl refl

    by_network : (network : Network) → Tells false (in_prp network (filter_map (λ (e : Mac × Node). san_told subject.ports e.0 (san_of e.1)) nodes))
    by_network Prp = none_each (λ e. san_told subject.ports e.0 (san_of e.1)) (λ e. by e.0 (san_of e.1)) nodes
    by_network Hsr = tells_none

pub tells_notices : (r : Report) (nodes : List (Mac × Node)) (ahead : Option ℤ) (hs : List Heard) → Tells false (notice_verdicts r nodes ahead hs)
tells_notices r nodes ahead hs =
    tells_both false false _ _ (tells_both false false _ _
    (tells_both false false _ _ (tells_both false false _ _ (none_where _ (λ h. uncounted h.figures.restarts (Restart h.mac h.figures.restarts)
    (a_notice (Restart h.mac h.figures.restarts) refl refl)) (has_all_sent r.sight r.counters) hs)
    (none_babbling r.subject.ports nodes))
    (none_where _ (λ h. uncounted h.figures.neither (Unseen h.mac h.figures.neither)
    (a_notice (Unseen h.mac h.figures.neither) refl refl)) (has_part r.sight r.counters) hs)) (none_san r.subject nodes)) (tells_clock ahead)

-- of the cut of a ring
abbrev is_cut : When → Heard → Bool
is_cut when h = is_some (row_when when h)

cut_more : (when : When) (c : Option Cut) (hs : List Heard) → is_some (fold (cut_with when) c hs) ≡ (is_some c || list_any (is_cut when) hs)
cut_more when None [] = refl
cut_more when (Some c) [] = refl
cut_more when c (h ∷ hs) = cut_more when (cut_with when c h) hs ∙ by c (row_when when h)
  where
    by : (c : Option Cut) (o : Option Row) →
        (is_some (cut_by_row when c o) || list_any (is_cut when) hs) ≡ (is_some c || (is_some o || list_any (is_cut when) hs))
    by None None = refl
    by None (Some row) = refl
    by (Some c) None = refl
    by (Some c) (Some row) = refl

tells_cut : (place : Place) (c : Option Cut) → Tells (is_some c) (as_list (cut_told place c))
tells_cut place None = tells_none
tells_cut place (Some c) = a_fault (CutRing c place) refl refl

tells_cut_at : (when : When) (hs : List Heard) → Tells (list_any (is_cut when) hs) (cut_at when hs)
tells_cut_at when hs = subst (λ (b : Bool). Tells b (cut_at when hs)) (cut_more when None hs)
    (tells_cut (cut_place when hs) (cut_in when hs))

tells_mended : (mended : Option ℕ) (hs : List Heard) → Tells (list_any (λ h. is_some (row_mended mended h)) hs) (cut_mended mended hs)
tells_mended None hs = subst (λ (b : Bool). Tells b []) (sym (any_none (λ (h : Heard). false) (λ h. refl) hs)) tells_none
tells_mended (Some time) hs = tells_cut_at (At time) hs

tells_lone : (mended : Option ℕ) (hs : List Heard) → Tells (list_any (is_sided mended) hs) (cut_at AtLast hs ++ cut_mended mended hs)
tells_lone mended hs =
    subst (λ (b : Bool). Tells b (cut_at AtLast hs ++ cut_mended mended hs))
    (sym (any_either is_last (λ h. is_some (row_mended mended h)) hs))
    (tells_both (list_any is_last hs) (list_any (λ h. is_some (row_mended mended h)) hs) (cut_at AtLast hs) (cut_mended mended hs)
    (tells_cut_at AtLast hs) (tells_mended mended hs))

pub tells_sided : (network : Network) (hs : List Heard) →
    Tells (list_any (is_sided (cut_time network hs)) hs) (sided_verdicts network (cut_time network hs) hs)
tells_sided Prp hs =
    subst (λ (b : Bool). Tells b (sided_verdicts Prp None hs))
    (same_tests is_last (is_sided None) (λ h. sym (or_none (is_last h) false refl)) hs)
    (tells_each (λ h. dead_by h.mac (row_in h)) is_last tells_dead hs)
tells_sided Hsr hs = tells_lone (cut_time Hsr hs) hs

-- of the frames that a LAN lost
abbrev pub has_rest : Option ℕ → Side → Heard → Bool
has_rest mended side h = nat_lt 0 (rest_at mended side h)

share_more : (mended : Option ℕ) (side : Side) (s : Share) (hs : List Heard) →
    nat_lt 0 (fold (share_with mended side) s hs).sources ≡ (nat_lt 0 s.sources || list_any (has_rest mended side) hs)
share_more mended side s [] = by (nat_lt 0 s.sources)
  where
    by : (b : Bool) → b ≡ (b || false)
    by true = refl
    by false = refl
share_more mended side s (h ∷ hs) = share_more mended side (share_with mended side s h) hs ∙ by (has_rest mended side h)
  where
    one_more : (n : ℕ) → nat_lt 0 (bounded_sum n 1) ≡ true
    one_more n = lt-ltb 0 (bounded_sum n 1) (omega arith)

    with_one : Share
    with_one = record {
      frames = bounded_sum s.frames (rest_at mended side h);
      brought = bounded_sum s.brought (bounded_sum h.figures.tally.pairs (rest_at mended side h));
      sources = bounded_sum s.sources 1;
      names = names_with h.mac s.names;
    }

    by : (b : Bool) → (nat_lt 0 (cond {A = Share} b with_one s).sources || list_any (has_rest mended side) hs)
        ≡ (nat_lt 0 s.sources || (b || list_any (has_rest mended side) hs))
    by true = ap (λ t. t || list_any (has_rest mended side) hs) (one_more s.sources) ∙ sym (or_right (nat_lt 0 s.sources) true refl)
    by false = refl

pub tells_loss : (mended : Option ℕ) (lan : Side) (hs : List Heard) →
    Tells (list_any (has_rest mended (other_side lan)) hs) (loss_at mended lan hs)
tells_loss mended lan hs =
    let own = share_by mended (other_side lan) hs in
    let other = share_by mended lan hs in
    subst (λ (b : Bool). Tells b (loss_at mended lan hs)) (share_more mended (other_side lan) no_share hs)
    (counted own.sources (Loss lan own other.frames) (a_fault (Loss lan own other.frames) refl refl))

-- of ids of the other LAN, and of trailers that are none
tells_wrong : (side : Option Side) (n : ℕ) (nodes : List (Mac × Node)) → Tells (nat_lt 0 n) (wrong_at side n nodes)
tells_wrong side n nodes =
    counted n (WrongLan side n (astray_names side nodes)) (a_fault (WrongLan side n (astray_names side nodes)) refl refl)

tells_misfit : (side : Option Side) (n : ℕ) → Tells (nat_lt 0 n) (misfit_at side n)
tells_misfit side n = counted n (Misfit side n) (a_fault (Misfit side n) refl refl)

pub tells_ids : (c : Counts) (nodes : List (Mac × Node)) → Tells (nat_lt 0 c.a.wrong_lan || nat_lt 0 c.b.wrong_lan) (id_verdicts c nodes)
tells_ids c nodes = by (are_crossed c) refl
  where
    crossed : Verdict
    crossed = Crossed (record { a = c.a.wrong_lan; b = c.b.wrong_lan }) (astray_names None nodes)

    some_wrong : are_crossed c ≡ true → nat_lt 0 c.a.wrong_lan ≡ true
    some_wrong e = lt-ltb 0 c.a.wrong_lan (omega (arith, leb-true 3 c.a.wrong_lan (and_parts _ _ e).0))

    by : (b : Bool) → are_crossed c ≡ b → Tells (nat_lt 0 c.a.wrong_lan || nat_lt 0 c.b.wrong_lan)
        (cond b (crossed ∷ []) (wrong_at (Some A) c.a.wrong_lan nodes ++ wrong_at (Some B) c.b.wrong_lan nodes))
    by true e = subst (λ (b : Bool). Tells b (crossed ∷ [])) (sym (or_left (nat_lt 0 c.a.wrong_lan) (nat_lt 0 c.b.wrong_lan) (some_wrong e)))
        (a_fault crossed refl refl)
    by false e = tells_both (nat_lt 0 c.a.wrong_lan) (nat_lt 0 c.b.wrong_lan) _ _ (tells_wrong (Some A) c.a.wrong_lan nodes)
        (tells_wrong (Some B) c.b.wrong_lan nodes)

pub tells_other_ids : (c : Counts) (nodes : List (Mac × Node)) →
    Tells (((nat_lt 0 c.neither.wrong_lan || nat_lt 0 c.a.misfit) || nat_lt 0 c.b.misfit) || nat_lt 0 c.neither.misfit)
    (other_id_verdicts c nodes)
tells_other_ids c nodes =
    tells_both _ (nat_lt 0 c.neither.misfit) _ _
    (tells_both _ (nat_lt 0 c.b.misfit) _ _
    (tells_both (nat_lt 0 c.neither.wrong_lan) (nat_lt 0 c.a.misfit) _ _ (tells_wrong None c.neither.wrong_lan nodes) (tells_misfit (Some A) c.a.misfit))
    (tells_misfit (Some B) c.b.misfit)) (tells_misfit None c.neither.misfit)

-- of all faults
abbrev pub wrong_told : Report → Bool
wrong_told r = nat_lt 0 r.counts.a.wrong_lan || nat_lt 0 r.counts.b.wrong_lan

abbrev pub others_told : Report → Bool
others_told r =
    ((nat_lt 0 r.counts.neither.wrong_lan || nat_lt 0 r.counts.a.misfit) || nat_lt 0 r.counts.b.misfit) || nat_lt 0 r.counts.neither.misfit

abbrev pub mended_in : Report → List Heard → Option ℕ
mended_in r telling = cut_time r.subject.network telling

abbrev pub told_by_figures : Report → List Heard → List Heard → List Heard → Bool
told_by_figures r own telling counters =
    (((((((has_all_sent r.sight r.counters && list_any (λ h. shows_missing h.figures) counters) || list_any (is_sided (mended_in r telling)) telling) || wrong_told r)
    || list_any (has_rest (mended_in r telling) B) telling) || list_any (has_rest (mended_in r telling) A) telling) || others_told r) || list_any (λ h. shows_repeated h.figures) own)
    || list_any (λ h. shows_late h.figures) own

-- with what the frames of sources tell
abbrev pub two_told : List (Mac × Node) → Bool
two_told nodes = list_any (λ e. is_some (doubled_since e.1)) nodes

abbrev pub lost_told_in : Subject → List (Mac × Node) → Bool
lost_told_in subject nodes = of_prp subject.network (list_any (λ e. is_some (lost_redundancy e.1)) nodes)

abbrev pub told_faulty : Report → List (Mac × Node) → List Heard → List Heard → List Heard → Bool
told_faulty r nodes own telling counters =
    (((((((((has_all_sent r.sight r.counters && list_any (λ h. shows_missing h.figures) counters) || two_told nodes)
    || list_any (is_sided (mended_in r telling)) telling) || wrong_told r) || lost_told_in r.subject nodes)
    || list_any (has_rest (mended_in r telling) B) telling) || list_any (has_rest (mended_in r telling) A) telling) || others_told r) || list_any (λ h. shows_repeated h.figures) own)
    || list_any (λ h. shows_late h.figures) own

pub tells_faults : (r : Report) (nodes : List (Mac × Node)) (own telling counters : List Heard) →
    Tells (told_faulty r nodes own telling counters) (fault_verdicts r nodes own telling counters)
tells_faults r nodes own telling counters =
    tells_both _ _ _ _ (tells_both _ _ _ _ (tells_both _ _ _ _ (tells_both _ _ _ _ (tells_both _ _ _ _ (tells_both _ _ _ _ (tells_both _ _ _ _
    (tells_both _ _ _ _ (tells_both _ _ _ _
    (tells_where _ (λ h. shows_missing h.figures) (λ h. counted h.figures.neither (BothLost h.mac h.figures.neither)
    (a_fault (BothLost h.mac h.figures.neither) refl refl)) (has_all_sent r.sight r.counters) counters)
    (tells_two r.subject.ports nodes)) (tells_sided r.subject.network telling)) (tells_ids r.counts nodes)) (tells_lost r.subject nodes))
    (tells_loss (mended_in r telling) A telling)) (tells_loss (mended_in r telling) B telling)) (tells_other_ids r.counts nodes))
    (tells_each (λ h. when_either h.figures.tally.repeats.a h.figures.tally.repeats.b (Repeated h.mac h.figures.tally.repeats))
    (λ h. shows_repeated h.figures) (λ h. either h.figures.tally.repeats.a h.figures.tally.repeats.b (Repeated h.mac h.figures.tally.repeats)
    (a_fault (Repeated h.mac h.figures.tally.repeats) refl refl)) own))
    (tells_each (λ h. when_counted (last_class h.figures.skews.classes) (Late h.mac (last_class h.figures.skews.classes)))
    (λ h. shows_late h.figures) (λ h. counted (last_class h.figures.skews.classes) (Late h.mac (last_class h.figures.skews.classes))
    (a_fault (Late h.mac (last_class h.figures.skews.classes)) refl refl)) own)
