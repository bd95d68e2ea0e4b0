-- Verdicts end a check as the figures judge.
use Rattle.std.proofs.Common.{◌≡◌, ℕ, ◌-◌, inl, inr, Bool, true, false, cond, ◌&&◌, ◌||◌, is_some, List, [], ◌∷◌, ◌++◌, Option, None, Some, arith, refl, sym, ap, ap₂, ◌∙◌, subst}
use Rattle.std.specs.Prelude.{nat_lt, nat_le, not, filter}
use Rattle.std.specs.List.{list_any, filter_map}
use Rattle.std.specs.Map.{lookup}
use Rattle.std.proofs.lemmas.Bool.{or_left, or_right}
use Rattle.std.proofs.lemmas.List.{append-nil}
use Rattle.sr_frame.specs.Addresses.{mac_eq}
use Rattle.sr_frame.specs.declared.fields.Mac.{Mac}
use Rattle.sr_sources.specs.declared.source.Source.{Source as Node}
use Rattle.sr_sources.specs.Kinds.{doubled_since}
use Rattle.sr_audit.specs.declared.audit.Audit.{Audit}
use Rattle.sr_audit.specs.declared.row.Row.{Row}
use Rattle.sr_audit.specs.declared.side.Side.{Side}
use Rattle.sr_audit.specs.declared.side.Side.TheVariants.{A, B}
use Rattle.sr_audit.specs.declared.source.Figures.{Figures}
use Rattle.sr_audit.specs.declared.source.Source.{Source}
use Rattle.sr_audit.specs.declared.tally.Sides.{Sides}
use Rattle.sr_audit.specs.declared.span.Spans.{Spans}
use Rattle.sr_audit.specs.Faults.{tells_of_faults}
use Rattle.sr_audit.specs.Shown.{figures_of}
use Rattle.sr_capture_audit.specs.declared.figures.Report.{Report}
use Rattle.sr_capture_audit.specs.declared.flows.Sight.{Sight}
use Rattle.sr_capture_audit.specs.declared.flows.Sight.TheVariants.{All, Part}
use Rattle.sr_capture_audit.specs.declared.judgement.Judgement.{Judgement}
use Rattle.sr_capture_audit.specs.declared.judgement.Judgement.TheVariants.{Sound, Faulty, Unjudged}
use Rattle.sr_capture_audit.specs.declared.judgement.Reason.{Reason}
use Rattle.sr_capture_audit.specs.declared.network.Ports.{Ports}
use Rattle.sr_capture_audit.specs.Faults.{shows_lost, have_lost, shows_missing, have_missing, lost_told, missing_told, have_faults, judged_have_lost, counters_have_missing, has_faults}
use Rattle.sr_capture_audit.specs.Judging.{reason_of, judged, network_judgement, check_status}
use Rattle.sr_verdict.specs.declared.heard.Heard.{Heard}
use Rattle.sr_verdict.specs.declared.verdict.Verdict.{Verdict}
use Rattle.sr_verdict.specs.Heards.{AreHeard, only_at, lone_row, lasting, row_in, closed_in, row_mended, row_frames}
use Rattle.sr_verdict.specs.declared.why.Why.{Why}
use Rattle.sr_verdict.specs.declared.verdict.Verdict.TheVariants.{Unjudged as Undecided}
use Rattle.sr_verdict.specs.Drops.{explained_by, is_explained, left_unexplained, any_dropped, why_dropped, settled_by, settled, dropped_told}
use Rattle.sr_verdict.specs.Limits.{fault_beyond, notice_in_place, limited, skew_verdicts}
use Rattle.sr_verdict.specs.Told.{why_of, why_told, verdicts_for}
use Rattle.sr_verdict.specs.Verdicts.{is_doubled_at, is_doubled, single_in, IsSingleHearing, has_all_sent, telling_entries, AreHeardIn, fault_verdicts, notice_verdicts, is_a_fault}
use Rattle.sr_laws_capture.specs.Ending.{nodes_tell, judged_with, judged_beside, by_figures, EndAs, EndBy, VerdictsEndAsJudged}
use Rattle.sr_laws_capture.specs.Exact.{judged_by}
use Rattle.sr_laws_capture.proofs.ToldLemmas.{same_tests, any_either, any_none, or_none, mended_in, Tells, tells_both, is_sided, has_rest, shows_repeated, shows_late, told_by_figures, two_told, lost_told_in, wrong_told, others_told, told_faulty, tells_faults, tells_notices, tells_dropped, is_unjudged, judged_first}

-- what is heard of sources has the figures of these
heard_any : (test : Figures → Bool) (spans : Spans) (es : List (Mac × Source)) (hs : List Heard) → AreHeard spans es hs →
    list_any (λ h. test h.figures) hs ≡ list_any (λ e. test (figures_of e.1)) es
heard_any test spans [] hs are = ap (list_any (λ h. test h.figures)) are
heard_any test spans (e ∷ es) hs are =
    ap (list_any (λ h. test h.figures)) are.4 ∙ ap (λ b. test (figures_of e.1) || b) (heard_any test spans es are.2 are.5)

-- rows of a source that has frames by their side alone
abbrev IsLone : Figures → Option Row → Type 0
IsLone f None = Unit {0}
IsLone f (Some row) = nat_lt 0 (only_at row.side f) ≡ true

lone_is : (f : Figures) (o : Option Row) → IsLone f (lone_row f o)
lone_is f None = tt
lone_is f (Some row) = by (nat_lt 0 (only_at row.side f)) refl
  where
    by : (b : Bool) → nat_lt 0 (only_at row.side f) ≡ b → IsLone f (cond b (Some row) None)
    by true e = e
    by false e = tt

lone_lasting : (f : Figures) (time : ℕ) (o : Option Row) → IsLone f o → IsLone f (lasting time o)
lone_lasting f time None lone = tt
lone_lasting f time (Some row) lone = by (nat_le row.since time && nat_le time row.until)
  where
    by : (b : Bool) → IsLone f (cond b (Some row) None)
    by true = lone
    by false = tt

lone_mended : (mended : Option ℕ) (h : Heard) → IsLone h.figures (row_mended mended h)
lone_mended None h = tt
lone_mended (Some time) h = lone_lasting h.figures time (closed_in h) (lone_is h.figures h.was_sided)

-- a source has such rows, or frames by a side alone besides them, exactly where it has frames by a side alone
abbrev row_or_rest : Figures → Option Row → Option Row → Bool
row_or_rest f o p =
    (is_some o || is_some p) || (nat_lt 0 (only_at A f - row_frames A o - row_frames A p) || nat_lt 0 (only_at B f - row_frames B o - row_frames B p))

lone_or_rest : (f : Figures) (o p : Option Row) → IsLone f o → IsLone f p → row_or_rest f o p ≡ shows_lost f
lone_or_rest f o p = by o p
  where
    less_none : (n : ℕ) → n - 0 - 0 ≡ n
    less_none n = omega arith

    at_side : (side : Side) → nat_lt 0 (only_at side f) ≡ true → shows_lost f ≡ true
    at_side A e = or_left (nat_lt 0 (only_at A f)) (nat_lt 0 (only_at B f)) e
    at_side B e = or_right (nat_lt 0 (only_at A f)) (nat_lt 0 (only_at B f)) e

    by : (o p : Option Row) → IsLone f o → IsLone f p → row_or_rest f o p ≡ shows_lost f
    by (Some row) p lone any = sym (at_side row.side lone)
    by None (Some row) none lone = sym (at_side row.side lone)
    by None None none nothing = ap₂ (λ n m. nat_lt 0 n || nat_lt 0 m) (less_none (only_at A f)) (less_none (only_at B f))

pub lost_heard : (mended : Option ℕ) (hs : List Heard) →
    (list_any (is_sided mended) hs || (list_any (has_rest mended A) hs || list_any (has_rest mended B) hs))
    ≡ list_any (λ h. shows_lost h.figures) hs
lost_heard mended hs =
    ap (λ b. list_any (is_sided mended) hs || b) (sym (any_either (has_rest mended A) (has_rest mended B) hs))
    ∙ sym (any_either (is_sided mended) (λ h. has_rest mended A h || has_rest mended B h) hs)
    ∙ same_tests (λ h. is_sided mended h || (has_rest mended A h || has_rest mended B h)) (λ h. shows_lost h.figures)
    (λ h. lone_or_rest h.figures (row_in h) (row_mended mended h) (lone_is h.figures h.sided) (lone_mended mended h)) hs

-- the faults that figures tell of by themselves
five_ways : (a b ra rb n l : Bool) → (a || (b || (ra || (rb || (n || l))))) ≡ ((a || b) || (n || ((ra || rb) || l)))
five_ways true b ra rb n l = refl
five_ways false true ra rb n l = refl
five_ways false false true rb true l = refl
five_ways false false true rb false l = refl
five_ways false false false true true l = refl
five_ways false false false true false l = refl
five_ways false false false false n l = refl

by_kind : (f : Figures) → tells_of_faults f ≡ (shows_lost f || (shows_missing f || (shows_repeated f || shows_late f)))
by_kind f = five_ways (nat_lt 0 (f.tally.alone.a - f.edges.a)) (nat_lt 0 (f.tally.alone.b - f.edges.b)) (nat_lt 0 f.tally.repeats.a)
    (nat_lt 0 f.tally.repeats.b) (shows_missing f) (shows_late f)

own_tells : (j c : Option Audit) (f : Figures) → tells_of_faults (missing_told c (lost_told j f))
    ≡ (shows_lost (lost_told j f) || (shows_missing (missing_told c f) || (shows_repeated f || shows_late f)))
own_tells None None f = by_kind f
own_tells None (Some c) f = by_kind (missing_told (Some c) f)
own_tells (Some j) None f = by_kind (lost_told (Some j) f)
own_tells (Some j) (Some c) f = by_kind (missing_told (Some c) (lost_told (Some j) f))

pub own_faults : (j c : Option Audit) (es : List (Mac × Source)) →
    list_any (λ e. tells_of_faults (missing_told c (lost_told j (figures_of e.1)))) es
    ≡ (list_any (λ e. shows_lost (lost_told j (figures_of e.1))) es || (list_any (λ e. shows_missing (missing_told c (figures_of e.1))) es
    || (list_any (λ e. shows_repeated (figures_of e.1)) es || list_any (λ e. shows_late (figures_of e.1)) es)))
own_faults j c es =
    same_tests (λ e. tells_of_faults (missing_told c (lost_told j (figures_of e.1)))) (λ e. lost e || (missing e || (repeated e || late e)))
    (λ e. own_tells j c (figures_of e.1)) es
    ∙ any_either lost (λ e. missing e || (repeated e || late e)) es
    ∙ ap (λ b. list_any lost es || b) (any_either missing (λ e. repeated e || late e) es
    ∙ ap (λ b. list_any missing es || b) (any_either repeated late es))
  where
    lost : Mac × Source → Bool
    lost e = shows_lost (lost_told j (figures_of e.1))

    missing : Mac × Source → Bool
    missing e = shows_missing (missing_told c (figures_of e.1))

    repeated : Mac × Source → Bool
    repeated e = shows_repeated (figures_of e.1)

    late : Mac × Source → Bool
    late e = shows_late (figures_of e.1)

-- frames by a side alone: of an audit of its own, or of all frames
pub lost_in : (j : Option Audit) (audit : Audit) →
    (judged_have_lost j || list_any (λ e. shows_lost (lost_told j (figures_of e.1))) audit.sources.entries)
    ≡ list_any (λ e. shows_lost (figures_of e.1)) (telling_entries j audit)
lost_in None audit = refl
lost_in (Some j) audit = or_none (have_lost j) _ (any_none (λ e. shows_lost (lost_told (Some j) (figures_of e.1)))
    (λ e. none_left (figures_of e.1).edges.a (figures_of e.1).edges.b) audit.sources.entries)
  where
    itself : (n : ℕ) → n - n ≡ 0
    itself n = omega arith

    none_left : (n m : ℕ) → (nat_lt 0 (n - n) || nat_lt 0 (m - m)) ≡ false
    none_left n m = ap₂ (λ k l. nat_lt 0 k || nat_lt 0 l) (itself n) (itself m)

-- numbers of no frame: of an audit of its own, where captures have all that was sent, or of all frames
pub missing_in : (s : Sight) (c : Option Audit) (audit : Audit) →
    (counters_have_missing s c || list_any (λ e. shows_missing (missing_told c (figures_of e.1))) audit.sources.entries)
    ≡ (has_all_sent s c && list_any (λ e. shows_missing (figures_of e.1)) (telling_entries c audit))
missing_in All None audit = refl
missing_in Part None audit = refl
missing_in All (Some c) audit = or_none (have_missing c) _
    (any_none (λ e. shows_missing (missing_told (Some c) (figures_of e.1))) (λ e. refl) audit.sources.entries)
missing_in Part (Some c) audit = any_none (λ e. shows_missing (missing_told (Some c) (figures_of e.1))) (λ e. refl) audit.sources.entries

-- by whichever order they are asked
same_by : (a b : Bool) → (a ≡ false → b ≡ false) → (b ≡ false → a ≡ false) → a ≡ b
same_by true true to from = refl
same_by true false to from = from refl
same_by false true to from = sym (to refl)
same_by false false to from = refl

in_order : (m s wa wb rb ra wn ma mb mn p l : Bool) →
    (((((((m || s) || (wa || wb)) || rb) || ra) || (((wn || ma) || mb) || mn)) || p) || l)
    ≡ (((wa || ma) || ((wb || mb) || (wn || mn))) || ((s || (ra || rb)) || (m || (p || l))))
in_order m s wa wb rb ra wn ma mb mn p l = grind arith

-- a fault is told exactly where the report tells of one
pub told_is : (r : Report) (own telling counters : List Heard) → AreHeardIn r own telling counters → told_by_figures r own telling counters ≡ has_faults r
told_is r own telling counters heard =
    in_order m (list_any (is_sided (mended_in r telling)) telling) (nat_lt 0 r.counts.a.wrong_lan) (nat_lt 0 r.counts.b.wrong_lan) (list_any (has_rest (mended_in r telling) B) telling)
    (list_any (has_rest (mended_in r telling) A) telling) (nat_lt 0 r.counts.neither.wrong_lan) (nat_lt 0 r.counts.a.misfit) (nat_lt 0 r.counts.b.misfit)
    (nat_lt 0 r.counts.neither.misfit) p l
    ∙ ap (λ b. have_faults r.counts || b)
    (ap₂ (λ x y. x || y) (lost_heard (mended_in r telling) telling ∙ heard_any shows_lost r.spans (telling_entries r.judged r.audit) telling heard.are_telling
    ∙ sym (lost_in r.judged r.audit))
    (ap₂ (λ x y. x || y) (ap (λ b. has_all_sent r.sight r.counters && b)
    (heard_any shows_missing r.spans (telling_entries r.counters r.audit) counters heard.are_counters)
    ∙ sym (missing_in r.sight r.counters r.audit))
    (ap₂ (λ x y. x || y) (heard_any shows_repeated r.spans es own heard.are_own) (heard_any shows_late r.spans es own heard.are_own)))
    ∙ apart (judged_have_lost r.judged) lost (counters_have_missing r.sight r.counters) missing later
    ∙ ap (λ b. judged_have_lost r.judged || (counters_have_missing r.sight r.counters || b)) (sym (own_faults r.judged r.counters es)))
  where
    es : List (Mac × Source)
    es = r.audit.sources.entries

    m : Bool
    m = has_all_sent r.sight r.counters && list_any (λ h. shows_missing h.figures) counters

    p : Bool
    p = list_any (λ h. shows_repeated h.figures) own

    l : Bool
    l = list_any (λ h. shows_late h.figures) own

    lost : Bool
    lost = list_any (λ e. shows_lost (lost_told r.judged (figures_of e.1))) es

    missing : Bool
    missing = list_any (λ e. shows_missing (missing_told r.counters (figures_of e.1))) es

    later : Bool
    later = list_any (λ e. shows_repeated (figures_of e.1)) es || list_any (λ e. shows_late (figures_of e.1)) es

    apart : (j a k b c : Bool) → ((j || a) || ((k || b) || c)) ≡ (j || (k || (a || (b || c))))
    apart true a k b c = refl
    apart false true true b c = refl
    apart false true false true c = refl
    apart false true false false c = refl
    apart false false true b c = refl
    apart false false false b c = refl

-- so verdicts end as a judgement by that does
ends_for : (why : Option Reason) (vs : List Verdict) (faulty : Bool) → Tells faulty vs → EndAs (judged_by why faulty) (verdicts_for why vs)
ends_for (Some why) vs faulty told = record { status = refl; reason = refl }
ends_for None vs faulty told = record {
  status = ap (λ (o : Option Why). cond {A = ℕ} (is_some o) 4 (cond {A = ℕ} (list_any is_a_fault vs) 3 0)) (judged_first vs told.judging)
      ∙ ap (λ b. cond {A = ℕ} b 3 0) told.faults ∙ status_by faulty;
  reason = judged_first vs told.judging ∙ reason_by faulty;
}
  where
    status_by : (b : Bool) → cond {A = ℕ} b 3 0 ≡ check_status (cond b Faulty Sound)
    status_by true = refl
    status_by false = refl

    reason_by : (b : Bool) → None ≡ by_figures (why_of (cond b Faulty Sound))
    reason_by true = refl
    reason_by false = refl

joins : (r : Report) (told : Bool) (outside : Option Reason) →
    judged_by (why_told outside r) (told || has_faults r) ≡ judged_with told (judged_beside outside (network_judgement r))
joins r told (Some why) = unjudged told
  where
    unjudged : (b : Bool) → Unjudged why ≡ judged_with b (Unjudged why)
    unjudged true = refl
    unjudged false = refl
joins r told None = by (reason_of r)
  where
    unjudged : (why : Reason) (b : Bool) → Unjudged why ≡ judged_with b (Unjudged why)
    unjudged why true = refl
    unjudged why false = refl

    by_faults : (t b : Bool) → judged_by (why_of (cond b Faulty Sound)) (t || b) ≡ judged_with t (cond b Faulty Sound)
    by_faults true true = refl
    by_faults true false = refl
    by_faults false true = refl
    by_faults false false = refl

    by : (o : Option Reason) → judged_by (why_of (judged o r)) (told || has_faults r) ≡ judged_with told (judged o r)
    by (Some why) = unjudged why told
    by None = by_faults told (has_faults r)

-- where no source has two senders none is left out
none_left : (a b : Bool) → (a || b) ≡ false → a ≡ false
none_left true b e = e
none_left false b e = refl

none_right : (a b : Bool) → (a || b) ≡ false → b ≡ false
none_right true b e = absurd cc
none_right false b e = e

none_doubled : (nodes : List (Mac × Node)) → two_told nodes ≡ false → (mac : Mac) → is_doubled nodes mac ≡ false
none_doubled [] none mac = refl
none_doubled (e ∷ es) none mac =
    by (mac_eq mac e.0) (none_doubled es (none_right (is_some (doubled_since e.1)) (two_told es) none) mac)
  where
    by : (t : Bool) → is_doubled es mac ≡ false → is_doubled_at (cond {A = Option Node} t (Some e.1) (lookup (mac_eq mac) es)) ≡ false
    by true later = none_left (is_some (doubled_since e.1)) (two_told es) none
    by false later = later

kept_all : {X : Type 0} (p : X → Bool) → ((x : X) → p x ≡ true) → (xs : List X) → filter p xs ≡ xs
kept_all p all [] = refl
kept_all p all (x ∷ xs) =
    ap (λ b. cond b (x ∷ filter p xs) (filter p xs)) (all x) ∙ ap (λ ys. x ∷ ys) (kept_all p all xs)

all_single : (nodes : List (Mac × Node)) → two_told nodes ≡ false → (hs : List Heard) → single_in nodes hs ≡ hs
all_single nodes none hs = kept_all (λ (h : Heard). not (is_doubled nodes h.mac)) (λ h. ap not (none_doubled nodes none h.mac)) hs

-- a fault is told exactly where the frames of sources tell of one, or the figures
apart_from : (m t s w l rb ra o p q : Bool) →
    (((((((((m || t) || s) || w) || l) || rb) || ra) || o) || p) || q) ≡ ((t || l) || (((((((m || s) || w) || rb) || ra) || o) || p) || q))
apart_from m t s w l rb ra o p q = grind arith

told_apart : (r : Report) (nodes : List (Mac × Node)) (own telling counters : List Heard) →
    told_faulty r nodes own telling counters ≡ (nodes_tell r.subject nodes || told_by_figures r own telling counters)
told_apart r nodes own telling counters =
    apart_from (has_all_sent r.sight r.counters && list_any (λ h. shows_missing h.figures) counters) (two_told nodes)
    (list_any (is_sided (mended_in r telling)) telling) (wrong_told r) (lost_told_in r.subject nodes) (list_any (has_rest (mended_in r telling) B) telling)
    (list_any (has_rest (mended_in r telling) A) telling) (others_told r) (list_any (λ h. shows_repeated h.figures) own) (list_any (λ h. shows_late h.figures) own)

pub told_of_single : (r : Report) (nodes : List (Mac × Node)) (own telling counters : List Heard) → IsSingleHearing r nodes own telling counters →
    told_faulty r nodes own telling counters ≡ (nodes_tell r.subject nodes || has_faults r)
told_of_single r nodes own telling counters heard = told_apart r nodes own telling counters ∙ by (two_told nodes) refl
  where
    same : (hs all : List Heard) → two_told nodes ≡ false → hs ≡ single_in nodes all → hs ≡ all
    same hs all none is = is ∙ all_single nodes none all

    figures : two_told nodes ≡ false → told_by_figures r own telling counters ≡ has_faults r
    figures none =
        ap (λ (l : List Heard). told_by_figures r l telling counters) (same own heard.all_own none heard.own_is)
        ∙ ap (λ (l : List Heard). told_by_figures r heard.all_own l counters) (same telling heard.all_telling none heard.telling_is)
        ∙ ap (λ (l : List Heard). told_by_figures r heard.all_own heard.all_telling l)
        (same counters heard.all_counters none heard.counters_is)
        ∙ told_is r heard.all_own heard.all_telling heard.all_counters heard.are_heard

    by : (t : Bool) → two_told nodes ≡ t →
        ((t || lost_told_in r.subject nodes) || told_by_figures r own telling counters) ≡ ((t || lost_told_in r.subject nodes) || has_faults r)
    by true e = refl
    by false e = ap (λ b. lost_told_in r.subject nodes || b) (figures e)

-- without those that recorders may have made
pub any_left : {X : Type 0} (p q : X → Bool) (xs : List X) → list_any p xs ≡ false → list_any p (filter q xs) ≡ false
any_left p q [] none = refl
any_left p q (x ∷ xs) none = by (q x) (any_left p q xs (none_right (p x) (list_any p xs) none))
  where
    by : (b : Bool) → list_any p (filter q xs) ≡ false → list_any p (cond b (x ∷ filter q xs) (filter q xs)) ≡ false
    by true rest = ap₂ (λ a c. a || c) (none_left (p x) (list_any p xs) none) rest
    by false rest = rest

-- what is told behind faults, whatever these are
abbrev pub Behind : Ports → Sides → List Verdict → List Verdict → List Verdict
Behind ports dropped notices vs = (vs ++ dropped_told ports dropped) ++ notices

pub behind_told : (ports : Ports) (dropped : Sides) (notices vs : List Verdict) (faulty : Bool) → Tells faulty vs → Tells false notices
    → Tells faulty (Behind ports dropped notices vs)
behind_told ports dropped notices vs faulty told none =
    subst (λ (b : Bool). Tells b (Behind ports dropped notices vs)) (or_none (faulty || false) false refl ∙ or_none faulty false refl)
    (tells_both (faulty || false) false (vs ++ dropped_told ports dropped) notices
    (tells_both faulty false vs (dropped_told ports dropped) told (tells_dropped ports dropped)) none)

-- verdicts that are settled end a check as those do of which they are left, or in doubt
settled_ends : (ports : Ports) (dropped : Sides) (why : Option Reason) (faults notices : List Verdict) (faulty : Bool) → Tells faulty faults
    → Tells false notices → EndBy ports dropped faults (judged_by why faulty) (verdicts_for why (Behind ports dropped notices (settled ports dropped faults)))
settled_ends ports dropped (Some why) faults notices faulty told none = inl (record { status = refl; reason = refl })
settled_ends ports dropped None faults notices faulty told none = by_drops (any_dropped dropped) refl
  where
    left : List Verdict
    left = left_unexplained (explained_by ports dropped faults) faults

    wrong : Bool
    wrong = list_any is_a_fault left

    ends : (vs : List Verdict) → Tells faulty vs → EndBy ports dropped faults (judged_by None faulty) (Behind ports dropped notices vs)
    ends vs own = inl (ends_for None (Behind ports dropped notices vs) faulty (behind_told ports dropped notices vs faulty own none))

    judging : list_any is_unjudged left ≡ false
    judging = any_left is_unjudged (λ v. not (is_explained (explained_by ports dropped faults) v)) faults told.judging

    -- by whether a fault was told, and whether one is left
    by_faults : any_dropped dropped ≡ true → (f l : Bool) → faulty ≡ f → wrong ≡ l
        → EndBy ports dropped faults (judged_by None faulty)
        (Behind ports dropped notices (cond (f && not l) (Undecided (why_dropped ports dropped (explained_by ports dropped faults)) ∷ left) left))
    by_faults some true true e h = ends left (record { judging = judging; faults = h ∙ sym e })
    by_faults some true false e h = inr (record {
      faulty = ap (λ (b : Bool). judged_by None b) e;
      some = some;
      explained = h;
      status = refl;
      reason = refl;
    })
    by_faults some false l e h = ends left (record {
      judging = judging;
      faults = any_left is_a_fault (λ v. not (is_explained (explained_by ports dropped faults) v)) faults (told.faults ∙ e) ∙ sym e;
    })

    by_drops : (d : Bool) → any_dropped dropped ≡ d → EndBy ports dropped faults (judged_by None faulty)
        (Behind ports dropped notices (cond d (settled_by ports dropped (explained_by ports dropped faults) faults) faults))
    by_drops true some = subst (λ (b : Bool). EndBy ports dropped faults (judged_by None faulty)
        (Behind ports dropped notices (cond (b && not wrong) (Undecided (why_dropped ports dropped (explained_by ports dropped faults)) ∷ left) left)))
        (sym told.faults) (by_faults some faulty wrong refl refl)
    by_drops false none_dropped = ends faults told

-- without limits faults are told as they are
all_beyond : (vs : List Verdict) → filter_map (fault_beyond None) vs ≡ vs
all_beyond [] = refl
all_beyond (v ∷ vs) = ap (λ l. v ∷ l) (all_beyond vs)

none_in_place : (vs : List Verdict) → filter_map (notice_in_place None) vs ≡ []
none_in_place [] = refl
none_in_place (v ∷ vs) = none_in_place vs

as_without : (lost skew : Option ℕ) (faults : List Verdict) (own : List Heard) → lost ≡ None → skew ≡ None →
    limited lost (faults ++ skew_verdicts skew own) ≡ faults
as_without lost skew faults own no_loss no_skew =
    ap (λ (o : Option ℕ). limited o (faults ++ skew_verdicts skew own)) no_loss
    ∙ ap (λ (o : Option ℕ). limited None (faults ++ skew_verdicts o own)) no_skew
    ∙ ap (limited None) (append-nil faults)
    ∙ ap₂ (λ x y. x ++ y) (all_beyond faults) (none_in_place faults) ∙ append-nil faults

pub verdicts_end : VerdictsEndAsJudged
verdicts_end r sources outside vs are free =
    let nodes = sources.sources.entries in
    let ports = r.subject.ports in
    let faults = fault_verdicts r nodes are.own are.telling are.counters in
    let notices = notice_verdicts r nodes outside.ahead are.counters in
    let faulty = nodes_tell r.subject nodes || has_faults r in
    let told : Tells faulty faults =
    subst (λ (b : Bool). Tells b faults) (told_of_single r nodes are.own are.telling are.counters are.are_heard)
    (tells_faults r nodes are.own are.telling are.counters) in
    subst (λ (l : List Verdict). EndBy ports outside.dropped faults
    (judged_with (nodes_tell r.subject nodes) (judged_beside outside.reason (network_judgement r))) l)
    (sym (are.verdicts ∙ ap (λ (l : List Verdict). verdicts_for (why_told outside.reason r) (Behind ports outside.dropped notices (settled ports outside.dropped l)))
    (as_without outside.limits.lost outside.limits.skew faults are.own free.no_loss free.no_skew)))
    (subst (λ (j : Judgement). EndBy ports outside.dropped faults j
    (verdicts_for (why_told outside.reason r) (Behind ports outside.dropped notices (settled ports outside.dropped faults))))
    (joins r (nodes_tell r.subject nodes) outside.reason)
    (settled_ends ports outside.dropped (why_told outside.reason r) faults notices faulty told
    (tells_notices r nodes outside.ahead are.counters)))
