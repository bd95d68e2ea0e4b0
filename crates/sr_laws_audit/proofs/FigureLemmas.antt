-- The figures of a source of an audit, by its arrivals.
use Rattle.std.proofs.Common.{◌≡◌, ℕ, ◌-◌, ◌≤◌, Bool, false, ◌||◌, List, [], ◌∷◌, length, Option, None, Some, arith, refl, sym, ap, ◌∙◌, subst, inl, inr}
use Rattle.std.specs.Prelude.{sum_by, nat_lt}
use Rattle.std.specs.List.{IsDistinct, AllByRecursion, list_any}
use Rattle.std.specs.Map.{lookup, keys_of}
use Rattle.std.proofs.lemmas.Bool.{cases_Bool}
use Rattle.sr_frame.specs.declared.fields.Mac.{Mac}
use Rattle.sr_frame.specs.Addresses.{mac_eq}
use Rattle.sr_frame.specs.AddressLemmas.{mac_same, mac_refl}
use Rattle.sr_audit.specs.declared.arrival.Arrival.{Arrival}
use Rattle.sr_audit.specs.declared.numbers.Numbers.{Numbers}
use Rattle.sr_audit.specs.declared.source.Figures.{Figures}
use Rattle.sr_audit.specs.declared.source.Source.{Source}
use Rattle.sr_audit.specs.declared.span.Spans.{Spans}
use Rattle.sr_audit.specs.Audits.{Sent, of, IsEntryFor, Audits}
use Rattle.sr_audit.specs.Edges.{edges_of}
use Rattle.sr_audit.specs.Extents.{neither_of}
use Rattle.sr_audit.specs.Faults.{last_class, tells_of_faults}
use Rattle.sr_audit.specs.Limits.{exact_arrivals}
use Rattle.sr_audit.specs.Shown.{tally_in, figures_of}
use Rattle.sr_audit.specs.Skewing.{skews_of, count_in}
use Rattle.sr_audit.specs.Stretches.{stretches}
use Rattle.sr_audit.specs.Taken.{IsKeptIn, HasTaken}
use Rattle.sr_audit.specs.Tallies.{tally_of}
use Rattle.sr_audit.proofs.FitLemmas.{neither_left}
use Rattle.sr_audit.proofs.FollowLemmas.{length-stretches}
use Rattle.sr_laws_audit.specs.Outcomes.{TellsEachNumber}
use Rattle.sr_laws_audit.specs.Records.{LeavesOut, TellsNoRepeat, TellsNoLoss, LacksNoNumber}
use Rattle.sr_laws_audit.specs.Sources.{AuditsCountEachNumber, HasTrueNumbering, IsSeenByBoth, IsSeenWhole, WholeAuditsTellNoFault}
use Rattle.sr_laws_audit.proofs.FollowedLemmas.{no_repeat, no_loss}
use Rattle.sr_laws_audit.proofs.OutcomeLemmas.{each_number}
use Rattle.sr_laws_audit.proofs.UnbrokenLemmas.{no_number_lacks}

-- what figures are, by what was taken
tally_kept : (xs : List Arrival) (o : Option Numbers) → IsKeptIn xs o → tally_in o ≡ tally_of (stretches xs)
tally_kept xs None none = ap (λ ys. tally_of (stretches ys)) (sym none)
tally_kept xs (Some n) follows = follows.tally

pub tally_is : (spans : Spans) (xs : List Arrival) (s : Source) → HasTaken spans xs s → (figures_of s).tally ≡ tally_of (stretches xs)
tally_is spans xs s taken = tally_kept xs s.numbers taken.numbers

pub edges_are : (spans : Spans) (xs : List Arrival) (s : Source) → HasTaken spans xs s → (figures_of s).edges ≡ edges_of spans (stretches xs)
edges_are spans xs s taken = taken.edges.edges_are

pub neither_is : (spans : Spans) (xs : List Arrival) (s : Source) → length xs ≤ exact_arrivals → HasTaken spans xs s →
    (figures_of s).neither ≡ sum_by neither_of (stretches xs)
neither_is spans xs s exact taken =
    let kept = (taken.extent exact).reach in
    neither_left (stretches xs) (tally_in s.numbers) s.extent.lengths (sum_by length (stretches xs)) (tally_kept xs s.numbers taken.numbers)
    kept.lengths kept.few (omega (arith, exact, length-stretches xs))

pub late_is : (spans : Spans) (xs : List Arrival) (s : Source) → length xs ≤ exact_arrivals → HasTaken spans xs s →
    last_class (figures_of s).skews.classes ≡ count_in 6 (skews_of (stretches xs))
late_is spans xs s exact taken = ap (λ k. last_class k.classes) (taken.skews exact).shown

only_a_is : (spans : Spans) (xs : List Arrival) (s : Source) → HasTaken spans xs s →
    (figures_of s).tally.alone.a - (figures_of s).edges.a ≡ (tally_of (stretches xs)).alone.a - (edges_of spans (stretches xs)).a
only_a_is spans xs s taken =
    ap (λ t. t.alone.a - (figures_of s).edges.a) (tally_is spans xs s taken)
    ∙ ap (λ e. (tally_of (stretches xs)).alone.a - e.a) (edges_are spans xs s taken)

only_b_is : (spans : Spans) (xs : List Arrival) (s : Source) → HasTaken spans xs s →
    (figures_of s).tally.alone.b - (figures_of s).edges.b ≡ (tally_of (stretches xs)).alone.b - (edges_of spans (stretches xs)).b
only_b_is spans xs s taken =
    ap (λ t. t.alone.b - (figures_of s).edges.b) (tally_is spans xs s taken)
    ∙ ap (λ e. (tally_of (stretches xs)).alone.b - e.b) (edges_are spans xs s taken)

-- what an audit has of a source was taken
pub entry_taken : (spans : Spans) (sent : List Sent) (entries : List (Mac × Source)) (m : Mac) (s : Source) → Audits spans sent entries →
    lookup (mac_eq m) entries ≡ Some s → HasTaken spans (of m sent) s
entry_taken spans sent entries m s audits found = subst (IsEntryFor spans (length entries) (of m sent)) found (audits.each m)

pub counts_each : AuditsCountEachNumber
counts_each spans sent entries m s audits found exact =
    let xs = of m sent in
    let taken : HasTaken spans xs s = entry_taken spans sent entries m s audits found in
    let told : TellsEachNumber spans xs = each_number spans xs in
    record {
      pairs = ap (λ t. t.pairs) (tally_is spans xs s taken) ∙ told.pairs;
      only_a = only_a_is spans xs s taken ∙ told.only_a;
      only_b = only_b_is spans xs s taken ∙ told.only_b;
      edge_a = ap (λ e. e.a) (edges_are spans xs s taken) ∙ told.edge_a;
      edge_b = ap (λ e. e.b) (edges_are spans xs s taken) ∙ told.edge_b;
      neither = neither_is spans xs s exact taken ∙ told.neither;
    }

-- a test that no entry passes
not_there : (m : Mac) (entries : List (Mac × Source)) → AllByRecursion (λ y. mac_eq m y ≡ false) (keys_of entries) →
    lookup (mac_eq m) entries ≡ None
not_there m [] apart = refl
not_there m (e ∷ es) apart = rw apart.0 (not_there m es apart.1)

pub none_at : (test : Mac → Source → Bool) (entries : List (Mac × Source)) → IsDistinct mac_eq (keys_of entries) →
    ((m : Mac) (s : Source) → lookup (mac_eq m) entries ≡ Some s → test m s ≡ false) → list_any (λ e. test e.0 e.1) entries ≡ false
unfolding IsDistinct
none_at test [] unique each = refl
none_at test (e ∷ es) unique each =
    ap (λ b. b || list_any (λ f. test f.0 f.1) es) (each e.0 e.1 (rw (mac_refl e.0) refl))
    ∙ none_at test es unique.1 (λ m s found. each m s (later m s found))
  where
    gone : lookup (mac_eq e.0) es ≡ None
    gone = not_there e.0 es unique.0

    later : (m : Mac) (s : Source) → lookup (mac_eq m) es ≡ Some s → lookup (mac_eq m) (e ∷ es) ≡ Some s
    later m s found =
        elim (cases_Bool (mac_eq m e.0)) [
          | inl same ↦
              let no : None ≡ Some s = sym gone ∙ ap (λ k. lookup (mac_eq k) es) (sym (mac_same m e.0 same)) ∙ found in absurd cc
          | inr other ↦ rw other found
        ]

pub none_passes : (test : Source → Bool) (entries : List (Mac × Source)) → IsDistinct mac_eq (keys_of entries) →
    ((m : Mac) (s : Source) → lookup (mac_eq m) entries ≡ Some s → test s ≡ false) → list_any (λ e. test e.1) entries ≡ false
none_passes test entries unique each = none_at (λ m s. test s) entries unique each

-- arrivals with a true numbering
pub numbered_no_repeat : (apart : ℕ) (recorded : Spans) (xs : List Arrival) → HasTrueNumbering apart recorded xs → TellsNoRepeat xs
numbered_no_repeat apart recorded xs is =
    subst TellsNoRepeat is.arrivals (no_repeat apart is.frames recorded is.copies is.timely is.are_recorded)

pub both_no_loss : (apart : ℕ) (recorded judged : Spans) (xs : List Arrival) → IsSeenByBoth apart recorded xs → LeavesOut apart recorded judged →
    TellsNoLoss judged xs
both_no_loss apart recorded judged xs is leaves =
    subst (TellsNoLoss judged) is.numbered.arrivals
    (no_loss apart is.numbered.frames recorded judged is.numbered.copies is.numbered.timely is.numbered.are_recorded is.has_all is.past_both leaves)

pub whole_lacks_none : (apart : ℕ) (recorded : Spans) (xs : List Arrival) → IsSeenWhole apart recorded xs → LacksNoNumber xs
whole_lacks_none apart recorded xs is =
    let n = is.seen.numbered in
    subst LacksNoNumber n.arrivals
    (no_number_lacks apart n.frames recorded n.copies n.timely n.are_recorded is.seen.has_all is.seen.past_both is.in_order is.overlap)

-- figures that tell of nothing
not_some : (n : ℕ) → n ≡ 0 → nat_lt 0 n ≡ false
not_some n e = ap (nat_lt 0) e

pub figures_lost : (judged : Spans) (xs : List Arrival) (s : Source) → HasTaken judged xs s → TellsNoLoss judged xs →
    (nat_lt 0 ((figures_of s).tally.alone.a - (figures_of s).edges.a) || nat_lt 0 ((figures_of s).tally.alone.b - (figures_of s).edges.b)) ≡ false
figures_lost judged xs s taken none =
    ap (λ b. b || nat_lt 0 ((figures_of s).tally.alone.b - (figures_of s).edges.b)) (not_some _ (only_a_is judged xs s taken ∙ none.only_a))
    ∙ not_some _ (only_b_is judged xs s taken ∙ none.only_b)

pub quiet : (f : Figures) → f.tally.alone.a - f.edges.a ≡ 0 → f.tally.alone.b - f.edges.b ≡ 0 → f.tally.repeats.a ≡ 0 → f.tally.repeats.b ≡ 0 →
    f.neither ≡ 0 → last_class f.skews.classes ≡ 0 → tells_of_faults f ≡ false
quiet f a b ra rb n l =
    by (nat_lt 0 (f.tally.alone.a - f.edges.a)) (nat_lt 0 (f.tally.alone.b - f.edges.b)) (nat_lt 0 f.tally.repeats.a) (nat_lt 0 f.tally.repeats.b)
    (nat_lt 0 f.neither) (nat_lt 0 (last_class f.skews.classes)) (not_some _ a) (not_some _ b) (not_some _ ra) (not_some _ rb) (not_some _ n) (not_some _ l)
  where
    by : (a b c d e f : Bool) → a ≡ false → b ≡ false → c ≡ false → d ≡ false → e ≡ false → f ≡ false →
        (a || (b || (c || (d || (e || f))))) ≡ false
    by a b c d e f p q r s t u = rw (p, q, r, s, t, u) refl

pub repeats_none : (judged : Spans) (xs : List Arrival) (s : Source) → HasTaken judged xs s → TellsNoRepeat xs →
    ((figures_of s).tally.repeats.a ≡ 0) × ((figures_of s).tally.repeats.b ≡ 0)
repeats_none judged xs s taken none = (
  ap (λ t. t.repeats.a) (tally_is judged xs s taken) ∙ none.repeats_a,
  ap (λ t. t.repeats.b) (tally_is judged xs s taken) ∙ none.repeats_b,
)

pub whole_no_fault : WholeAuditsTellNoFault
whole_no_fault apart recorded judged sent entries unique audits exact whole leaves =
    none_passes (λ s. tells_of_faults (figures_of s)) entries unique
    (λ m s found.
    let xs = of m sent in
    let taken : HasTaken judged xs s = entry_taken judged sent entries m s audits found in
    let lost = both_no_loss apart recorded judged xs (whole m).seen leaves in
    let none = numbered_no_repeat apart recorded xs (whole m).seen.numbered in
    let repeats = repeats_none judged xs s taken none in
    quiet (figures_of s) (only_a_is judged xs s taken ∙ lost.only_a) (only_b_is judged xs s taken ∙ lost.only_b) repeats.0 repeats.1
    (neither_is judged xs s (exact m) taken ∙ (whole_lacks_none apart recorded xs (whole m)).neither)
    (late_is judged xs s (exact m) taken ∙ none.late))
