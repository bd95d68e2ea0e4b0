-- Tests of the figures of an audit's sources are tests of their arrivals.
use Rattle.std.proofs.Common.{◌≡◌, ◌≤◌, Bool, true, false, cond, ◌||◌, List, [], ◌∷◌, length, Option, None, Some, arith, refl, sym, ap, ◌∙◌, inl, inr}
use Rattle.std.specs.List.{list_any}
use Rattle.std.specs.Map.{lookup}
use Rattle.std.proofs.lemmas.Bool.{cases_Bool, or_cases}
use Rattle.sr_frame.specs.declared.fields.Mac.{Mac}
use Rattle.sr_frame.specs.Addresses.{mac_eq}
use Rattle.sr_frame.specs.AddressLemmas.{mac_same, mac_refl}
use Rattle.sr_audit.specs.declared.arrival.Arrival.{Arrival}
use Rattle.sr_audit.specs.declared.source.Figures.{Figures}
use Rattle.sr_audit.specs.declared.source.Source.{Source}
use Rattle.sr_audit.specs.declared.span.Spans.{Spans}
use Rattle.sr_audit.specs.Audits.{Sent, of, IsEntryFor}
use Rattle.sr_audit.specs.Limits.{exact_arrivals}
use Rattle.sr_audit.specs.Shown.{figures_of}
use Rattle.sr_audit.specs.Taken.{HasTaken}
use Rattle.sr_laws_audit.specs.Exactly.{figures_by, HasEachSource, FiguresAreByArrivals, TestsAreByArrivals}
use Rattle.sr_laws_audit.proofs.FigureLemmas.{tally_is, edges_are, neither_is, entry_taken, none_at}

-- the arrivals of one source are no more than all
pub few_of : (m : Mac) (sent : List Sent) → length (of m sent) ≤ length sent
few_of m [] = omega arith
few_of m (x ∷ sent) = by (mac_eq m x.0) (few_of m sent)
  where
    by : (b : Bool) → length (of m sent) ≤ length sent →
        length (cond b (x.1 ∷ of m sent) (of m sent)) ≤ length (x ∷ sent)
    by true le = omega (arith, le)
    by false le = omega (arith, le)

pub figures_are : FiguresAreByArrivals
figures_are spans sent entries m s has found =
    let xs = of m sent in
    let taken : HasTaken spans xs s = entry_taken spans sent entries m s has.audits found in
    let exact : length xs ≤ exact_arrivals = omega (arith, few_of m sent, has.exact) in
    let kept = taken.extent exact in
    λ i. record {
      tally = tally_is spans xs s taken i;
      edges = edges_are spans xs s taken i;
      neither = neither_is spans xs s exact taken i;
      order = record { a = kept.reach.order_a i; b = kept.reach.order_b i };
      jumps = kept.jumps i;
      restarts = kept.restarts i;
      skews = (taken.skews exact).shown i;
    }

-- an arrival of a source is one of it, and a source of which some came has one
some_of : (test : Mac → Bool) (m : Mac) (sent : List Sent) → test m ≡ true → (of m sent ≡ [] → ⊥) → list_any (λ x. test x.0) sent ≡ true
some_of test m [] is some = absurd (some refl)
some_of test m (x ∷ sent) is some =
    elim (cases_Bool (mac_eq m x.0)) [
      | inl own ↦ ap (λ b. b || list_any (λ y. test y.0) sent) (ap test (sym (mac_same m x.0 own)) ∙ is)
      | inr other ↦
          let rest : list_any (λ y. test y.0) sent ≡ true =
          some_of test m sent is (λ none. some (rw other none)) in
          ap (λ b. test x.0 || b) rest ∙ or_true (test x.0)
    ]
  where
    or_true : (b : Bool) → (b || true) ≡ true
    or_true true = refl
    or_true false = refl

not_empty : (test : Mac → Bool) (sent : List Sent) → list_any (λ x. test x.0) sent ≡ true → (m : Mac) × (test m ≡ true) × (of m sent ≡ [] → ⊥)
not_empty test [] is = let no : false ≡ true = is in absurd cc
not_empty test (x ∷ sent) is =
    elim (or_cases (test x.0) (list_any (λ y. test y.0) sent) is) [
      | inl here ↦ (x.0, here, λ none. own (mac_eq x.0 x.0) (mac_refl x.0) none)
      | inr later ↦
          let there = not_empty test sent later in
          (there.0, there.1, λ none. kept there.0 there.2 (mac_eq there.0 x.0) none)
    ]
  where
    own : (b : Bool) → b ≡ true → cond b (x.1 ∷ of x.0 sent) (of x.0 sent) ≡ [] → ⊥
    own true e none = cc
    own false e none = let no : false ≡ true = e in absurd cc

    kept : (m : Mac) → (of m sent ≡ [] → ⊥) → (b : Bool) →
        cond b (x.1 ∷ of m sent) (of m sent) ≡ [] → ⊥
    kept m some true none = cc
    kept m some false none = some none

-- a source that is kept passes a test
pub found_at : (test : Mac → Source → Bool) (entries : List (Mac × Source)) (m : Mac) (s : Source) → lookup (mac_eq m) entries ≡ Some s →
    test m s ≡ true → list_any (λ e. test e.0 e.1) entries ≡ true
found_at test [] m s found is = let no : None ≡ Some s = found in absurd cc
found_at test (e ∷ es) m s found is =
    elim (cases_Bool (mac_eq m e.0)) [
      | inl own ↦
          let same : Some e.1 ≡ Some s = rw own at found in
          let one : e.1 ≡ s = cc in
          ap (λ b. b || list_any (λ f. test f.0 f.1) es)
          (ap (λ k. test k e.1) (sym (mac_same m e.0 own)) ∙ ap (test m) one ∙ is)
      | inr other ↦
          let later : lookup (mac_eq m) es ≡ Some s = rw other at found in
          ap (λ b. test e.0 e.1 || b) (found_at test es m s later is) ∙ or_true (test e.0 e.1)
    ]
  where
    or_true : (b : Bool) → (b || true) ≡ true
    or_true true = refl
    or_true false = refl

pub found_passes : (test : Source → Bool) (entries : List (Mac × Source)) (m : Mac) (s : Source) → lookup (mac_eq m) entries ≡ Some s →
    test s ≡ true → list_any (λ e. test e.1) entries ≡ true
found_passes test entries m s found is = found_at (λ k t. test t) entries m s found is

-- a source of which some came is kept, where there is room
pub is_kept : (spans : Spans) (sent : List Sent) (entries : List (Mac × Source)) (m : Mac) → HasEachSource spans sent entries →
    (of m sent ≡ [] → ⊥) → (s : Source) × (lookup (mac_eq m) entries ≡ Some s)
is_kept spans sent entries m has some = by (lookup (mac_eq m) entries) refl (has.audits.each m)
  where
    by : (o : Option Source) → lookup (mac_eq m) entries ≡ o → IsEntryFor spans (length entries) (of m sent) o →
        (s : Source) × (lookup (mac_eq m) entries ≡ Some s)
    by None is (inl none) = absurd (some none)
    by None is (inr full) = absurd (omega (arith, full, has.room))
    by (Some s) is taken = (s, is)

-- a test of an address and its figures
abbrev pub some_by : (Mac → Figures → Bool) → Spans → List Sent → Bool
some_by test spans sent = list_any (λ x. test x.0 (figures_by spans (of x.0 sent))) sent

pub tests_by : (test : Mac → Figures → Bool) (spans : Spans) (sent : List Sent) (entries : List (Mac × Source)) →
    HasEachSource spans sent entries → ((m : Mac) → test m (figures_by spans []) ≡ false) →
    list_any (λ e. test e.0 (figures_of e.1)) entries ≡ some_by test spans sent
tests_by test spans sent entries has none =
    elim (cases_Bool (some_by test spans sent)) [
      | inl passes ↦
          let there = not_empty (λ m. test m (figures_by spans (of m sent))) sent passes in
          let kept = is_kept spans sent entries there.0 has there.2 in
          found_at (λ m s. test m (figures_of s)) entries there.0 kept.0 kept.1
          (ap (test there.0) (figures_are spans sent entries there.0 kept.0 has kept.1) ∙ there.1) ∙ sym passes
      | inr fails ↦
          none_at (λ m s. test m (figures_of s)) entries has.once
          (λ m s found.
          let is : test m (figures_of s) ≡ test m (figures_by spans (of m sent)) = ap (test m) (figures_are spans sent entries m s has found) in
          is ∙ none_by m (of m sent) refl fails)
          ∙ sym fails
    ]
  where
    none_by : (m : Mac) (xs : List Arrival) → of m sent ≡ xs → some_by test spans sent ≡ false → test m (figures_by spans (of m sent)) ≡ false
    none_by m [] is fails = ap (λ ys. test m (figures_by spans ys)) is ∙ none m
    none_by m (x ∷ xs) is fails =
        elim (cases_Bool (test m (figures_by spans (of m sent)))) [
          | inr fails_it ↦ fails_it
          | inl here ↦
              let passes : some_by test spans sent ≡ true =
              some_of (λ k. test k (figures_by spans (of k sent))) m sent here (λ empty. let bad : x ∷ xs ≡ [] = sym is ∙ empty in cc) in
              let bad : false ≡ true = sym fails ∙ passes in
              absurd cc
        ]

pub tests_are : TestsAreByArrivals
tests_are test spans sent entries has none = tests_by (λ m f. test f) spans sent entries has (λ m. none)
