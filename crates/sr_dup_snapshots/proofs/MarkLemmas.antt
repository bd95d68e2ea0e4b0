-- Marks that are noted one after another, back from the greatest number, in a record of W numbers.
use Rattle.std.proofs.Common.{◌≡◌, ◌≢◌, ℕ, ◌+◌, ◌-◌, ◌*◌, ◌%◌, ◌<◌, ◌≤◌, min, ltb, cond, ◌||◌, List, ◌++◌, length, get_or, set, map, arith, refl, sym, ap, ◌∙◌, inl, inr}
use Rattle.std.specs.List.{range_with_len}
use Rattle.std.proofs.lemmas.Bool.{cases_lt, cond-true, cond-false, lt-ltb, le-ltb}
use Rattle.std.proofs.lemmas.List.{ext_get_or, length-set, length-append, length-take-le, get_or-set_same, get_or-set_other, get_or-take, get_or_append_left, get_or-append_right}
use Rattle.std.proofs.lemmas.List.FromFn.{length-map-range_with_len, get_or-map-range_with_len}
use Rattle.sr_sequence.specs.declared.Distance.TheVariants.{Behind, Ahead}
use Rattle.sr_sequence.specs.Places.{steps}
use Rattle.sr_dup_window.specs.declared.lane_sets.Lanes.{Lanes}
use Rattle.sr_dup_window.specs.declared.record.Record.{Record}
use Rattle.sr_dup_window.specs.Bins.{IsWidth}
use Rattle.sr_dup_window.specs.RecordLemmas.{record-width}
use Rattle.sr_dup_window.specs.LaneSets.{has, none, known, union}
use Rattle.sr_dup_window.specs.LaneLemmas.{has-none, lanes_where-same, known-lanes_where}
use Rattle.sr_dup_window.specs.Windows.{Window, noted_at, lanes_behind, lanes_of, window_noted, window_begun, no_marks}
use Rattle.sr_dup_window.specs.WindowLemmas.{length-no_marks, get_or-no_marks}
use Rattle.sr_dup_snapshots.specs.Reading.{is_set, lanes_noted, marks_in, marks_cut}
use Rattle.sr_dup_snapshots.proofs.SpellLemmas.{marks-count, marks-at}

-- lanes for a number that was noted on none
pub first-lanes : (a lanes : Lanes) → a ≡ none → known lanes ≡ lanes → union a lanes ≡ lanes
first-lanes a lanes e plain =
    ap (λ x. union x lanes) e
    ∙ lanes_where-same (λ l. has none l || has lanes l) (has lanes) (λ l. ap (λ b. b || has lanes l) (has-none l))
    ∙ plain

-- how far a number lies that is carried as so far before the greatest one
steps-back : (r s k : ℕ) → r < 65536 → k < 65536 → s ≡ (r + (65536 - k)) % 65536 → steps s r ≡ k
steps-back r s k h g e = omega arith

-- the lanes of such a number
pub lanes-back : (W : ℕ) (r : Window) (back seq : ℕ) → W ≤ 65536 → r.reference < 65536 → back < W
    → seq ≡ (r.reference + (65536 - back)) % 65536 → lanes_of W r seq ≡ get_or r.marks back none
lanes-back W r back seq small carried inside at =
    let is : steps seq r.reference ≡ back = steps-back r.reference seq back carried (omega arith) at in
    ap (lanes_behind r) (cond-true (ltb (steps seq r.reference) W) (Behind (steps seq r.reference)) (Ahead (steps r.reference seq)) (lt-ltb (steps seq r.reference) W (omega arith)) ∙ ap Behind is)

-- a number noted so far before the greatest one
pub noted-back : (W : ℕ) (r : Window) (back seq : ℕ) (lanes : Lanes) → W ≤ 65536 → r.reference < 65536 → back < W
    → seq ≡ (r.reference + (65536 - back)) % 65536 → get_or r.marks back none ≡ none → known lanes ≡ lanes
    → window_noted W r seq lanes ≡ record { reference = r.reference; marks = set r.marks back lanes }
noted-back W r back seq lanes small carried inside at new plain =
    let is : steps seq r.reference ≡ back = steps-back r.reference seq back carried (omega arith) at in
    ap (noted_at W r seq lanes) (cond-true (ltb (steps seq r.reference) W) (Behind (steps seq r.reference)) (Ahead (steps r.reference seq)) (lt-ltb (steps seq r.reference) W (omega arith)) ∙ ap Behind is)
    ∙ (λ i. record { reference = r.reference; marks = set r.marks back (first-lanes (get_or r.marks back none) lanes new plain i) })

-- of w numbers that are spelled, the lanes of those up to a distance; those further back are noted on none yet
abbrev mark_to : ℕ → List ℕ → ℕ → ℕ → Lanes
mark_to w lanes back k = cond (ltb k back) (lanes_noted w lanes k) none

unfoldable pub marks_to : ℕ → ℕ → List ℕ → ℕ → List Lanes
marks_to W w lanes back = map (mark_to w lanes back) (range_with_len 0 W)

count-to : (W w : ℕ) (lanes : List ℕ) (back : ℕ) → length (marks_to W w lanes back) ≡ W
unfolding marks_to
count-to W w lanes back = length-map-range_with_len (mark_to w lanes back) 0 W

at-to : (W w : ℕ) (lanes : List ℕ) (back k : ℕ) → k < W → get_or (marks_to W w lanes back) k none ≡ mark_to w lanes back k
unfolding marks_to
at-to W w lanes back k h = get_or-map-range_with_len (mark_to w lanes back) 0 W k k none h (omega arith)

pub not-yet : (W w : ℕ) (lanes : List ℕ) (back : ℕ) → back < W → get_or (marks_to W w lanes back) back none ≡ none
not-yet W w lanes back h = at-to W w lanes back back h ∙ cond-false (ltb back back) (lanes_noted w lanes back) none (le-ltb back back (omega arith))

within : (W n k : ℕ) → n ≡ W → k < n → k < W
within W n k e h = omega arith

-- one number more
pub marks-more : (W w : ℕ) (lanes : List ℕ) (back : ℕ) → back < W → set (marks_to W w lanes back) back (lanes_noted w lanes back) ≡ marks_to W w lanes (back + 1)
marks-more W w lanes back inside =
    ext_get_or none (set (marks_to W w lanes back) back (lanes_noted w lanes back)) (marks_to W w lanes (back + 1))
    (length-set (marks_to W w lanes back) back (lanes_noted w lanes back) ∙ count-to W w lanes back ∙ sym (count-to W w lanes (back + 1)))
    (λ k h. at k (within W (length (set (marks_to W w lanes back) back (lanes_noted w lanes back))) k (length-set (marks_to W w lanes back) back (lanes_noted w lanes back) ∙ count-to W w lanes back) h))
  where
    near : (k : ℕ) → k < back → mark_to w lanes back k ≡ mark_to w lanes (back + 1) k
    near k h =
        cond-true (ltb k back) (lanes_noted w lanes k) none (lt-ltb k back h)
        ∙ sym (cond-true (ltb k (back + 1)) (lanes_noted w lanes k) none (lt-ltb k (back + 1) (omega arith)))

    far : (k : ℕ) → back < k → mark_to w lanes back k ≡ mark_to w lanes (back + 1) k
    far k h =
        cond-false (ltb k back) (lanes_noted w lanes k) none (le-ltb k back (omega arith))
        ∙ sym (cond-false (ltb k (back + 1)) (lanes_noted w lanes k) none (le-ltb k (back + 1) (omega arith)))

    here : (k : ℕ) → k < W → k ≡ back → get_or (set (marks_to W w lanes back) back (lanes_noted w lanes back)) k none ≡ get_or (marks_to W w lanes (back + 1)) k none
    here k h e =
        ap (λ n. get_or (set (marks_to W w lanes back) back (lanes_noted w lanes back)) n none) e
        ∙ get_or-set_same (marks_to W w lanes back) back (lanes_noted w lanes back) none (omega (arith, count-to W w lanes back))
        ∙ sym (cond-true (ltb back (back + 1)) (lanes_noted w lanes back) none (lt-ltb back (back + 1) (omega arith)))
        ∙ sym (at-to W w lanes (back + 1) back inside)
        ∙ ap (λ n. get_or (marks_to W w lanes (back + 1)) n none) (sym e)

    other : (k : ℕ) → k < W → k ≢ back → mark_to w lanes back k ≡ mark_to w lanes (back + 1) k
        → get_or (set (marks_to W w lanes back) back (lanes_noted w lanes back)) k none ≡ get_or (marks_to W w lanes (back + 1)) k none
    other k h apart same =
        get_or-set_other (marks_to W w lanes back) back k (lanes_noted w lanes back) none apart
        ∙ at-to W w lanes back k h ∙ same ∙ sym (at-to W w lanes (back + 1) k h)

    at : (k : ℕ) → k < W → get_or (set (marks_to W w lanes back) back (lanes_noted w lanes back)) k none ≡ get_or (marks_to W w lanes (back + 1)) k none
    at k h =
        elim (cases_lt k back) [
          | inl less ↦ other k h (λ e. absurd (omega arith)) (near k less)
          | inr more ↦ elim (cases_lt back k) [
            | inl less ↦ other k h (λ e. absurd (omega arith)) (far k less)
            | inr same ↦ here k h (omega arith)
          ]
        ]

-- none yet, and all of them that the record can have
marks-none : (W w : ℕ) (lanes : List ℕ) → no_marks W ≡ marks_to W w lanes 0
marks-none W w lanes =
    ext_get_or none (no_marks W) (marks_to W w lanes 0) (length-no_marks W ∙ sym (count-to W w lanes 0))
    (λ k h. let inside : k < W = omega (arith, length-no_marks W) in get_or-no_marks W k inside ∙ sym (cond-false (ltb k 0) (lanes_noted w lanes k) none (le-ltb k 0 (omega arith))) ∙ sym (at-to W w lanes 0 k inside))

pub marks-begun : (W w : ℕ) (lanes : List ℕ) (seq : ℕ) → 0 < W → window_begun W seq (lanes_noted w lanes 0) ≡ record { reference = seq; marks = marks_to W w lanes 1 }
marks-begun W w lanes seq some =
    (λ i. record { reference = seq; marks = set (no_marks W) 0 (first-lanes (get_or (no_marks W) 0 none) (lanes_noted w lanes 0) (get_or-no_marks W 0 some) (known-lanes_where (is_set w lanes 0)) i) })
    ∙ (λ i. record { reference = seq; marks = set (marks-none W w lanes i) 0 (lanes_noted w lanes 0) })
    ∙ (λ i. record { reference = seq; marks = marks-more W w lanes 0 some i })

-- the marks of a record at another width, one by one
pub cut-count : (W : ℕ) (marks : List Lanes) → length (marks_cut W marks) ≡ W
cut-count W marks = length-take-le W (marks ++ no_marks W) (omega (arith, length-append marks (no_marks W), length-no_marks W))

pub cut-within : (W : ℕ) (marks : List Lanes) (k : ℕ) → k < W → k < length marks → get_or (marks_cut W marks) k none ≡ get_or marks k none
cut-within W marks k inside within = get_or-take W (marks ++ no_marks W) k none inside ∙ get_or_append_left marks (no_marks W) none k within

pub cut-past : (W : ℕ) (marks : List Lanes) (k : ℕ) → k < W → length marks ≤ k → get_or (marks_cut W marks) k none ≡ none
cut-past W marks k inside past =
    get_or-take W (marks ++ no_marks W) k none inside
    ∙ get_or-append_right marks (no_marks W) (length marks) k none refl past
    ∙ get_or-no_marks W (k - length marks) (omega arith)

pub marks-all : (W w : ℕ) (lanes : List ℕ) (both : ℕ) → both ≡ min w W → marks_to W w lanes both ≡ marks_cut W (marks_in w lanes)
marks-all W w lanes both least =
    ext_get_or none (marks_to W w lanes both) (marks_cut W (marks_in w lanes)) (count-to W w lanes both ∙ sym (cut-count W (marks_in w lanes)))
    (λ k h. at k (within W (length (marks_to W w lanes both)) k (count-to W w lanes both) h))
  where
    at : (k : ℕ) → k < W → get_or (marks_to W w lanes both) k none ≡ get_or (marks_cut W (marks_in w lanes)) k none
    at k inside =
        elim (cases_lt k w) [
          | inl less ↦
              at-to W w lanes both k inside
              ∙ cond-true (ltb k both) (lanes_noted w lanes k) none (lt-ltb k both (omega arith))
              ∙ sym (cut-within W (marks_in w lanes) k inside (omega (arith, marks-count w lanes)) ∙ marks-at w lanes k less)
          | inr more ↦
              at-to W w lanes both k inside
              ∙ cond-false (ltb k both) (lanes_noted w lanes k) none (le-ltb k both (omega arith))
              ∙ sym (cut-past W (marks_in w lanes) k inside (omega (arith, marks-count w lanes)))
        ]

-- a record has no more numbers than the wire
pub small : {N : ℕ} (r : Record N) → 64 * N ≤ 65536
small {N} r = by (record-width r)
  where
    by : IsWidth (64 * N) → 64 * N ≤ 65536
    by (inl e) = omega arith
    by (inr e) = omega arith
