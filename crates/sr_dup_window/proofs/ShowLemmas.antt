-- What a ring shows of the numbers up to a reference.
use Rattle.std.proofs.Common.{◌≡◌, ℕ, ◌+◌, ◌*◌, ◌-◌, ◌%◌, ◌<◌, ◌≤◌, false, cond, eqb, ltb, leb, ◌||◌, List, length, get_or, arith, sym, ap, ◌∙◌, inl, inr}
use Rattle.std.proofs.lemmas.Bool.{cases_eq, cases_lt, eq-eqb, ne_eqb, lt-ltb, le-ltb, cond-true, cond-false}
use Rattle.std.proofs.lemmas.List.{get_or-set_same, get_or-set_other, length-set}
use Rattle.std.proofs.lemmas.List.FromFn.{fill_by_all}
use Rattle.std.proofs.lemmas.Simd.{get_or-zip2, length-zip2}
use lib.Lanes.{zip2}
use Rattle.sr_dup_window.specs.declared.lane_sets.Lanes.{Lanes}
use Rattle.sr_dup_window.specs.declared.record.Record.{Record}
use Rattle.sr_dup_window.specs.LaneSets.{none, union}
use Rattle.sr_dup_window.specs.Bins.{lanes_at, is_passed, IsWidth}
use Rattle.sr_dup_window.specs.Windows.{marks_of, no_marks, marks_with, marks_slid}
use Rattle.sr_dup_window.specs.RecordLemmas.{marks-count, marks-at}
use Rattle.sr_dup_window.specs.WindowLemmas.{width-some, width-most, length-no_marks, get_or-no_marks, length-slid, slid-new, slid-old}
use Rattle.sr_dup_window.proofs.PlaceLemmas.{bin, bin_inside, bin_zero, bin-eq, passed_bin, bin_kept}

-- the places of the w numbers up to r have these lanes, newest first
pub record Shows (w : ℕ) (rows : List (List ℕ)) (r : ℕ) (marks : List Lanes) : Type 0 where
  pub count : length marks ≡ w
  pub each : (k : ℕ) → k < w → lanes_at rows (bin w r k) ≡ get_or marks k none

-- a record shows its marks, and no other
pub shows_marks : {N : ℕ} (r : Record N) → Shows (64 * N) r.rows r.reference.0 (marks_of r)
shows_marks r = record { count = marks-count r; each = λ k h. sym (marks-at r k h) }

pub marks_are : {N : ℕ} (r : Record N) (marks : List Lanes) → Shows (64 * N) r.rows r.reference.0 marks → marks_of r ≡ marks
unfolding marks_of
marks_are {N} r marks s = sym (fill_by_all (λ k. lanes_at r.rows (bin (64 * N) r.reference.0 k)) marks (64 * N) none s.count (λ k h. sym (s.each k h)))

-- more lanes at the place of one number
pub marked_shows : (w : ℕ) (rows new : List (List ℕ)) (r : ℕ) (marks : List Lanes) (k place : ℕ) (lanes : Lanes) → IsWidth w → r < 65536 → k < w → bin w r k ≡ place → Shows w rows r marks → ((p : ℕ) → lanes_at new p ≡ cond (eqb p place) (union (lanes_at rows p) lanes) (lanes_at rows p)) → Shows w new r (marks_with marks k lanes)
marked_shows w rows new r marks k place lanes width h inside at s marks_new = record {
  count = length-set marks k (union (get_or marks k none) lanes) ∙ s.count;
  each = λ j g.
      marks_new (bin w r j)
      ∙ ap (λ p. cond (eqb (bin w r j) p) (union (lanes_at rows (bin w r j)) lanes) (lanes_at rows (bin w r j))) (sym at)
      ∙ ap (λ t. cond t (union (lanes_at rows (bin w r j)) lanes) (lanes_at rows (bin w r j))) (bin-eq w r j k width h g inside)
      ∙ ap (λ x. cond (eqb j k) (union x lanes) x) (s.each j g)
      ∙ written j g;
}
  where
    written : (j : ℕ) → j < w → cond (eqb j k) (union (get_or marks j none) lanes) (get_or marks j none) ≡ get_or (marks_with marks k lanes) j none
    written j g =
        elim (cases_eq j k) [
          | inl e ↦ cond-true (eqb j k) (union (get_or marks j none) lanes) (get_or marks j none) (eq-eqb j k e)
              ∙ ap (λ i. union (get_or marks i none) lanes) e
              ∙ sym (get_or-set_same marks k (union (get_or marks k none) lanes) none (omega (arith, s.count)))
              ∙ ap (λ i. get_or (marks_with marks k lanes) i none) (sym e)
          | inr ne ↦ cond-false (eqb j k) (union (get_or marks j none) lanes) (get_or marks j none) (ne_eqb j k ne)
              ∙ sym (get_or-set_other marks k j (union (get_or marks k none) lanes) none ne)
        ]

-- the numbers between the reference and a later one passed over
pub passed_shows : (w : ℕ) (rows new : List (List ℕ)) (r from later : ℕ) (marks : List Lanes) (a : ℕ) → IsWidth w → r < 65536 → a ≤ 65536 - w → r % w ≡ from → (r + a) % 65536 ≡ later → Shows w rows r marks → ((p : ℕ) → p < w → lanes_at new p ≡ cond (is_passed w from a p || leb w a) none (lanes_at rows p)) → Shows w new later (marks_slid w a marks)
passed_shows w rows new r from later marks a width h most at to s passes = record {
  count = length-slid w a marks s.count;
  each = λ j g.
      let p = bin w ((r + a) % 65536) j in
      ap (λ n. lanes_at new (bin w n j)) (sym to)
      ∙ passes p (bin_inside w ((r + a) % 65536) j width)
      ∙ ap (λ n. cond (is_passed w n a p || leb w a) none (lanes_at rows p)) (sym at)
      ∙ ap (λ t. cond t none (lanes_at rows p)) (passed_bin w r a j width h most g)
      ∙ (elim (cases_lt j a) as (λ _. cond (ltb j a) none (lanes_at rows p) ≡ get_or (marks_slid w a marks) j none) [
        | inl less ↦ cond-true (ltb j a) none (lanes_at rows p) (lt-ltb j a less) ∙ sym (slid-new w a marks j g less)
        | inr more ↦ cond-false (ltb j a) none (lanes_at rows p) (le-ltb j a more)
            ∙ ap (lanes_at rows) (bin_kept w r a j more (omega (arith, width-most w width)))
            ∙ s.each (j - a) (omega arith)
            ∙ sym (slid-old w a marks j g more)
      ]);
}

-- a later number noted, and those between passed over
pub noted_shows : (w : ℕ) (rows mid new : List (List ℕ)) (r from later place : ℕ) (marks : List Lanes) (a : ℕ) (lanes : Lanes) → IsWidth w → r < 65536 → 0 < a → a ≤ 65536 - w → r % w ≡ from → (r + a) % 65536 ≡ later → later % w ≡ place → Shows w rows r marks → ((p : ℕ) → p < w → lanes_at mid p ≡ cond (is_passed w from (a - 1) p || leb w (a - 1)) none (lanes_at rows p)) → ((p : ℕ) → lanes_at new p ≡ cond (eqb p place) (union none lanes) (lanes_at mid p)) → Shows w new later (marks_with (marks_slid w a marks) 0 lanes)
noted_shows w rows mid new r from later place marks a lanes width h some most at to there s passes puts = record {
  count = length-set slid 0 (union (get_or slid 0 none) lanes) ∙ length-slid w a marks s.count;
  each = λ j g. elim (cases_eq j 0) [ inl e ↦ newest j g e | inr ne ↦ before j g (omega (arith, ne)) ];
}
  where
    slid : List Lanes
    slid = marks_slid w a marks

    one_less : (r a j : ℕ) → 0 < a → 0 < j → j ≤ 65536 → ((r + a) % 65536 + (65536 - j)) % 65536 ≡ ((r + (a - 1)) % 65536 + (65536 - (j - 1))) % 65536
    one_less r a j h g i = omega arith

    newest : (j : ℕ) → j < w → j ≡ 0 → lanes_at new (bin w later j) ≡ get_or (marks_with slid 0 lanes) j none
    newest j g e =
        let here : bin w later j ≡ place = ap (bin w later) e ∙ bin_zero w later (omega (arith, to)) ∙ there in
        puts (bin w later j)
        ∙ cond-true (eqb (bin w later j) place) (union none lanes) (lanes_at mid (bin w later j)) (eq-eqb (bin w later j) place here)
        ∙ ap (λ x. union x lanes) (sym (slid-new w a marks 0 (width-some w width) some))
        ∙ sym (get_or-set_same slid 0 (union (get_or slid 0 none) lanes) none (omega (arith, length-slid w a marks s.count, width-some w width)))
        ∙ ap (λ i. get_or (marks_with slid 0 lanes) i none) (sym e)

    before : (j : ℕ) → j < w → 0 < j → lanes_at new (bin w later j) ≡ get_or (marks_with slid 0 lanes) j none
    before j g more =
        let p = bin w ((r + a) % 65536) j in
        let away : eqb (bin w later j) place ≡ false =
        ap (eqb (bin w later j)) (sym there ∙ sym (bin_zero w later (omega (arith, to))))
        ∙ bin-eq w later j 0 width (omega (arith, to)) g (width-some w width)
        ∙ ne_eqb j 0 (λ e. absurd (omega (arith, e))) in
        puts (bin w later j)
        ∙ cond-false (eqb (bin w later j) place) (union none lanes) (lanes_at mid (bin w later j)) away
        ∙ ap (λ n. lanes_at mid (bin w n j)) (sym to)
        ∙ passes p (bin_inside w ((r + a) % 65536) j width)
        ∙ ap (λ n. cond (is_passed w n (a - 1) p || leb w (a - 1)) none (lanes_at rows p)) (sym at)
        ∙ ap (λ q. cond (is_passed w (r % w) (a - 1) q || leb w (a - 1)) none (lanes_at rows p)) (ap (λ n. n % w) (one_less r a j some more (omega (arith, width-most w width))))
        ∙ ap (λ t. cond t none (lanes_at rows p)) (passed_bin w r (a - 1) (j - 1) width h (omega arith) (omega arith))
        ∙ (elim (cases_lt j a) as (λ _. cond (ltb (j - 1) (a - 1)) none (lanes_at rows p) ≡ get_or slid j none) [
          | inl less ↦ cond-true (ltb (j - 1) (a - 1)) none (lanes_at rows p) (lt-ltb (j - 1) (a - 1) (omega arith)) ∙ sym (slid-new w a marks j g less)
          | inr later ↦ cond-false (ltb (j - 1) (a - 1)) none (lanes_at rows p) (le-ltb (j - 1) (a - 1) (omega arith))
              ∙ ap (lanes_at rows) (bin_kept w r a j later (omega (arith, width-most w width)))
              ∙ s.each (j - a) (omega arith)
              ∙ sym (slid-old w a marks j g later)
        ])
        ∙ sym (get_or-set_other slid 0 j (union (get_or slid 0 none) lanes) none (λ e. absurd (omega (arith, e))))

-- two rings together
pub united_shows : (w : ℕ) (rows others new : List (List ℕ)) (r : ℕ) (marks other_marks : List Lanes) → IsWidth w → Shows w rows r marks → Shows w others r other_marks → ((p : ℕ) → p < w → lanes_at new p ≡ union (lanes_at rows p) (lanes_at others p)) → Shows w new r (zip2 union marks other_marks)
united_shows w rows others new r marks other_marks width s t unites = record {
  count = length-zip2 union marks other_marks (s.count ∙ sym t.count) ∙ s.count;
  each = λ k h.
      unites (bin w r k) (bin_inside w r k width)
      ∙ ap (λ x. union x (lanes_at others (bin w r k))) (s.each k h)
      ∙ ap (union (get_or marks k none)) (t.each k h)
      ∙ sym (get_or-zip2 union marks other_marks k none none none (omega (arith, s.count)) (omega (arith, t.count)));
}

-- a ring with no place
pub empty_shows : (w : ℕ) (rows : List (List ℕ)) (r : ℕ) → ((p : ℕ) → lanes_at rows p ≡ none) → Shows w rows r (no_marks w)
empty_shows w rows r empty = record {
  count = length-no_marks w;
  each = λ k h. empty (bin w r k) ∙ sym (get_or-no_marks w k h);
}
