-- Bins of a ring of rows.
use Rattle.std.proofs.Common.{◌≡◌, ◌≢◌, ℕ, ◌+◌, ◌*◌, ◌-◌, ◌/◌, ◌%◌, ◌<◌, ◌≤◌, Bool, true, false, cond, eqb, ltb, leb, ◌||◌, ◌&&◌, ◌⊎◌, List, [], ◌∷◌, length, get_or, set, replicate, arith, refl, sym, ap, ◌∙◌, inl, inr}
use Rattle.std.proofs.lemmas.Bool.Decides.{nat_tests}
use Rattle.std.proofs.lemmas.Bool.{cases_eq, cases_lt, eq-eqb, ne_eqb, cond-true, cond-false}
use Rattle.std.proofs.lemmas.List.{get_or-set_same, get_or-set_other, get_or_past, get_or-replicate, length-replicate}
use Rattle.sr_dup_window.specs.declared.lane_sets.Lanes.{Lanes}
use Rattle.sr_dup_window.specs.LaneSets.{none}
use Rattle.sr_dup_window.specs.Bins.{lanes_in, lanes_at, way_round, is_passed, IsWidth}
use Rattle.sr_dup_window.proofs.RowLemmas.{zero_lanes, no_row_lanes}

-- the lanes at a bin after a row is written
set_row : (rows : List (List ℕ)) (i : ℕ) (row : List ℕ) (p : ℕ) → i < length rows → lanes_at (set rows i row) p ≡ cond (eqb (p / 64) i) (lanes_in row (p % 64)) (lanes_at rows p)
set_row rows i row p h =
    elim (cases_eq (p / 64) i) [
      | inl e ↦ ap (λ r. lanes_in r (p % 64)) (ap (λ k. get_or (set rows i row) k []) e ∙ get_or-set_same rows i row [] h)
          ∙ sym (cond-true (eqb (p / 64) i) (lanes_in row (p % 64)) (lanes_at rows p) (eq-eqb (p / 64) i e))
      | inr ne ↦ ap (λ r. lanes_in r (p % 64)) (get_or-set_other rows i (p / 64) row [] ne)
          ∙ sym (cond-false (eqb (p / 64) i) (lanes_in row (p % 64)) (lanes_at rows p) (ne_eqb (p / 64) i ne))
    ]

-- writing one bit of a row writes one bin
pub written_place : (rows : List (List ℕ)) (row : List ℕ) (f : Lanes → Lanes) (bin p : ℕ) → bin < 64 * length rows → ((b : ℕ) → b < 64 → lanes_in row b ≡ cond (eqb b (bin % 64)) (f (lanes_in (get_or rows (bin / 64) []) b)) (lanes_in (get_or rows (bin / 64) []) b)) → lanes_at (set rows (bin / 64) row) p ≡ cond (eqb p bin) (f (lanes_at rows p)) (lanes_at rows p)
written_place rows row f bin p h writes =
    set_row rows (bin / 64) row p (omega arith)
    ∙ (elim (cases_eq (p / 64) (bin / 64)) as (λ _. cond (eqb (p / 64) (bin / 64)) (lanes_in row (p % 64)) (lanes_at rows p) ≡ cond (eqb p bin) (f (lanes_at rows p)) (lanes_at rows p)) [
      | inl e ↦ cond-true (eqb (p / 64) (bin / 64)) (lanes_in row (p % 64)) (lanes_at rows p) (eq-eqb (p / 64) (bin / 64) e)
          ∙ writes (p % 64) (omega arith)
          ∙ ap (λ i. cond (eqb (p % 64) (bin % 64)) (f (lanes_in (get_or rows i []) (p % 64))) (lanes_in (get_or rows i []) (p % 64))) (sym e)
          ∙ ap (λ t. cond t (f (lanes_at rows p)) (lanes_at rows p)) (same_test p bin e)
      | inr ne ↦ cond-false (eqb (p / 64) (bin / 64)) (lanes_in row (p % 64)) (lanes_at rows p) (ne_eqb (p / 64) (bin / 64) ne)
          ∙ sym (cond-false (eqb p bin) (f (lanes_at rows p)) (lanes_at rows p) (ne_eqb p bin (λ e. ne (ap (λ n. n / 64) e))))
    ])
  where
    same_test : (p bin : ℕ) → p / 64 ≡ bin / 64 → eqb (p % 64) (bin % 64) ≡ eqb p bin
    same_test p bin e = grind (arith, nat_tests)

-- clearing bits of a row clears a run of bins
pub cleared_run : (rows : List (List ℕ)) (row : List ℕ) (start count p : ℕ) → start < 64 * length rows → start % 64 + count ≤ 64 → ((b : ℕ) → b < 64 → lanes_in row b ≡ cond (leb (start % 64) b && ltb b (start % 64 + count)) none (lanes_in (get_or rows (start / 64) []) b)) → lanes_at (set rows (start / 64) row) p ≡ cond (leb start p && ltb p (start + count)) none (lanes_at rows p)
cleared_run rows row start count p h within keeps =
    set_row rows (start / 64) row p (omega arith)
    ∙ (elim (cases_eq (p / 64) (start / 64)) as (λ _. cond (eqb (p / 64) (start / 64)) (lanes_in row (p % 64)) (lanes_at rows p) ≡ cond (leb start p && ltb p (start + count)) none (lanes_at rows p)) [
      | inl e ↦ cond-true (eqb (p / 64) (start / 64)) (lanes_in row (p % 64)) (lanes_at rows p) (eq-eqb (p / 64) (start / 64) e)
          ∙ keeps (p % 64) (omega arith)
          ∙ ap (λ i. cond (leb (start % 64) (p % 64) && ltb (p % 64) (start % 64 + count)) none (lanes_in (get_or rows i []) (p % 64))) (sym e)
          ∙ ap (λ t. cond t none (lanes_at rows p)) (same_test p start count e)
      | inr ne ↦ cond-false (eqb (p / 64) (start / 64)) (lanes_in row (p % 64)) (lanes_at rows p) (ne_eqb (p / 64) (start / 64) ne)
          ∙ sym (cond-false (leb start p && ltb p (start + count)) none (lanes_at rows p) (other_row p start count ne within))
    ])
  where
    same_test : (p start count : ℕ) → p / 64 ≡ start / 64 → (leb (start % 64) (p % 64) && ltb (p % 64) (start % 64 + count)) ≡ (leb start p && ltb p (start + count))
    same_test p start count e = grind (arith, nat_tests)

    other_row : (p start count : ℕ) → p / 64 ≢ start / 64 → start % 64 + count ≤ 64 → (leb start p && ltb p (start + count)) ≡ false
    other_row p start count ne h = grind (arith, nat_tests)

-- one more run of the bins that are passed over
run_narrow : (from done run start p : ℕ) → from < 1024 → done + run < 1024 → start < 1024 → run ≤ 64 - start % 64 → (start ≡ from + 1 + done) ⊎ (start + 1024 ≡ from + 1 + done) → p < 1024 → ((leb start p && ltb p (start + run)) || is_passed 1024 from done p) ≡ is_passed 1024 from (done + run) p
run_narrow from done run start p h g i j (inl at) q = grind (arith, nat_tests)
run_narrow from done run start p h g i j (inr at) q = grind (arith, nat_tests)

run_wide : (from done run start p : ℕ) → from < 2048 → done + run < 2048 → start < 2048 → run ≤ 64 - start % 64 → (start ≡ from + 1 + done) ⊎ (start + 2048 ≡ from + 1 + done) → p < 2048 → ((leb start p && ltb p (start + run)) || is_passed 2048 from done p) ≡ is_passed 2048 from (done + run) p
run_wide from done run start p h g i j (inl at) q = grind (arith, nat_tests)
run_wide from done run start p h g i j (inr at) q = grind (arith, nat_tests)

-- what is left to clear after one more run of bins
pub run_cleared : (w from done run start : ℕ) (rows mid new : List (List ℕ)) → IsWidth w → from < w → done + run < w → start < w → run ≤ 64 - start % 64 → (start ≡ from + 1 + done) ⊎ (start + w ≡ from + 1 + done) → ((p : ℕ) → p < w → lanes_at mid p ≡ cond (is_passed w from done p) none (lanes_at rows p)) → ((p : ℕ) → lanes_at new p ≡ cond (leb start p && ltb p (start + run)) none (lanes_at mid p)) → (p : ℕ) → p < w → lanes_at new p ≡ cond (is_passed w from (done + run) p) none (lanes_at rows p)
run_cleared w from done run start rows mid new width h g i j at before after p q =
    after p
    ∙ ap (λ x. cond (leb start p && ltb p (start + run)) none x) (before p q)
    ∙ either (leb start p && ltb p (start + run)) (is_passed w from done p)
    ∙ ap (λ t. cond t none (lanes_at rows p)) (one_more w from done run start p width h g i j at q)
  where
    either : (s t : Bool) → cond s none (cond t none (lanes_at rows p)) ≡ cond (s || t) none (lanes_at rows p)
    either true t = refl
    either false t = refl

    one_more : (w from done run start p : ℕ) → IsWidth w → from < w → done + run < w → start < w → run ≤ 64 - start % 64 → (start ≡ from + 1 + done) ⊎ (start + w ≡ from + 1 + done) → p < w → ((leb start p && ltb p (start + run)) || is_passed w from done p) ≡ is_passed w from (done + run) p
    one_more w from done run start p (inl e) h g i j at q =
        let a : from < 1024 = omega arith in
        let b : done + run < 1024 = omega arith in
        let c : start < 1024 = omega arith in
        let d : p < 1024 = omega arith in
        rw e (run_narrow from done run start p a b c j (elim at [ inl k ↦ inl k | inr k ↦ inr (omega arith) ]) d)
    one_more w from done run start p (inr e) h g i j at q =
        let a : from < 2048 = omega arith in
        let b : done + run < 2048 = omega arith in
        let c : start < 2048 = omega arith in
        let d : p < 2048 = omega arith in
        rw e (run_wide from done run start p a b c j (elim at [ inl k ↦ inl k | inr k ↦ inr (omega arith) ]) d)

-- nothing is passed over at first
pub none_cleared : (w from : ℕ) (rows : List (List ℕ)) (p : ℕ) → lanes_at rows p ≡ cond (is_passed w from 0 p) none (lanes_at rows p)
none_cleared w from rows p = ap (λ t. cond t none (lanes_at rows p)) (sym (no_step (way_round w from p)))
  where
    no_step : (d : ℕ) → (ltb 0 d && leb d 0) ≡ false
    no_step d = grind (arith, nat_tests)

-- rows of zeros have no bin
pub cleared_place : (rows : List (List ℕ)) (n p : ℕ) → length rows ≡ n → ((k : ℕ) → k < n → get_or rows k [] ≡ 0 ∷ 0 ∷ 0 ∷ 0 ∷ 0 ∷ 0 ∷ []) → lanes_at rows p ≡ none
cleared_place rows n p e zeros =
    elim (cases_lt (p / 64) n) [
      | inl h ↦ ap (λ row. lanes_in row (p % 64)) (zeros (p / 64) h) ∙ zero_lanes (p % 64)
      | inr h ↦ ap (λ row. lanes_in row (p % 64)) (get_or_past rows (p / 64) [] (omega arith)) ∙ no_row_lanes (p % 64)
    ]

-- a ring of zeros, as `begin` makes it
pub zero_ring : (n p : ℕ) → lanes_at (replicate n (0 ∷ 0 ∷ 0 ∷ 0 ∷ 0 ∷ 0 ∷ [])) p ≡ none
zero_ring n p = cleared_place (replicate n (0 ∷ 0 ∷ 0 ∷ 0 ∷ 0 ∷ 0 ∷ [])) n p (length-replicate n (0 ∷ 0 ∷ 0 ∷ 0 ∷ 0 ∷ 0 ∷ [])) (λ k h. get_or-replicate n k (0 ∷ 0 ∷ 0 ∷ 0 ∷ 0 ∷ 0 ∷ []) [] h)
