-- What goes out in the order of moments, A first at equal ones, is the beginning of the merge.
use Rattle.std.proofs.Common.{◌≡◌, ℕ, suc, ◌+◌, ◌≤◌, Bool, true, false, nat_lt, if◌then◌else◌, List, [], ◌∷◌, ◌++◌, length, refl, ap, sym, ◌∙◌, append_assoc, arith}
use Rattle.std.proofs.lemmas.Bool.{le-ltb, lt-ltb}
use Rattle.sr_hold.specs.declared.recorder.Recorder.{Recorder}
use Rattle.sr_hold.specs.declared.recorder.Recorder.TheVariants.{A, B}
use Rattle.sr_hold.specs.declared.hold.Held.{Held}
use Rattle.sr_hold.specs.declared.hold.Released.{Released}
use Rattle.sr_hold.specs.Order.{as_released}
use Rattle.sr_hold.specs.Turns.{same_recorder, held_if, released_of, first_merged, NeverGoesBackFrom}
use Rattle.sr_hold.proofs.ChainLemmas.{FrontFrom, Chain, front_lower}

-- a moment alone
abbrev pub by_moment : Recorder → ℕ → ℕ
by_moment r m = m

-- a moment and, at equal ones, A before B
abbrev pub by_order : Recorder → ℕ → ℕ
by_order A m = m + m
by_order B m = m + m + 1

module _ {T : Type 0} where
  pub released_of-append : (r : Recorder) (out more : List (Released T)) → released_of r (out ++ more) ≡ released_of r out ++ released_of r more
  released_of-append r [] more = refl
  released_of-append r (x ∷ out) more =
      ap (λ l. held_if (same_recorder r x.recorder) x ++ l) (released_of-append r out more)
      ∙ sym (append_assoc (held_if (same_recorder r x.recorder) x) (released_of r out) (released_of r more))

  pub chain-back : (low : ℕ) (out : List (Released T)) (xs ys : List (Held T)) → Chain by_moment low out xs ys → NeverGoesBackFrom low out
  chain-back low [] xs ys c = tt
  chain-back low (x ∷ out) xs ys c = (c.0, chain-back x.moment out xs ys c.1)

  front_a_by : (low : ℕ) (r : Recorder) (m : ℕ) (i : T) (out : List (Released T)) (xs : List (Held T)) → low ≤ by_order r m →
      FrontFrom by_order A (by_order r m) (released_of A out ++ xs) →
      FrontFrom by_order A low (released_of A (record { recorder = r; moment = m; item = i } ∷ out) ++ xs)
  front_a_by low A m i out xs le front = le
  front_a_by low B m i out xs le front = front_lower by_order A low (by_order B m) (released_of A out ++ xs) le front

  pub front_a : (low : ℕ) (out : List (Released T)) (xs ys : List (Held T)) → Chain by_order low out xs ys →
      FrontFrom by_order A low (released_of A out ++ xs)
  front_a low [] xs ys c = c.0
  front_a low (x ∷ out) xs ys c =
      front_a_by low x.recorder x.moment x.item out xs c.0 (front_a (by_order x.recorder x.moment) out xs ys c.1)

  front_b_by : (low : ℕ) (r : Recorder) (m : ℕ) (i : T) (out : List (Released T)) (ys : List (Held T)) → low ≤ by_order r m →
      FrontFrom by_order B (by_order r m) (released_of B out ++ ys) →
      FrontFrom by_order B low (released_of B (record { recorder = r; moment = m; item = i } ∷ out) ++ ys)
  front_b_by low A m i out ys le front = front_lower by_order B low (by_order A m) (released_of B out ++ ys) le front
  front_b_by low B m i out ys le front = le

  pub front_b : (low : ℕ) (out : List (Released T)) (xs ys : List (Held T)) → Chain by_order low out xs ys →
      FrontFrom by_order B low (released_of B out ++ ys)
  front_b low [] xs ys c = c.1
  front_b low (x ∷ out) xs ys c =
      front_b_by low x.recorder x.moment x.item out ys c.0 (front_b (by_order x.recorder x.moment) out xs ys c.1)

  -- the first one of a merge
  first_a : (n : ℕ) (x : Held T) (xs ys : List (Held T)) → FrontFrom by_order B (by_order A x.moment) ys →
      first_merged (suc n) (x ∷ xs) ys ≡ as_released A x ∷ first_merged n xs ys
  first_a n x xs [] front = refl
  first_a n x xs (y ∷ ys) front =
      let over : x.moment + x.moment ≤ y.moment + y.moment + 1 = front in
      let no : nat_lt y.moment x.moment ≡ false = le-ltb y.moment x.moment (omega (arith, over)) in
      ap (λ (b : Bool). if b then as_released B y ∷ first_merged n (x ∷ xs) ys else as_released A x ∷ first_merged n xs (y ∷ ys)) no

  first_b : (n : ℕ) (y : Held T) (xs ys : List (Held T)) → FrontFrom by_order A (by_order B y.moment) xs →
      first_merged (suc n) xs (y ∷ ys) ≡ as_released B y ∷ first_merged n xs ys
  first_b n y [] ys front = refl
  first_b n y (x ∷ xs) ys front =
      let over : y.moment + y.moment + 1 ≤ x.moment + x.moment = front in
      let yes : nat_lt y.moment x.moment ≡ true = lt-ltb y.moment x.moment (omega (arith, over)) in
      ap (λ (b : Bool). if b then as_released B y ∷ first_merged n (x ∷ xs) ys else as_released A x ∷ first_merged n xs (y ∷ ys)) yes

  merged_by : (r : Recorder) (m : ℕ) (i : T) (out : List (Released T)) (xs ys : List (Held T)) → Chain by_order (by_order r m) out xs ys →
      first_merged (length out) (released_of A out ++ xs) (released_of B out ++ ys) ≡ out →
      first_merged (suc (length out)) (released_of A (record { recorder = r; moment = m; item = i } ∷ out) ++ xs)
      (released_of B (record { recorder = r; moment = m; item = i } ∷ out) ++ ys)
      ≡ record { recorder = r; moment = m; item = i } ∷ out
  merged_by A m i out xs ys c e =
      first_a (length out) (record { moment = m; item = i }) (released_of A out ++ xs) (released_of B out ++ ys)
      (front_b (by_order A m) out xs ys c)
      ∙ ap (λ l. as_released A (record { moment = m; item = i }) ∷ l) e
  merged_by B m i out xs ys c e =
      first_b (length out) (record { moment = m; item = i }) (released_of A out ++ xs) (released_of B out ++ ys)
      (front_a (by_order B m) out xs ys c)
      ∙ ap (λ l. as_released B (record { moment = m; item = i }) ∷ l) e

  pub chain-merged : (low : ℕ) (out : List (Released T)) (xs ys : List (Held T)) → Chain by_order low out xs ys →
      first_merged (length out) (released_of A out ++ xs) (released_of B out ++ ys) ≡ out
  chain-merged low [] xs ys c = refl
  chain-merged low (x ∷ out) xs ys c =
      merged_by x.recorder x.moment x.item out xs ys c.1 (chain-merged (by_order x.recorder x.moment) out xs ys c.1)
