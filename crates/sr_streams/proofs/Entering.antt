-- A spot more in a course.
use Rattle.std.proofs.Common.{◌≡◌, ℕ, zero, suc, ◌+◌, ◌-◌, List, [], ◌∷◌, length, take, Option, Some, None, refl, sym, ap, ◌∙◌, subst, arith, get_or, cond, eqb, eqb-true, eq-eqb}
use Rattle.std.specs.Prelude.{max, insert, slice_get, nat_le, ◌≢◌}
use Rattle.std.proofs.lemmas.Bool.{false_from_ne_true}
use Rattle.std.proofs.lemmas.List.Quantifiers.{position-Some}
use Rattle.std.proofs.lemmas.Option.{slice_get_read}
use Rattle.sr_streams.specs.declared.spot.Spot.{Spot}
use Rattle.sr_streams.specs.Courses.{pair_sum, between, turned, turned_at, parted, pairs_made, greatest_number, seat, seated, has_rank, spot_entered}
use Rattle.sr_streams.specs.Spots.{spot_rank}
use Rattle.sr_streams.specs.declared.numbers.Numbers.{Numbers}
use Rattle.sr_streams.specs.declared.sums.Sums.{Sums}
use Rattle.sr_streams.specs.Sums.{spot_before, AreSumsWith, AreSumsOf, KeepsSpots}

none_some : (y : Spot) → None ≡ Some y → ⊥
none_some y e = cc

some_same : (x y : Spot) → Some x ≡ Some y → x ≡ y
some_same x y e = cc

-- what the pairs tell, with a spot more
pub pairs_insert : (f : Spot → Spot → ℕ) (spot older : Spot) (xs : List Spot) (at : ℕ) → slice_get xs at ≡ Some older →
    pair_sum f (insert xs at spot) + parted f (spot_before at xs) older ≡ pair_sum f xs + pairs_made f (spot_before at xs) spot older
pairs_insert f spot older [] zero e = cc
pairs_insert f spot older [] (suc at) e = cc
pairs_insert f spot older (y ∷ []) zero e = omega (arith, ap (f spot) (some_same y older e))
pairs_insert f spot older (y ∷ z ∷ zs) zero e = omega (arith, ap (f spot) (some_same y older e))
pairs_insert f spot older (y ∷ []) (suc zero) e = cc
pairs_insert f spot older (y ∷ []) (suc (suc at)) e = cc
pairs_insert f spot older (y ∷ z ∷ zs) (suc zero) e =
    let same = some_same z older e in omega (arith, ap (f spot) same, ap (f y) same)
pairs_insert f spot older (y ∷ z ∷ zs) (suc (suc at)) e =
    let less = pairs_insert f spot older (z ∷ zs) (suc at) e in
    omega (arith, less)

-- the greatest number, with a spot more
pub top_insert : (spot : Spot) (xs : List Spot) (at : ℕ) → greatest_number (insert xs at spot) ≡ max (greatest_number xs) spot.number
top_insert spot [] zero = omega arith
top_insert spot [] (suc at) = omega arith
top_insert spot (y ∷ ys) zero = omega arith
top_insert spot (y ∷ ys) (suc at) = omega (arith, top_insert spot ys at)

take_take : (n : ℕ) (xs : List Spot) → take n (take (suc n) xs) ≡ take n xs
take_take zero xs = refl
take_take (suc n) [] = refl
take_take (suc n) (x ∷ xs) = ap (λ l. x ∷ l) (take_take n xs)

-- the first of some spots, with one more that stands among them
pub take_insert : (spot : Spot) (n : ℕ) (xs : List Spot) (at : ℕ) → take n (insert (take n xs) at spot) ≡ take n (insert xs at spot)
take_insert spot zero xs at = refl
take_insert spot (suc n) xs zero = ap (λ l. spot ∷ l) (take_take n xs)
take_insert spot (suc n) [] (suc at) = refl
take_insert spot (suc n) (x ∷ xs) (suc at) = ap (λ l. x ∷ l) (take_insert spot n xs at)

-- what stands at a place among the first stands there
pub get_taken : (n : ℕ) (xs : List Spot) (at : ℕ) (y : Spot) → slice_get (take n xs) at ≡ Some y → slice_get xs at ≡ Some y
get_taken zero xs zero y e = absurd (none_some y e)
get_taken zero xs (suc at) y e = absurd (none_some y e)
get_taken (suc n) [] at y e = e
get_taken (suc n) (x ∷ xs) zero y e = e
get_taken (suc n) (x ∷ xs) (suc at) y e = get_taken n xs at y e

-- so does what stands before it
get_below : (n : ℕ) (xs : List Spot) (at : ℕ) (y : Spot) → slice_get (take n xs) (suc at) ≡ Some y → slice_get (take n xs) at ≡ slice_get xs at
get_below zero xs at y e = absurd (none_some y e)
get_below (suc n) [] at y e = refl
get_below (suc n) (x ∷ xs) zero y e = refl
get_below (suc n) (x ∷ xs) (suc at) y e = get_below n xs at y e

before_taken : (n : ℕ) (xs : List Spot) (at : ℕ) (y : Spot) → slice_get (take n xs) at ≡ Some y → spot_before at (take n xs) ≡ spot_before at xs
before_taken n xs zero y e = refl
before_taken n xs (suc at) y e = get_below n xs at y e

pub length_insert : (spot : Spot) (xs : List Spot) (at : ℕ) → length (insert xs at spot) ≡ length xs + 1
length_insert spot [] zero = refl
length_insert spot [] (suc at) = refl
length_insert spot (x ∷ xs) zero = omega arith
length_insert spot (x ∷ xs) (suc at) = omega (arith, length_insert spot xs at)

-- what is found among the spots that are kept
found : (recent : List Spot) (own at : ℕ) (older : Spot) → seat own recent ≡ Some at → older ≡ get_or recent at older → slice_get recent at ≡ Some older
found recent own at older seats e =
    slice_get_read recent (length recent) at older refl (position-Some (λ (spot : Spot). nat_le (spot_rank spot) own) recent at older seats).0 e

-- a spot that is there stays once
pub entered_there : (spots recent : List Spot) (spot older : Spot) (at : ℕ) → recent ≡ take 256 spots → seat (spot_rank spot) recent ≡ Some at →
    older ≡ get_or recent at older → spot_rank older ≡ spot_rank spot → spot_entered spot spots ≡ spots
entered_there spots recent spot older at kept seats e same =
    let there : slice_get spots at ≡ Some older = get_taken 256 spots at older (subst (λ r. slice_get r at ≡ Some older) kept (found recent (spot_rank spot) at older seats e)) in
    let seats' : seat (spot_rank spot) (take 256 spots) ≡ Some at = subst (λ r. seat (spot_rank spot) r ≡ Some at) kept seats in
    ap (λ o. seated spot o spots) seats'
    ∙ ap (λ g. cond (has_rank (spot_rank spot) g) spots (insert spots at spot)) there
    ∙ ap (λ b. cond b spots (insert spots at spot)) (eq-eqb (spot_rank older) (spot_rank spot) same)

-- another one stands before the one that is not ahead of it
pub entered_in : (spots recent : List Spot) (spot older : Spot) (at : ℕ) → recent ≡ take 256 spots → seat (spot_rank spot) recent ≡ Some at →
    older ≡ get_or recent at older → spot_rank older ≢ spot_rank spot → spot_entered spot spots ≡ insert spots at spot
entered_in spots recent spot older at kept seats e other =
    let there : slice_get spots at ≡ Some older = get_taken 256 spots at older (subst (λ r. slice_get r at ≡ Some older) kept (found recent (spot_rank spot) at older seats e)) in
    let seats' : seat (spot_rank spot) (take 256 spots) ≡ Some at = subst (λ r. seat (spot_rank spot) r ≡ Some at) kept seats in
    ap (λ o. seated spot o spots) seats'
    ∙ ap (λ g. cond (has_rank (spot_rank spot) g) spots (insert spots at spot)) there
    ∙ ap (λ b. cond b spots (insert spots at spot)) (false_from_ne_true (eqb (spot_rank older) (spot_rank spot)) (λ t. other (eqb-true (spot_rank older) (spot_rank spot) t)))

-- what is kept, where the spot is there
pub kept_there : (spots : List Spot) (spot older : Spot) (at : ℕ) (numbers : Numbers) → seat (spot_rank spot) numbers.recent.items ≡ Some at →
    older ≡ get_or numbers.recent.items at older → spot_rank older ≡ spot_rank spot → KeepsSpots spots numbers → KeepsSpots (spot_entered spot spots) numbers
kept_there spots spot older at numbers seats e same keeps =
    subst (λ s. KeepsSpots s numbers) (sym (entered_there spots numbers.recent.items spot older at keeps.recent seats e same)) keeps

changed_by : (f : Spot → Spot → ℕ) (spots : List Spot) (spot older : Spot) (at old new : ℕ) → slice_get spots at ≡ Some older → old ≡ pair_sum f spots →
    new ≡ old + pairs_made f (spot_before at spots) spot older - parted f (spot_before at spots) older → new ≡ pair_sum f (insert spots at spot)
changed_by f spots spot older at old new there kept grown = omega (arith, pairs_insert f spot older spots at there)

sums_insert : (spots : List Spot) (spot older : Spot) (at : ℕ) (old new : Sums) → slice_get spots at ≡ Some older → AreSumsOf spots old →
    AreSumsWith (spot_before at spots) spot older old new → AreSumsOf (insert spots at spot) new
sums_insert spots spot older at old new there kept grown = record {
  came = grown.came ∙ ap (λ n. n + 1) kept.came ∙ sym (length_insert spot spots at);
  between = changed_by between spots spot older at old.between new.between there kept.between grown.between;
  turned = changed_by turned spots spot older at old.turned new.turned there kept.turned grown.turned;
  turned_at = changed_by turned_at spots spot older at old.turned_at new.turned_at there kept.turned_at grown.turned_at;
}

-- what is kept, where the spot is another one
pub kept_in : (spots : List Spot) (spot older : Spot) (newer : Option Spot) (at : ℕ) (old new : Numbers) → seat (spot_rank spot) old.recent.items ≡ Some at →
    older ≡ get_or old.recent.items at older → spot_rank older ≢ spot_rank spot → newer ≡ spot_before at old.recent.items →
    new.recent.items ≡ take 256 (insert old.recent.items at spot) → new.top ≡ max old.top spot.number →
    AreSumsWith newer spot older old.sums new.sums → KeepsSpots spots old → KeepsSpots (spot_entered spot spots) new
kept_in spots spot older newer at old new seats e other is_before recent top sums keeps =
    let among : slice_get (take 256 spots) at ≡ Some older = subst (λ r. slice_get r at ≡ Some older) keeps.recent (found old.recent.items (spot_rank spot) at older seats e) in
    let there = get_taken 256 spots at older among in
    let same : newer ≡ spot_before at spots = is_before ∙ ap (spot_before at) keeps.recent ∙ before_taken 256 spots at older among in
    subst (λ s. KeepsSpots s new) (sym (entered_in spots old.recent.items spot older at keeps.recent seats e other)) (record {
      recent = recent ∙ ap (λ r. take 256 (insert r at spot)) keeps.recent ∙ take_insert spot 256 spots at;
      top = top ∙ ap (λ n. max n spot.number) keeps.top ∙ sym (top_insert spot spots at);
      sums = sums_insert spots spot older at old.sums new.sums there keeps.sums (subst (λ n. AreSumsWith n spot older old.sums new.sums) same sums);
    })
