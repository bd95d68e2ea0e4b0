-- What is missing, by the sums.
use Rattle.std.proofs.Common.{◌≡◌, ℕ, ◌+◌, ◌-◌, ◌*◌, ◌<◌, Bool, true, false, List, [], ◌∷◌, refl, ap, ◌∙◌, arith, cond}
use Rattle.sr_streams.specs.declared.numbers.Numbers.{Numbers}
use Rattle.sr_streams.specs.declared.spot.Spot.{Spot}
use Rattle.sr_streams.specs.declared.sums.Kind.{Kind}
use Rattle.sr_streams.specs.declared.sums.Kind.TheVariants.{Goose, Sampled}
use Rattle.sr_streams.specs.Courses.{pair_sum, between, turned, turned_at, rest_of_second, is_turn, greatest_number, missing_of}
use Rattle.sr_streams.specs.Sums.{KeepsSpots, missing_by}

-- the rest of one second
rest_at : (turn : Bool) (whole number : ℕ) → number < whole → cond turn (whole - (number + 1)) 0 + cond turn (number + 1) 0 ≡ cond turn 1 0 * whole
rest_at true whole number less = omega arith
rest_at false whole number less = omega arith

rest_one : (whole : ℕ) (later older : Spot) → older.number < whole → rest_of_second whole later older + turned_at later older ≡ turned later older * whole
rest_one whole later older less = rest_at (is_turn later older) whole older.number less

mul_two : (m n k : ℕ) → (m + n) * k ≡ m * k + n * k
mul_two m n k = grind arith

-- the rests of all seconds
rest_all : (whole : ℕ) (spots : List Spot) → greatest_number spots < whole → pair_sum (rest_of_second whole) spots + pair_sum turned_at spots ≡ pair_sum turned spots * whole
rest_all whole [] less = omega arith
rest_all whole (x ∷ []) less = omega arith
rest_all whole (x ∷ y ∷ ys) less =
    let one = rest_one whole x y (omega (arith, less)) in
    let all = rest_all whole (y ∷ ys) (omega (arith, less)) in
    omega (arith, one, all, mul_two (turned x y) (pair_sum turned (y ∷ ys)) whole)

pairs_two : (f g : Spot → Spot → ℕ) (spots : List Spot) → pair_sum (λ x y. f x y + g x y) spots ≡ pair_sum f spots + pair_sum g spots
pairs_two f g [] = refl
pairs_two f g (x ∷ []) = refl
pairs_two f g (x ∷ y ∷ ys) = omega (arith, pairs_two f g (y ∷ ys))

-- what the sums tell is what is missing
pub missing_kept : (kind : Kind) (spots : List Spot) (numbers : Numbers) → KeepsSpots spots numbers → missing_by kind numbers.top numbers.sums ≡ missing_of kind spots
missing_kept Goose spots numbers keeps = keeps.sums.between
missing_kept Sampled spots numbers keeps =
    let rest = rest_all (greatest_number spots + 1) spots (omega arith) in
    let both = pairs_two between (rest_of_second (greatest_number spots + 1)) spots in
    let turns : numbers.sums.turned * (numbers.top + 1) ≡ pair_sum turned spots * (greatest_number spots + 1) = ap (λ n. n * (numbers.top + 1)) keeps.sums.turned ∙ ap (λ n. pair_sum turned spots * (n + 1)) keeps.top in
    omega (arith, rest, both, turns, keeps.sums.between, keeps.sums.turned_at)
