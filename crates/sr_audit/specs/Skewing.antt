-- How far apart the copies of pairs came.
use Rattle.std.specs.Prelude.{
  ◌≡◌,
  ◌≤◌,
  ◌*◌,
  ◌^◌,
  ℕ,
  nat_eq,
  nat_lt,
  Bool,
  not,
  ◌&&◌,
  List,
  [],
  ◌∷◌,
  ◌++◌,
  length,
  slice_set,
  slice_index_or,
  Option,
  None,
  Some,
  ℤ,
  pos,
  ◌+ℤ◌,
  ◌-ℤ◌,
  unsigned_abs,
  count_by,
  if◌then◌else◌,
}
use Rattle.std.specs.Int.{w128, int_min, int_max, int_div_euclid, saturate_signed}
use Rattle.sr_audit.specs.declared.side.Side.{Side}
use Rattle.sr_audit.specs.declared.side.Side.TheVariants.{A, B}
use Rattle.sr_audit.specs.declared.skew.Skews.{Skews}
use Rattle.sr_audit.specs.declared.tally.Came.{Came}
use Rattle.sr_audit.specs.Counting.{has_come, came_before_at}
use Rattle.sr_audit.specs.Edges.{first_time}
use Rattle.sr_audit.specs.Lanes.{other_side}
use Rattle.sr_audit.specs.Limits.{epoch_gap}
use Rattle.sr_audit.specs.Shown.{bounded_sum}
use Rattle.sr_audit.specs.Stretches.{Placed, came}

-- a copy makes a pair of its frame: copies came by the other side alone before
abbrev pub pairs_up : Placed → List Placed → Bool
pairs_up y before = came (other_side y.side) y.number before && not (came y.side y.number before)

-- the time of the first copy at B less that of the first copy at A, where the second of them came at a side
abbrev pub skew_by : Side → ℕ → ℕ → ℤ
skew_by A time first = pos first -ℤ pos time
skew_by B time first = pos time -ℤ pos first

-- the skews of the pairs of a stretch, and of stretches, newest first
abbrev pub skews_in : List Placed → List ℤ
skews_in [] = []
skews_in (y ∷ before) =
    if pairs_up y before then skew_by y.side y.time (first_time y.number before) ∷ skews_in before else skews_in before

abbrev pub skews_of : List (List Placed) → List ℤ
skews_of [] = []
skews_of (s ∷ ss) = skews_in s ++ skews_of ss

-- the least and the greatest of some skews, 0 where there is none, and their sum
abbrev pub least_skew : List ℤ → ℤ
least_skew [] = pos 0
least_skew (z ∷ []) = z
least_skew (z ∷ w ∷ before) = int_min (least_skew (w ∷ before)) z

abbrev pub greatest_skew : List ℤ → ℤ
greatest_skew [] = pos 0
greatest_skew (z ∷ []) = z
greatest_skew (z ∷ w ∷ before) = int_max (greatest_skew (w ∷ before)) z

abbrev pub sum_of_skews : List ℤ → ℤ
sum_of_skews [] = pos 0
sum_of_skews (z ∷ before) = sum_of_skews before +ℤ z

-- the class of a skew of so many nanoseconds, by the bounds 10 us, 100 us, 1 ms, 10 ms, 100 ms and 400 ms
abbrev pub class_of : ℕ → ℕ
class_of size =
    if nat_lt size 10000 then 0
    else if nat_lt size 100000 then 1
    else if nat_lt size 1000000 then 2
    else if nat_lt size 10000000 then 3
    else if nat_lt size 100000000 then 4
    else if nat_lt size epoch_gap then 5 else 6

-- how many skews are in a class, by their size
abbrev pub count_in : ℕ → List ℤ → ℕ
count_in class zs = count_by (λ z. nat_eq (class_of (unsigned_abs z)) class) zs

abbrev pub classes_of : List ℤ → List ℕ
classes_of zs =
    count_in 0 zs ∷ count_in 1 zs ∷ count_in 2 zs ∷ count_in 3 zs ∷ count_in 4 zs ∷ count_in 5 zs ∷ count_in 6 zs ∷ []

-- what is shown of some skews
abbrev pub skews_shown : List ℤ → Skews
skews_shown zs = record {
  count = length zs;
  least = least_skew zs;
  greatest = greatest_skew zs;
  sum = sum_of_skews zs;
  classes = classes_of zs;
}

-- their mean, rounded down
abbrev pub mean_of : Skews → Option ℤ
mean_of k = if nat_eq k.count 0 then None else Some (int_div_euclid k.sum (pos k.count))

-- what is kept with one skew more
abbrev pub more_in : ℕ → List ℕ → List ℕ
more_in class counts = slice_set counts class (bounded_sum (slice_index_or counts class 0) 1)

abbrev pub least_with : ℕ → ℤ → ℤ → ℤ
least_with count least z = if nat_eq count 0 then z else int_min least z

abbrev pub greatest_with : ℕ → ℤ → ℤ → ℤ
greatest_with count greatest z = if nat_eq count 0 then z else int_max greatest z

abbrev pub skews_with : ℤ → Skews → Skews
skews_with z k = record {
  count = bounded_sum k.count 1;
  least = least_with k.count k.least z;
  greatest = greatest_with k.count k.greatest z;
  sum = saturate_signed w128 (k.sum +ℤ z);
  classes = more_in (class_of (unsigned_abs z)) k.classes;
}

-- what is kept with a copy more of a frame, at a side and a time, of which copies came before by some sides, the first of them then
abbrev pub skews_taken : Side → ℕ → Came → ℕ → Skews → Skews
skews_taken side time came first k =
    if has_come came && not (came_before_at came side) then skews_with (skew_by side time first) k else k

-- what is kept is what is shown of these skews, and their sum is small
pub record KeepsSkews (zs : List ℤ) (k : Skews) : Type 0 where
  pub shown : k ≡ skews_shown zs
  pub small : unsigned_abs (sum_of_skews zs) ≤ 2 ^ 64 * length zs
