-- Each window stands for its own numbers.
use Rattle.std.proofs.Common.{
  ◌≡◌,
  ◌≢◌,
  ℕ,
  ◌+◌,
  ◌-◌,
  ◌%◌,
  ◌<◌,
  ◌≤◌,
  Bool,
  true,
  false,
  ltb,
  ◌&&◌,
  not,
  get_or,
  ℤ,
  pos,
  arith,
  refl,
  sym,
  ap,
  ◌∙◌,
  inl,
  inr,
}
use Rattle.std.specs.Prelude.{◌+ℤ◌, ◌-ℤ◌, ◌≤ℤ◌, ◌<ℤ◌, int_lt}
use Rattle.std.proofs.lemmas.Int.{ints}
use Rattle.std.proofs.lemmas.Bool.{and_parts, cases_lt, cond-true, lt-ltb}
use Rattle.sr_sequence.specs.declared.Distance.TheVariants.{Behind, Ahead}
use Rattle.sr_sequence.specs.Numbers.{wire}
use Rattle.sr_sequence.specs.NumberLemmas.{wire-lt, wire_less, behind_is, ahead_is}
use Rattle.sr_sequence.specs.Places.{steps, place_of, IsTheOne}
use Rattle.sr_dup_window.specs.declared.lane_sets.Lane.{Lane}
use Rattle.sr_dup_window.specs.LaneSets.{has, none}
use Rattle.sr_dup_window.specs.LaneLemmas.{some_lane, lanes_where-same}
use Rattle.sr_dup_window.specs.Bins.{IsWidth}
use Rattle.sr_dup_window.specs.Windows.{Window, has_of, lanes_behind}
use Rattle.sr_dup_window.specs.Families.{Family, IsClose, StandsFor}
use Rattle.sr_dup_window.specs.Records.{IsWhole}
use Rattle.sr_dup_window.specs.WindowLemmas.{width-some, width-most}

-- the numbers that a window has, where its greatest is m
pub own_family : ℕ → Window → ℤ → Family
own_family w r m lane n = not (int_lt m n) && int_lt (m -ℤ pos w) n && has_of w r lane (wire n)

not_above : (m n : ℤ) → n ≤ℤ m → not (int_lt m n) ≡ true
not_above m n h = grind (arith, ints)

from_not_above : (m n : ℤ) → not (int_lt m n) ≡ true → n ≤ℤ m
from_not_above m n h = grind (arith, ints)

below : (m n : ℤ) → m <ℤ n → int_lt m n ≡ true
below m n h = grind (arith, ints)

own_in : (a b c : Bool) → a ≡ true → b ≡ true → (a && b && c) ≡ c
own_in true true c e h = refl
own_in true false c e h = absurd (cc)
own_in false b c e h = absurd (cc)

-- a number of the window is so far behind its greatest
pub lies_behind : (w r k : ℕ) (m : ℤ) → IsWidth w → wire m ≡ r → k < w → place_of r (wire (m -ℤ pos k)) w ≡ Behind k
lies_behind w r k m width e h =
    let most : w ≤ 2048 = width-most w width in
    let seq = wire (m -ℤ pos k) in
    let is : steps seq r ≡ k = back_again r (wire m) seq k e (wire-lt m) (wire_less m k (omega arith)) (omega arith) in
    cond-true (ltb (steps seq r) w) (Behind (steps seq r)) (Ahead (steps r seq)) (lt-ltb (steps seq r) w (omega arith)) ∙ ap Behind is
  where
    back_again : (r m s k : ℕ) → m ≡ r → m < 65536 → s ≡ (m + (65536 - k)) % 65536 → k < 65536 → (r + (65536 - s)) % 65536 ≡ k
    back_again r m s k e h g i = omega arith

pub own-stands : (w : ℕ) (r : Window) (m : ℤ) → IsWidth w → IsWhole w r → wire m ≡ r.reference → StandsFor w r (own_family w r m) m
unfolding own_family
own-stands w r m width whole e =
    let some_window : 0 < w = width-some w width in
    let some = some_lane (get_or r.marks 0 none) whole.some in
    let here : (m -ℤ pos 0) ≡ m = omega (arith, ints) in
    let inside : (n : ℤ) → n ≤ℤ m → (m -ℤ pos w) <ℤ n → (lane : Lane) → own_family w r m lane n ≡ has_of w r lane (wire n) =
    λ n h g lane. own_in (not (int_lt m n)) (int_lt (m -ℤ pos w) n) (has_of w r lane (wire n)) (not_above m n h) (below (m -ℤ pos w) n g) in
    let at : (lane : Lane) (k : ℕ) → k < w → own_family w r m lane (m -ℤ pos k) ≡ has (get_or r.marks k none) lane =
    λ lane k h. inside (m -ℤ pos k) (omega (arith, ints)) (omega (arith, ints)) lane ∙ ap (λ d. has (lanes_behind r d) lane)
    (lies_behind w r.reference k m width e h) in
    record {
      top = record {
        member = (some.0, ap (own_family w r m some.0) (sym here) ∙ at some.0 0 some_window ∙ some.1);
        most = λ lane n t. from_not_above m n
            (and_parts (not (int_lt m n)) (int_lt (m -ℤ pos w) n)
            (and_parts (not (int_lt m n) && int_lt (m -ℤ pos w) n) (has_of w r lane (wire n)) t).0).0;
      };
      reference = sym e;
      count = whole.count;
      shows = λ k h. sym (whole.plain k h) ∙ lanes_where-same (has (get_or r.marks k none)) (λ lane. own_family w r m lane (m -ℤ pos k))
          (λ lane. sym (at lane k h));
    }

-- two references that are not half of all numbers apart are those of two close numbers
pub close_numbers : (m : ℤ) (s : ℕ) → s < 65536 → steps (wire m) s ≢ 32768 → (n : ℤ) × (wire n ≡ s) × IsClose m n
close_numbers m s h apart =
    let r = wire m in
    elim (cases_lt (steps s r) 32768) [
      | inl less ↦
          let one : IsTheOne 32768 m s (m -ℤ pos (steps s r)) = behind_is 32768 m r s (omega arith) (omega arith) h less refl in
          (m -ℤ pos (steps s r), one.carried, (omega (arith, ints), omega (arith, ints)))
      | inr more ↦
          let one : IsTheOne 32768 m s (m +ℤ pos (steps r s)) = ahead_is 32768 m r s (omega arith) (omega arith) h more refl in
          let few : steps r s ≤ 32767 = less_half r s (wire-lt m) h more apart in
          (m +ℤ pos (steps r s), one.carried, (omega (arith, ints), omega (arith, ints)))
    ]
  where
    less_half : (r s : ℕ) → r < 65536 → s < 65536 → 32768 ≤ (r + (65536 - s)) % 65536 → (s + (65536 - r)) % 65536 ≢ 32768 →
        (s + (65536 - r)) % 65536 ≤ 32767
    less_half r s h g more apart = omega arith
