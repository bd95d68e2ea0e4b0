-- Where the numbers of a window have their places.
use Rattle.std.proofs.Common.{◌≡◌, ℕ, ◌+◌, ◌-◌, ◌%◌, ◌<◌, ◌≤◌, eqb, ltb, leb, ◌||◌, arith, sym, ap, ◌∙◌, inl, inr}
use Rattle.std.proofs.lemmas.Bool.{cases_eq, eq-eqb, ne_eqb}
use Rattle.std.proofs.lemmas.Bool.Decides.{nat_tests}
use Rattle.sr_dup_window.specs.Bins.{is_passed, IsWidth}
use Rattle.sr_dup_window.specs.WindowLemmas.{width-some}

-- the place of the number so many before a reference
abbrev pub bin : ℕ → ℕ → ℕ → ℕ
bin w r k = (r + (65536 - k)) % 65536 % w

pub bin_inside : (w r k : ℕ) → IsWidth w → bin w r k < w
bin_inside w r k width = omega (arith, width-some w width)

pub bin_zero : (w r : ℕ) → r < 65536 → bin w r 0 ≡ r % w
bin_zero w r h = ap (λ n. n % w) (same r h)
  where
    same : (r : ℕ) → r < 65536 → (r + (65536 - 0)) % 65536 ≡ r
    same r h = omega arith

-- within the window each number has a place of its own
apart_narrow : (r j k : ℕ) → r < 65536 → j < 1024 → k < 1024 → (r + (65536 - j)) % 65536 % 1024 ≡ (r + (65536 - k)) % 65536 % 1024 → j ≡ k
apart_narrow r j k h a b s = omega arith

apart_wide : (r j k : ℕ) → r < 65536 → j < 2048 → k < 2048 → (r + (65536 - j)) % 65536 % 2048 ≡ (r + (65536 - k)) % 65536 % 2048 → j ≡ k
apart_wide r j k h a b s = omega arith

bins_apart : (w r j k : ℕ) → IsWidth w → r < 65536 → j < w → k < w → bin w r j ≡ bin w r k → j ≡ k
bins_apart w r j k (inl e) h a b s =
    let a' : j < 1024 = omega arith in
    let b' : k < 1024 = omega arith in
    let s' : (r + (65536 - j)) % 65536 % 1024 ≡ (r + (65536 - k)) % 65536 % 1024 = rw e at s in
    apart_narrow r j k h a' b' s'
bins_apart w r j k (inr e) h a b s =
    let a' : j < 2048 = omega arith in
    let b' : k < 2048 = omega arith in
    let s' : (r + (65536 - j)) % 65536 % 2048 ≡ (r + (65536 - k)) % 65536 % 2048 = rw e at s in
    apart_wide r j k h a' b' s'

pub bin-eq : (w r j k : ℕ) → IsWidth w → r < 65536 → j < w → k < w → eqb (bin w r j) (bin w r k) ≡ eqb j k
bin-eq w r j k width h a b =
    elim (cases_eq j k) [
      | inl e ↦ eq-eqb (bin w r j) (bin w r k) (ap (bin w r) e) ∙ sym (eq-eqb j k e)
      | inr ne ↦ ne_eqb (bin w r j) (bin w r k) (λ s. ne (bins_apart w r j k width h a b s)) ∙ sym (ne_eqb j k ne)
    ]

-- after `a` steps ahead, the place of the number j before the new one is passed over just where that number is new
passed_narrow : (r a j : ℕ) → r < 65536 → a ≤ 64512 → j < 1024 → (is_passed 1024 (r % 1024) a (((r + a) % 65536 + (65536 - j)) % 65536 % 1024) || leb 1024 a) ≡ ltb j a
passed_narrow r a j h b g = grind (arith, nat_tests)

passed_wide : (r a j : ℕ) → r < 65536 → a ≤ 63488 → j < 2048 → (is_passed 2048 (r % 2048) a (((r + a) % 65536 + (65536 - j)) % 65536 % 2048) || leb 2048 a) ≡ ltb j a
passed_wide r a j h b g = grind (arith, nat_tests)

pub passed_bin : (w r a j : ℕ) → IsWidth w → r < 65536 → a ≤ 65536 - w → j < w → (is_passed w (r % w) a (bin w ((r + a) % 65536) j) || leb w a) ≡ ltb j a
passed_bin w r a j (inl e) h b g = rw e (passed_narrow r a j h (omega arith) (omega arith))
passed_bin w r a j (inr e) h b g = rw e (passed_wide r a j h (omega arith) (omega arith))

-- a number that is not new keeps its place
pub bin_kept : (w r a j : ℕ) → a ≤ j → j ≤ 65536 → bin w ((r + a) % 65536) j ≡ bin w r (j - a)
bin_kept w r a j h g = ap (λ n. n % w) (same r a j h g)
  where
    same : (r a j : ℕ) → a ≤ j → j ≤ 65536 → ((r + a) % 65536 + (65536 - j)) % 65536 ≡ (r + (65536 - (j - a))) % 65536
    same r a j h g = omega arith

-- each place has a number of the window
abbrev pub back_of : ℕ → ℕ → ℕ → ℕ
back_of w r p = (r % w + (w - p)) % w

pub place_back : (w r p : ℕ) → IsWidth w → r < 65536 → p < w → ((back_of w r p < w) × (bin w r (back_of w r p) ≡ p))
place_back w r p (inl e) h g = rw e (narrow r p h (omega arith))
  where
    narrow : (r p : ℕ) → r < 65536 → p < 1024 → (((r % 1024 + (1024 - p)) % 1024 < 1024) × ((r + (65536 - (r % 1024 + (1024 - p)) % 1024)) % 65536 % 1024 ≡ p))
    narrow r p h g = (omega arith, omega arith)
place_back w r p (inr e) h g = rw e (wide r p h (omega arith))
  where
    wide : (r p : ℕ) → r < 65536 → p < 2048 → (((r % 2048 + (2048 - p)) % 2048 < 2048) × ((r + (65536 - (r % 2048 + (2048 - p)) % 2048)) % 65536 % 2048 ≡ p))
    wide r p h g = (omega arith, omega arith)
