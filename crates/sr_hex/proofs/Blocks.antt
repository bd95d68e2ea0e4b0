-- Blocks of sixteen octets and their thirty-two digits.
use Rattle.std.proofs.Common.{◌≡◌, ℕ, suc, Bool, true, false, eqb, eqb-true, [], ◌∷◌, unwrap_or, Option, Some, None, Result, Ok, Err, refl, ◌+◌, ◌-◌, ◌*◌, ◌/◌, ◌<◌, ◌≤◌, take, ◌↔◌, List, ◌++◌, length, slice_index, sym, ap, ◌∙◌, subst, inl, inr, arith}
use Rattle.std.specs.Prelude.{is_some, min, max, MatchBool, IsErr}
use Rattle.std.specs.List.{AllPass}
use Rattle.std.proofs.lemmas.List.Elements.{All-from_get_or}
use lib.Seq.{get_or-take}
use Rattle.std.proofs.Common.{length-take, take_all}
use Rattle.std.proofs.lemmas.Bool.{cases_lt}
use Rattle.std.proofs.lemmas.List.{get_or_past}
use Rattle.hex.specs.Hex.{decode_of, decode_pairs, hex_digit_value, is_hex_digit}
use Rattle.hex.proofs.HexLemmas.{decode_of-even, decode_of-ok}
use Rattle.sr_hex.specs.Lanes.{HasLanes, IsSmallFront}
use Rattle.sr_hex.specs.Values.{value_of, octet_of, AreSpelled, AreDigits, AreKept, AreSmall, IsDigitFront, IsEndAt, IsReadTo, IsReadUpTo}
use Rattle.sr_hex.proofs.LaneLemmas.{joined, every_below}
use Rattle.sr_hex.proofs.Digits.{digit_small, pair_spelled}

-- a function of the octets that a load took
pub through : (f g : ℕ → ℕ) (xs ys : List ℕ) → HasLanes xs g → HasLanes ys (λ i. f (slice_index xs i)) → HasLanes ys (λ i. f (g i))
through f g xs ys hx hy = record { long = hy.long; each = λ i h. hy.each i h ∙ ap f (hx.each i h) }

-- a block is stored that was computed from the digits
pub block_spelled : (digits new first second block : List ℕ) (at : ℕ)
    → HasLanes first (λ i. value_of (slice_index digits (2 * at + i))) → HasLanes second (λ i. value_of (slice_index digits (2 * at + 16 + i)))
    → HasLanes block (λ i. octet_of (slice_index (first ++ second) (2 * i)) (slice_index (first ++ second) (2 * i + 1)))
    → ((i : ℕ) → i < 16 → slice_index new (at + i) ≡ slice_index block i) → AreSpelled digits new at (at + 16)
block_spelled digits new first second block at h1 h2 hb stored i low high =
    let k = i - at in
    let lt : k < 16 = omega arith in
    let value = λ (p : ℕ). value_of (slice_index digits p) in
    let e : at + k ≡ i = omega arith in
    let e1 : 2 * at + 2 * k ≡ 2 * i = omega arith in
    let e2 : 2 * at + (2 * k + 1) ≡ 2 * i + 1 = omega arith in
    let high_is = joined value (2 * at) first second h1 h2 (2 * k) (omega arith) ∙ ap value e1 in
    let low_is = joined value (2 * at) first second h1 h2 (2 * k + 1) (omega arith) ∙ ap value e2 in
    ap (slice_index new) (sym e) ∙ stored k lt ∙ hb.each k lt ∙ (λ j. octet_of (high_is j) (low_is j))

-- the values of a block are small where all of its digits are digits
pub block_small : (digits first second : List ℕ) (at : ℕ)
    → HasLanes first (λ i. value_of (slice_index digits (2 * at + i))) → HasLanes second (λ i. value_of (slice_index digits (2 * at + 16 + i)))
    → (AreSmall first × AreSmall second) ↔ AreDigits digits (2 * at) (2 * (at + 16))
block_small digits first second at h1 h2 =
    let value = λ (p : ℕ). value_of (slice_index digits p) in (
      λ small k low high. elim (cases_lt (k - 2 * at) 16) [
        | inl l ↦
            let e : 2 * at + (k - 2 * at) ≡ k = omega arith in
            subst (λ m. m < 16) (h1.each (k - 2 * at) l ∙ ap value e) (small.0 (k - 2 * at) l)
        | inr g ↦
            let e : 2 * at + 16 + (k - 2 * at - 16) ≡ k = omega arith in
            subst (λ m. m < 16) (h2.each (k - 2 * at - 16) (omega arith) ∙ ap value e) (small.1 (k - 2 * at - 16) (omega arith))
      ],
      λ all. (
        λ i h. subst (λ m. m < 16) (sym (h1.each i h)) (all (2 * at + i) (omega arith) (omega arith)),
        λ i h. subst (λ m. m < 16) (sym (h2.each i h)) (all (2 * at + 16 + i) (omega arith) (omega arith)),
      ),
    )

-- the same for the sixteen codes from a place on
pub half_small : (codes block : List ℕ) (at : ℕ) → HasLanes block (λ i. value_of (slice_index codes (at + i)))
    → AreSmall block ↔ AreDigits codes at (at + 16)
half_small codes block at h =
    let value = λ (p : ℕ). value_of (slice_index codes p) in (
      λ small k low high.
          let e : at + (k - at) ≡ k = omega arith in
          subst (λ m. m < 16) (h.each (k - at) (omega arith) ∙ ap value e) (small (k - at) (omega arith)),
      λ all i lt. subst (λ m. m < 16) (sym (h.each i lt)) (all (at + i) (omega arith) (omega arith)),
    )

-- the end of digits in the first sixteen codes, or else in the second
pub front_in_first : (text first : List ℕ) (from count : ℕ) → HasLanes first (λ i. value_of (slice_index text (from + i)))
    → IsSmallFront first count → count < 16 → IsEndAt text from (from + count)
front_in_first text first from count h1 front lt = record {
  past = omega arith;
  near = omega arith;
  digits = λ k low high.
      let e : from + (k - from) ≡ k = omega arith in
      subst (λ m. m < 16) (h1.each (k - from) (omega arith) ∙ ap (λ p. value_of (slice_index text p)) e) (front.small (k - from) (omega arith));
  none = subst (λ m. 16 ≤ m) (h1.each count lt) (front.large lt);
}

pub front_in_second : (text first second : List ℕ) (from all count : ℕ) → HasLanes first (λ i. value_of (slice_index text (from + i)))
    → HasLanes second (λ i. value_of (slice_index text (from + 16 + i))) → IsSmallFront first all → 16 ≤ all → IsSmallFront second count
    → (AreSmall first × AreSmall second → ⊥) → IsEndAt text from (from + 16 + count)
front_in_second text first second from all count h1 h2 front whole behind not =
    let value = λ (p : ℕ). value_of (slice_index text p) in
    let lt : count < 16 = elim (cases_lt count 16) [
      | inl l ↦ l
      | inr g ↦ absurd (not (λ i h. front.small i (omega arith), λ i h. behind.small i (omega arith)))
    ] in
    record {
      past = omega arith;
      near = omega arith;
      digits = λ k low high. elim (cases_lt (k - from) 16) [
        | inl l ↦
            let e : from + (k - from) ≡ k = omega arith in
            subst (λ m. m < 16) (h1.each (k - from) l ∙ ap value e) (front.small (k - from) (omega arith))
        | inr g ↦
            let e : from + 16 + (k - from - 16) ≡ k = omega arith in
            subst (λ m. m < 16) (h2.each (k - from - 16) (omega arith) ∙ ap value e) (behind.small (k - from - 16) (omega arith))
      ];
      none = subst (λ m. 16 ≤ m) (h2.each count lt) (behind.large lt);
    }

-- the larger of two is small where both are
pub both_small : (xs ys zs : List ℕ) → HasLanes zs (λ i. max (slice_index xs i) (slice_index ys i)) → AreSmall zs ↔ (AreSmall xs × AreSmall ys)
both_small xs ys zs h = (
  λ small. (λ i l. omega (arith, h.each i l, small i l), λ i l. omega (arith, h.each i l, small i l)),
  λ parts i l. omega (arith, h.each i l, parts.0 i l, parts.1 i l),
)

-- ---- values, code by code

-- a value and that of the code's digit are the same, or neither is below 16
agrees : (c : ℕ) → c < 256 → min (value_of c) 16 ≡ min (unwrap_or (hex_digit_value c) 255) 16
agrees c lt = eqb-true _ _ (every_below (λ k. eqb (min (value_of k) 16) (min (unwrap_or (hex_digit_value k) 255) 16)) 256 refl c lt)

value_is : (c : ℕ) → c < 256 → value_of c < 16 → value_of c ≡ unwrap_or (hex_digit_value c) 255
value_is c lt small = omega (arith, agrees c lt)

pub value_small : (c : ℕ) → c < 256 → is_hex_digit c ≡ true → value_of c < 16
value_small c lt is = omega (arith, agrees c lt, digit_small c (unwrap_or (hex_digit_value c) 255) refl is)

-- ---- whole texts

abbrev pub Octets : List ℕ → Type 0
Octets s = (k : ℕ) → slice_index s k < 256

decoded : (i : ℕ) (s out : List ℕ) → Octets s → length s ≡ 2 * length out → AreDigits s 0 (length s) → AreSpelled s out 0 (length out) → decode_pairs i s ≡ Ok out
unfolding decode_pairs
decoded i [] [] fits twice digits spelled = refl
decoded i [] (o ∷ os) fits twice digits spelled = absurd (omega arith)
decoded i (a ∷ s) [] fits twice digits spelled = absurd (omega arith)
decoded i (a ∷ []) (o ∷ os) fits twice digits spelled = absurd (omega arith)
decoded i (a ∷ b ∷ s) (o ∷ os) fits twice digits spelled =
    let high = digits 0 (omega arith) (omega arith) in
    let low = digits 1 (omega arith) (omega arith) in
    let first = pair_spelled a b (value_of a) (value_of b) i (value_is a (fits 0) high) (value_is b (fits 1) low) high low in
    let is : o ≡ octet_of (value_of a) (value_of b) = spelled 0 (omega arith) (omega arith) in
    let rest = decoded (i + 2) s os (λ k. fits (suc (suc k))) (omega arith) (λ k low high. digits (suc (suc k)) (omega arith) (omega arith))
    (λ k low high.
    let e : 2 * suc k ≡ suc (suc (2 * k)) = omega arith in
    let e2 : 2 * suc k + 1 ≡ suc (suc (2 * k + 1)) = omega arith in
    spelled (suc k) (omega arith) (omega arith)
    ∙ (λ j. octet_of (value_of (slice_index (a ∷ b ∷ s) (e j))) (value_of (slice_index (a ∷ b ∷ s) (e2 j))))) in
    rw (first, rest, is) refl

refused : {E : Type 0} (r : Result (List ℕ) E) → ((bytes : List ℕ) → r ≡ Ok bytes → ⊥) → IsErr r
refused (Ok bytes) h = absurd (h bytes refl)
refused (Err e) h = refl

-- all octets are read, and all that was read were digits or not
pub read_whole : (s out : List ℕ) (good : Bool) → Octets s → length s ≡ 2 * length out → AreSpelled s out 0 (length out)
    → (good ≡ true) ↔ AreDigits s 0 (length s) → MatchBool good (decode_of s ≡ Ok out) (IsErr (decode_of s))
read_whole s out true fits twice spelled good = decode_of-even s (omega arith) ∙ decoded 0 s out fits twice (good.0 refl) spelled
read_whole s out false fits twice spelled good =
    refused (decode_of s) (λ bytes e.
    let all = decode_of-ok s bytes e in
    let is : false ≡ true = good.1 (λ k low high. value_small (slice_index s k) (fits k) (all.1 k 0 high)) in
    absurd cc)

-- blocks up to a place, and then the last one
pub all_read : (s before out : List ℕ) (at last : ℕ) (good : Bool) (small block : Type 0)
    → Octets s → length s ≡ 2 * length out → last + 16 ≡ length out → last ≤ at → at < last + 16
    → AreSpelled s before 0 at → AreSpelled s out last (last + 16) → AreKept before out last
    → small ↔ AreDigits s 0 (2 * at) → block ↔ AreDigits s (2 * last) (2 * (last + 16)) → (good ≡ true) ↔ (small × block)
    → MatchBool good (decode_of s ≡ Ok out) (IsErr (decode_of s))
all_read s before out at last good small block fits twice long past near so_far now kept front back is =
    read_whole s out good fits twice
    (λ i low high. elim (cases_lt i last) [
      | inl l ↦ kept i l ∙ so_far i low (omega arith)
      | inr g ↦ now i g (omega arith)
    ]) (
      λ e k low high. elim (cases_lt k (2 * last)) [
        | inl l ↦ front.0 (is.0 e).0 k low (omega arith)
        | inr g ↦ back.0 (is.0 e).1 k g (omega arith)
      ],
      λ all. is.1 (front.1 (λ k low high. all k low (omega arith)), back.1 (λ k low high. all k (omega arith) (omega arith))),
    )

-- ---- digits at the front of a text

-- a code whose value is small is a digit, and no other code is one
small_is_digit : (c : ℕ) → c < 256 → value_of c < 16 → is_hex_digit c ≡ true
small_is_digit c lt small = some_value (hex_digit_value c) (subst (λ v. v < 16) (value_is c lt small) small)
  where
    some_value : (o : Option ℕ) → unwrap_or o 255 < 16 → is_some o ≡ true
    some_value None h = absurd (omega arith)
    some_value (Some v) h = refl

large_is_none : (c : ℕ) → c < 256 → 16 ≤ value_of c → is_hex_digit c ≡ false
large_is_none c lt large = by_case (is_hex_digit c) refl
  where
    by_case : (t : Bool) → is_hex_digit c ≡ t → t ≡ false
    by_case false e = refl
    by_case true e = absurd (let small = value_small c lt e in omega arith)

pub front_digits : (s : List ℕ) (n : ℕ) → Octets s → AreDigits s 0 n → AllPass is_hex_digit (take n s)
front_digits s n fits digits =
    All-from_get_or (λ c. is_hex_digit c ≡ true) (take n s) 0 (λ k inside.
    let lt : k < n = omega (arith, length-take n s) in
    subst (λ c. is_hex_digit c ≡ true) (sym (get_or-take n s k 0 lt)) (small_is_digit (slice_index s k) (fits k) (digits k (omega arith) lt)))

pub digits_on : (s : List ℕ) (from to : ℕ) → AreDigits s 0 from → AreDigits s from to → AreDigits s 0 to
digits_on s from to before here k low high = elim (cases_lt k from) [
  | inl l ↦ before k low l
  | inr g ↦ here k g high
]

-- a step of sixteen octets that meets the end of the digits
pub step_ends : (s new : List ℕ) (from end : ℕ) → 2 * from + 32 ≤ length s → from + 16 ≤ length new → AreSpelled s new from (from + 16)
    → IsEndAt s (2 * from) end → IsReadUpTo s new from end
step_ends s new from end inside room spelled here = record {
  past = here.past;
  within = omega (arith, here.near);
  digits = here.digits;
  none = here.none;
  room = omega (arith, here.near);
  spelled = λ i low high. spelled i low (omega (arith, here.near));
}

-- what was read before the step that met the end
pub ends_behind : (s a b c : List ℕ) (from next end : ℕ) → from ≤ next → IsReadTo s a b from next → AreKept b c next → IsReadUpTo s c next end
    → IsReadUpTo s c from end
ends_behind s a b c from next end le one kept here = record {
  past = omega (arith, here.past);
  within = here.within;
  digits = λ k low high. elim (cases_lt k (2 * next)) [
    | inl l ↦ one.digits k low l
    | inr g ↦ here.digits k g high
  ];
  none = here.none;
  room = here.room;
  spelled = λ i low high. elim (cases_lt i next) [
    | inl l ↦ kept i l ∙ one.spelled i low l
    | inr g ↦ here.spelled i g high
  ];
}

-- so many octets are what the digits at the front spell
front_spelled : (s out : List ℕ) (m : ℕ) → Octets s → 2 * m ≤ length s → m ≤ length out → AreDigits s 0 (2 * m) → AreSpelled s out 0 m
    → decode_of (take (2 * m) s) ≡ Ok (take m out)
front_spelled s out m fits inside room digits spelled =
    let long : length (take (2 * m) s) ≡ 2 * m = omega (arith, length-take (2 * m) s) in
    let wide : length (take m out) ≡ m = omega (arith, length-take m out) in
    let code : (k : ℕ) → k < 2 * m → slice_index (take (2 * m) s) k ≡ slice_index s k = λ k lt. get_or-take (2 * m) s k 0 lt in
    decode_of-even (take (2 * m) s) (omega arith)
    ∙ decoded 0 (take (2 * m) s) (take m out) (Octets-take s (2 * m) fits) (omega arith)
    (λ k low high. let lt : k < 2 * m = omega arith in subst (λ c. value_of c < 16) (sym (code k lt)) (digits k low lt))
    (λ i low high.
    let lt : i < m = omega arith in
    get_or-take m out i 0 lt ∙ spelled i low lt ∙ (λ j. octet_of (value_of (sym (code (2 * i) (omega arith)) j)) (value_of (sym (code (2 * i + 1) (omega arith)) j))))
  where
    Octets-take : (s : List ℕ) (n : ℕ) → Octets s → Octets (take n s)
    Octets-take s n fits k = elim (cases_lt k (length (take n s))) [
      | inl l ↦ subst (λ c. c < 256) (sym (get_or-take n s k 0 (omega (arith, length-take n s)))) (fits k)
      | inr g ↦ let past = get_or_past (take n s) k 0 g in omega (arith, past)
    ]

-- what was read up to the end from the first octet on
pub front_ends : (s out : List ℕ) (end : ℕ) → Octets s → IsReadUpTo s out 0 end → IsDigitFront s end
front_ends s out end fits read = record {
  within = read.within;
  digits = front_digits s end fits (λ k low high. read.digits k (omega arith) high);
  end = large_is_none (slice_index s end) (fits end) read.none;
}

pub end_spelled : (s out : List ℕ) (end : ℕ) → Octets s → IsReadUpTo s out 0 end → decode_of (take (2 * (end / 2)) s) ≡ Ok (take (end / 2) out)
end_spelled s out end fits read =
    front_spelled s out (end / 2) fits (omega (arith, read.within)) read.room (λ k low high. read.digits k (omega arith) (omega arith)) read.spelled

-- all codes are digits where those up to a place are, and the last sixteen
pub all_digits : (s : List ℕ) (at last : ℕ) (good : Bool) (small : Type 0) → Octets s → last ≤ at → at < last + 16
    → last + 16 ≡ length s → small ↔ (AreDigits s 0 at × AreDigits s last (last + 16)) → (good ≡ true) ↔ small
    → (good ≡ true) ↔ AllPass is_hex_digit s
all_digits s at last good small fits past near long parts is = (
  λ e.
      let both = parts.0 (is.0 e) in
      let all = digits_on s last (last + 16) (λ k low high. both.0 k low (omega arith)) both.1 in
      subst (AllPass is_hex_digit) (take_all (last + 16) s (omega arith)) (front_digits s (last + 16) fits all),
  λ pass.
      let each : (k : ℕ) → k < length s → value_of (slice_index s k) < 16 = λ k lt. value_small (slice_index s k) (fits k) (pass k 0 lt) in
      is.1 (parts.1 (λ k low high. each k (omega arith), λ k low high. each k (omega arith))),
)
