-- What is spelled is read, and what is read is spelled so: octets, lanes and sources.
use Rattle.std.proofs.Common.{◌≡◌, ℕ, zero, suc, ◌+◌, ◌-◌, ◌*◌, ◌/◌, ◌%◌, ◌<◌, ◌≤◌, Bool, true, false, eqb, List, [], ◌∷◌, ◌++◌, length, get_or, take, drop, arith, refl, sym, ap, subst, ◌∙◌, inl, inr, append_assoc}
use Rattle.std.specs.Int.{w16, w64, to_be_bytes, from_be_bytes, bit_at}
use Rattle.std.specs.List.{flat_map, AllByRecursion}
use Rattle.std.proofs.Math.Nat.{mul-suc}
use Rattle.std.proofs.lemmas.Bool.{cases_lt}
use Rattle.std.proofs.lemmas.Bool.Decides.{nat_tests}
use Rattle.std.proofs.lemmas.List.{ext_get_or, get_or-drop, get_or-take, get_or_past, get_or_append_left, get_or-append_right, take_at, drop_at, length-take-le, length-take, length-drop, take-append-drop, length-append}
use Rattle.std.proofs.lemmas.List.FromFn.{length-map-range_with_len, get_or-map-range_with_len}
use Rattle.std.proofs.lemmas.Nat.{be_bytes_2, be_bytes_8, from_be_bytes-to_be_bytes_2, from_be_bytes-to_be_bytes_8}
use Rattle.std.proofs.lemmas.Nat.Bits.{bit_at-lt}
use Rattle.sr_frame.specs.declared.fields.Mac.{Mac}
use Rattle.sr_dup_window.specs.declared.lane_sets.Lane.{Lane}
use Rattle.sr_dup_window.specs.declared.lane_sets.Lane.TheVariants.{H, A, B, C, GotA, GotB}
use Rattle.sr_dup_window.specs.declared.lane_sets.Lanes.{Lanes}
use Rattle.sr_dup_window.specs.LaneSets.{flag, index_of, has, none}
use Rattle.sr_dup_window.specs.LaneLemmas.{has-lanes_where, lanes_where-same}
use Rattle.sr_dup_window.specs.Windows.{Window}
use Rattle.sr_dup_window.specs.Records.{IsWhole}
use Rattle.sr_dup_table.specs.Sources.{Remembered, Sources}
use Rattle.sr_dup_snapshots.specs.Snapshots.{is_noted, octet_of, lane_octet, lane_octets, lane_len, source_octets, source_len, IsSource}
use Rattle.sr_dup_snapshots.specs.Reading.{is_set, lanes_noted, marks_in, time_in, reference_in, lanes_in, source_in, sources_in}

-- each is an octet
abbrev pub AreOctets : List ℕ → Type 0
AreOctets l = (i : ℕ) → get_or l i 0 < 256

pub octets-drop : (n : ℕ) (l : List ℕ) → AreOctets l → AreOctets (drop n l)
octets-drop n l all i = subst (λ x. x < 256) (sym (get_or-drop n l i 0)) (all (n + i))

pub octets-take : (n : ℕ) (l : List ℕ) → AreOctets l → AreOctets (take n l)
octets-take n l all i =
    elim (cases_lt i n) [
      | inl less ↦ subst (λ x. x < 256) (sym (get_or-take n l i 0 less)) (all i)
      | inr more ↦ subst (λ x. x < 256) (sym (get_or_past (take n l) i 0 (omega (arith, length-take n l)))) (omega arith)
    ]

-- eight tests are the bits of their octet, and an octet is that of its bits
flag_small : (b : Bool) → flag b < 2
flag_small true = omega arith
flag_small false = omega arith

flag_is : (b : Bool) → eqb (flag b) 1 ≡ b
flag_is true = refl
flag_is false = refl

-- eight bits are the digits of their sum
digits : (a b c d e f g h : ℕ) → a < 2 → b < 2 → c < 2 → d < 2 → e < 2 → f < 2 → g < 2 → h < 2
    → let n = a + 2 * b + 4 * c + 8 * d + 16 * e + 32 * f + 64 * g + 128 * h in
    (bit_at n 0 ≡ a) × (bit_at n 1 ≡ b) × (bit_at n 2 ≡ c) × (bit_at n 3 ≡ d) × (bit_at n 4 ≡ e) × (bit_at n 5 ≡ f) × (bit_at n 6 ≡ g) × (bit_at n 7 ≡ h)
digits a b c d e f g h ha hb hc hd he hf hg hh =
    (omega arith, omega arith, omega arith, omega arith, omega arith, omega arith, omega arith, omega arith)

bits-of-octet : (test : ℕ → Bool) (j : ℕ) → j < 8 → eqb (bit_at (octet_of test) j) 1 ≡ test j
bits-of-octet test j h =
    by j h (digits (flag (test 0)) (flag (test 1)) (flag (test 2)) (flag (test 3)) (flag (test 4)) (flag (test 5)) (flag (test 6)) (flag (test 7))
    (flag_small (test 0)) (flag_small (test 1)) (flag_small (test 2)) (flag_small (test 3)) (flag_small (test 4)) (flag_small (test 5)) (flag_small (test 6)) (flag_small (test 7)))
  where
    is : (k : ℕ) → bit_at (octet_of test) k ≡ flag (test k) → eqb (bit_at (octet_of test) k) 1 ≡ test k
    is k e = ap (λ x. eqb x 1) e ∙ flag_is (test k)

    by : (k : ℕ) → k < 8 → (bit_at (octet_of test) 0 ≡ flag (test 0)) × (bit_at (octet_of test) 1 ≡ flag (test 1)) × (bit_at (octet_of test) 2 ≡ flag (test 2)) × (bit_at (octet_of test) 3 ≡ flag (test 3)) × (bit_at (octet_of test) 4 ≡ flag (test 4)) × (bit_at (octet_of test) 5 ≡ flag (test 5)) × (bit_at (octet_of test) 6 ≡ flag (test 6)) × (bit_at (octet_of test) 7 ≡ flag (test 7)) → eqb (bit_at (octet_of test) k) 1 ≡ test k
    by zero less e = is 0 e.0
    by (suc zero) less e = is 1 e.1
    by (suc (suc zero)) less e = is 2 e.2
    by (suc (suc (suc zero))) less e = is 3 e.3
    by (suc (suc (suc (suc zero)))) less e = is 4 e.4
    by (suc (suc (suc (suc (suc zero))))) less e = is 5 e.5
    by (suc (suc (suc (suc (suc (suc zero)))))) less e = is 6 e.6
    by (suc (suc (suc (suc (suc (suc (suc zero))))))) less e = is 7 e.7
    by (suc (suc (suc (suc (suc (suc (suc (suc k)))))))) less e = absurd (omega arith)

flag-of-bit : (n i : ℕ) → flag (eqb (bit_at n i) 1) ≡ bit_at n i
flag-of-bit n i = of_small (bit_at n i) (bit_at-lt n i)
  where
    of_small : (x : ℕ) → x < 2 → flag (eqb x 1) ≡ x
    of_small x h = grind (arith, nat_tests)

all-bits : (n : ℕ) → n < 256 → bit_at n 0 + 2 * bit_at n 1 + 4 * bit_at n 2 + 8 * bit_at n 3 + 16 * bit_at n 4 + 32 * bit_at n 5 + 64 * bit_at n 6 + 128 * bit_at n 7 ≡ n
all-bits n h = omega arith

-- an octet by tests that are its bits
octet-of-bits : (n : ℕ) (test : ℕ → Bool) → n < 256 → ((j : ℕ) → j < 8 → test j ≡ eqb (bit_at n j) 1) → octet_of test ≡ n
octet-of-bits n test h same =
    (λ i. at 0 (omega arith) i + 2 * at 1 (omega arith) i + 4 * at 2 (omega arith) i + 8 * at 3 (omega arith) i + 16 * at 4 (omega arith) i + 32 * at 5 (omega arith) i + 64 * at 6 (omega arith) i + 128 * at 7 (omega arith) i)
    ∙ all-bits n h
  where
    at : (j : ℕ) → j < 8 → flag (test j) ≡ bit_at n j
    at j less = ap flag (same j less) ∙ flag-of-bit n j

-- an octet of a lane, and the numbers for which its bits stand
lane-count : (w : ℕ) (marks : List Lanes) (lane : Lane) → length (lane_octets w marks lane) ≡ lane_len w
unfolding lane_octets
lane-count w marks lane = length-map-range_with_len (lane_octet marks lane) 0 (lane_len w)

lane-at : (w : ℕ) (marks : List Lanes) (lane : Lane) (i : ℕ) → i < lane_len w → get_or (lane_octets w marks lane) i 0 ≡ lane_octet marks lane i
unfolding lane_octets
lane-at w marks lane i h = get_or-map-range_with_len (lane_octet marks lane) 0 (lane_len w) i i 0 h (omega arith)

lane-bit : (marks : List Lanes) (lane : Lane) (k : ℕ) → eqb (bit_at (lane_octet marks lane (k / 8)) (k % 8)) 1 ≡ has (get_or marks k none) lane
lane-bit marks lane k =
    let whole : 8 * (k / 8) + k % 8 ≡ k = omega arith in
    bits-of-octet (λ j. is_noted marks lane (8 * (k / 8) + j)) (k % 8) (omega arith) ∙ ap (λ n. has (get_or marks n none) lane) whole

-- octets that stand before others, and those that stand behind
first-part : (len : ℕ) (xs ys : List ℕ) (i j : ℕ) → length xs ≡ len → i < len → j ≡ i → get_or (xs ++ ys) j 0 ≡ get_or xs i 0
first-part len xs ys i j e h at = ap (λ n. get_or (xs ++ ys) n 0) at ∙ get_or_append_left xs ys 0 i (omega (arith, e))

next-part : (len : ℕ) (xs ys : List ℕ) (i j : ℕ) → length xs ≡ len → j ≡ len + i → get_or (xs ++ ys) j 0 ≡ get_or ys i 0
next-part len xs ys i j e at =
    let more : len ≤ j = omega arith in
    let rest : j - len ≡ i = omega arith in
    get_or-append_right xs ys len j 0 e more ∙ ap (λ n. get_or ys n 0) rest

-- six lists of octets, one behind the other, each of one length
abbrev pub six : (Lane → List ℕ) → List ℕ
six of = of H ++ (of A ++ (of B ++ (of C ++ (of GotA ++ of GotB))))

abbrev HasLength : ℕ → (Lane → List ℕ) → Type 0
HasLength len of = (lane : Lane) → length (of lane) ≡ len

six-at : (l : ℕ) (of : Lane → List ℕ) → HasLength l of → (lane : Lane) (i : ℕ) → i < l → get_or (six of) (index_of lane * l + i) 0 ≡ get_or (of lane) i 0
six-at l of len H i h = first-part l (of H) (of A ++ (of B ++ (of C ++ (of GotA ++ of GotB)))) i (0 * l + i) (len H) h (omega arith)
six-at l of len A i h =
    next-part l (of H) (of A ++ (of B ++ (of C ++ (of GotA ++ of GotB)))) i (1 * l + i) (len H) (omega arith)
    ∙ first-part l (of A) (of B ++ (of C ++ (of GotA ++ of GotB))) i i (len A) h refl
six-at l of len B i h =
    next-part l (of H) (of A ++ (of B ++ (of C ++ (of GotA ++ of GotB)))) (l + i) (2 * l + i) (len H) (omega arith)
    ∙ next-part l (of A) (of B ++ (of C ++ (of GotA ++ of GotB))) i (l + i) (len A) (omega arith)
    ∙ first-part l (of B) (of C ++ (of GotA ++ of GotB)) i i (len B) h refl
six-at l of len C i h =
    next-part l (of H) (of A ++ (of B ++ (of C ++ (of GotA ++ of GotB)))) (2 * l + i) (3 * l + i) (len H) (omega arith)
    ∙ next-part l (of A) (of B ++ (of C ++ (of GotA ++ of GotB))) (l + i) (2 * l + i) (len A) (omega arith)
    ∙ next-part l (of B) (of C ++ (of GotA ++ of GotB)) i (l + i) (len B) (omega arith)
    ∙ first-part l (of C) (of GotA ++ of GotB) i i (len C) h refl
six-at l of len GotA i h =
    next-part l (of H) (of A ++ (of B ++ (of C ++ (of GotA ++ of GotB)))) (3 * l + i) (4 * l + i) (len H) (omega arith)
    ∙ next-part l (of A) (of B ++ (of C ++ (of GotA ++ of GotB))) (2 * l + i) (3 * l + i) (len A) (omega arith)
    ∙ next-part l (of B) (of C ++ (of GotA ++ of GotB)) (l + i) (2 * l + i) (len B) (omega arith)
    ∙ next-part l (of C) (of GotA ++ of GotB) i (l + i) (len C) (omega arith)
    ∙ first-part l (of GotA) (of GotB) i i (len GotA) h refl
six-at l of len GotB i h =
    next-part l (of H) (of A ++ (of B ++ (of C ++ (of GotA ++ of GotB)))) (4 * l + i) (5 * l + i) (len H) (omega arith)
    ∙ next-part l (of A) (of B ++ (of C ++ (of GotA ++ of GotB))) (3 * l + i) (4 * l + i) (len A) (omega arith)
    ∙ next-part l (of B) (of C ++ (of GotA ++ of GotB)) (2 * l + i) (3 * l + i) (len B) (omega arith)
    ∙ next-part l (of C) (of GotA ++ of GotB) (l + i) (2 * l + i) (len C) (omega arith)
    ∙ next-part l (of GotA) (of GotB) i (l + i) (len GotA) (omega arith)

six-count : (l : ℕ) (of : Lane → List ℕ) → HasLength l of → length (six of) ≡ 6 * l
six-count l of len =
    omega (
      arith,
      len H,
      len A,
      len B,
      len C,
      len GotA,
      len GotB,
      length-append (of H) (of A ++ (of B ++ (of C ++ (of GotA ++ of GotB)))),
      length-append (of A) (of B ++ (of C ++ (of GotA ++ of GotB))),
      length-append (of B) (of C ++ (of GotA ++ of GotB)),
      length-append (of C) (of GotA ++ of GotB),
      length-append (of GotA) (of GotB),
    )

-- the list and the place in it where a place lies
place-of : (l p : ℕ) → p < 6 * l → (lane : Lane) × (i : ℕ) × (i < l) × (index_of lane * l + i ≡ p)
place-of l p h =
    elim (cases_lt p l) [
      | inl less ↦ (H, p, less, omega arith)
      | inr more ↦ elim (cases_lt p (2 * l)) [
        | inl less ↦ (A, p - l, omega arith, omega arith)
        | inr more ↦ elim (cases_lt p (3 * l)) [
          | inl less ↦ (B, p - 2 * l, omega arith, omega arith)
          | inr more ↦ elim (cases_lt p (4 * l)) [
            | inl less ↦ (C, p - 3 * l, omega arith, omega arith)
            | inr more ↦ elim (cases_lt p (5 * l)) [
              | inl less ↦ (GotA, p - 4 * l, omega arith, omega arith)
              | inr more ↦ (GotB, p - 5 * l, omega arith, omega arith)
            ]
          ]
        ]
      ]
    ]

-- six lists that have the octets of a list at their places are that list
six-same : (l : ℕ) (of : Lane → List ℕ) (octets : List ℕ) → HasLength l of → length octets ≡ 6 * l
    → ((lane : Lane) (i : ℕ) → i < l → get_or (of lane) i 0 ≡ get_or octets (index_of lane * l + i) 0) → six of ≡ octets
six-same l of octets len count same =
    ext_get_or 0 (six of) octets (six-count l of len ∙ sym count)
    (λ p h.
    let where_is = place-of l p (omega (arith, h, six-count l of len)) in
    ap (λ n. get_or (six of) n 0) (sym where_is.3)
    ∙ six-at l of len where_is.0 where_is.1 where_is.2
    ∙ same where_is.0 where_is.1 where_is.2
    ∙ ap (λ n. get_or octets n 0) where_is.3)

-- the octets of the six lanes, of w numbers
abbrev pub six_lanes : ℕ → List Lanes → List ℕ
six_lanes w marks = six (lane_octets w marks)

pub lanes-count : (w : ℕ) (marks : List Lanes) → length (six_lanes w marks) ≡ 6 * lane_len w
lanes-count w marks = six-count (lane_len w) (lane_octets w marks) (lane-count w marks)

octet-at : (w : ℕ) (marks : List Lanes) (lane : Lane) (i : ℕ) → i < lane_len w → get_or (six_lanes w marks) (index_of lane * lane_len w + i) 0 ≡ lane_octet marks lane i
octet-at w marks lane i h = six-at (lane_len w) (lane_octets w marks) (lane-count w marks) lane i h ∙ lane-at w marks lane i h

-- the marks of octets
pub marks-count : (w : ℕ) (lanes : List ℕ) → length (marks_in w lanes) ≡ w
unfolding marks_in
marks-count w lanes = length-map-range_with_len (lanes_noted w lanes) 0 w

pub marks-at : (w : ℕ) (lanes : List ℕ) (k : ℕ) → k < w → get_or (marks_in w lanes) k none ≡ lanes_noted w lanes k
unfolding marks_in
marks-at w lanes k h = get_or-map-range_with_len (lanes_noted w lanes) 0 w k k none h (omega arith)

-- the marks that were spelled are read
marks-read : (w : ℕ) → w % 8 ≡ 0 → (r : Window) → IsWhole w r → marks_in w (six_lanes w r.marks) ≡ r.marks
marks-read w eights r whole =
    ext_get_or none (marks_in w (six_lanes w r.marks)) r.marks (marks-count w (six_lanes w r.marks) ∙ sym whole.count)
    (λ k h. at k (inside (length (marks_in w (six_lanes w r.marks))) k (marks-count w (six_lanes w r.marks)) h))
  where
    inside : (n k : ℕ) → n ≡ w → k < n → k < w
    inside n k e h = omega arith

    bit : (k : ℕ) → k < w → (lane : Lane) → is_set w (six_lanes w r.marks) k lane ≡ has (get_or r.marks k none) lane
    bit k h lane =
        let few : k / 8 < w / 8 = omega arith in
        ap (λ n. eqb (bit_at n (k % 8)) 1) (octet-at w r.marks lane (k / 8) few) ∙ lane-bit r.marks lane k

    at : (k : ℕ) → k < w → get_or (marks_in w (six_lanes w r.marks)) k none ≡ get_or r.marks k none
    at k h =
        marks-at w (six_lanes w r.marks) k h
        ∙ lanes_where-same (is_set w (six_lanes w r.marks) k) (has (get_or r.marks k none)) (bit k h)
        ∙ whole.plain k h

-- octets whose marks are read are spelled so
octet-read : (w : ℕ) (lanes : List ℕ) → AreOctets lanes → (lane : Lane) (i : ℕ) → i < lane_len w
    → lane_octet (marks_in w lanes) lane i ≡ get_or lanes (index_of lane * lane_len w + i) 0
octet-read w lanes all lane i h =
    octet-of-bits (get_or lanes (index_of lane * lane_len w + i) 0) (λ j. is_noted (marks_in w lanes) lane (8 * i + j)) (all (index_of lane * lane_len w + i))
    (λ j less.
    let k = 8 * i + j in
    let inside : k < w = omega arith in
    let place : k / 8 ≡ i = omega arith in
    let back : k % 8 ≡ j = omega arith in
    ap (λ s. has s lane) (marks-at w lanes k inside) ∙ has-lanes_where (is_set w lanes k) lane
    ∙ (λ t. eqb (bit_at (get_or lanes (index_of lane * lane_len w + place t) 0) (back t)) 1))

lanes-spelled : (w : ℕ) (lanes : List ℕ) → length lanes ≡ 6 * lane_len w → AreOctets lanes → six_lanes w (marks_in w lanes) ≡ lanes
lanes-spelled w lanes count all =
    six-same (lane_len w) (lane_octets w (marks_in w lanes)) lanes (lane-count w (marks_in w lanes)) count
    (λ lane i h. lane-at w (marks_in w lanes) lane i h ∙ octet-read w lanes all lane i h)

-- the parts of a source, one behind the other
pub regrouped : (w : ℕ) (e : Mac × Remembered)
    → source_octets w e ≡ e.0.0 ++ (to_be_bytes w64 e.1.time ++ (to_be_bytes w16 e.1.seen.reference ++ six_lanes w e.1.seen.marks))
regrouped w e =
    let of : Lane → List ℕ = lane_octets w e.1.seen.marks in
    let r = to_be_bytes w16 e.1.seen.reference in
    ap (λ l. (e.0.0 ++ to_be_bytes w64 e.1.time) ++ l)
    (append_assoc (r ++ of H ++ of A ++ of B ++ of C) (of GotA) (of GotB)
    ∙ append_assoc (r ++ of H ++ of A ++ of B) (of C) (of GotA ++ of GotB)
    ∙ append_assoc (r ++ of H ++ of A) (of B) (of C ++ (of GotA ++ of GotB))
    ∙ append_assoc (r ++ of H) (of A) (of B ++ (of C ++ (of GotA ++ of GotB)))
    ∙ append_assoc r (of H) (of A ++ (of B ++ (of C ++ (of GotA ++ of GotB)))))
    ∙ append_assoc e.0.0 (to_be_bytes w64 e.1.time) (r ++ six_lanes w e.1.seen.marks)

pub source-count : (w : ℕ) (e : Mac × Remembered) → length e.0.0 ≡ 6 → length (source_octets w e) ≡ source_len w
source-count w e address =
    let r = to_be_bytes w16 e.1.seen.reference in
    let t = to_be_bytes w64 e.1.time in
    let lanes = six_lanes w e.1.seen.marks in
    ap length (regrouped w e)
    ∙ length-append e.0.0 (t ++ (r ++ lanes))
    ∙ (λ i. address i + length-append t (r ++ lanes) i)
    ∙ (λ i. 6 + (8 + length-append r lanes i))
    ∙ (λ i. 6 + (8 + (2 + lanes-count w e.1.seen.marks i)))
    ∙ sum (lane_len w)
  where
    sum : (l : ℕ) → 6 + (8 + (2 + 6 * l)) ≡ 16 + 6 * l
    sum l = omega arith

-- a source that was spelled is read
parts-read : (w : ℕ) (m t r l : List ℕ) → length m ≡ 6 → length t ≡ 8 → length r ≡ 2
    → source_in w (m ++ (t ++ (r ++ l)))
    ≡ (record { 0 = m }, record { seen = record { reference = from_be_bytes w16 r; marks = marks_in w l }; time = from_be_bytes w64 t })
parts-read w m t r l six eight two =
    (λ i. (
      record { 0 = take_at m (t ++ (r ++ l)) 6 six i },
      record {
        seen = record { reference = from_be_bytes w16 (take 2 (drop 8 (behind i))); marks = marks_in w (drop 2 (drop 8 (behind i))) };
        time = from_be_bytes w64 (take 8 (behind i));
      },
    ))
    ∙ (λ i. (
      record { 0 = m },
      record {
        seen = record { reference = from_be_bytes w16 (take 2 (after i)); marks = marks_in w (drop 2 (after i)) };
        time = from_be_bytes w64 (take_at t (r ++ l) 8 eight i);
      },
    ))
    ∙ (λ i. (
      record { 0 = m },
      record {
        seen = record { reference = from_be_bytes w16 (take_at r l 2 two i); marks = marks_in w (drop_at r l 2 two i) };
        time = from_be_bytes w64 t;
      },
    ))
  where
    behind : drop 6 (m ++ (t ++ (r ++ l))) ≡ t ++ (r ++ l)
    behind = drop_at m (t ++ (r ++ l)) 6 six

    after : drop 8 (t ++ (r ++ l)) ≡ r ++ l
    after = drop_at t (r ++ l) 8 eight

source-read : (w : ℕ) → w % 8 ≡ 0 → (e : Mac × Remembered) → IsSource w e → source_in w (source_octets w e) ≡ e
source-read w eights e is =
    (λ i. source_in w (regrouped w e i))
    ∙ parts-read w e.0.0 (to_be_bytes w64 e.1.time) (to_be_bytes w16 e.1.seen.reference) (six_lanes w e.1.seen.marks) is.address refl refl
    ∙ (λ i. (
      e.0,
      record {
        seen = record { reference = from_be_bytes-to_be_bytes_2 e.1.seen.reference is.whole.carried i; marks = marks-read w eights e.1.seen is.whole i };
        time = from_be_bytes-to_be_bytes_8 e.1.time is.time i;
      },
    ))

-- octets whose source is read are spelled so
source-spelled : (w : ℕ) (c : List ℕ) → length c ≡ source_len w → AreOctets c → source_octets w (source_in w c) ≡ c
source-spelled w c count all =
    regrouped w (source_in w c)
    ∙ (λ i. take 6 c ++ (time i ++ (reference i ++ lanes i)))
    ∙ ap (λ l. take 6 c ++ (take 8 (drop 6 c) ++ l)) (take-append-drop 2 (drop 8 (drop 6 c)))
    ∙ ap (λ l. take 6 c ++ l) (take-append-drop 8 (drop 6 c))
    ∙ take-append-drop 6 c
  where
    one : length (drop 6 c) ≡ 10 + 6 * lane_len w
    one = omega (arith, count, length-drop 6 c)

    two : length (drop 8 (drop 6 c)) ≡ 2 + 6 * lane_len w
    two = omega (arith, one, length-drop 8 (drop 6 c))

    three : length (drop 2 (drop 8 (drop 6 c))) ≡ 6 * lane_len w
    three = omega (arith, two, length-drop 2 (drop 8 (drop 6 c)))

    octets-one : AreOctets (drop 6 c)
    octets-one = octets-drop 6 c all

    octets-two : AreOctets (drop 8 (drop 6 c))
    octets-two = octets-drop 8 (drop 6 c) octets-one

    time : to_be_bytes w64 (time_in c) ≡ take 8 (drop 6 c)
    time = be_bytes_8 (take 8 (drop 6 c)) (time_in c) (length-take-le 8 (drop 6 c) (omega (arith, one))) (octets-take 8 (drop 6 c) octets-one) refl

    reference : to_be_bytes w16 (reference_in c) ≡ take 2 (drop 8 (drop 6 c))
    reference = be_bytes_2 (take 2 (drop 8 (drop 6 c))) (reference_in c) (length-take-le 2 (drop 8 (drop 6 c)) (omega (arith, two))) (octets-take 2 (drop 8 (drop 6 c)) octets-two) refl

    lanes : six_lanes w (marks_in w (lanes_in c)) ≡ lanes_in c
    lanes = lanes-spelled w (lanes_in c) three (octets-drop 2 (drop 8 (drop 6 c)) octets-two)

-- the same of several sources, one behind the other
pub all-read : (w : ℕ) → w % 8 ≡ 0 → (s : Sources) → AllByRecursion (IsSource w) s → sources_in w (length s) (flat_map (source_octets w) s) ≡ s
unfolding sources_in
all-read w eights [] each = refl
all-read w eights (e ∷ s) each =
    (λ i. source_in w (take_at (source_octets w e) (flat_map (source_octets w) s) (source_len w) (source-count w e each.0.address) i)
    ∷ sources_in w (length s) (drop_at (source_octets w e) (flat_map (source_octets w) s) (source_len w) (source-count w e each.0.address) i))
    ∙ (λ i. source-read w eights e each.0 i ∷ all-read w eights s each.1 i)

-- the octets of one source more
pub size-more : (len n size : ℕ) → size ≡ len * suc n → (len ≤ size) × (size - len ≡ len * n)
size-more len n size whole = by (len * n) (whole ∙ mul-suc len n)
  where
    by : (p : ℕ) → size ≡ p + len → (len ≤ size) × (size - len ≡ p)
    by p e = (omega arith, omega arith)

pub size-none : (len : ℕ) → len * 0 ≡ 0
size-none len = omega arith

pub all-spelled : (w : ℕ) (count : ℕ) (octets : List ℕ) → length octets ≡ source_len w * count → AreOctets octets → flat_map (source_octets w) (sources_in w count octets) ≡ octets
unfolding sources_in
all-spelled w zero [] whole all = refl
all-spelled w zero (o ∷ octets) whole all = absurd (omega (arith, whole, size-none (source_len w)))
all-spelled w (suc count) octets whole all =
    let len = source_len w in
    let more = size-more len count (length octets) whole in
    (λ i. source-spelled w (take len octets) (length-take-le len octets more.0) (octets-take len octets all) i
    ++ all-spelled w count (drop len octets) (length-drop len octets ∙ more.1) (octets-drop len octets all) i)
    ∙ take-append-drop len octets

-- so many sources have the octets of one each
pub all-count : (w : ℕ) (s : Sources) → AllByRecursion (IsSource w) s → length (flat_map (source_octets w) s) ≡ source_len w * length s
all-count w [] each = sym (size-none (source_len w))
all-count w (e ∷ s) each =
    length-append (source_octets w e) (flat_map (source_octets w) s)
    ∙ (λ i. source-count w e each.0.address i + all-count w s each.1 i)
    ∙ more (source_len w) (length s)
  where
    more : (len n : ℕ) → len + len * n ≡ len * suc n
    more len n = by (len * n) (len * suc n) (mul-suc len n)
      where
        by : (p q : ℕ) → q ≡ p + len → len + p ≡ q
        by p q e = omega arith

pub sources-count : (w : ℕ) (count : ℕ) (octets : List ℕ) → length (sources_in w count octets) ≡ count
unfolding sources_in
sources-count w zero octets = refl
sources-count w (suc count) octets = ap suc (sources-count w count (drop (source_len w) octets))
