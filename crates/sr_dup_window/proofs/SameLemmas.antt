-- Records that stand for the same family are equal values.
use Rattle.std.proofs.Common.{◌≡◌, ℕ, zero, suc, ◌+◌, ◌*◌, ◌/◌, ◌%◌, ◌<◌, false, eqb, ◌||◌, ◌&&◌, IsTrue, List, [], get_or, arith, refl, sym, ap, ◌∙◌, subst}
use Rattle.std.specs.Int.{bit_at}
use Rattle.std.proofs.lemmas.Bool.Decides.{nat_tests, Decides-eqb, Decides-like, Decides-and}
use Rattle.std.specs.Bool.{one_answer}
use Rattle.std.specs.Cmp.Lexicographic.{pointwise, pointwise_decides}
use Rattle.std.proofs.lemmas.List.{ext_get_or}
use Rattle.std.proofs.lemmas.Nat.Bits.{bit_at-lt, same_from_bits_below}
use mathlib.Core.HLevel.{Σ_prop_path}
use Rattle.std.proofs.Math.Bool.{Bool-set}
use Rattle.std.proofs.Math.Nat.{ℕ_set}
use Rattle.std.proofs.Math.Bridge.{le_prop}
use Rattle.sr_sequence.specs.declared.Seq.{Seq}
use Rattle.sr_dup_window.specs.declared.lane_sets.Lane.{Lane}
use Rattle.sr_dup_window.specs.declared.lane_sets.Lane.TheVariants.{H, A, B, C, GotA, GotB}
use Rattle.sr_dup_window.specs.declared.record.Record.{Record}
use Rattle.sr_dup_window.specs.LaneSets.{has, none, index_of, is_empty}
use Rattle.sr_dup_window.specs.LaneLemmas.{has-lanes_where}
use Rattle.sr_dup_window.specs.Bins.{has_bit, lanes_at, IsRow, AreRows}
use Rattle.sr_dup_window.specs.Windows.{window_of, same_window}
use Rattle.sr_dup_window.specs.WindowLemmas.{Decides-same_window}
use Rattle.sr_dup_window.specs.RecordLemmas.{record-width}
use Rattle.sr_dup_window.proofs.PlaceLemmas.{bin, back_of, place_back}
use Rattle.sr_dup_window.proofs.ShowLemmas.{shows_marks}

-- records that show the same have the same lanes at each place of their rings
same_place : {N : ℕ} (a b : Record N) (lane : Lane) (p : ℕ) → window_of a ≡ window_of b → p < 64 * N → has_bit (get_or a.rows (p / 64) []) (p % 64) lane ≡ has_bit (get_or b.rows (p / 64) []) (p % 64) lane
same_place {N} a b lane p e h =
    let w = 64 * N in
    let k = back_of w a.reference.0 p in
    let at = place_back w a.reference.0 p (record-width a) a.carried h in
    let places : lanes_at a.rows p ≡ lanes_at b.rows p =
    ap (lanes_at a.rows) (sym at.1)
    ∙ (shows_marks a).each k at.0
    ∙ ap (λ x. get_or x.marks k none) e
    ∙ sym ((shows_marks b).each k at.0)
    ∙ ap (λ x. lanes_at b.rows (bin w x.reference k)) (sym e)
    ∙ ap (lanes_at b.rows) at.1 in
    sym (has-lanes_where (has_bit (get_or a.rows (p / 64) []) (p % 64)) lane)
    ∙ ap (λ x. has x lane) places
    ∙ has-lanes_where (has_bit (get_or b.rows (p / 64) []) (p % 64)) lane

same_bit : (x y : ℕ) → x < 2 → y < 2 → eqb x 1 ≡ eqb y 1 → x ≡ y
same_bit x y h g e = grind (arith, nat_tests)

-- each word of a row is a lane's
lane_at : (j : ℕ) → j < 6 → (lane : Lane) × (index_of lane ≡ j)
lane_at zero h = (H, refl)
lane_at (suc zero) h = (A, refl)
lane_at (suc (suc zero)) h = (B, refl)
lane_at (suc (suc (suc zero))) h = (C, refl)
lane_at (suc (suc (suc (suc zero)))) h = (GotA, refl)
lane_at (suc (suc (suc (suc (suc zero))))) h = (GotB, refl)
lane_at (suc (suc (suc (suc (suc (suc j)))))) h = absurd (omega arith)

-- rows with the same bits on every lane are equal
same_row : (xs ys : List ℕ) → IsRow xs → IsRow ys → ((lane : Lane) (b : ℕ) → b < 64 → has_bit xs b lane ≡ has_bit ys b lane) → xs ≡ ys
same_row xs ys a b same =
    ext_get_or 0 xs ys (a.six ∙ sym b.six) (λ j h.
    same_from_bits_below 64 (get_or xs j 0) (get_or ys j 0) (a.small j) (b.small j) (λ i g.
    let lane = lane_at j (omega (arith, a.six)) in
    let P : ℕ → Type 0 = λ k. eqb (bit_at (get_or xs k 0) i) 1 ≡ eqb (bit_at (get_or ys k 0) i) 1 in
    same_bit (bit_at (get_or xs j 0) i) (bit_at (get_or ys j 0) i) (bit_at-lt (get_or xs j 0) i) (bit_at-lt (get_or ys j 0) i)
    (subst P lane.1 (same lane.0 i g))))

-- rings with the same places are equal
same_rows : (n : ℕ) (xs ys : List (List ℕ)) → AreRows n xs → AreRows n ys → ((lane : Lane) (p : ℕ) → p < 64 * n → has_bit (get_or xs (p / 64) []) (p % 64) lane ≡ has_bit (get_or ys (p / 64) []) (p % 64) lane) → xs ≡ ys
same_rows n xs ys a b same =
    ext_get_or [] xs ys (a.many ∙ sym b.many) (λ i h.
    same_row (get_or xs i []) (get_or ys i []) (a.each i (omega (arith, a.many))) (b.each i (omega (arith, a.many))) (λ lane j g.
    let inside : 64 * i + j < 64 * n = omega (arith, a.many) in
    let row : (64 * i + j) / 64 ≡ i = omega arith in
    let bit : (64 * i + j) % 64 ≡ j = omega arith in
    let P : ℕ → Type 0 = λ k. has_bit (get_or xs k []) ((64 * i + j) % 64) lane ≡ has_bit (get_or ys k []) ((64 * i + j) % 64) lane in
    let Q : ℕ → Type 0 = λ k. has_bit (get_or xs i []) k lane ≡ has_bit (get_or ys i []) k lane in
    subst Q bit (subst P row (same lane (64 * i + j) inside))))

-- the facts that a record keeps, and that they have one proof
Facts : (n : ℕ) → Seq × List (List ℕ) → Type 0
Facts n x = IsTrue (eqb n 16 || eqb n 32) × (x.0.0 < 65536) × AreRows n x.1 × (is_empty (lanes_at x.1 (x.0.0 % (64 * n))) ≡ false)

facts_prop : (n : ℕ) (x : Seq × List (List ℕ)) → IsProp (Facts n x)
unfolding Facts
facts_prop n x = hlevel (le_prop, Bool-set, ℕ_set)

-- a record of these fields
remade : (n : ℕ) → ((x : Seq × List (List ℕ)) × Facts n x) → Record n
unfolding Facts
remade n y = record { reference = y.0.0; rows = y.0.1; width = y.1.0; carried = y.1.1; whole = y.1.2; some = y.1.3 }

-- records with the same reference and rows are equal
same_fields : {N : ℕ} (a b : Record N) → a.reference ≡ b.reference → a.rows ≡ b.rows → a ≡ b
unfolding remade Facts
same_fields {N} a b e h =
    let pair : Path (Seq × List (List ℕ)) (a.reference, a.rows) (b.reference, b.rows) = (λ i. (e i, h i)) in
    let A : (x : Seq × List (List ℕ)) × Facts N x = ((a.reference, a.rows), (a.width, a.carried, a.whole, a.some)) in
    let B : (x : Seq × List (List ℕ)) × Facts N x = ((b.reference, b.rows), (b.width, b.carried, b.whole, b.some)) in
    let same : A ≡ B = Σ_prop_path (facts_prop N) pair in
    ap (remade N) same

-- records that show the same are equal values
pub same_shown : {N : ℕ} (a b : Record N) → window_of a ≡ window_of b → a ≡ b
same_shown {N} a b e =
    let mk : ℕ → Seq = λ n. record { 0 = n } in
    same_fields a b (ap (λ x. mk x.reference) e) (same_rows N a.rows b.rows a.whole b.whole (λ lane p h. same_place a b lane p e h))

-- so the test of their fields is that of what they show
pub same-as-shown : {N : ℕ} (a b : Record N) → (eqb a.reference.0 b.reference.0 && pointwise (pointwise eqb) a.rows b.rows) ≡ same_window (window_of a) (window_of b)
same-as-shown {N} a b =
    let mk : ℕ → Seq = λ n. record { 0 = n } in
    let fields = Decides-and (eqb a.reference.0 b.reference.0) (pointwise (pointwise eqb) a.rows b.rows) (Decides-eqb a.reference.0 b.reference.0) (pointwise_decides (pointwise_decides Decides-eqb) a.rows b.rows) in
    one_answer (eqb a.reference.0 b.reference.0 && pointwise (pointwise eqb) a.rows b.rows) (same_window (window_of a) (window_of b))
    (Decides-like _ (λ e. ap window_of (same_fields a b (ap mk e.0) e.1)) (λ e. let same = same_shown a b e in (ap (λ (r : Record N). r.reference.0) same, ap (λ (r : Record N). r.rows) same)) fields)
    (Decides-same_window (window_of a) (window_of b))
