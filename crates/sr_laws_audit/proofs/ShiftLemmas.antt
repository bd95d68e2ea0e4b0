-- Stretches under other whole numbers, of which the wire shows the same.
use Rattle.std.proofs.Common.{◌≡◌, ℕ, ◌+◌, ◌*◌, ◌%◌, true, false, cond, ◌||◌, ◌&&◌, not, List, [], ◌∷◌, ℤ, pos, negsuc, arith, refl, sym, ap, ◌∙◌, inl, inr}
use Rattle.std.specs.Prelude.{◌+ℤ◌, ◌-ℤ◌}
use Rattle.std.specs.Ordering.{int_eq}
use Rattle.std.proofs.lemmas.Bool.{cases_Bool, false_from_ne_true}
use Rattle.std.proofs.lemmas.Bool.Decides.{Decides-int_eq}
use Rattle.std.proofs.lemmas.Int.{ints}
use borrow.Author.Differences.{up, down}
use Rattle.sr_sequence.specs.Numbers.{wire}
use Rattle.sr_dup_window.specs.Families.{greater}
use Rattle.sr_audit.specs.declared.side.Side.{Side}
use Rattle.sr_audit.specs.declared.side.Side.TheVariants.{A, B}
use Rattle.sr_audit.specs.Edges.{first_time}
use Rattle.sr_audit.specs.Stretches.{Placed, same_side, came, top_number}

-- a stretch under whole numbers that are so much greater
abbrev pub shift : ℤ → Placed → Placed
shift d y = record { side = y.side; number = y.number +ℤ d; time = y.time }

abbrev pub shifted : ℤ → List Placed → List Placed
shifted d [] = []
shifted d (y ∷ s) = shift d y ∷ shifted d s

pub int_eq_shift : (n k d : ℤ) → int_eq (n +ℤ d) (k +ℤ d) ≡ int_eq n k
int_eq_shift n k d =
    elim (cases_Bool (int_eq n k)) [
      | inl same ↦ (Decides-int_eq (n +ℤ d) (k +ℤ d)).1 (ap (λ m. m +ℤ d) ((Decides-int_eq n k).0 same)) ∙ sym same
      | inr other ↦ false_from_ne_true (int_eq (n +ℤ d) (k +ℤ d))
          (λ e. let same : int_eq n k ≡ true = (Decides-int_eq n k).1 (cancel n k d ((Decides-int_eq (n +ℤ d) (k +ℤ d)).0 e)) in
          let no_way : false ≡ true = sym other ∙ same in absurd cc) ∙ sym other
    ]
  where
    cancel : (n k d : ℤ) → n +ℤ d ≡ k +ℤ d → n ≡ k
    cancel n k d e = omega (arith, ints, e)

pub came_shifted : (side : Side) (n d : ℤ) (s : List Placed) → came side (n +ℤ d) (shifted d s) ≡ came side n s
came_shifted side n d [] = refl
came_shifted side n d (y ∷ s) =
    ap (λ b. (b && same_side side y.side) || came side (n +ℤ d) (shifted d s)) (int_eq_shift n y.number d)
    ∙ ap (λ b. (int_eq n y.number && same_side side y.side) || b) (came_shifted side n d s)

pub first_shifted : (n d : ℤ) (s : List Placed) → first_time (n +ℤ d) (shifted d s) ≡ first_time n s
first_shifted n d [] = refl
first_shifted n d (y ∷ s) =
    ap (λ b. cond (b && not (came A (n +ℤ d) (shifted d s) || came B (n +ℤ d) (shifted d s))) y.time (first_time (n +ℤ d) (shifted d s)))
    (int_eq_shift n y.number d)
    ∙ ap (λ b. cond (int_eq n y.number && not (b || came B (n +ℤ d) (shifted d s))) y.time (first_time (n +ℤ d) (shifted d s))) (came_shifted A n d s)
    ∙ ap (λ b. cond (int_eq n y.number && not (came A n s || b)) y.time (first_time (n +ℤ d) (shifted d s))) (came_shifted B n d s)
    ∙ ap (λ t. cond (int_eq n y.number && not (came A n s || came B n s)) y.time t) (first_shifted n d s)

pub greater_shift : (m n d : ℤ) → greater (m +ℤ d) (n +ℤ d) ≡ greater m n +ℤ d
greater_shift m n d = grind (arith, ints)

pub top_shifted : (d : ℤ) (y : Placed) (s : List Placed) → top_number (shifted d (y ∷ s)) ≡ top_number (y ∷ s) +ℤ d
top_shifted d y [] = refl
top_shifted d y (z ∷ s) =
    ap (λ g. greater g (y.number +ℤ d)) (top_shifted d z s) ∙ greater_shift (top_number (z ∷ s)) y.number d

-- a constant that the wire does not show
abbrev pub IsUnseen : ℤ → Type 0
IsUnseen d = (n : ℤ) → wire (n +ℤ d) ≡ wire n

wire_parts : (z : ℤ) → wire z ≡ (up z + 65535 * down z) % 65536
wire_parts (pos n) = omega arith
wire_parts (negsuc n) = omega arith

-- from the number on the wire to the whole one, and back
pub start_unseen : (m : ℤ) (seq : ℕ) → wire m ≡ seq → IsUnseen (m -ℤ pos seq)
start_unseen m seq is n =
    let z = n +ℤ (m -ℤ pos seq) in
    let parts : up z + down n + down m + seq ≡ down z + up n + up m = omega (arith, ints) in
    wire_parts z ∙ rest (up z) (down z) (up n) (down n) (up m) (down m) seq parts (sym (wire_parts m) ∙ is) ∙ sym (wire_parts n)
  where
    rest : (uz dz un dn um dm seq : ℕ) → uz + dn + dm + seq ≡ dz + un + um → (um + 65535 * dm) % 65536 ≡ seq →
        (uz + 65535 * dz) % 65536 ≡ (un + 65535 * dn) % 65536
    rest uz dz un dn um dm seq e f = omega (arith, e, f)

pub begun_unseen : (m : ℤ) (seq : ℕ) → wire m ≡ seq → IsUnseen (pos seq -ℤ m)
begun_unseen m seq is n =
    let z = n +ℤ (pos seq -ℤ m) in
    let parts : up z + down n + up m ≡ down z + up n + down m + seq = omega (arith, ints) in
    wire_parts z ∙ rest (up z) (down z) (up n) (down n) (up m) (down m) seq parts (sym (wire_parts m) ∙ is) ∙ sym (wire_parts n)
  where
    rest : (uz dz un dn um dm seq : ℕ) → uz + dn + um ≡ dz + un + dm + seq → (um + 65535 * dm) % 65536 ≡ seq →
        (uz + 65535 * dz) % 65536 ≡ (un + 65535 * dn) % 65536
    rest uz dz un dn um dm seq e f = omega (arith, e, f)
