-- The example of a standby meets the premises.
use Rattle.std.proofs.Common.{◌≡◌, ℕ, ◌-◌, true, false, cond, List, [], ◌∷◌, ◌++◌, ℤ, pos, sym, ap, ◌∙◌, subst, arith, inl, inr}
use Rattle.std.specs.Prelude.{◌≤ℤ◌, Contains}
use Rattle.std.specs.Ordering.{int_eq}
use Rattle.std.proofs.lemmas.Int.{ints}
use Rattle.std.proofs.lemmas.Bool.{lt-ltb, and_parts}
use Rattle.std.proofs.lemmas.Bool.Decides.{Decides-int_eq}
use Rattle.sr_frame.specs.declared.fields.Mac.{Mac}
use Rattle.sr_frame.specs.Addresses.{mac_eq}
use Rattle.sr_frame.specs.AddressLemmas.{mac_refl}
use Rattle.sr_sequence.specs.Numbers.{IsNear}
use Rattle.sr_dup_window.specs.Bins.{IsWidth}
use Rattle.sr_dup_window.specs.declared.lane_sets.Lanes.{Lanes}
use Rattle.sr_dup_window.specs.LaneSets.{has}
use Rattle.sr_dup_window.specs.Families.{IsGreatest}
use Rattle.sr_dup_table.specs.Sources.{is_recent}
use Rattle.sr_laws_dup.specs.TableRuns.{Noting, is_copy}
use Rattle.sr_laws_dup_joins.specs.Growths.{Growth, empty, arrived, arrivals_of, newest, remembered, epoch, numbers}
use Rattle.sr_laws_dup_joins.specs.Examples.{noted, two_noted, taken_over, TakenOverIsSteady}
use Rattle.sr_laws_dup_joins.proofs.ListLemmas.{Among, among-from, number-of}
use Rattle.sr_laws_dup_joins.proofs.AgreeLemmas.{epoch-from}

-- a number of the tree from 1 to 3
abbrev InRange : ℤ → Type 0
InRange n = (pos 1 ≤ℤ n) × (n ≤ℤ pos 3)

-- the greatest number of an epoch is that of an arrival
greatest-within : (t : Growth) (src : Mac) (now : ℕ) (m : ℤ) → ((x : Noting) → Among (arrivals_of t) x → InRange x.arrival.number)
    → IsGreatest (numbers src (epoch src now t)) m → InRange m
greatest-within t src now m all top =
    let r = number-of src (epoch src now t) top.member.0 m top.member.1 in
    let here = all r.0 (epoch-from t src now r.0 r.1).0 in
    let copy : is_copy src m r.0.arrival ≡ true = (and_parts (is_copy src m r.0.arrival) (has r.0.lanes top.member.0) r.2).0 in
    let same : m ≡ r.0.arrival.number = (Decides-int_eq m r.0.arrival.number).0 (and_parts (mac_eq src r.0.arrival.src) (int_eq m r.0.arrival.number) copy).1 in
    subst InRange (sym same) here

module _ (src : Mac) (now : ℕ) (lanes : Lanes) where
  one-within : (first : ℤ) → InRange first → (x : Noting) → Among (arrivals_of (arrived empty (noted src now lanes first))) x → InRange x.arrival.number
  one-within first here x (inl e) = subst (λ (z : Noting). InRange z.arrival.number) e here
  one-within first here x (inr h) = absurd h

  two-within : (first second : ℤ) → InRange first → InRange second → (x : Noting) → Among (arrivals_of (two_noted src now lanes first second)) x → InRange x.arrival.number
  two-within first second a b x (inl e) = subst (λ (z : Noting). InRange z.arrival.number) e b
  two-within first second a b x (inr h) = one-within first a x h

  recent : (xs : List Noting) → newest xs ≡ now → remembered now xs ≡ xs
  recent xs e = ap (λ b. cond b xs []) (ap (is_recent now) e ∙ lt-ltb (now - now) 400 (omega arith))

  one-epoch : (first : ℤ) → epoch src now (arrived empty (noted src now lanes first)) ≡ noted src now lanes first ∷ []
  one-epoch first = ap (λ b. cond b (remembered now (noted src now lanes first ∷ [])) []) (mac_refl src) ∙ recent (noted src now lanes first ∷ []) (omega arith)

  two-epoch : (first second : ℤ) → epoch src now (two_noted src now lanes first second) ≡ noted src now lanes second ∷ noted src now lanes first ∷ []
  two-epoch first second =
      let before = epoch src now (arrived empty (noted src now lanes first)) in
      ap (λ b. cond b (remembered now (noted src now lanes second ∷ before)) before) (mac_refl src)
      ∙ ap (λ xs. remembered now (noted src now lanes second ∷ xs)) (one-epoch first)
      ∙ recent (noted src now lanes second ∷ noted src now lanes first ∷ []) (omega arith)

  both-epoch : epoch src now (taken_over src now lanes) ≡ arrivals_of (taken_over src now lanes)
  both-epoch =
      (λ i. remembered now (two-epoch (pos 1) (pos 2) i ++ two-epoch (pos 3) (pos 2) i)) ∙ recent (arrivals_of (taken_over src now lanes)) (omega arith)

  of-source : (x : Noting) → Among (arrivals_of (taken_over src now lanes)) x → src ≡ x.arrival.src
  of-source x (inl e) = ap (λ (z : Noting). z.arrival.src) e
  of-source x (inr (inl e)) = ap (λ (z : Noting). z.arrival.src) e
  of-source x (inr (inr (inl e))) = ap (λ (z : Noting). z.arrival.src) e
  of-source x (inr (inr (inr (inl e)))) = ap (λ (z : Noting). z.arrival.src) e
  of-source x (inr (inr (inr (inr h)))) = absurd h

  keeps : (x : Noting) → Contains (arrivals_of (taken_over src now lanes)) x → Contains (epoch x.arrival.src now (taken_over src now lanes)) x
  keeps x h =
      let same = of-source x (among-from (arrivals_of (taken_over src now lanes)) x h) in
      subst (λ (m : Mac). Contains (epoch m now (taken_over src now lanes)) x) same
      (subst (λ (xs : List Noting). Contains xs x) (sym both-epoch) h)

-- numbers of the tree are near each other
near : (w : ℕ) → IsWidth w → (m n : ℤ) → InRange m → InRange n → IsNear w m n
near w (inl is) m n a b = record { above = omega (arith, ints, is, a.0, a.1, b.0, b.1); below = omega (arith, ints, is, a.0, a.1, b.0, b.1) }
near w (inr is) m n a b = record { above = omega (arith, ints, is, a.0, a.1, b.0, b.1); below = omega (arith, ints, is, a.0, a.1, b.0, b.1) }

pub taken_over_is_steady : TakenOverIsSteady
taken_over_is_steady w width src now lanes =
    let low : InRange (pos 1) = (omega (arith, ints), omega (arith, ints)) in
    let middle : InRange (pos 2) = (omega (arith, ints), omega (arith, ints)) in
    let high : InRange (pos 3) = (omega (arith, ints), omega (arith, ints)) in (
      (
        (
          (((tt, omega arith), omega arith)),
          (((tt, omega arith), omega arith)),
          omega arith,
          omega arith,
        ),
        (
          ((tt, λ m top. absurd (none-greatest m top)), λ m top. let r = greatest-within (arrived empty (noted src now lanes (pos 1))) src now m (one-within src now lanes (pos 1) low) top in near w width m (pos 2) r middle),
          ((tt, λ m top. absurd (none-greatest m top)), λ m top. let r = greatest-within (arrived empty (noted src now lanes (pos 3))) src now m (one-within src now lanes (pos 3) high) top in near w width m (pos 2) r middle),
          λ q m n top other.
              let r = greatest-within (two_noted src now lanes (pos 1) (pos 2)) q now m (two-within src now lanes (pos 1) (pos 2) low middle) top in
              let s = greatest-within (two_noted src now lanes (pos 3) (pos 2)) q now n (two-within src now lanes (pos 3) (pos 2) high middle) other in
              (omega (arith, ints, r.0, r.1, s.0, s.1), omega (arith, ints, r.0, r.1, s.0, s.1)),
        ),
      ),
      keeps src now lanes,
    )
  where
    none-greatest : (m : ℤ) → IsGreatest (numbers src []) m → ⊥
    none-greatest m top = let bad : false ≡ true = top.member.1 in cc
