-- The test of addresses is an equality.
use Rattle.std.proofs.Common.{◌≡◌, ◌∙◌, ◌++◌, ◌&&◌, ℕ, List, take, drop, Bool, true, false, nat_eq, refl, sym, ap, subst, eqb-true, eq-eqb}
use Rattle.std.proofs.lemmas.Bool.{and_parts, and_from}
use Rattle.std.proofs.lemmas.List.{take-append-drop}
use Rattle.std.specs.Int.{w16, w32, from_le_bytes, to_le_bytes}
use Rattle.std.specs.Cmp.{IsEquivalence}
use lib.Pointwise.{pointwise, pointwise_decides}
use Rattle.sr_frame.specs.declared.fields.Mac.{Mac}
use Rattle.sr_frame.specs.Addresses.{mac_eq}

-- what `pointwise_decides` asks of numbers
nat_decides : (x y : ℕ) → (nat_eq x y ≡ true → x ≡ y) × (x ≡ y → nat_eq x y ≡ true)
nat_decides x y = (λ h. eqb-true x y h, λ h. eq-eqb x y h)

-- two addresses are one exactly where `mac_eq` says so
pub mac_same : (x y : Mac) → mac_eq x y ≡ true → x ≡ y
mac_same x y h = let e : x.0 ≡ y.0 = (pointwise_decides nat_decides x.0 y.0).0 h in λ j. record { 0 = e j }

pub mac_refl : (x : Mac) → mac_eq x x ≡ true
mac_refl x = (pointwise_decides nat_decides x.0 x.0).1 refl

both_ways : (a b : Bool) → (a ≡ true → b ≡ true) → (b ≡ true → a ≡ true) → a ≡ b
both_ways true b h g = sym (h refl)
both_ways false true h g = g refl
both_ways false false h g = refl

-- two numbers that spell the fronts of two lists, and two that spell what is left, are equal exactly where the lists are
pub as_two_numbers : (x y : List ℕ) (a b c d : ℕ)
    → (a ≡ from_le_bytes w32 (take 4 x)) × (to_le_bytes w32 a ≡ take 4 x)
    → (b ≡ from_le_bytes w32 (take 4 y)) × (to_le_bytes w32 b ≡ take 4 y)
    → (c ≡ from_le_bytes w16 (drop 4 x)) × (to_le_bytes w16 c ≡ drop 4 x)
    → (d ≡ from_le_bytes w16 (drop 4 y)) × (to_le_bytes w16 d ≡ drop 4 y)
    → (nat_eq a b && nat_eq c d) ≡ pointwise nat_eq x y
as_two_numbers x y a b c d ha hb hc hd =
    both_ways (nat_eq a b && nat_eq c d) (pointwise nat_eq x y)
    (λ e. let parts = and_parts (nat_eq a b) (nat_eq c d) e in
    let front : take 4 x ≡ take 4 y = sym ha.1 ∙ ap (to_le_bytes w32) (eqb-true a b parts.0) ∙ hb.1 in
    let back : drop 4 x ≡ drop 4 y = sym hc.1 ∙ ap (to_le_bytes w16) (eqb-true c d parts.1) ∙ hd.1 in
    (pointwise_decides nat_decides x y).1
    (sym (take-append-drop 4 x) ∙ ap (λ l. l ++ drop 4 x) front ∙ ap (λ l. take 4 y ++ l) back
    ∙ take-append-drop 4 y))
    (λ e. let same : x ≡ y = (pointwise_decides nat_decides x y).0 e in
    and_from (nat_eq a b) (nat_eq c d)
    (eq-eqb a b (ha.0 ∙ ap (λ l. from_le_bytes w32 (take 4 l)) same ∙ sym hb.0))
    (eq-eqb c d (hc.0 ∙ ap (λ l. from_le_bytes w16 (drop 4 l)) same ∙ sym hd.0)))

pub mac_symm : (x y : Mac) → mac_eq x y ≡ mac_eq y x
mac_symm x y =
    both_ways (mac_eq x y) (mac_eq y x)
    (λ e. subst (λ z. mac_eq z x ≡ true) (mac_same x y e) (mac_refl x))
    (λ e. subst (λ z. mac_eq z y ≡ true) (mac_same y x e) (mac_refl y))

pub mac_laws : IsEquivalence mac_eq
mac_laws = record {
  refl = mac_refl;
  symm = mac_symm;
  congr = λ x y z e. ap (λ k. mac_eq k z) (mac_same x y e);
}
