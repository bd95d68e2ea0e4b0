-- The test of frames at sides is an equality.
use Rattle.std.proofs.Common.{◌≡◌, ◌&&◌, Bool, true, false, [], ◌∷◌, nat_eq, refl, sym, ap, ◌∙◌, eqb-true, eq-eqb}
use Rattle.std.proofs.lemmas.Bool.{and_parts, and_from}
use Rattle.std.specs.Int.{w16, to_be_bytes}
use Rattle.std.specs.Cmp.{IsEquivalence, IsPartialEquivalence, partial_equiv_from_equiv}
use Rattle.sr_frame.specs.AddressLemmas.{mac_same, mac_refl}
use Rattle.sr_frame.specs.Addresses.{mac_eq}
use Rattle.sr_audit.specs.declared.side.Side.{Side}
use Rattle.sr_audit.specs.declared.side.Side.TheVariants.{A, B}
use Rattle.sr_merge.specs.declared.came.FrameAt.{FrameAt}
use Rattle.sr_merge.specs.Merging.{is_same_side, at_eq}

side_same : (a b : Side) → is_same_side a b ≡ true → a ≡ b
side_same A A h = refl
side_same A B h = cc
side_same B A h = cc
side_same B B h = refl

side_refl : (a : Side) → is_same_side a a ≡ true
side_refl A = refl
side_refl B = refl

pub at_same : (x y : FrameAt) → at_eq x y ≡ true → x ≡ y
at_same x y h =
    let parts = and_parts (mac_eq x.frame.src y.frame.src) (nat_eq x.frame.seq.0 y.frame.seq.0 && is_same_side x.side y.side) h in
    let rest = and_parts (nat_eq x.frame.seq.0 y.frame.seq.0) (is_same_side x.side y.side) parts.1 in
    let src = mac_same x.frame.src y.frame.src parts.0 in
    let seq = eqb-true x.frame.seq.0 y.frame.seq.0 rest.0 in
    let side = side_same x.side y.side rest.1 in
    λ j. record { frame = record { src = src j; seq = record { 0 = seq j } }; side = side j }

pub at_refl : (x : FrameAt) → at_eq x x ≡ true
at_refl x =
    let rest = and_from (nat_eq x.frame.seq.0 x.frame.seq.0) (is_same_side x.side x.side) (eq-eqb x.frame.seq.0 x.frame.seq.0 refl)
    (side_refl x.side) in
    and_from (mac_eq x.frame.src x.frame.src) (nat_eq x.frame.seq.0 x.frame.seq.0 && is_same_side x.side x.side) (mac_refl x.frame.src) rest

both_ways : (a b : Bool) → (a ≡ true → b ≡ true) → (b ≡ true → a ≡ true) → a ≡ b
both_ways true b h g = sym (h refl)
both_ways false true h g = g refl
both_ways false false h g = refl

at_turned : (x y : FrameAt) → at_eq x y ≡ true → at_eq y x ≡ true
at_turned x y h = ap (λ z. at_eq z x) (sym (at_same x y h)) ∙ at_refl x

pub at_laws : IsEquivalence at_eq
at_laws = record {
  refl = at_refl;
  symm = λ x y. both_ways (at_eq x y) (at_eq y x) (at_turned x y) (at_turned y x);
  congr = λ x y z e. ap (λ k. at_eq k z) (at_same x y e);
}

pub at_partial_laws : IsPartialEquivalence at_eq
at_partial_laws = partial_equiv_from_equiv at_laws

-- frames at sides that are equal are hashed alike
pub hashes_as : (x y : FrameAt) → at_eq x y ≡ true → x.frame.src.0 ∷ to_be_bytes w16 x.frame.seq.0 ∷ []
    ≡ y.frame.src.0 ∷ to_be_bytes w16 y.frame.seq.0 ∷ []
hashes_as x y h = ap (λ k. k.frame.src.0 ∷ to_be_bytes w16 k.frame.seq.0 ∷ []) (at_same x y h)
