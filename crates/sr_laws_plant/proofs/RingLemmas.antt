-- Rings.
use Rattle.std.proofs.Common.{◌≡◌, ℕ, zero, suc, ◌+◌, ◌-◌, ◌<◌, ◌⊎◌, inl, inr, true, false, not, List, arith, refl, sym, ap, ◌∙◌, subst}
use Rattle.std.proofs.lemmas.Bool.{cases_Bool, and_from, or_right, eqb-true, eqb-false, eq-eqb, ne_eqb, ltb-true, lt-ltb, true≢false}
use Rattle.std.specs.Prelude.{◌==◌}
use Rattle.sr_laws_plant.specs.Lists.{One}
use Rattle.sr_frame.specs.declared.ports.Port.{Port}
use Rattle.sr_frame.specs.declared.ports.Port.TheVariants.{H, A, B, C}
use Rattle.sr_laws_plant.specs.Frames.{Dest, one, group, is_only, is_for, Frame}
use Rattle.sr_laws_plant.specs.OneNode.{Bars}
use Rattle.sr_laws_plant.specs.Ledger.{PlantTurn, handlings}
use Rattle.sr_laws_plant.specs.RingParts.{IsQuietRing, Way, onward, backward, out_of, in_to, IsRingPart, SendsRound, CameRound, Reaches}
use Rattle.sr_laws_plant.specs.Ports.{is_side}
use Rattle.sr_laws_plant.specs.Rings.{beyond, ring, ring_part, danh_routes}
use Rattle.sr_laws_plant.specs.Ideal.{IsIdeal, IsHanded}
use Rattle.sr_laws_plant.proofs.OneNodeLemmas.{claimed, goes, handed_up}

-- what a side wants of a frame that came in at the other
wants_up : (k : ℕ) (f : Frame) (p : Port) → is_side p ≡ true → f.supervision ≡ false → is_for k f.dest ≡ true → danh_routes k f p H ≡ true
wants_up k f H side host for = cc
wants_up k f A side host for = and_from _ _ (ap not host) for
wants_up k f B side host for = and_from _ _ (ap not host) for
wants_up k f C side host for = cc

wants_on : (k : ℕ) (f : Frame) (w : Way) → is_only k f.dest ≡ false → danh_routes k f (in_to w) (out_of w) ≡ true
wants_on k f onward other = or_right f.supervision (not (is_only k f.dest)) (ap not other)
wants_on k f backward other = or_right f.supervision (not (is_only k f.dest)) (ap not other)

wants_out : (k : ℕ) (f : Frame) (w : Way) → danh_routes k f H (out_of w) ≡ true
wants_out k f onward = refl
wants_out k f backward = refl

-- what is wanted at a side came from the host, or from the other side
wants_back : (k : ℕ) (f : Frame) (p : Port) (w : Way) → danh_routes k f p (in_to w) ≡ true →
    (p ≡ H) ⊎ ((p ≡ out_of w) ⊎ ((p ≡ C) × (danh_routes k f C (out_of w) ≡ true)))
wants_back k f H w e = inl refl
wants_back k f A onward e = cc
wants_back k f A backward e = inr (inl refl)
wants_back k f B onward e = inr (inl refl)
wants_back k f B backward e = cc
wants_back k f C w e = cc

-- where a way leads, and from where
leads : (n : ℕ) (w : Way) (k : ℕ) → One (λ h. h.to ≡ record { node = beyond n w k; port = in_to w }) (ring n k (out_of w))
leads n onward k = inl refl
leads n backward k = inl refl

onward_back : (n u : ℕ) → u < n → beyond n onward (beyond n backward u) ≡ u
onward_back n u less =
    elim (cases_Bool (u == 0)) [
      | inl first ↦
          let is : u ≡ 0 = eqb-true u 0 first in
          rw first (rw (eq-eqb (n - 1 + 1) n (omega arith)) (sym is))
      | inr later ↦
          let whole : u - 1 + 1 ≡ u = positive u (eqb-false u 0 later) in
          rw later (rw (ne_eqb (u - 1 + 1) n (λ e. absurd (omega arith))) whole)
    ]
  where
    positive : (u : ℕ) → (u ≡ 0 → ⊥) → u - 1 + 1 ≡ u
    positive zero some = absurd (some refl)
    positive (suc u) some = omega arith

back_onward : (n u : ℕ) → u < n → beyond n backward (beyond n onward u) ≡ u
back_onward n u less =
    elim (cases_Bool (u + 1 == n)) [
      | inl last ↦
          let is : u + 1 ≡ n = eqb-true (u + 1) n last in
          rw last (omega arith)
      | inr more ↦ rw more (rw (ne_eqb (u + 1) 0 (λ e. absurd (omega arith))) (omega arith))
    ]

-- of the two places that a member leads to, this is the one
from_there : (n : ℕ) (w : Way) (i u : ℕ) (o : Port) → u < n → One (λ h. h.to ≡ record { node = i; port = out_of w }) (ring n u o) →
    (u ≡ beyond n w i) × (o ≡ in_to w)
from_there n w i u H less there = absurd there
from_there n onward i u A less (inl is) = (sym (ap (beyond n onward) (ap (λ p. p.node) (sym is)) ∙ onward_back n u less), refl)
from_there n backward i u A less (inl is) = let no : B ≡ A = ap (λ p. p.port) is in cc
from_there n w i u A less (inr none) = absurd none
from_there n onward i u B less (inl is) = let no : A ≡ B = ap (λ p. p.port) is in cc
from_there n backward i u B less (inl is) = (sym (ap (beyond n backward) (ap (λ p. p.node) (sym is)) ∙ back_onward n u less), refl)
from_there n w i u B less (inr none) = absurd none
from_there n w i u C less there = absurd there

-- who is alone meant, and he for whom it is
pub only_one : (k j : ℕ) (d : Dest) → is_only k d ≡ true → is_for j d ≡ true → k ≡ j
only_one k j (one i) a b = eqb-true k i a ∙ sym (eqb-true j i b)
only_one k j group a b = cc

-- a ring is one
beyond_in : (n : ℕ) (w : Way) (k : ℕ) → k < n → beyond n w k < n
beyond_in n onward k less =
    elim (cases_Bool (k + 1 == n)) [
      | inl last ↦ rw last (omega arith)
      | inr more ↦ rw more (let other = eqb-false (k + 1) n more in apart k n less other)
    ]
  where
    apart : (k n : ℕ) → k < n → (k + 1 ≡ n → ⊥) → k + 1 < n
    apart k n less other = omega arith
beyond_in n backward k less =
    elim (cases_Bool (k == 0)) [
      | inl first ↦ rw first (omega arith)
      | inr later ↦ rw later (omega arith)
    ]

pub ring_round : (n : ℕ) → IsRingPart (ring n) (ring_part n)
ring_round n = record {
  closed = λ w k inside. lt-ltb (beyond n w k) n (beyond_in n w k (ltb-true k n inside));
  leads = λ w k inside. leads n w k;
  feeds = λ w i u o inside member there. from_there n w i u o (ltb-true u n member) there;
}

pub danh_round : (n : ℕ) → SendsRound danh_routes (ring_part n)
danh_round n = record {
  out = λ k f w inside. wants_out k f w;
  on = λ k f w inside other. wants_on k f w other;
  back = λ k f p w inside wants. wants_back k f p w wants;
}

-- up to the host
up : (n : ℕ) (bars : Bars) (ts : List PlantTurn) (j : ℕ) (w : Way) (f : Frame) → IsQuietRing (ring n) danh_routes bars (ring_part n) ts →
    ((k : ℕ) → bars k H ≡ false) → IsIdeal j f (handlings ts) → CameRound danh_routes w j f (handlings ts) → IsHanded j f (handlings ts)
up n bars ts j w f q host ideal (inr linked) = let no : false ≡ true = linked.0 in absurd cc
up n bars ts j w f q host ideal (inl (p, side, came)) =
    elim (goes bars (handlings ts) j H f q.consistent (q.exact j)
    (claimed bars danh_routes (handlings ts) j p H f q.routed (wants_up j f p side ideal.host ideal.for) came)) [
      | inl put ↦ handed_up (handlings ts) j f put
      | inr barred ↦ absurd (true≢false (sym barred.0 ∙ host j))
    ]

-- what is ideal for j and reaches it is handed up
pub reached : (n : ℕ) (bars : Bars) (ts : List PlantTurn) (j : ℕ) (w : Way) (f : Frame) →
    IsQuietRing (ring n) danh_routes bars (ring_part n) ts → ((k : ℕ) → bars k H ≡ false) → IsIdeal j f (handlings ts) →
    Reaches danh_routes w j f (handlings ts) → IsHanded j f (handlings ts)
reached n bars ts j w f q host ideal (inl (inl source)) = absurd (true≢false (sym (eq-eqb j f.src source) ∙ ideal.other))
reached n bars ts j w f q host ideal (inl (inr came)) = up n bars ts j w f q host ideal came
reached n bars ts j w f q host ideal (inr (k, only, came)) =
    up n bars ts j w f q host ideal (subst (λ x. CameRound danh_routes w x f (handlings ts)) (only_one k j f.dest only ideal.for) came)
