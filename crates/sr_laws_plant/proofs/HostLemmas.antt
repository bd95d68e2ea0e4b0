-- What is handed up, and that it is once.
use Rattle.std.proofs.Common.{◌≡◌, ℕ, inl, inr, true, false, not, ◌&&◌, List, [], ◌∷◌, refl, sym, ap, ◌∙◌, subst}
use Rattle.std.proofs.lemmas.Bool.{cases_Bool, and_parts, and_from, or_left, not-true, eqb-true}
use Rattle.std.specs.List.{list_any}
use Rattle.std.specs.Prelude.{◌==◌}
use Rattle.sr_laws_plant.specs.Lists.{One, Each}
use Rattle.sr_frame.specs.declared.ports.Port.TheVariants.{H, A, B, C}
use Rattle.sr_frame.specs.declared.ports.Port.{Port}
use Rattle.sr_laws_plant.specs.Ports.{is_at}
use Rattle.sr_laws_plant.specs.Frames.{is_for, Frame, same_pair}
use Rattle.sr_laws_plant.specs.Handlings.{Handling, AreConsistent}
use Rattle.sr_laws_plant.specs.OneNode.{Bars, Routes, IsRouted, IsSound, claims, is_copy, had, IsExactAt, handed}
use Rattle.sr_laws_plant.specs.Rings.{danh_routes}
use Rattle.sr_laws_plant.specs.TwinLans.{danp_routes}
use Rattle.sr_laws_plant.specs.Ideal.{IsIdeal, AreApart}
use Rattle.sr_laws_plant.specs.ListLemmas.{one_any, any_one, each_map}
use Rattle.sr_laws_plant.proofs.FrameLemmas.{as_arrival}

-- up to the host goes what comes in from outside, no supervision, and what is for the member
abbrev pub IsUpward : Routes → Type 0
IsUpward routes =
    (k : ℕ) (f : Frame) (p : Port) → routes k f p H ≡ true → (is_at H p ≡ false) × (f.supervision ≡ false) × (is_for k f.dest ≡ true)

pub danh_up : IsUpward danh_routes
danh_up k f H e = cc
danh_up k f A e = let both = and_parts (not f.supervision) (is_for k f.dest) e in (refl, not-true f.supervision both.0, both.1)
danh_up k f B e = let both = and_parts (not f.supervision) (is_for k f.dest) e in (refl, not-true f.supervision both.0, both.1)
danh_up k f C e = cc

pub danp_up : IsUpward danp_routes
danp_up k f H e = cc
danp_up k f A e = let both = and_parts (not f.supervision) (is_for k f.dest) e in (refl, not-true f.supervision both.0, both.1)
danp_up k f B e = let both = and_parts (not f.supervision) (is_for k f.dest) e in (refl, not-true f.supervision both.0, both.1)
danp_up k f C e = cc

-- what members hand up is ideal, whatever is lost, and in whatever order it comes
pub hands_up_ideal : (routes : Routes) (ds : List Handling) → IsUpward routes → AreConsistent ds → Each (IsRouted routes) ds →
    Each IsSound ds →
    (j : ℕ) → Each (λ f. IsIdeal j f ds) (handed j ds)
hands_up_ideal routes [] upward done routed sound j = tt
hands_up_ideal routes (d ∷ before) upward done routed sound j =
    let rest = each_map (λ f. IsIdeal j f before) (λ f. IsIdeal j f (d ∷ before)) (λ f i. record {
      sent = inr i.sent;
      host = i.host;
      for = i.for;
      other = i.other;
    }) (handed j before) (hands_up_ideal routes before upward done.0 routed.1 sound.1 j) in
    elim (cases_Bool (j == d.node && d.went H)) [
      | inl here ↦
          let both = and_parts (j == d.node) (d.went H) here in
          let node : j ≡ d.node = eqb-true j d.node both.0 in
          let wants : routes d.node d.frame d.inlet H ≡ true = sym (routed.0 H) ∙ sound.0 H both.1 in
          let is = upward d.node d.frame d.inlet wants in
          let a = as_arrival before d done.2 is.0 in
          let first : IsIdeal j d.frame (d ∷ before) =
          record {
            sent = inr a.sent;
            host = is.1;
            for = ap (λ k. is_for k d.frame.dest) node ∙ is.2;
            other = ap (λ k. k == d.frame.src) node ∙ a.foreign;
          } in
          rw here (first, rest)
      | inr not_here ↦ rw not_here rest
    ]

-- what was handed up was had
handed_had : (bars : Bars) (ds : List Handling) (j : ℕ) (f : Frame) → IsExactAt bars j ds →
    One (λ g. same_pair f g ≡ true) (handed j ds) → One (λ e. ((j == e.node && same_pair f e.frame) && claims bars H e) ≡ true) ds
handed_had bars [] j f exact o = absurd o
handed_had bars (d ∷ before) j f exact o =
    elim (cases_Bool (j == d.node && d.went H)) [
      | inl here ↦ first (λ x. handed_had bars before j f exact.0 x) (and_parts (j == d.node) (d.went H) here) (rw here at o)
      | inr not_here ↦ inr (handed_had bars before j f exact.0 (rw not_here at o))
    ]
  where
    first : (One (λ g. same_pair f g ≡ true) (handed j before) →
        One (λ e. ((j == e.node && same_pair f e.frame) && claims bars H e) ≡ true) before) →
        ((j == d.node) ≡ true) × (d.went H ≡ true) → One (λ g. same_pair f g ≡ true) (d.frame ∷ handed j before) →
        One (λ e. ((j == e.node && same_pair f e.frame) && claims bars H e) ≡ true) (d ∷ before)
    first further both (inl is) =
        let out = exact.1 (sym (eqb-true j d.node both.0)) H in
        let wants = and_parts (d.wanted H) (not (had bars before d H)) (sym out ∙ both.1) in
        inl (and_from _ _ (and_from _ _ both.0 is) (or_left (d.wanted H) (bars d.node H && is_at H d.inlet) wants.0))
    first further both (inr rest) = inr (further rest)

-- each frame is handed up once
pub hands_up_once : (bars : Bars) (ds : List Handling) → (j : ℕ) → IsExactAt bars j ds → AreApart (handed j ds)
hands_up_once bars [] j exact = tt
hands_up_once bars (d ∷ before) j exact =
    let rest = hands_up_once bars before j exact.0 in
    elim (cases_Bool (j == d.node && d.went H)) [
      | inl here ↦ rw here (apart (and_parts (j == d.node) (d.went H) here), rest)
      | inr not_here ↦ rw not_here rest
    ]
  where
    apart : ((j == d.node) ≡ true) × (d.went H ≡ true) → list_any (same_pair d.frame) (handed j before) ≡ false
    apart both =
        elim (cases_Bool (list_any (same_pair d.frame) (handed j before))) [
          | inr none ↦ none
          | inl some ↦
              let node : j ≡ d.node = eqb-true j d.node both.0 in
              let out = exact.1 (sym node) H in
              let new = and_parts (d.wanted H) (not (had bars before d H)) (sym out ∙ both.1) in
              let before_had = handed_had bars before j d.frame exact.0 (any_one (same_pair d.frame) (handed j before) some) in
              let has : had bars before d H ≡ true = one_any
              (λ e. is_copy d e && claims bars H e) before (subst (λ k. One (λ e. ((k == e.node && same_pair d.frame e.frame)
              && claims bars H e) ≡ true) before) node before_had) in
              let no : had bars before d H ≡ false = not-true (had bars before d H) new.1 in
              absurd (let clash : true ≡ false = sym has ∙ no in cc)
        ]
