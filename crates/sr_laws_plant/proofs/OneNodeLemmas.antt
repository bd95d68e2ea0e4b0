-- What is wanted at an outlet was put out there.
use Rattle.std.proofs.Common.{◌≡◌, ℕ, ◌⊎◌, inl, inr, true, not, ◌&&◌, List, [], ◌∷◌, sym, ap, ◌∙◌, subst}
use Rattle.std.proofs.lemmas.Bool.{cases_Bool, and_parts, or_cases, or_left, and_from, eqb-true, eq-eqb}
use Rattle.std.specs.Prelude.{◌==◌}
use Rattle.sr_laws_plant.specs.Lists.{One, Each}
use Rattle.sr_frame.specs.declared.ports.Port.{Port}
use Rattle.sr_frame.specs.declared.ports.Port.TheVariants.{H}
use Rattle.sr_laws_plant.specs.Ports.{is_at}
use Rattle.sr_laws_plant.specs.Frames.{Frame, same_pair}
use Rattle.sr_laws_plant.specs.Handlings.{Handling, IsSent, AreConsistent}
use Rattle.sr_laws_plant.specs.OneNode.{Bars, claims, is_copy, had, IsExactAt, Routes, IsRouted, WasPut, ComesIn, CameIn}
use Rattle.sr_laws_plant.specs.Ideal.{IsHanded}
use Rattle.sr_laws_plant.specs.ListLemmas.{one_map, one_each, any_one}
use Rattle.sr_laws_plant.proofs.FrameLemmas.{port_same, one_frame, all_sent}

-- a copy that the member has, and wanted there or had from there
abbrev pub Claims : Bars → ℕ → Port → Frame → Handling → Type 0
Claims bars k o f d = (d.node ≡ k) × (d.frame ≡ f) × (claims bars o d ≡ true)

-- it was put out there; or it came in there, and does not go back
pub goes : (bars : Bars) (ds : List Handling) (k : ℕ) (o : Port) (f : Frame) → AreConsistent ds → IsExactAt bars k ds →
    One (Claims bars k o f) ds → WasPut k o f ds ⊎ ((bars k o ≡ true) × CameIn k o f ds)
goes bars [] k o f done exact w = absurd w
goes bars (d ∷ before) k o f done exact (inr w) =
    elim (goes bars before k o f done.0 exact.0 w) [
      | inl put ↦ inl (inr put)
      | inr came ↦ inr (came.0, inr came.1)
    ]
goes bars (d ∷ before) k o f done exact (inl w) =
    elim (or_cases (d.wanted o) (bars d.node o && is_at o d.inlet) w.2) [
      | inl wants ↦
          elim (cases_Bool (had bars before d o)) [
            | inl has ↦
                let earlier : One (Claims bars k o f) before =
                one_map (λ e. IsSent e.frame before × (is_copy d e && claims bars o e ≡ true)) (Claims bars k o f) again before
                (one_each (λ e. IsSent e.frame before) (λ e. is_copy d e && claims bars o e ≡ true) before (all_sent before done.0)
                (any_one (λ e. is_copy d e && claims bars o e) before has)) in
                elim (goes bars before k o f done.0 exact.0 earlier) [
                  | inl put ↦ inl (inr put)
                  | inr came ↦ inr (came.0, inr came.1)
                ]
            | inr none ↦ inl (inl (w.0, w.1, exact.1 w.0 o ∙ and_from (d.wanted o) (not (had bars before d o)) wants (ap not none)))
          ]
      | inr barred ↦
          let both = and_parts (bars d.node o) (is_at o d.inlet) barred in
          inr (subst (λ i. bars i o ≡ true) w.0 both.0, inl (w.0, sym (port_same o d.inlet both.1), w.1))
    ]
  where
    again : (e : Handling) → IsSent e.frame before × (is_copy d e && claims bars o e ≡ true) → Claims bars k o f e
    again e has =
        let both = and_parts (is_copy d e) (claims bars o e) has.1 in
        let copy = and_parts (d.node == e.node) (same_pair d.frame e.frame) both.0 in
        let node : e.node ≡ k = sym (eqb-true d.node e.node copy.0) ∙ w.0 in
        let own : IsSent d.frame (d ∷ before) = (all_sent (d ∷ before) done).0 in
        let frame : e.frame ≡ f = sym (one_frame (d ∷ before) d.frame e.frame done own (inr has.0) copy.1) ∙ w.1 in
        (node, frame, both.1)

-- what came in and is wanted at an outlet
pub claimed : (bars : Bars) (routes : Routes) (ds : List Handling) (k : ℕ) (p o : Port) (f : Frame) → Each (IsRouted routes) ds →
    routes k f p o ≡ true → CameIn k p f ds → One (Claims bars k o f) ds
claimed bars routes ds k p o f routed wants came =
    one_map (λ d. IsRouted routes d × ComesIn k p f d) (Claims bars k o f) claim ds
    (one_each (IsRouted routes) (ComesIn k p f) ds routed came)
  where
    claim : (d : Handling) → IsRouted routes d × ComesIn k p f d → Claims bars k o f d
    claim d h =
        let is : routes d.node d.frame d.inlet o ≡ true = rw (h.1.0, h.1.1, h.1.2) wants in
        (h.1.0, h.1.2, or_left (d.wanted o) (bars d.node o && is_at o d.inlet) (h.0 o ∙ is))

-- what was put up to the host was handed up
pub handed_up : (ds : List Handling) (j : ℕ) (f : Frame) → WasPut j H f ds → IsHanded j f ds
handed_up [] j f put = absurd put
handed_up (d ∷ ds) j f (inl p) =
    let here : (j == d.node && d.went H) ≡ true = and_from _ _ (eq-eqb j d.node (sym p.0)) p.2 in
    rw here (inl p.1)
handed_up (d ∷ ds) j f (inr o) =
    let rest = handed_up ds j f o in
    elim (cases_Bool (j == d.node && d.went H)) [
      | inl here ↦ rw here (inr rest)
      | inr not ↦ rw not rest
    ]
