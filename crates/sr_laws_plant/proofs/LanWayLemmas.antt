-- Over a chain of arcs and LANs.
use Rattle.std.proofs.Common.{◌≡◌, ℕ, zero, suc, ◌⊎◌, inl, inr, true, false, not, List, [], ◌∷◌, refl, sym, ap, ◌∙◌, subst}
use Rattle.std.proofs.lemmas.Bool.{cases_Bool, eqb-true, eq-eqb, true≢false}
use Rattle.sr_frame.specs.declared.ports.Port.{Port}
use Rattle.sr_frame.specs.declared.ports.Port.TheVariants.{C}
use Rattle.sr_laws_plant.specs.Frames.{is_only, Frame}
use Rattle.sr_laws_plant.specs.Ideal.{IsIdeal, IsHanded}
use Rattle.sr_laws_plant.specs.OneNode.{Bars, bars_of, CameIn, AreExact}
use Rattle.sr_laws_plant.specs.PlantEvents.{Plant, IsQuiet, History, turns, done_in}
use Rattle.sr_laws_plant.specs.Ports.{is_side}
use Rattle.sr_laws_plant.specs.RingParts.{Way, onward, backward, out_of, IsBeside, CameRound, IsWhole}
use Rattle.sr_laws_plant.specs.RingLans.{Shape, is_in_ring, is_box, ring_lan, lan_box_routes, ring_lan_routes, ring_of, RingLanRun}
use Rattle.sr_laws_plant.specs.Ways.{interlink_of}
use Rattle.sr_laws_plant.specs.LanWays.{LanPart, round, across, IsWholeAcross, IsWholeChain, WholeChainsBring}
use Rattle.sr_laws_plant.proofs.ArcLemmas.{arc, on, at_source}
use Rattle.sr_laws_plant.proofs.RingLemmas.{ring_round, only_one}
use Rattle.sr_laws_plant.proofs.RingLanLemmas.{quiet, up, up_round, reached, side_up, link_up, box_in_ring, place_brings, lans_bring, exact_of}
use Rattle.sr_laws_plant.proofs.WayLemmas.{side_is}

module _ (s : Shape) (bars : Bars) (es : History) (p : Plant) (r : RingLanRun s es p) (exact : AreExact bars (done_in es)) (empty : IsQuiet p)
    (f : Frame) (j : ℕ) (ideal : IsIdeal j f (done_in es)) where
  -- a member of the ring has it, beside both sides, or a doubly attached node has it; or it was handed up
  abbrev IsInRing : ℕ → Type 0
  IsInRing i = ((i ≡ f.src) ⊎ ((w : Way) × CameRound (ring_lan_routes s) w i f (done_in es))) × ((w : Way) → IsBeside w i f (done_in es))

  abbrev IsInLans : ℕ → Type 0
  IsInLans i = (i ≡ f.src) ⊎ ((q : Port) × (is_side q ≡ true) × CameIn i q f (done_in es))

  abbrev IsAt : ℕ → Type 0
  IsAt i = (((is_in_ring s i ≡ true) × IsInRing i) ⊎ ((is_in_ring s i ≡ false) × IsInLans i)) ⊎ IsHanded j f (done_in es)

  no_source : j ≡ f.src → ⊥
  no_source same = true≢false (sym (eq-eqb j f.src same) ∙ ideal.other)

  meant : (k : ℕ) → is_only k f.dest ≡ true → k ≡ j
  meant k only = only_one k j f.dest only ideal.for

  -- at the end
  at_end : IsAt j → IsHanded j f (done_in es)
  at_end (inr done) = done
  at_end (inl (inl (inside, (inl source, beside)))) = absurd (no_source source)
  at_end (inl (inl (inside, (inr came, beside)))) = up_round s bars es p r exact empty j f came.0 ideal came.1
  at_end (inl (inr (away, inl source))) = absurd (no_source source)
  at_end (inl (inr (away, inr came))) = up s bars es p r exact empty j came.0 f (side_up s j f came.0 came.1 ideal.host ideal.for) came.2

  -- from a box that it came in at over the interlink it goes out at both sides
  over_sides : (k : ℕ) (w v : Way) → ring_lan_routes s k f C (out_of w) ≡ true → ring_lan_routes s k f C (out_of v) ≡ true
  over_sides k w v wants = elim (cases_Bool (is_in_ring s k)) [
    | inr away ↦ (let none : false ≡ true = rw away at wants in absurd (true≢false (sym none)))
    | inl inside ↦ elim (cases_Bool (is_box s k)) [
      | inr other ↦ (let none : false ≡ true = rw (inside, other) at wants in absurd (true≢false (sym none)))
      | inl box ↦ rw (inside, box) (both w v (rw (inside, box) at wants))
    ]
  ]
    where
      both : (w v : Way) → lan_box_routes s k f C (out_of w) ≡ true → lan_box_routes s k f C (out_of v) ≡ true
      both onward onward e = e
      both onward backward e = e
      both backward onward e = e
      both backward backward e = e

  -- beside both sides, or alone meant
  beside_both : (k : ℕ) → is_in_ring s k ≡ true → (w : Way) → (k ≡ f.src) ⊎ CameRound (ring_lan_routes s) w k f (done_in es) → IsAt k
  beside_both k inside w (inl source) =
      inl (inl (inside, (inl source, λ v. at_source (ring_lan s) (ring_lan_routes s) bars (ring_of s) (turns es) f v k (quiet s bars es p r exact empty) inside ideal.sent source)))
  beside_both k inside w (inr came) = elim (cases_Bool (is_only k f.dest)) [
    | inl only ↦ inr (up_round s bars es p r exact empty j f w ideal (subst (λ x. CameRound (ring_lan_routes s) w x f (done_in es)) (meant k only) came))
    | inr other ↦ inl (inl (inside, (inr (w, came), λ v. beside other v came)))
  ]
    where
      beside : is_only k f.dest ≡ false → (v : Way) → CameRound (ring_lan_routes s) w k f (done_in es) → IsBeside v k f (done_in es)
      beside other v (inr linked) =
          on (ring_lan s) (ring_lan_routes s) bars (ring_of s) (turns es) k C v f (quiet s bars es p r exact empty) (over_sides k w v linked.0) linked.1
      beside other v (inl (q, side, in_there)) = elim (side_is q v side) [
        | inl here ↦ on (ring_lan s) (ring_lan_routes s) bars (ring_of s) (turns es) k q v f (quiet s bars es p r exact empty)
            (subst (λ x. ring_lan_routes s k f x (out_of v) ≡ true) (sym here) ((quiet s bars es p r exact empty).sends.on k f v inside other)) in_there
        | inr there ↦ inr (subst (λ x. CameIn k x f (done_in es)) there in_there)
      ]

  -- an arc ends in the ring
  ends_inside : (w : Way) (m i k : ℕ) → is_in_ring s i ≡ true → IsWhole (ring_lan s) (ring_of s) f (turns es) w i m k → is_in_ring s k ≡ true
  ends_inside w zero i k inside whole = subst (λ x. is_in_ring s x ≡ true) whole.1 ((ring_round s.ring).closed w i inside)
  ends_inside w (suc m) i k inside whole = ends_inside w m ((ring_of s).beyond w i) k ((ring_round s.ring).closed w i inside) whole.1

  on_round : (w : Way) (m i k : ℕ) → is_in_ring s i ≡ true → IsAt i → IsWhole (ring_lan s) (ring_of s) f (turns es) w i m k → IsAt k
  on_round w m i k inside (inr done) whole = inr done
  on_round w m i k inside (inl (inr (away, has))) whole = absurd (true≢false (sym inside ∙ away))
  on_round w m i k inside (inl (inl (here, (has, beside)))) whole =
      elim (arc (ring_lan s) (ring_lan_routes s) bars (ring_of s) (turns es) (quiet s bars es p r exact empty) f k ideal.sent w m i inside (beside w) whole) [
        | inl had ↦ beside_both k (ends_inside w m i k inside whole) w had
        | inr last ↦ inr (reached s bars es p r exact empty j f w ideal (inr last))
      ]

  -- a LAN brings it to a doubly attached node or to a box
  on_across : (k : ℕ) → IsWholeAcross s es f k → IsAt k
  on_across k (inl (away, whole)) = inl (inr (away, lans_bring (ring_lan s) (turns es) f k (quiet s bars es p r exact empty).run (quiet s bars es p r exact empty).consistent ideal.sent whole))
  on_across k (inr brought) =
      elim (place_brings (ring_lan s) (turns es) (interlink_of k) f (quiet s bars es p r exact empty).run (quiet s bars es p r exact empty).consistent ideal.sent brought.whole) [
        | inl own ↦ beside_both k inside onward (inl (eqb-true k f.src own))
        | inr came ↦ elim (cases_Bool (is_only k f.dest)) [
          | inl only ↦ (let same = meant k only in
              inr (up s bars es p r exact empty j C f
              (link_up s j f (subst (λ x. is_in_ring s x ≡ true) same inside) (subst (λ x. is_box s x ≡ true) same brought.is) ideal.host ideal.for)
              (subst (λ x. CameIn x C f (done_in es)) same came)))
          | inr other ↦ beside_both k inside onward (inr (inr (rw (inside, brought.is) (ap not other), came)))
        ]
      ]
    where
      inside : is_in_ring s k ≡ true
      inside = box_in_ring s k r.shape brought.is

  over_chain : (parts : List LanPart) (i : ℕ) → IsAt i → IsWholeChain s es f i parts j → IsHanded j f (done_in es)
  over_chain [] i here same = at_end (subst IsAt same here)
  over_chain (round w m k ∷ parts) i here whole = over_chain parts k (on_round w m i k whole.0 here whole.1) whole.2
  over_chain (across k ∷ parts) i here whole = over_chain parts k (on_across k whole.0) whole.1

  at_start : IsAt f.src
  at_start = elim (cases_Bool (is_in_ring s f.src)) [
    | inl inside ↦ beside_both f.src inside onward (inl refl)
    | inr away ↦ inl (inr (away, inl refl))
  ]

  pub chain_brings : (parts : List LanPart) → IsWholeChain s es f f.src parts j → IsHanded j f (done_in es)
  chain_brings parts whole = over_chain parts f.src at_start whole

pub whole_chains_bring : WholeChainsBring
whole_chains_bring s mac x ws lanes es p h empty f j ideal parts whole =
    chain_brings s (bars_of x) es p h.happened (exact_of s mac x ws lanes es p h) empty f j ideal parts whole
