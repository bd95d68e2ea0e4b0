-- Over an interlink, from whichever box.
use Rattle.std.proofs.Common.{◌≡◌, ℕ, ◌⊎◌, inl, inr, true, false, not, List, [], ◌∷◌, refl, sym, ap, ◌∙◌, subst}
use Rattle.std.proofs.lemmas.Bool.{cases_Bool, eqb-true, true≢false}
use Rattle.sr_laws_plant.specs.Lists.{One, Each}
use Rattle.sr_frame.specs.declared.ports.Port.{Port}
use Rattle.sr_frame.specs.declared.ports.Port.TheVariants.{H, A, B, C}
use Rattle.sr_laws_plant.specs.Ports.{is_at, is_side}
use Rattle.sr_laws_plant.specs.Frames.{is_only, Frame}
use Rattle.sr_laws_plant.specs.Handlings.{Handling, is_sending, IsSent, AreConsistent}
use Rattle.sr_laws_plant.specs.OneNode.{Bars, WasPut, ComesIn, CameIn, IsSound, Routes, IsRouted}
use Rattle.sr_laws_plant.specs.Ledger.{Net, PlantTurn, handlings, IsOpen}
use Rattle.sr_laws_plant.specs.RingParts.{IsQuietRing, Way, onward, backward, out_of, in_to, RingPart, SendsRound, IsBeside, CameRound}
use Rattle.sr_laws_plant.specs.Ways.{interlink_of, AreJoined, Leg, IsWay, IsThere, SendsOver, box_routes}
use Rattle.sr_laws_plant.proofs.FrameLemmas.{as_sending, sent_in}
use Rattle.sr_laws_plant.proofs.OneNodeLemmas.{claimed, goes}
use Rattle.sr_laws_plant.proofs.LedgerLemmas.{part_way}
use Rattle.sr_laws_plant.proofs.OriginLemmas.{fed}
use Rattle.sr_laws_plant.proofs.ArcLemmas.{arc, on, at_source, put_by_member}

-- how a box came to put it out at its interlink
came_over : (routes : Routes) (k : ℕ) (f : Frame) (ds : List Handling) → SendsOver routes k → AreConsistent ds →
    Each (IsRouted routes) ds → Each IsSound ds → WasPut k C f ds → (k ≡ f.src) ⊎ ((p : Port) × (is_side p ≡ true) × CameIn k p f ds)
came_over routes k f [] sends done routed sound put = absurd put
came_over routes k f (d ∷ before) sends done routed sound (inr put) =
    elim (came_over routes k f before sends done.0 routed.1 sound.1 put) [
      | inl source ↦ inl source
      | inr from ↦ inr (from.0, from.1, inr from.2)
    ]
came_over routes k f (d ∷ before) sends done routed sound (inl put) =
    let wants : routes d.node d.frame d.inlet C ≡ true = sym (routed.0 C) ∙ sound.0 C put.2 in
    let at_k : routes k d.frame d.inlet C ≡ true = subst (λ i. routes i d.frame d.inlet C ≡ true) put.0 wants in
    elim (sends.back d.frame d.inlet at_k) [
      | inl host ↦
          let s = as_sending before d done.2 (ap (is_at H) host) in
          inl (sym put.0 ∙ sym s.own ∙ ap (λ g. g.src) put.1)
      | inr side ↦ inr (d.inlet, side, inl (put.0, refl, put.1))
    ]

pub side_is : (p : Port) (w : Way) → is_side p ≡ true → (p ≡ in_to w) ⊎ (p ≡ out_of w)
side_is H w e = cc
side_is A onward e = inl refl
side_is A backward e = inr refl
side_is B onward e = inr refl
side_is B backward e = inl refl
side_is C w e = cc

-- It is at j, and if it is not for j alone, beside both of its sides.
abbrev pub CameOver : ℕ → Frame → List Handling → Type 0
CameOver j f ds =
    (((is_only j f.dest ≡ true) × ((p : Port) × (is_at H p ≡ false) × CameIn j p f ds))
    ⊎ ((w : Way) → IsBeside w j f ds))

pub not_host : (p : Port) → is_side p ≡ true → is_at H p ≡ false
not_host H e = cc
not_host A e = refl
not_host B e = refl
not_host C e = refl

-- what the other box had at its own sides, it put beside both
pub beside_both : (net : Net) (routes : Routes) (bars : Bars) (r : RingPart) (ts : List PlantTurn) (j : ℕ) (f : Frame) →
    IsQuietRing net routes bars r ts → r.inside j ≡ true → IsSent f (handlings ts) →
    (j ≡ f.src) ⊎ ((p : Port) × (is_side p ≡ true) × CameIn j p f (handlings ts)) → CameOver j f (handlings ts)
beside_both net routes bars r ts j f q inside sent (inl source) =
    inr (λ w. at_source net routes bars r ts f w j q inside sent source)
beside_both net routes bars r ts j f q inside sent (inr (p, side, came)) =
    elim (cases_Bool (is_only j f.dest)) [
      | inl last ↦ inl (last, (p, not_host p side, came))
      | inr other ↦ inr (λ w. either w other (side_is p w side))
    ]
  where
    either : (w : Way) → is_only j f.dest ≡ false → (p ≡ in_to w) ⊎ (p ≡ out_of w) → IsBeside w j f (handlings ts)
    either w other (inl here) = on net routes bars r ts j (in_to w) w f q (q.sends.on j f w inside other)
        (subst (λ x. CameIn j x f (handlings ts)) here came)
    either w other (inr there) = inr (subst (λ x. CameIn j x f (handlings ts)) there came)

-- what came in at an interlink had been at the other box
back_over : (net : Net) (routes : Routes) (bars : Bars) (r : RingPart) (ts : List PlantTurn) (k j : ℕ) (f : Frame) →
    IsQuietRing net routes bars r ts → r.inside j ≡ true → AreJoined net r k j → SendsOver routes j → IsSent f (handlings ts) →
    CameIn k C f (handlings ts) → CameOver j f (handlings ts)
back_over net routes bars r ts k j f q inside joined sends sent came =
    elim (fed net ts [] k C f q.run came) [
      | inr hosted ↦ no_hosted hosted
      | inl from ↦
          let there = joined.feeds from.node from.outlet (put_by_member r (handlings ts) from.node from.outlet f q.members from.put)
          from.leads in
          let put : WasPut j C f (handlings ts) =
          subst (λ o. WasPut j o f (handlings ts)) there.1 (subst (λ u. WasPut u from.outlet f (handlings ts)) there.0 from.put) in
          beside_both net routes bars r ts j f q inside sent (came_over routes j f (handlings ts) sends q.consistent q.routed q.sound put)
    ]
  where
    no_one : (ds : List Handling) → One (λ d. (is_sending d ≡ true) × ComesIn k C f d) ds → ⊥
    no_one [] o = o
    no_one (d ∷ ds) (inl h) = true≢false (sym h.0 ∙ ap (is_at H) h.1.1)
    no_one (d ∷ ds) (inr o) = no_one ds o

    no_hosted : One (λ d. (is_sending d ≡ true) × ComesIn k C f d) (handlings ts) → CameOver j f (handlings ts)
    no_hosted o = absurd (no_one (handlings ts) o)

-- A box at which a frame is that is not for it alone: an interlink that is open brings it over, or it had come from there.
pub cross : (net : Net) (routes : Routes) (bars : Bars) (r : RingPart) (ts : List PlantTurn) (w : Way) (k j : ℕ) (f : Frame) →
    IsQuietRing net routes bars r ts → r.inside j ≡ true → AreJoined net r k j → SendsOver routes k → SendsOver routes j →
    IsSent f (handlings ts) → is_only k f.dest ≡ false → (k ≡ f.src) ⊎ CameRound routes w k f (handlings ts) →
    IsOpen net f ts (interlink_of j) → CameOver j f (handlings ts)
cross net routes bars r ts w k j f q inside joined over_k over_j sent other had whole =
    elim had [
      | inl source ↦ out H (over_k.host f)
          (subst (λ x. CameIn x H f (handlings ts)) (sym source) (sent_in (handlings ts) f q.consistent sent))
      | inr (inl side) ↦ out side.0 (over_k.over f side.0 side.1 other) side.2
      | inr (inr linked) ↦ back_over net routes bars r ts k j f q inside joined over_j sent linked.1
    ]
  where
    comes : CameIn j C f (handlings ts) → CameOver j f (handlings ts)
    comes came =
        elim (cases_Bool (is_only j f.dest)) [
          | inl last ↦ inl (last, (C, refl, came))
          | inr further ↦ inr (λ v. on net routes bars r ts j C v f q (over_j.out f v further) came)
        ]

    out : (p : Port) → routes k f p C ≡ true → CameIn k p f (handlings ts) → CameOver j f (handlings ts)
    out p wants came =
        elim (goes bars (handlings ts) k C f q.consistent (q.exact k) (claimed bars routes (handlings ts) k p C f q.routed wants came)) [
          | inr barred ↦ back_over net routes bars r ts k j f q inside joined over_j sent barred.1
          | inl put ↦
              elim (part_way net ts k C (interlink_of j) f q.run q.consistent sent refl put joined.leads whole) [
                | inl own ↦ beside_both net routes bars r ts j f q inside sent (inl (eqb-true j f.src own))
                | inr came ↦ comes came
              ]
        ]

-- Over every way that is whole, from whichever member has it beside both its sides.
pub arrives : (net : Net) (routes : Routes) (bars : Bars) (rounds : List RingPart) (ts : List PlantTurn) →
    ((r : RingPart) → One (λ x. x ≡ r) rounds → IsQuietRing net routes bars r ts) → (f : Frame) → IsSent f (handlings ts) →
    is_only f.src f.dest ≡ false → (ls : List Leg) (r : RingPart) (i : ℕ) → One (λ x. x ≡ r) rounds → r.inside i ≡ true →
    ((w : Way) → IsBeside w i f (handlings ts)) → (w : Way) (m j : ℕ) → IsWay net routes rounds f ts r i ls w m j →
    IsThere routes j f (handlings ts)
arrives net routes bars rounds ts quiet f sent away [] r i here inside beside w m j way =
    inl (w, arc net routes bars r ts (quiet r here) f j sent w m i inside (beside w) way)
arrives net routes bars rounds ts quiet f sent away (l ∷ ls) r i here inside beside w m j way =
    let leg = way.0 in
    elim (arc net routes bars r ts (quiet r here) f l.box sent l.way l.links i inside (beside l.way) leg.whole) [
      | inr last ↦ inr (last.0, last.1, at_last last.0 last.2)
      | inl had ↦
          elim (cases_Bool (is_only l.box f.dest)) [
            | inl only ↦ at_box only had
            | inr further ↦
                elim (cross net routes bars l.next ts l.way l.box l.over f (quiet l.next leg.part) leg.inside leg.joined leg.box leg.over
                sent further had leg.link) [
                  | inl last ↦ inr (l.over, last.0, last.1)
                  | inr sides ↦ arrives net routes bars rounds ts quiet f sent away ls l.next l.over leg.part leg.inside sides w m j way.1
                ]
          ]
    ]
  where
    at_last : (k : ℕ) → CameRound routes l.way k f (handlings ts) → (p : Port) × (is_at H p ≡ false) × CameIn k p f (handlings ts)
    at_last k (inl (p, side, came)) = (p, not_host p side, came)
    at_last k (inr linked) = (C, refl, linked.1)

    at_box : is_only l.box f.dest ≡ true → (l.box ≡ f.src) ⊎ CameRound routes l.way l.box f (handlings ts) →
        IsThere routes j f (handlings ts)
    at_box only (inl source) = absurd (true≢false (sym only ∙ ap (λ k. is_only k f.dest) source ∙ away))
    at_box only (inr came) = inr (l.box, only, at_last l.box came)

-- the table of such a box keeps what is asked
box_back : (k : ℕ) (f : Frame) (p : Port) → box_routes k f p C ≡ true → (p ≡ H) ⊎ (is_side p ≡ true)
box_back k f H e = inl refl
box_back k f A e = inr refl
box_back k f B e = inr refl
box_back k f C e = cc

box_over : (k : ℕ) (f : Frame) (p : Port) → is_side p ≡ true → is_only k f.dest ≡ false → box_routes k f p C ≡ true
box_over k f H side other = cc
box_over k f A side other = ap not other
box_over k f B side other = ap not other
box_over k f C side other = cc

box_out : (k : ℕ) (f : Frame) (w : Way) → is_only k f.dest ≡ false → box_routes k f C (out_of w) ≡ true
box_out k f onward other = ap not other
box_out k f backward other = ap not other

pub box_sends_over : (k : ℕ) → SendsOver box_routes k
box_sends_over k = record { host = λ f. refl; over = box_over k; out = box_out k; back = box_back k }

box_on : (k : ℕ) (f : Frame) (w : Way) → is_only k f.dest ≡ false → box_routes k f (in_to w) (out_of w) ≡ true
box_on k f onward other = ap not other
box_on k f backward other = ap not other

box_from : (k : ℕ) (f : Frame) (p : Port) (w : Way) → box_routes k f p (in_to w) ≡ true →
    (p ≡ H) ⊎ ((p ≡ out_of w) ⊎ ((p ≡ C) × (box_routes k f C (out_of w) ≡ true)))
box_from k f H w e = inl refl
box_from k f A onward e = cc
box_from k f A backward e = inr (inl refl)
box_from k f B onward e = inr (inl refl)
box_from k f B backward e = cc
box_from k f C onward e = inr (inr (refl, e))
box_from k f C backward e = inr (inr (refl, e))

box_host : (k : ℕ) (f : Frame) (w : Way) → box_routes k f H (out_of w) ≡ true
box_host k f onward = refl
box_host k f backward = refl

pub box_sends_round : (r : RingPart) → SendsRound box_routes r
box_sends_round r = record {
  out = λ k f w inside. box_host k f w;
  on = λ k f w inside other. box_on k f w other;
  back = λ k f p w inside wants. box_from k f p w wants;
}
