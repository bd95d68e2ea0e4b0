-- Round a ring, from whichever member.
use Rattle.std.proofs.Common.{◌≡◌, ℕ, zero, suc, ◌⊎◌, inl, inr, true, false, List, [], ◌∷◌, refl, sym, ap, ◌∙◌, subst}
use Rattle.std.proofs.lemmas.Bool.{cases_Bool, eqb-true, true≢false}
use Rattle.sr_laws_plant.specs.Lists.{Each}
use Rattle.sr_frame.specs.declared.ports.Port.{Port}
use Rattle.sr_frame.specs.declared.ports.Port.TheVariants.{H, C}
use Rattle.sr_laws_plant.specs.Ports.{is_at, is_side}
use Rattle.sr_laws_plant.specs.Frames.{is_only, Frame}
use Rattle.sr_laws_plant.specs.Handlings.{Handling, is_sending, IsSent, AreConsistent}
use Rattle.sr_laws_plant.specs.OneNode.{Bars, Puts, WasPut, ComesIn, CameIn, IsSound, Routes, IsRouted}
use Rattle.sr_laws_plant.specs.Ledger.{Net, PlantTurn, handlings, IsOpen}
use Rattle.sr_laws_plant.specs.RingParts.{IsQuietRing, Way, onward, backward, out_of, in_to, RingPart, place_beyond, SendsRound, IsWhole}
use Rattle.sr_laws_plant.specs.RingParts.{IsBeside, CameRound, Reaches}
use Rattle.sr_laws_plant.specs.ListLemmas.{one_is, one_each}
use Rattle.sr_laws_plant.proofs.FrameLemmas.{as_sending, sent_in}
use Rattle.sr_laws_plant.proofs.OneNodeLemmas.{claimed, goes}
use Rattle.sr_laws_plant.proofs.LedgerLemmas.{part_way}
use Rattle.sr_laws_plant.proofs.OriginLemmas.{fed}

side_in : (w : Way) → is_side (in_to w) ≡ true
side_in onward = refl
side_in backward = refl

side_out : (w : Way) → is_side (out_of w) ≡ true
side_out onward = refl
side_out backward = refl

no_host : (w : Way) → is_at H (out_of w) ≡ false
no_host onward = refl
no_host backward = refl

-- what came in and is wanted at a side goes out there, or came in there
pub on : (net : Net) (routes : Routes) (bars : Bars) (r : RingPart) (ts : List PlantTurn) (k : ℕ) (p : Port) (w : Way) (f : Frame) →
    IsQuietRing net routes bars r ts → routes k f p (out_of w) ≡ true → CameIn k p f (handlings ts) → IsBeside w k f (handlings ts)
on net routes bars r ts k p w f q wants came =
    elim (goes bars (handlings ts) k (out_of w) f q.consistent (q.exact k)
    (claimed bars routes (handlings ts) k p (out_of w) f q.routed wants came)) [
      | inl put ↦ inl put
      | inr barred ↦ inr barred.1
    ]

-- the source puts it out both ways
pub source_puts : (net : Net) (routes : Routes) (bars : Bars) (r : RingPart) (ts : List PlantTurn) (f : Frame) (w : Way) →
    IsQuietRing net routes bars r ts → r.inside f.src ≡ true → IsSent f (handlings ts) → IsBeside w f.src f (handlings ts)
source_puts net routes bars r ts f w q inside sent =
    on net routes bars r ts f.src H w f q (q.sends.out f.src f w inside) (sent_in (handlings ts) f q.consistent sent)

pub at_source : (net : Net) (routes : Routes) (bars : Bars) (r : RingPart) (ts : List PlantTurn) (f : Frame) (w : Way) (k : ℕ) →
    IsQuietRing net routes bars r ts → r.inside k ≡ true → IsSent f (handlings ts) → k ≡ f.src → IsBeside w k f (handlings ts)
at_source net routes bars r ts f w k q inside sent is =
    let own : r.inside f.src ≡ true = subst (λ x. r.inside x ≡ true) is inside in
    subst (λ x. IsBeside w x f (handlings ts)) (sym is) (source_puts net routes bars r ts f w q own sent)

pub put_by_member : (r : RingPart) (ds : List Handling) (u : ℕ) (o : Port) (f : Frame) → Each (λ d. r.all d.node ≡ true) ds →
    WasPut u o f ds → r.all u ≡ true
put_by_member r ds u o f members put =
    let both = one_is (λ d. (r.all d.node ≡ true) × Puts u o f d) ds (one_each (λ d. r.all d.node ≡ true) (Puts u o f) ds members put) in
    subst (λ i. r.all i ≡ true) both.1.1.0 both.1.0

-- how a member came to put it out at a side
abbrev pub CameHow : Routes → Way → ℕ → Frame → List Handling → Type 0
CameHow routes w k f ds = (k ≡ f.src) ⊎ (CameIn k (out_of w) f ds ⊎ ((routes k f C (out_of w) ≡ true) × CameIn k C f ds))

came_how : (routes : Routes) (r : RingPart) (w : Way) (k : ℕ) (f : Frame) (ds : List Handling) → SendsRound routes r →
    r.inside k ≡ true → AreConsistent ds → Each (IsRouted routes) ds → Each IsSound ds → WasPut k (in_to w) f ds → CameHow routes w k f ds
came_how routes r w k f [] sends inside done routed sound put = absurd put
came_how routes r w k f (d ∷ before) sends inside done routed sound (inr put) =
    elim (came_how routes r w k f before sends inside done.0 routed.1 sound.1 put) [
      | inl source ↦ inl source
      | inr (inl from) ↦ inr (inl (inr from))
      | inr (inr linked) ↦ inr (inr (linked.0, inr linked.1))
    ]
came_how routes r w k f (d ∷ before) sends inside done routed sound (inl put) =
    let wants : routes d.node d.frame d.inlet (in_to w) ≡ true = sym (routed.0 (in_to w)) ∙ sound.0 (in_to w) put.2 in
    elim (sends.back d.node d.frame d.inlet w (subst (λ i. r.inside i ≡ true) (sym put.0) inside) wants) [
      | inl host ↦
          let s = as_sending before d done.2 (ap (is_at H) host) in
          inl (sym put.0 ∙ sym s.own ∙ ap (λ g. g.src) put.1)
      | inr (inl side) ↦ inr (inl (inl (put.0, side, put.1)))
      | inr (inr linked) ↦
          let there : routes k f C (out_of w) ≡ true =
          subst (λ g. routes k g C (out_of w) ≡ true) put.1 (subst (λ i. routes i d.frame C (out_of w) ≡ true) put.0 linked.1) in
          inr (inr (there, inl (put.0, linked.0, put.1)))
    ]

-- what came in at a side was put out by the neighbour
fed_back : (net : Net) (routes : Routes) (bars : Bars) (r : RingPart) (ts : List PlantTurn) (w : Way) (i : ℕ) (f : Frame) →
    IsQuietRing net routes bars r ts → r.inside i ≡ true → CameIn i (out_of w) f (handlings ts) →
    CameHow routes w (r.beyond w i) f (handlings ts)
fed_back net routes bars r ts w i f q inside came =
    elim (fed net ts [] i (out_of w) f q.run came) [
      | inr sends ↦
          let both = one_is (λ d. (is_sending d ≡ true) × ComesIn i (out_of w) f d) (handlings ts) sends in
          absurd (true≢false (sym (ap (is_at H) (sym both.1.1.1) ∙ both.1.0) ∙ no_host w))
      | inl from ↦
          let there = q.part.feeds w i from.node from.outlet inside
          (put_by_member r (handlings ts) from.node from.outlet f q.members from.put) from.leads in
          let put : WasPut (r.beyond w i) (in_to w) f (handlings ts) =
          subst (λ o. WasPut (r.beyond w i) o f (handlings ts)) there.1
          (subst (λ u. WasPut u from.outlet f (handlings ts)) there.0 from.put) in
          came_how routes r w (r.beyond w i) f (handlings ts) q.sends (q.part.closed w i inside) q.consistent q.routed q.sound put
    ]

-- One link further: the frame is at its source, or came in; and if it is not meant for that member alone, it is beside the next link.
abbrev pub IsFurther : Routes → Way → ℕ → Frame → List Handling → Type 0
IsFurther routes w k f ds = ((k ≡ f.src) ⊎ CameRound routes w k f ds)
    × ((is_only k f.dest ≡ true) × CameRound routes w k f ds ⊎ IsBeside w k f ds)

pub link : (net : Net) (routes : Routes) (bars : Bars) (r : RingPart) (ts : List PlantTurn) (f : Frame) (w : Way) (i : ℕ) →
    IsQuietRing net routes bars r ts → IsSent f (handlings ts) → r.inside i ≡ true → IsBeside w i f (handlings ts) →
    IsOpen net f ts (place_beyond r w i) → IsFurther routes w (r.beyond w i) f (handlings ts)
link net routes bars r ts f w i q sent inside (inl put) whole =
    let k = r.beyond w i in
    elim (part_way net ts i (out_of w) (place_beyond r w i) f q.run q.consistent sent (no_host w) put (q.part.leads w i inside) whole) [
      | inl source ↦
          let is : k ≡ f.src = eqb-true k f.src source in (
            inl is,
            inr (at_source net routes bars r ts f w k q (q.part.closed w i inside) sent is),
          )
      | inr came ↦
          let round : CameRound routes w k f (handlings ts) = inl (in_to w, side_in w, came) in (
            inr round,
            elim (cases_Bool (is_only k f.dest)) [
              | inl last ↦ inl (last, round)
              | inr other ↦ inr (on net routes bars r ts k (in_to w) w f q (q.sends.on k f w (q.part.closed w i inside) other) came)
            ],
          )
    ]
link net routes bars r ts f w i q sent inside (inr came) whole =
    let k = r.beyond w i in
    elim (fed_back net routes bars r ts w i f q inside came) [
      | inl is ↦ (
        inl is,
        inr (at_source net routes bars r ts f w k q (q.part.closed w i inside) sent is),
      )
      | inr (inl from) ↦ (inr (inl (out_of w, side_out w, from)), inr (inr from))
      | inr (inr linked) ↦ (inr (inr linked), inr (on net routes bars r ts k C w f q linked.0 linked.1))
    ]

-- From whichever member has it beside the first link: an arc that is whole brings it to its end.
pub arc : (net : Net) (routes : Routes) (bars : Bars) (r : RingPart) (ts : List PlantTurn) → IsQuietRing net routes bars r ts →
    (f : Frame) (j : ℕ) → IsSent f (handlings ts) → (w : Way) (m i : ℕ) → r.inside i ≡ true → IsBeside w i f (handlings ts) →
    IsWhole net r f ts w i m j → Reaches routes w j f (handlings ts)
arc net routes bars r ts q f j sent w zero i inside beside whole =
    let next = link net routes bars r ts f w i q sent inside beside whole.0 in
    inl (subst (λ k. (k ≡ f.src) ⊎ CameRound routes w k f (handlings ts)) whole.1 next.0)
arc net routes bars r ts q f j sent w (suc m) i inside beside whole =
    let next = link net routes bars r ts f w i q sent inside beside whole.0 in
    elim next.1 [
      | inl last ↦ inr (r.beyond w i, last.0, last.1)
      | inr further ↦ arc net routes bars r ts q f j sent w m (r.beyond w i) (q.part.closed w i inside) further whole.1
    ]
