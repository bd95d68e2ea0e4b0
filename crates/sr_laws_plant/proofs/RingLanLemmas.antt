-- A ring and two LANs.
use Rattle.std.proofs.Common.{◌≡◌, ◌≢◌, ℕ, zero, suc, ◌+◌, ◌*◌, ◌<◌, ◌≤◌, ◌⊎◌, inl, inr, Bool, true, false, not, ◌&&◌, List, [], ◌∷◌, arith, refl, sym, ap, ◌∙◌, subst}
use Rattle.std.proofs.lemmas.Bool.{cases_Bool, cases_lt, and_parts, and_from, or_cases, not-true, eqb-true, eq-eqb, ltb-true, lt-ltb, true≢false}
use Rattle.std.specs.Prelude.{◌==◌, nat_lt}
use Rattle.sr_frame.specs.declared.fields.Mac.{Mac}
use Rattle.sr_frame.specs.declared.ports.Port.{Port}
use Rattle.sr_frame.specs.declared.ports.Port.TheVariants.{H, A, B, C}
use Rattle.sr_dup_window.specs.declared.lane_sets.Lanes.{Lanes}
use Rattle.sr_laws_plant.specs.Lists.{One, Each}
use Rattle.sr_laws_plant.specs.Ports.{is_at, is_side}
use Rattle.sr_laws_plant.specs.Frames.{is_only, is_for, Frame}
use Rattle.sr_laws_plant.specs.Handlings.{Handling, IsSent, AreConsistent}
use Rattle.sr_laws_plant.specs.OneNode.{Bars, bars_of, IsRouted, IsSound, CameIn, AreExact}
use Rattle.sr_laws_plant.specs.Ledger.{Place, Net, PlantTurn, handlings, made_in, lost_in, came_in, LedgerRun}
use Rattle.sr_laws_plant.specs.PlantEvents.{Plant, IsQuiet, History, turns, done_in}
use Rattle.sr_laws_plant.specs.Ideal.{IsIdeal, IsHanded}
use Rattle.sr_laws_plant.specs.RingParts.{Way, onward, backward, out_of, in_to, IsRingPart, SendsRound, IsQuietRing, IsBeside, CameRound, Reaches}
use Rattle.sr_laws_plant.specs.Rings.{beyond, danh_routes}
use Rattle.sr_laws_plant.specs.TwinLans.{in_lan_a, in_lan_b, danp_routes, IsWholeInLans}
use Rattle.sr_laws_plant.specs.Ways.{interlink_of, box_routes}
use Rattle.sr_laws_plant.specs.RingLans.{Shape, IsShape, size, is_in_ring, is_box, others, lan_copies, ring_lan, lan_box_routes, ring_lan_routes, ring_of}
use Rattle.sr_laws_plant.specs.RingLans.{RingLanRun, RingLanPremises, IsBrought, LosesNothingOver, NoneGoesBack, RingLanHandsUpTheIdeal, RingLanIsSteady, RingLanLosesNothing}
use Rattle.sr_laws_plant.specs.ListLemmas.{each_map, each_append}
use Rattle.sr_laws_plant.proofs.FrameLemmas.{as_sending}
use Rattle.sr_laws_plant.proofs.HostLemmas.{IsUpward, danh_up, danp_up, hands_up_ideal, hands_up_once}
use Rattle.sr_laws_plant.proofs.OneNodeLemmas.{claimed, goes, handed_up}
use Rattle.sr_laws_plant.proofs.LedgerLemmas.{conserved, came_done}
use Rattle.sr_laws_plant.proofs.BalanceLemmas.{run_of}
use Rattle.sr_laws_plant.proofs.ArcLemmas.{arc, on, at_source, source_puts}
use Rattle.sr_laws_plant.proofs.RingLemmas.{ring_round, danh_round, only_one}
use Rattle.sr_laws_plant.proofs.WayLemmas.{box_sends_round}
use Rattle.sr_laws_plant.proofs.SteadyLemmas.{members_are_steady}
use Rattle.sr_laws_plant.proofs.MemberLemmas.{of_members, members_are_exact}
use Rattle.sr_laws_plant.proofs.TableLemmas.{members_of}
use Rattle.sr_laws_plant.proofs.RingLawLemmas.{consistent_in, exactly_ideal}
use Rattle.sr_laws_plant.specs.Widths.{Widths}

-- into the LANs lead copies to nodes behind the ring
others_behind : (r d k : ℕ) → Each (λ j. r ≤ j) (others r d k)
others_behind r zero k = tt
others_behind r (suc d) k =
    elim (cases_Bool (r + d == k)) [
      | inl same ↦ rw same (others_behind r d k)
      | inr other ↦ rw other (each_append (λ j. r ≤ j) (others r d k) ((r + d) ∷ []) (others_behind r d k) (omega arith, tt))
    ]

no_copy_to : (p q : Port) (own first i r : ℕ) (js : List ℕ) → i < r → Each (λ j. r ≤ j) js →
    One (λ h. h.to ≡ record { node = i; port = q }) (lan_copies p own first js) → ⊥
no_copy_to p q own first i r [] less behind o = o
no_copy_to p q own first i r (j ∷ js) less behind (inl is) =
    let same : j ≡ i = ap (λ t. t.node) is in
    let far = behind.0 in
    omega (arith, same, far, less)
no_copy_to p q own first i r (j ∷ js) less behind (inr o) = no_copy_to p q own first i r js less behind.1 o

no_interlink : (w : Way) (k : ℕ) (box : ℕ) → interlink_of box ≡ record { node = k; port = out_of w } → ⊥
no_interlink onward k box e = let no_port : C ≡ B = ap (λ t. t.port) e in cc
no_interlink backward k box e = let no_port : C ≡ A = ap (λ t. t.port) e in cc

-- the ring is a part of it
ring_feeds : (s : Shape) (w : Way) (i u : ℕ) (o : Port) → is_in_ring s i ≡ true →
    One (λ h. h.to ≡ record { node = i; port = out_of w }) (ring_lan s u o) → (u ≡ beyond s.ring w i) × (o ≡ in_to w)
ring_feeds s w i u H inside there = absurd there
ring_feeds s w i u A inside there =
    elim (cases_Bool (is_in_ring s u)) [
      | inl here ↦ (ring_round s.ring).feeds w i u A inside here (rw here at there)
      | inr behind ↦ from_lan (rw behind at there)
    ]
  where
    from_lan : One (λ h. h.to ≡ record { node = i; port = out_of w })
        (record { to = interlink_of s.box_a; links = u ∷ (s.ring + s.lan) ∷ [] } ∷ lan_copies A u 0 (others s.ring s.lan u)) →
        (u ≡ beyond s.ring w i) × (A ≡ in_to w)
    from_lan (inl is) = absurd (no_interlink w i s.box_a is)
    from_lan (inr o) = absurd (no_copy_to A (out_of w) u 0 i s.ring (others s.ring s.lan u) (ltb-true i s.ring inside)
        (others_behind s.ring s.lan u) o)
ring_feeds s w i u B inside there =
    elim (cases_Bool (is_in_ring s u)) [
      | inl here ↦ (ring_round s.ring).feeds w i u B inside here (rw here at there)
      | inr behind ↦ from_lan (rw behind at there)
    ]
  where
    from_lan : One (λ h. h.to ≡ record { node = i; port = out_of w })
        (record { to = interlink_of s.box_b; links = (s.lan + 1 + u) ∷ (s.ring + 2 * s.lan + 1) ∷ [] }
        ∷ lan_copies B (s.lan + 1 + u) (s.lan + 1) (others s.ring s.lan u)) → (u ≡ beyond s.ring w i) × (B ≡ in_to w)
    from_lan (inl is) = absurd (no_interlink w i s.box_b is)
    from_lan (inr o) = absurd (no_copy_to B (out_of w) (s.lan + 1 + u) (s.lan + 1) i s.ring (others s.ring s.lan u)
        (ltb-true i s.ring inside) (others_behind s.ring s.lan u) o)
ring_feeds s w i u C inside there =
    elim (cases_Bool (u == s.box_a)) [
      | inl a ↦ absurd (no_copy_to A (out_of w) (s.ring + s.lan) 0 i s.ring (others s.ring s.lan u) (ltb-true i s.ring inside)
          (others_behind s.ring s.lan u) (rw a at there))
      | inr not_a ↦
          elim (cases_Bool (u == s.box_b)) [
            | inl b ↦ absurd (no_copy_to B (out_of w) (s.ring + 2 * s.lan + 1) (s.lan + 1) i s.ring (others s.ring s.lan u)
                (ltb-true i s.ring inside) (others_behind s.ring s.lan u) (rw (not_a, b) at there))
            | inr not_b ↦ absurd (rw (not_a, not_b) at there)
          ]
    ]

ring_leads : (s : Shape) (w : Way) (k : ℕ) → is_in_ring s k ≡ true →
    One (λ h. h.to ≡ record { node = beyond s.ring w k; port = in_to w }) (ring_lan s k (out_of w))
ring_leads s onward k inside = rw inside ((ring_round s.ring).leads onward k inside)
ring_leads s backward k inside = rw inside ((ring_round s.ring).leads backward k inside)

ring_is_part : (s : Shape) → IsRingPart (ring_lan s) (ring_of s)
ring_is_part s = record {
  closed = (ring_round s.ring).closed;
  leads = λ w k inside. ring_leads s w k inside;
  feeds = λ w i u o inside member there. ring_feeds s w i u o inside there;
}

-- its members send round
lan_box_at : (s : Shape) (k : ℕ) (f : Frame) (p : Port) (w : Way) → lan_box_routes s k f p (out_of w) ≡ box_routes k f p (out_of w)
lan_box_at s k f p onward = refl
lan_box_at s k f p backward = refl

lan_box_in : (s : Shape) (k : ℕ) (f : Frame) (p : Port) (w : Way) → lan_box_routes s k f p (in_to w) ≡ box_routes k f p (in_to w)
lan_box_in s k f p onward = refl
lan_box_in s k f p backward = refl

ring_sends : (s : Shape) → SendsRound (ring_lan_routes s) (ring_of s)
ring_sends s = record { out = out; on = passes; back = back }
  where
    out : (k : ℕ) (f : Frame) (w : Way) → is_in_ring s k ≡ true → ring_lan_routes s k f H (out_of w) ≡ true
    out k f w inside =
        elim (cases_Bool (is_box s k)) [
          | inl box ↦ rw (inside, box) (lan_box_at s k f H w ∙ (box_sends_round (ring_of s)).out k f w inside)
          | inr not_box ↦ rw (inside, not_box) ((danh_round s.ring).out k f w inside)
        ]

    passes : (k : ℕ) (f : Frame) (w : Way) → is_in_ring s k ≡ true → is_only k f.dest ≡ false →
        ring_lan_routes s k f (in_to w) (out_of w) ≡ true
    passes k f w inside other =
        elim (cases_Bool (is_box s k)) [
          | inl box ↦ rw (inside, box) (lan_box_at s k f (in_to w) w ∙ (box_sends_round (ring_of s)).on k f w inside other)
          | inr not_box ↦ rw (inside, not_box) ((danh_round s.ring).on k f w inside other)
        ]

    back : (k : ℕ) (f : Frame) (p : Port) (w : Way) → is_in_ring s k ≡ true → ring_lan_routes s k f p (in_to w) ≡ true →
        (p ≡ H) ⊎ ((p ≡ out_of w) ⊎ ((p ≡ C) × (ring_lan_routes s k f C (out_of w) ≡ true)))
    back k f p w inside wants =
        elim (cases_Bool (is_box s k)) [
          | inl box ↦
              elim ((box_sends_round (ring_of s)).back k f p w inside (sym (lan_box_in s k f p w) ∙ (rw (inside, box) at wants))) [
                | inl host ↦ inl host
                | inr (inl side) ↦ inr (inl side)
                | inr (inr linked) ↦ inr (inr (linked.0, rw (inside, box) (lan_box_at s k f C w ∙ linked.1)))
              ]
          | inr not_box ↦
              elim ((danh_round s.ring).back k f p w inside (rw (inside, not_box) at wants)) [
                | inl host ↦ inl host
                | inr (inl side) ↦ inr (inl side)
                | inr (inr linked) ↦ let no_link : false ≡ true = linked.1 in absurd (true≢false (sym no_link))
              ]
        ]

-- up to hosts
lan_box_up : (s : Shape) → IsUpward (lan_box_routes s)
lan_box_up s k f H e = cc
lan_box_up s k f A e = let both = and_parts (not f.supervision) (is_for k f.dest) e in (refl, not-true f.supervision both.0, both.1)
lan_box_up s k f B e = let both = and_parts (not f.supervision) (is_for k f.dest) e in (refl, not-true f.supervision both.0, both.1)
lan_box_up s k f C e = let both = and_parts (not f.supervision) (is_for k f.dest) e in (refl, not-true f.supervision both.0, both.1)

upward : (s : Shape) → IsUpward (ring_lan_routes s)
upward s k f p e =
    elim (cases_Bool (is_in_ring s k)) [
      | inr behind ↦ danp_up k f p (rw behind at e)
      | inl inside ↦
          elim (cases_Bool (is_box s k)) [
            | inl box ↦ lan_box_up s k f p (rw (inside, box) at e)
            | inr not_box ↦ danh_up k f p (rw (inside, not_box) at e)
          ]
    ]

-- what comes in at a side is wanted up, and so is what comes in at the interlink of a box
pub side_up : (s : Shape) (k : ℕ) (f : Frame) (p : Port) → is_side p ≡ true → f.supervision ≡ false → is_for k f.dest ≡ true →
    ring_lan_routes s k f p H ≡ true
side_up s k f p side host for =
    elim (cases_Bool (is_in_ring s k)) [
      | inr behind ↦ rw behind (at_danp p side)
      | inl inside ↦
          elim (cases_Bool (is_box s k)) [
            | inl box ↦ rw (inside, box) (at_box p side)
            | inr not_box ↦ rw (inside, not_box) (at_danh p side)
          ]
    ]
  where
    both : (not f.supervision && is_for k f.dest) ≡ true
    both = and_from _ _ (ap not host) for

    at_danp : (p : Port) → is_side p ≡ true → danp_routes k f p H ≡ true
    at_danp A e = both
    at_danp B e = both
    at_danp H e = cc
    at_danp C e = cc

    at_box : (p : Port) → is_side p ≡ true → lan_box_routes s k f p H ≡ true
    at_box A e = both
    at_box B e = both
    at_box H e = cc
    at_box C e = cc

    at_danh : (p : Port) → is_side p ≡ true → danh_routes k f p H ≡ true
    at_danh A e = both
    at_danh B e = both
    at_danh H e = cc
    at_danh C e = cc

pub link_up : (s : Shape) (k : ℕ) (f : Frame) → is_in_ring s k ≡ true → is_box s k ≡ true → f.supervision ≡ false → is_for k f.dest ≡ true →
    ring_lan_routes s k f C H ≡ true
link_up s k f inside box host for = rw (inside, box) (and_from _ _ (ap not host) for)

pub box_in_ring : (s : Shape) (k : ℕ) → IsShape s → is_box s k ≡ true → is_in_ring s k ≡ true
box_in_ring s k shape box =
    elim (or_cases (k == s.box_a) (k == s.box_b) box) [
      | inl a ↦ let same : k ≡ s.box_a = eqb-true k s.box_a a in let less = shape.a_inside in lt-ltb k s.ring (omega (arith, same, less))
      | inr b ↦ let same : k ≡ s.box_b = eqb-true k s.box_b b in let less = shape.b_inside in lt-ltb k s.ring (omega (arith, same, less))
    ]

-- no frame goes back
none_back : (s : Shape) (ds : List Handling) → AreConsistent ds → Each (λ d. d.node < size s) ds → Each (IsRouted (ring_lan_routes s)) ds →
    Each IsSound ds → Each (λ d. d.went C ≡ true → is_in_ring s d.frame.src ≡ true) ds
none_back s [] done members routed sound = tt
none_back s (d ∷ before) done members routed sound =
    (λ out. here (sym (routed.0 C) ∙ sound.0 C out), none_back s before done.0 members.1 routed.1 sound.1)
  where
    by : (p : Port) → d.inlet ≡ p → is_in_ring s d.node ≡ true → lan_box_routes s d.node d.frame p C ≡ true → is_in_ring s d.frame.src ≡ true
    by H at inside wants =
        let own = (as_sending before d done.2 (ap (is_at H) at)).own in
        ap (is_in_ring s) own ∙ inside
    by A at inside wants = (and_parts (not (is_only d.node d.frame.dest)) (is_in_ring s d.frame.src) wants).1
    by B at inside wants = (and_parts (not (is_only d.node d.frame.dest)) (is_in_ring s d.frame.src) wants).1
    by C at inside wants = absurd (true≢false (sym wants))

    here : ring_lan_routes s d.node d.frame d.inlet C ≡ true → is_in_ring s d.frame.src ≡ true
    here wants =
        elim (cases_Bool (is_in_ring s d.node)) [
          | inr behind ↦ absurd (no_danp d.inlet (rw behind at wants))
          | inl inside ↦
              elim (cases_Bool (is_box s d.node)) [
                | inl box ↦ by d.inlet refl inside (rw (inside, box) at wants)
                | inr not_box ↦ absurd (no_danh d.inlet (rw (inside, not_box) at wants))
              ]
        ]
      where
        no_danp : (p : Port) → danp_routes d.node d.frame p C ≡ true → ⊥
        no_danp H e = true≢false (sym e)
        no_danp A e = true≢false (sym e)
        no_danp B e = true≢false (sym e)
        no_danp C e = true≢false (sym e)

        no_danh : (p : Port) → danh_routes d.node d.frame p C ≡ true → ⊥
        no_danh H e = true≢false (sym e)
        no_danh A e = true≢false (sym e)
        no_danh B e = true≢false (sym e)
        no_danh C e = true≢false (sym e)

pub none_goes_back : NoneGoesBack
none_goes_back s es p r = none_back s (done_in es) (consistent_in (ring_lan s) es p r.run) r.members r.routed r.sound

pub ring_lan_hands_up_the_ideal : RingLanHandsUpTheIdeal
ring_lan_hands_up_the_ideal s es p r =
    hands_up_ideal (ring_lan_routes s) (done_in es) (upward s) (consistent_in (ring_lan s) es p r.run) r.routed r.sound

pub ring_lan_is_steady : RingLanIsSteady
ring_lan_is_steady s mac ws es p r addressed widths limits =
    let consistent = consistent_in (ring_lan s) es p r.run in
    members_are_steady (size s) mac ws (done_in es) widths addressed (of_members (size s) (done_in es) consistent r.members) consistent limits

-- Whichever members put it out: where not all copies for a place were lost, one came in, or it is the source's.
pub place_brings : (net : Net) (ts : List PlantTurn) (q : Place) (f : Frame) → LedgerRun net ts [] → AreConsistent (handlings ts) →
    IsSent f (handlings ts) → lost_in q f ts ≢ made_in net q f ts → ((q.node == f.src) ≡ true) ⊎ CameIn q.node q.port f (handlings ts)
place_brings net ts q f run done sent whole =
    elim (cases_lt 0 (came_in q f ts)) [
      | inl came ↦ came_done net ts [] q f run done sent came
      | inr none ↦ let all = conserved net ts [] run q f in absurd (whole (omega (arith, all)))
    ]

pub lans_bring : (net : Net) (ts : List PlantTurn) (f : Frame) (j : ℕ) → LedgerRun net ts [] → AreConsistent (handlings ts) →
    IsSent f (handlings ts) → IsWholeInLans net f ts j → (j ≡ f.src) ⊎ ((p : Port) × (is_side p ≡ true) × CameIn j p f (handlings ts))
lans_bring net ts f j run done sent whole =
    elim (cases_lt 0 (came_in (in_lan_a j) f ts)) [
      | inl came ↦ at_port A refl came
      | inr none ↦
          elim (cases_lt 0 (came_in (in_lan_b j) f ts)) [
            | inl came ↦ at_port B refl came
            | inr neither ↦
                let all_a = conserved net ts [] run (in_lan_a j) f in
                let all_b = conserved net ts [] run (in_lan_b j) f in
                absurd (whole (omega (arith, all_a, all_b)))
          ]
    ]
  where
    at_port : (p : Port) → is_side p ≡ true → 0 < came_in (record { node = j; port = p }) f ts →
        (j ≡ f.src) ⊎ ((q : Port) × (is_side q ≡ true) × CameIn j q f (handlings ts))
    at_port p side came =
        elim (came_done net ts [] (record { node = j; port = p }) f run done sent came) [
          | inl own ↦ inl (eqb-true j f.src own)
          | inr in_there ↦ inr (p, side, in_there)
        ]

module _ (s : Shape) (bars : Bars) (es : History) (p : Plant) (r : RingLanRun s es p) (exact : AreExact bars (done_in es)) (empty : IsQuiet p) where
  pub quiet : IsQuietRing (ring_lan s) (ring_lan_routes s) bars (ring_of s) (turns es)
  quiet = record {
    part = ring_is_part s;
    sends = ring_sends s;
    run = subst (λ v. LedgerRun (ring_lan s) (turns es) v) empty (run_of (ring_lan s) es p r.run);
    consistent = consistent_in (ring_lan s) es p r.run;
    members = each_map (λ d. d.node < size s) (λ d. nat_lt d.node (size s) ≡ true) (λ d less. lt-ltb d.node (size s) less) (done_in es) r.members;
    routed = r.routed;
    sound = r.sound;
    exact = exact.exact;
  }

  -- what is wanted at the host is handed up
  pub up : (j : ℕ) (q : Port) (f : Frame) → ring_lan_routes s j f q H ≡ true → CameIn j q f (done_in es) → IsHanded j f (done_in es)
  up j q f wants came =
      elim (goes bars (done_in es) j H f quiet.consistent (exact.exact j)
      (claimed bars (ring_lan_routes s) (done_in es) j q H f r.routed wants came)) [
        | inl put ↦ handed_up (done_in es) j f put
        | inr barred ↦ absurd (true≢false (sym barred.0 ∙ exact.host j))
      ]

  -- at an interlink from which it goes out at a side: a box
  link_wants_up : (j : ℕ) (f : Frame) (w : Way) → IsIdeal j f (done_in es) → ring_lan_routes s j f C (out_of w) ≡ true →
      ring_lan_routes s j f C H ≡ true
  link_wants_up j f w ideal out =
      elim (cases_Bool (is_in_ring s j)) [
        | inr behind ↦ let no_link : false ≡ true = (rw behind at out) in absurd (true≢false (sym no_link))
        | inl inside ↦
            elim (cases_Bool (is_box s j)) [
              | inl box ↦ link_up s j f inside box ideal.host ideal.for
              | inr not_box ↦ let no_link : false ≡ true = (rw (inside, not_box) at out) in absurd (true≢false (sym no_link))
            ]
      ]

  pub up_round : (j : ℕ) (f : Frame) (w : Way) → IsIdeal j f (done_in es) → CameRound (ring_lan_routes s) w j f (done_in es) → IsHanded j f (done_in es)
  up_round j f w ideal (inl (q, side, came)) = up j q f (side_up s j f q side ideal.host ideal.for) came
  up_round j f w ideal (inr linked) = up j C f (link_wants_up j f w ideal linked.0) linked.1

  pub reached : (j : ℕ) (f : Frame) (w : Way) → IsIdeal j f (done_in es) → Reaches (ring_lan_routes s) w j f (done_in es) → IsHanded j f (done_in es)
  reached j f w ideal (inl (inl source)) = absurd (true≢false (sym (eq-eqb j f.src source) ∙ ideal.other))
  reached j f w ideal (inl (inr came)) = up_round j f w ideal came
  reached j f w ideal (inr (k, only, came)) =
      up_round j f w ideal (subst (λ x. CameRound (ring_lan_routes s) w x f (done_in es)) (only_one k j f.dest only ideal.for) came)

  -- from a box to which a LAN brought it
  from_box : (box j : ℕ) (f : Frame) → IsIdeal j f (done_in es) → is_box s box ≡ true → CameIn box C f (done_in es) →
      (box ≡ j → IsHanded j f (done_in es)) × (is_only box f.dest ≡ false → (w : Way) → IsBeside w box f (done_in es))
  from_box box j f ideal is came = (
    λ same. up j C f (link_up s j f (subst (λ k. is_in_ring s k ≡ true) same (box_in_ring s box r.shape is))
        (subst (λ k. is_box s k ≡ true) same is) ideal.host ideal.for) (subst (λ k. CameIn k C f (done_in es)) same came),
    λ other w. on (ring_lan s) (ring_lan_routes s) bars (ring_of s) (turns es) box C w f quiet (wants other w) came,
  )
    where
      wants : is_only box f.dest ≡ false → (w : Way) → ring_lan_routes s box f C (out_of w) ≡ true
      wants other onward = rw (box_in_ring s box r.shape is, is) (ap not other)
      wants other backward = rw (box_in_ring s box r.shape is, is) (ap not other)

  over : (box j : ℕ) (f : Frame) → IsIdeal j f (done_in es) → IsBrought s es f box →
      (box ≡ j) ⊎ ((w : Way) × (m : ℕ) × Rattle.sr_laws_plant.specs.RingParts.IsWhole (ring_lan s) (ring_of s) f (turns es) w box m j) →
      IsHanded j f (done_in es)
  over box j f ideal brought to =
      elim (place_brings (ring_lan s) (turns es) (interlink_of box) f quiet.run quiet.consistent ideal.sent brought.whole) [
        | inl own ↦ source (eqb-true box f.src own) to
        | inr came ↦ link came to
      ]
    where
      inside : is_in_ring s box ≡ true
      inside = box_in_ring s box r.shape brought.is

      source : box ≡ f.src →
          (box ≡ j) ⊎ ((w : Way) × (m : ℕ) × Rattle.sr_laws_plant.specs.RingParts.IsWhole (ring_lan s) (ring_of s) f (turns es) w box m j) →
          IsHanded j f (done_in es)
      source own (inl same) = absurd (true≢false (sym (eq-eqb j f.src (sym same ∙ own)) ∙ ideal.other))
      source own (inr (w, m, whole)) =
          reached j f w ideal (arc (ring_lan s) (ring_lan_routes s) bars (ring_of s) (turns es) quiet f j ideal.sent w m box inside
          (at_source (ring_lan s) (ring_lan_routes s) bars (ring_of s) (turns es) f w box quiet inside ideal.sent own) whole)

      link : CameIn box C f (done_in es) →
          (box ≡ j) ⊎ ((w : Way) × (m : ℕ) × Rattle.sr_laws_plant.specs.RingParts.IsWhole (ring_lan s) (ring_of s) f (turns es) w box m j) →
          IsHanded j f (done_in es)
      link came (inl same) = (from_box box j f ideal brought.is came).0 same
      link came (inr (w, m, whole)) =
          elim (cases_Bool (is_only box f.dest)) [
            | inl only ↦ (from_box box j f ideal brought.is came).0 (only_one box j f.dest only ideal.for)
            | inr other ↦
                reached j f w ideal (arc (ring_lan s) (ring_lan_routes s) bars (ring_of s) (turns es) quiet f j ideal.sent w m box inside
                ((from_box box j f ideal brought.is came).1 other w) whole)
          ]

  pub nothing_lost : LosesNothingOver s es
  nothing_lost f j ideal (inl (behind, whole)) =
      elim (lans_bring (ring_lan s) (turns es) f j quiet.run quiet.consistent ideal.sent whole) [
        | inl source ↦ absurd (true≢false (sym (eq-eqb j f.src source) ∙ ideal.other))
        | inr came ↦ up j came.0 f (side_up s j f came.0 came.1 ideal.host ideal.for) came.2
      ]
  nothing_lost f j ideal (inr (inl (inside, (w, m, whole)))) =
      reached j f w ideal (arc (ring_lan s) (ring_lan_routes s) bars (ring_of s) (turns es) quiet f j ideal.sent w m f.src inside
      (source_puts (ring_lan s) (ring_lan_routes s) bars (ring_of s) (turns es) f w quiet inside ideal.sent) whole)
  nothing_lost f j ideal (inr (inr (box, brought, to))) = over box j f ideal brought to

pub exact_of : (s : Shape) (mac : ℕ → Mac) (x : ℕ → Bool) (ws : Widths) (lanes : Handling → Lanes) (es : History) (p : Plant) →
    RingLanPremises s mac x ws lanes es p → AreExact (bars_of x) (done_in es)
exact_of s mac x ws lanes es p h =
    let r = h.happened in
    let consistent = consistent_in (ring_lan s) es p r.run in
    let steady = ring_lan_is_steady s mac ws es p r h.tables.addressed h.tables.widths h.limits in
    record {
      host = λ k. refl;
      exact = members_are_exact (size s) mac x ws lanes (done_in es) (members_of (size s) mac x ws lanes (ring_lan s) es p r.run h.tables) r.members
          consistent (λ k. (steady k).0);
    }

pub ring_lan_loses_nothing : RingLanLosesNothing
ring_lan_loses_nothing s mac x ws lanes es p h =
    let exact = exact_of s mac x ws lanes es p h in (
      λ j. hands_up_once (bars_of x) (done_in es) j (exact.exact j),
      λ empty. (
        nothing_lost s (bars_of x) es p h.happened exact empty,
        λ j whole. exactly_ideal es (ring_lan_hands_up_the_ideal s es p h.happened) j
            (λ f ideal. nothing_lost s (bars_of x) es p h.happened exact empty f j ideal (whole f ideal)),
      ),
    )
