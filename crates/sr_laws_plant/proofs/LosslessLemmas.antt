-- Where nothing is lost, a way leads from each member to each other.
use Rattle.std.proofs.Common.{◌≡◌, ◌≢◌, ℕ, zero, suc, ◌+◌, ◌-◌, ◌*◌, ◌<◌, ◌≤◌, inl, inr, Bool, true, false, not, ◌==◌, nat_lt, List, [], ◌∷◌, arith, refl, sym, ap, ◌∙◌, subst}
use Rattle.std.proofs.lemmas.Bool.{cases_Bool, cases_eq, cases_lt, and_from, and_parts, not-true, eq-eqb, ne_eqb, ltb-true, ltb-false, lt-ltb, true≢false}
use Rattle.sr_frame.specs.declared.ports.Port.{Port}
use Rattle.sr_frame.specs.declared.ports.Port.TheVariants.{H, A, B, C}
use Rattle.sr_laws_plant.specs.Lists.{One, Each}
use Rattle.sr_laws_plant.specs.ListLemmas.{one_left, one_right, one_is, one_each}
use Rattle.sr_laws_plant.specs.Frames.{is_only, Frame}
use Rattle.sr_laws_plant.specs.Handlings.{Handling, is_sending, AreConsistent}
use Rattle.sr_laws_plant.specs.Ideal.{IsIdeal, IsHanded}
use Rattle.sr_laws_plant.specs.Ledger.{Place, Hop, Net, PlantTurn, made_in, IsOpen}
use Rattle.sr_laws_plant.specs.OneNode.{Bars, bars_of, IsRouted, IsSound, WasPut, CameIn, ComesIn, AreExact}
use Rattle.sr_laws_plant.specs.PlantEvents.{Plant, IsQuiet, History, turns, done_in}
use Rattle.sr_laws_plant.specs.Ports.{is_at, is_side}
use Rattle.sr_laws_plant.specs.RingParts.{Way, onward, backward, RingPart, place_beyond, CameRound, IsWhole}
use Rattle.sr_laws_plant.specs.Rings.{beyond}
use Rattle.sr_laws_plant.specs.RingLans.{IsBrought, Shape, size, is_in_ring, is_box, others, lan_copies, ring_lan, ring_lan_routes, ring_of, RingLanRun}
use Rattle.sr_laws_plant.specs.TwinLans.{danp_routes, in_lan_a, in_lan_b, IsWholeInLans}
use Rattle.sr_laws_plant.specs.TwoRings.{LeadsOver, TwoShape, all_members, is_left, is_right, left_ring, right_ring, rings_of, two_rings, two_rings_routes, Part, round, over, IsWholeWay, HasWholeWay, TwoRingsRun}
use Rattle.sr_laws_plant.specs.Ways.{interlink_of}
use Rattle.sr_laws_plant.specs.LanWays.{LanPart, IsWholeChain}
use Rattle.sr_laws_plant.specs.LanWays as lan
use Rattle.sr_laws_plant.specs.Lossless.{LosesNone, LosslessRingLanIsIdeal, LosslessTwoRingsAreIdeal}
use Rattle.sr_laws_plant.proofs.ArcLemmas.{arc, source_puts}
use Rattle.sr_laws_plant.proofs.FrameLemmas.{as_sending, as_arrival, sent_in}
use Rattle.sr_laws_plant.proofs.LanWayLemmas.{chain_brings}
use Rattle.sr_laws_plant.proofs.LedgerLemmas.{put_makes}
use Rattle.sr_laws_plant.proofs.OneNodeLemmas.{claimed, goes}
use Rattle.sr_laws_plant.proofs.OriginLemmas.{fed}
use Rattle.sr_laws_plant.proofs.RingLanLemmas.{ring_lan_hands_up_the_ideal, quiet, up, side_up, exact_of}
use Rattle.sr_laws_plant.proofs.RingLawLemmas.{consistent_in, exactly_ideal}
use Rattle.sr_laws_plant.proofs.RingLemmas.{only_one}
use Rattle.sr_laws_plant.proofs.TwoRingsLemmas.{joins_lead_over, two_rings_lose_nothing}

-- every link is open
pub open_all : (net : Net) (es : History) (f : Frame) → LosesNone es → (q : Place) → IsOpen net f (turns es) q
open_all net es f none q = by (made_in net q f (turns es)) refl
  where
    by : (made : ℕ) → made_in net q f (turns es) ≡ made → IsOpen net f (turns es) q
    by zero e = inl e
    by (suc n) e = inr (λ same. let l = none q f in omega (arith, e, same, l))

-- An arc leads from each member of a ring to each other, where neighbours have the next numbers.
module _ (net : Net) (r : RingPart) (base n : ℕ) (f : Frame) (ts : List PlantTurn)
    (next : (k : ℕ) → base ≤ k → k + 1 < base + n → r.beyond onward k ≡ k + 1)
    (last : (k : ℕ) → base < k → k < base + n → r.beyond backward k ≡ k - 1)
    (free : (q : Place) → IsOpen net f ts q) where
  up_to : (gap i j : ℕ) → base ≤ i → i + gap + 1 ≡ j → j < base + n → IsWhole net r f ts onward i gap j
  up_to zero i j low e less = (free (place_beyond r onward i), next i low (omega (arith, e, less)) ∙ omega (arith, e))
  up_to (suc gap) i j low e less =
      (free (place_beyond r onward i), subst (λ k. IsWhole net r f ts onward k gap j) (sym (next i low (omega (arith, e, less)))) (up_to gap (i + 1) j (omega (arith, low)) (omega (arith, e)) less))

  down_to : (gap i j : ℕ) → base ≤ j → j + gap + 1 ≡ i → i < base + n → IsWhole net r f ts backward i gap j
  down_to zero i j low e less = (free (place_beyond r backward i), last i (omega (arith, low, e)) less ∙ omega (arith, e))
  down_to (suc gap) i j low e less =
      (free (place_beyond r backward i), subst (λ k. IsWhole net r f ts backward k gap j) (sym (last i (omega (arith, low, e)) less)) (down_to gap (i - 1) j low (omega (arith, e)) (omega (arith, less))))

  pub any_arc : (i j : ℕ) → i ≢ j → base ≤ i → i < base + n → base ≤ j → j < base + n → (w : Way) × (m : ℕ) × IsWhole net r f ts w i m j
  any_arc i j other low_i high_i low_j high_j = elim (cases_lt i j) [
    | inl less ↦ (onward, j - i - 1, up_to (j - i - 1) i j low_i (omega (arith, less)) high_j)
    | inr more ↦ (backward, i - j - 1, down_to (i - j - 1) i j low_j (below more) high_i)
  ]
    where
      below : j ≤ i → j + (i - j - 1) + 1 ≡ i
      below more = elim (cases_eq i j) [
        | inl e ↦ absurd (other e)
        | inr ne ↦ (let less : j < i = strict more ne in omega (arith, less))
      ]
        where
          strict : j ≤ i → i ≢ j → j < i
          strict le ne = elim (cases_lt j i) [
            | inl l ↦ l
            | inr g ↦ absurd (ne (omega (arith, le, g)))
          ]

pub next_number : (n k : ℕ) → k + 1 < n → beyond n onward k ≡ k + 1
next_number n k less = rw (ne_eqb (k + 1) n (λ e. absurd (omega (arith, e, less)))) refl

pub last_number : (n k : ℕ) → 0 < k → beyond n backward k ≡ k - 1
last_number n k more = rw (ne_eqb k 0 (λ e. absurd (omega (arith, e, more)))) refl

-- a LAN leads to each doubly attached node
in_others : (r d k j : ℕ) → r ≤ j → j < r + d → j ≢ k → One (λ x. x ≡ j) (others r d k)
in_others r zero k j low less other = absurd (omega (arith, low, less))
in_others r (suc d) k j low less other = elim (cases_eq j (r + d)) [
  | inl e ↦ (let ne : (r + d == k) ≡ false = ne_eqb (r + d) k (λ x. other (e ∙ x)) in rw ne (one_right (λ x. x ≡ j) (others r d k) ((r + d) ∷ []) (inl (sym e))))
  | inr ne ↦ elim (cases_Bool (r + d == k)) [
    | inl is ↦ rw is (in_others r d k j low (omega (arith, less, ne)) other)
    | inr not_so ↦ rw not_so (one_left (λ x. x ≡ j) (others r d k) ((r + d) ∷ []) (in_others r d k j low (omega (arith, less, ne)) other))
  ]
]

copy_to : (p : Port) (own first j : ℕ) (js : List ℕ) → One (λ x. x ≡ j) js → One (λ h. h.to ≡ record { node = j; port = p }) (lan_copies p own first js)
copy_to p own first j [] some = absurd some
copy_to p own first j (x ∷ js) (inl e) = inl (ap (λ y. record { node = y; port = p }) e)
copy_to p own first j (x ∷ js) (inr some) = inr (copy_to p own first j js some)

-- only nodes of the LANs lead to an interlink
copies_end : (p : Port) (own first box : ℕ) (js : List ℕ) → One (λ h. h.to ≡ interlink_of box) (lan_copies p own first js) → p ≡ C
copies_end p own first box [] some = absurd some
copies_end p own first box (j ∷ js) (inl is) = ap (λ t. t.port) is
copies_end p own first box (j ∷ js) (inr some) = copies_end p own first box js some

leads_away : (s : Shape) (u : ℕ) (o : Port) (box : ℕ) → One (λ h. h.to ≡ interlink_of box) (ring_lan s u o) → (is_in_ring s u ≡ false) × (is_at H o ≡ false)
leads_away s u H box some = absurd some
leads_away s u A box some = elim (cases_Bool (is_in_ring s u)) [
  | inr away ↦ (away, refl)
  | inl inside ↦ absurd (no_side (rw inside at some))
]
  where
    no_side : One (λ (h : Hop). h.to ≡ interlink_of box) (record { to = record { node = beyond s.ring backward u; port = B }; links = beyond s.ring backward u ∷ [] } ∷ []) → ⊥
    no_side (inl is) = let no : B ≡ C = ap (λ t. t.port) is in absurd cc
    no_side (inr none) = none
leads_away s u B box some = elim (cases_Bool (is_in_ring s u)) [
  | inr away ↦ (away, refl)
  | inl inside ↦ absurd (no_side (rw inside at some))
]
  where
    no_side : One (λ (h : Hop). h.to ≡ interlink_of box) (record { to = record { node = beyond s.ring onward u; port = A }; links = u ∷ [] } ∷ []) → ⊥
    no_side (inl is) = let no : A ≡ C = ap (λ t. t.port) is in absurd cc
    no_side (inr none) = none
leads_away s u C box some = elim (cases_Bool (u == s.box_a)) [
  | inl a ↦ (let no : A ≡ C = copies_end A (s.ring + s.lan) 0 box (others s.ring s.lan u) (rw a at some) in absurd cc)
  | inr not_a ↦ elim (cases_Bool (u == s.box_b)) [
    | inl b ↦ (let no : B ≡ C = copies_end B (s.ring + 2 * s.lan + 1) (s.lan + 1) box (others s.ring s.lan u) (rw (not_a, b) at some) in absurd cc)
    | inr not_b ↦ absurd (rw (not_a, not_b) at some)
  ]
]

-- what nodes of the LANs put out is their own
put_away : (s : Shape) (u : ℕ) (o : Port) (f : Frame) → is_in_ring s u ≡ false → is_at H o ≡ false → (ds : List Handling) → AreConsistent ds → Each (IsRouted (ring_lan_routes s)) ds → Each IsSound ds → WasPut u o f ds → u ≡ f.src
put_away s u o f away outside [] done routed sound put = absurd put
put_away s u o f away outside (d ∷ before) done routed sound (inr put) = put_away s u o f away outside before done.0 routed.1 sound.1 put
put_away s u o f away outside (d ∷ before) done routed sound (inl put) =
    by d.inlet refl (rw away at (subst (λ k. ring_lan_routes s k d.frame d.inlet o ≡ true) put.0 (sym (routed.0 o) ∙ sound.0 o put.2)))
  where
    nothing : (q o : Port) → is_at H o ≡ false → is_at H q ≡ false → danp_routes u d.frame q o ≡ true → ⊥
    nothing q H at_host from wants = true≢false at_host
    nothing H o at_host from wants = true≢false from
    nothing A A at_host from wants = true≢false (sym wants)
    nothing A B at_host from wants = true≢false (sym wants)
    nothing A C at_host from wants = true≢false (sym wants)
    nothing B A at_host from wants = true≢false (sym wants)
    nothing B B at_host from wants = true≢false (sym wants)
    nothing B C at_host from wants = true≢false (sym wants)
    nothing C A at_host from wants = true≢false (sym wants)
    nothing C B at_host from wants = true≢false (sym wants)
    nothing C C at_host from wants = true≢false (sym wants)

    by : (q : Port) → d.inlet ≡ q → danp_routes u d.frame d.inlet o ≡ true → u ≡ f.src
    by H at_host wants = sym put.0 ∙ sym (as_sending before d done.2 (ap (is_at H) at_host)).own ∙ ap (λ (g : Frame). g.src) put.1
    by A at_side wants = absurd (nothing A o outside refl (subst (λ x. danp_routes u d.frame x o ≡ true) at_side wants))
    by B at_side wants = absurd (nothing B o outside refl (subst (λ x. danp_routes u d.frame x o ≡ true) at_side wants))
    by C at_link wants = absurd (nothing C o outside refl (subst (λ x. danp_routes u d.frame x o ≡ true) at_link wants))

module _ (s : Shape) (bars : Bars) (es : History) (p : Plant) (r : RingLanRun s es p) (exact : AreExact bars (done_in es)) (empty : IsQuiet p) (none : LosesNone es)
    (f : Frame) (j : ℕ) (ideal : IsIdeal j f (done_in es)) (within : j < size s) where
  by_chain : (parts : List LanPart) → IsWholeChain s es f f.src parts j → IsHanded j f (done_in es)
  by_chain parts whole = chain_brings s bars es p r exact empty f j ideal parts whole

  other_one : f.src ≢ j
  other_one same = true≢false (sym (eq-eqb j f.src (sym same)) ∙ ideal.other)

  ring_arc : (i k : ℕ) → i ≢ k → is_in_ring s i ≡ true → is_in_ring s k ≡ true → (w : Way) × (m : ℕ) × IsWhole (ring_lan s) (ring_of s) f (turns es) w i m k
  ring_arc i k other inside there =
      any_arc (ring_lan s) (ring_of s) 0 s.ring f (turns es)
      (λ k low less. next_number s.ring k (omega (arith, less))) (λ k more less. last_number s.ring k more) (open_all (ring_lan s) es f none)
      i k other (omega arith) (let l = ltb-true i s.ring inside in omega (arith, l)) (omega arith) (let l = ltb-true k s.ring there in omega (arith, l))

  -- the source puts its frame out at each outlet
  source_out : (o : Port) → is_at H o ≡ false → ring_lan_routes s f.src f H o ≡ true → WasPut f.src o f (done_in es)
  source_out o outside wants =
      elim (goes bars (done_in es) f.src o f (quiet s bars es p r exact empty).consistent (exact.exact f.src)
      (claimed bars (ring_lan_routes s) (done_in es) f.src H o f r.routed wants (sent_in (done_in es) f (quiet s bars es p r exact empty).consistent ideal.sent))) [
        | inl put ↦ put
        | inr barred ↦ absurd (not_back (done_in es) (quiet s bars es p r exact empty).consistent barred.1)
      ]
    where
      not_back : (ds : List Handling) → AreConsistent ds → CameIn f.src o f ds → ⊥
      not_back [] done came = came
      not_back (d ∷ before) done (inr came) = not_back before done.0 came
      not_back (d ∷ before) done (inl here) = by (is_sending d) refl
        where
          by : (b : Bool) → is_sending d ≡ b → ⊥
          by true e = true≢false (sym e ∙ ap (is_at H) here.1 ∙ outside)
          by false e =
              let foreign = (as_arrival before d done.2 e).foreign in
              true≢false (sym (eq-eqb d.node d.frame.src (here.0 ∙ sym (ap (λ (g : Frame). g.src) here.2))) ∙ foreign)

  -- where some copy was made for it, and none lost, the LANs are whole for it
  made_whole : 0 < made_in (ring_lan s) (in_lan_a j) f (turns es) → IsWholeInLans (ring_lan s) f (turns es) j
  made_whole made = λ same. (let a = none (in_lan_a j) f in let b = none (in_lan_b j) f in omega (arith, same, a, b, made))

  -- from a node of the LANs
  from_lans : is_in_ring s f.src ≡ false → IsHanded j f (done_in es)
  from_lans away = elim (cases_Bool (is_in_ring s j)) [
    | inr there ↦
        (let hop : One (λ h. h.to ≡ in_lan_a j) (ring_lan s f.src A) = rw away (inr (copy_to A f.src 0 j (others s.ring s.lan f.src) (in_others s.ring s.lan f.src j (ltb-false j s.ring there) within (λ e. other_one (sym e))))) in
        let made = put_makes (ring_lan s) (turns es) f.src A (in_lan_a j) f refl (source_out A refl (rw away refl)) hop in
        by_chain (lan.across j ∷ []) (inl (there, made_whole made), refl))
    | inl there ↦
        (let hop : One (λ h. h.to ≡ interlink_of s.box_a) (ring_lan s f.src A) = rw away (inl refl) in
        let made = put_makes (ring_lan s) (turns es) f.src A (interlink_of s.box_a) f refl (source_out A refl (rw away refl)) hop in
        let brought : IsBrought s es f s.box_a = record { is = rw (eq-eqb s.box_a s.box_a refl) refl; whole = λ same. (let l = none (interlink_of s.box_a) f in omega (arith, same, l, made)) } in
        elim (cases_eq s.box_a j) [
          | inl e ↦ by_chain (lan.across s.box_a ∷ []) (inr brought, e)
          | inr ne ↦ (let way = ring_arc s.box_a j ne box_inside there in
              by_chain (lan.across s.box_a ∷ lan.round way.0 way.1 j ∷ []) (inr brought, (box_inside, way.2, refl)))
        ])
  ]
    where
      box_inside : is_in_ring s s.box_a ≡ true
      box_inside = lt-ltb s.box_a s.ring r.shape.a_inside

  -- what came in at the interlink of a box was numbered in the LANs
  not_from_lan : is_in_ring s f.src ≡ true → (box : ℕ) → CameIn box C f (done_in es) → ⊥
  not_from_lan inside box came =
      elim (fed (ring_lan s) (turns es) [] box C f (quiet s bars es p r exact empty).run came) [
        | inr hosted ↦ no_hosted (done_in es) hosted
        | inl from ↦
            let there = leads_away s from.node from.outlet box from.leads in
            let own = put_away s from.node from.outlet f there.0 there.1 (done_in es) (quiet s bars es p r exact empty).consistent r.routed r.sound from.put in
            true≢false (sym inside ∙ ap (is_in_ring s) (sym own) ∙ there.0)
      ]
    where
      no_hosted : (ds : List Handling) → One (λ d. (is_sending d ≡ true) × ComesIn box C f d) ds → ⊥
      no_hosted [] o = o
      no_hosted (d ∷ ds) (inl h) = true≢false (sym h.0 ∙ ap (is_at H) h.1.1)
      no_hosted (d ∷ ds) (inr o) = no_hosted ds o

  -- from a node of the ring into the LANs: by the box of LAN A
  into_lans : is_in_ring s f.src ≡ true → is_in_ring s j ≡ false → IsHanded j f (done_in es)
  into_lans inside there = elim (cases_eq s.box_a f.src) [
    | inl source ↦ over_it (subst (λ k. WasPut k C f (done_in es)) (sym source)
        (source_out C refl (subst (λ k. ring_lan_routes s k f H C ≡ true) source (rw (box_inside, box_is) refl))))
    | inr other ↦
        (let way = ring_arc f.src s.box_a (λ e. other (sym e)) inside box_inside in
        elim (arc (ring_lan s) (ring_lan_routes s) bars (ring_of s) (turns es) (quiet s bars es p r exact empty) f s.box_a ideal.sent way.0 way.1 f.src inside
        (source_puts (ring_lan s) (ring_lan_routes s) bars (ring_of s) (turns es) f way.0 (quiet s bars es p r exact empty) inside ideal.sent) way.2) [
          | inl (inl source) ↦ absurd (other source)
          | inl (inr came) ↦ over_it (put_over way.0 came)
          | inr last ↦ at_last way.0 (subst (λ k. CameRound (ring_lan_routes s) way.0 k f (done_in es)) (only_one last.0 j f.dest last.1 ideal.for) last.2)
        ])
  ]
    where
      box_inside : is_in_ring s s.box_a ≡ true
      box_inside = lt-ltb s.box_a s.ring r.shape.a_inside

      box_is : is_box s s.box_a ≡ true
      box_is = rw (eq-eqb s.box_a s.box_a refl) refl

      apart : s.box_a ≢ j
      apart e = true≢false (sym box_inside ∙ ap (is_in_ring s) e ∙ there)

      not_alone : is_only s.box_a f.dest ≡ false
      not_alone = elim (cases_Bool (is_only s.box_a f.dest)) [
        | inl only ↦ absurd (apart (only_one s.box_a j f.dest only ideal.for))
        | inr other ↦ other
      ]

      -- into LAN A, and so to j
      over_it : WasPut s.box_a C f (done_in es) → IsHanded j f (done_in es)
      over_it put =
          let hop : One (λ h. h.to ≡ in_lan_a j) (ring_lan s s.box_a C) =
          rw (eq-eqb s.box_a s.box_a refl) (copy_to A (s.ring + s.lan) 0 j (others s.ring s.lan s.box_a) (in_others s.ring s.lan s.box_a j (ltb-false j s.ring there) within (λ e. apart (sym e)))) in
          let made = put_makes (ring_lan s) (turns es) s.box_a C (in_lan_a j) f refl put hop in
          by_chain (lan.across j ∷ []) (inl (there, made_whole made), refl)

      wants : (q : Port) → is_side q ≡ true → ring_lan_routes s s.box_a f q C ≡ true
      wants A side = rw (box_inside, box_is) (and_from _ _ (ap not not_alone) inside)
      wants B side = rw (box_inside, box_is) (and_from _ _ (ap not not_alone) inside)
      wants H side = absurd (true≢false (sym side))
      wants C side = absurd (true≢false (sym side))

      put_over : (w : Way) → CameRound (ring_lan_routes s) w s.box_a f (done_in es) → WasPut s.box_a C f (done_in es)
      put_over w (inr linked) = absurd (not_from_lan inside s.box_a linked.1)
      put_over w (inl (q, side, came)) =
          elim (goes bars (done_in es) s.box_a C f (quiet s bars es p r exact empty).consistent (exact.exact s.box_a)
          (claimed bars (ring_lan_routes s) (done_in es) s.box_a q C f r.routed (wants q side) came)) [
            | inl put ↦ put
            | inr barred ↦ absurd (not_from_lan inside s.box_a barred.1)
          ]

      at_last : (w : Way) → CameRound (ring_lan_routes s) w j f (done_in es) → IsHanded j f (done_in es)
      at_last w (inl (q, side, came)) = up s bars es p r exact empty j q f (side_up s j f q side ideal.host ideal.for) came
      at_last w (inr linked) = (let no_link : false ≡ true = rw there at linked.0 in absurd (true≢false (sym no_link)))

  pub all_up : IsHanded j f (done_in es)
  all_up = elim (cases_Bool (is_in_ring s f.src)) [
    | inr away ↦ from_lans away
    | inl inside ↦ elim (cases_Bool (is_in_ring s j)) [
      | inl there ↦ (let way = ring_arc f.src j other_one inside there in by_chain (lan.round way.0 way.1 j ∷ []) (inside, way.2, refl))
      | inr there ↦ into_lans inside there
    ]
  ]

pub lossless_ring_lan : LosslessRingLanIsIdeal
lossless_ring_lan s mac x ws lanes es p h empty none j within =
    exactly_ideal es (ring_lan_hands_up_the_ideal s es p h.happened) j
    (λ f ideal. all_up s (bars_of x) es p h.happened (exact_of s mac x ws lanes es p h) empty none f j ideal within)

-- in two rings
module _ (s : TwoShape) (es : History) (p : Plant) (r : TwoRingsRun s es p) (none : LosesNone es) (a b : ℕ) (there : One (λ x. x ≡ (a, b)) s.joins)
    (f : Frame) (j : ℕ) (ideal : IsIdeal j f (done_in es)) (within : j < all_members s) where
  abbrev Ways : RingPart → ℕ → ℕ → Type 0
  Ways part i k = (parts : List Part) × IsWholeWay (two_rings s) (two_rings_routes s) (rings_of s) f (turns es) part i parts k

  members : f.src < all_members s
  members =
      let one_there = one_is (λ d. (d.node < all_members s) × ComesIn f.src H f d) (done_in es)
      (one_each (λ d. d.node < all_members s) (ComesIn f.src H f) (done_in es) r.members (sent_in (done_in es) f (consistent_in (two_rings s) es p r.run) ideal.sent)) in
      let low = one_there.1.0 in
      let same = one_there.1.1.0 in
      omega (arith, low, same)

  right_low : (k : ℕ) → is_right s k ≡ true → (s.left ≤ k) × (k < s.left + s.right)
  right_low k inside =
      let parts = and_parts (not (nat_lt k s.left)) (nat_lt k (s.left + s.right)) inside in
      (ltb-false k s.left (not-true (nat_lt k s.left) parts.0), ltb-true k (s.left + s.right) parts.1)

  left_arc : (i k : ℕ) → i ≢ k → is_left s i ≡ true → is_left s k ≡ true → (w : Way) × (m : ℕ) × IsWhole (two_rings s) (left_ring s) f (turns es) w i m k
  left_arc i k other inside there =
      any_arc (two_rings s) (left_ring s) 0 s.left f (turns es)
      (λ k low less. next_number s.left k (omega (arith, less))) (λ k more less. last_number s.left k more) (open_all (two_rings s) es f none)
      i k other (omega arith) (let l = ltb-true i s.left inside in omega (arith, l)) (omega arith) (let l = ltb-true k s.left there in omega (arith, l))

  right_arc : (i k : ℕ) → i ≢ k → is_right s i ≡ true → is_right s k ≡ true → (w : Way) × (m : ℕ) × IsWhole (two_rings s) (right_ring s) f (turns es) w i m k
  right_arc i k other inside there =
      let low_i = right_low i inside in
      let low_k = right_low k there in
      any_arc (two_rings s) (right_ring s) s.left s.right f (turns es)
      (λ k low less. (let e = next_number s.right (k - s.left) (omega (arith, low, less)) in omega (arith, low, e)))
      (λ k more less. (let e = last_number s.right (k - s.left) (omega (arith, more)) in omega (arith, more, e)))
      (open_all (two_rings s) es f none) i k other low_i.0 low_i.1 low_k.0 low_k.1

  -- within a ring
  left_way : (i k : ℕ) → is_left s i ≡ true → is_left s k ≡ true → Ways (left_ring s) i k
  left_way i k inside there = elim (cases_eq i k) [
    | inl e ↦ ([], e)
    | inr ne ↦ (let way = left_arc i k ne inside there in (round way.0 way.1 k ∷ [], (way.2, refl)))
  ]

  right_way : (i k : ℕ) → is_right s i ≡ true → is_right s k ≡ true → Ways (right_ring s) i k
  right_way i k inside there = elim (cases_eq i k) [
    | inl e ↦ ([], e)
    | inr ne ↦ (let way = right_arc i k ne inside there in (round way.0 way.1 k ∷ [], (way.2, refl)))
  ]

  joined : LeadsOver (two_rings s) (two_rings_routes s) (rings_of s) f (turns es) a (right_ring s) b × LeadsOver (two_rings s) (two_rings_routes s) (rings_of s) f (turns es) b (left_ring s) a
  joined =
      let leads = joins_lead_over s f (turns es) a b r.joins there in
      (leads.0 (open_all (two_rings s) es f none (interlink_of b)), leads.1 (open_all (two_rings s) es f none (interlink_of a)))

  -- over the join, and on
  to_right : (i : ℕ) → is_left s i ≡ true → is_right s j ≡ true → Ways (left_ring s) i j
  to_right i inside end = elim (cases_eq i a) [
    | inl e ↦ (over (right_ring s) b ∷ on.0, (subst (λ k. LeadsOver (two_rings s) (two_rings_routes s) (rings_of s) f (turns es) k (right_ring s) b) (sym e) joined.0, on.1))
    | inr ne ↦ (let way = left_arc i a ne inside joined.1.inside in (round way.0 way.1 a ∷ over (right_ring s) b ∷ on.0, (way.2, (joined.0, on.1))))
  ]
    where
      on : Ways (right_ring s) b j
      on = right_way b j joined.0.inside end

  to_left : (i : ℕ) → is_right s i ≡ true → is_left s j ≡ true → Ways (right_ring s) i j
  to_left i inside end = elim (cases_eq i b) [
    | inl e ↦ (over (left_ring s) a ∷ on.0, (subst (λ k. LeadsOver (two_rings s) (two_rings_routes s) (rings_of s) f (turns es) k (left_ring s) a) (sym e) joined.1, on.1))
    | inr ne ↦ (let way = right_arc i b ne inside joined.0.inside in (round way.0 way.1 b ∷ over (left_ring s) a ∷ on.0, (way.2, (joined.1, on.1))))
  ]
    where
      on : Ways (left_ring s) a j
      on = left_way a j joined.1.inside end

  in_right : (k : ℕ) → k < all_members s → is_left s k ≡ false → is_right s k ≡ true
  in_right k less away = and_from _ _ (ap not away) (lt-ltb k (s.left + s.right) less)

  pub way_to : HasWholeWay s es f j
  way_to = elim (cases_Bool (is_left s f.src)) [
    | inl here ↦ elim (cases_Bool (is_left s j)) [
      | inl end ↦ (left_ring s, inl refl, here, left_way f.src j here end)
      | inr away ↦ (left_ring s, inl refl, here, to_right f.src here (in_right j within away))
    ]
    | inr far ↦ elim (cases_Bool (is_left s j)) [
      | inl end ↦ (right_ring s, inr (inl refl), in_right f.src members far, to_left f.src (in_right f.src members far) end)
      | inr away ↦ (right_ring s, inr (inl refl), in_right f.src members far, right_way f.src j (in_right f.src members far) (in_right j within away))
    ]
  ]

pub lossless_two_rings : LosslessTwoRingsAreIdeal
lossless_two_rings s mac x ws lanes es p join there h empty none j within =
    ((two_rings_lose_nothing s mac x ws lanes es p h).1 empty).1 j (λ f ideal. way_to s es p h.happened none join.0 join.1 there f j ideal within)
