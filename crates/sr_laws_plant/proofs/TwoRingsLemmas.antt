-- Two rings, and ways through any rings.
use Rattle.std.proofs.Common.{◌≡◌, ℕ, zero, suc, ◌+◌, ◌-◌, ◌<◌, ◌≤◌, ◌⊎◌, inl, inr, true, false, not, ◌&&◌, List, [], ◌∷◌, map, arith, refl, sym, ap, ◌∙◌, subst}
use Rattle.std.proofs.lemmas.Bool.{cases_Bool, ne_eqb, and_parts, and_from, or_left, or_right, not-true, eqb-true, eq-eqb, ltb-true, ltb-false, lt-ltb, le-ltb, true≢false}
use Rattle.std.specs.Prelude.{◌==◌, nat_lt}
use Rattle.sr_frame.specs.declared.ports.Port.{Port}
use Rattle.sr_frame.specs.declared.ports.Port.TheVariants.{H, A, B, C}
use Rattle.sr_laws_plant.specs.Lists.{One}
use Rattle.sr_laws_plant.specs.Ports.{is_at, is_side}
use Rattle.sr_laws_plant.specs.Frames.{is_only, is_for, Frame}
use Rattle.sr_laws_plant.specs.Handlings.{Handling, is_sending, IsSent, AreConsistent}
use Rattle.sr_laws_plant.specs.OneNode.{Bars, bars_of, Routes, WasPut, CameIn, ComesIn, AreExact}
use Rattle.sr_laws_plant.specs.Ledger.{Hop, Net, PlantTurn, handlings, LedgerRun}
use Rattle.sr_laws_plant.specs.PlantEvents.{Plant, IsQuiet, History, turns, done_in}
use Rattle.sr_laws_plant.specs.Ideal.{IsIdeal, IsHanded}
use Rattle.sr_laws_plant.specs.RingParts.{Way, onward, backward, out_of, in_to, RingPart, IsRingPart, SendsRound, IsQuietRing, IsBeside, CameRound, IsWhole}
use Rattle.sr_laws_plant.specs.Rings.{ring, beyond, danh_routes}
use Rattle.sr_laws_plant.specs.Ways.{interlink_of, SendsOver, box_routes}
use Rattle.sr_laws_plant.specs.TwoRings.{Part, round, over, IsWholeWay, TwoShape, all_members, is_left, is_right, is_joined, AreJoins, over_hops, shifted}
use Rattle.sr_laws_plant.specs.TwoRings.{two_rings, two_rings_routes, left_ring, right_ring, rings_of, TwoRingsRun, LosesNothingOverRings, JoinsLeadOver}
use Rattle.sr_laws_plant.specs.TwoRings.{TwoRingsHandUpTheIdeal, TwoRingsLoseNothing}
use Rattle.sr_laws_plant.specs.ListLemmas.{each_map}
use Rattle.sr_laws_plant.proofs.FrameLemmas.{as_sending}
use Rattle.sr_laws_plant.proofs.HostLemmas.{IsUpward, danh_up, hands_up_ideal, hands_up_once}
use Rattle.sr_laws_plant.proofs.OneNodeLemmas.{claimed, goes, handed_up}
use Rattle.sr_laws_plant.proofs.OriginLemmas.{fed}
use Rattle.sr_laws_plant.proofs.BalanceLemmas.{run_of}
use Rattle.sr_laws_plant.proofs.ArcLemmas.{arc, on, at_source}
use Rattle.sr_laws_plant.proofs.RingLemmas.{ring_round, danh_round, only_one}
use Rattle.sr_laws_plant.proofs.WayLemmas.{CameOver, beside_both, not_host, cross, box_sends_round, box_sends_over}
use Rattle.sr_laws_plant.proofs.SteadyLemmas.{members_are_steady}
use Rattle.sr_laws_plant.proofs.MemberLemmas.{of_members, members_are_exact}
use Rattle.sr_laws_plant.proofs.TableLemmas.{members_of}
use Rattle.sr_laws_plant.proofs.RingLawLemmas.{consistent_in, exactly_ideal}

-- a member has the frame: it is the source, or it came in from outside
abbrev pub HasIt : ℕ → Frame → List Handling → Type 0
HasIt k f ds = (k ≡ f.src) ⊎ ((p : Port) × (is_at H p ≡ false) × CameIn k p f ds)

port_cases : (p : Port) → (p ≡ H) ⊎ (is_at H p ≡ false)
port_cases H = inl refl
port_cases A = inr refl
port_cases B = inr refl
port_cases C = inr refl

-- what it put out, it has
put_had : (k : ℕ) (o : Port) (f : Frame) (ds : List Handling) → AreConsistent ds → WasPut k o f ds → HasIt k f ds
put_had k o f [] done put = absurd put
put_had k o f (d ∷ before) done (inr put) =
    elim (put_had k o f before done.0 put) [
      | inl source ↦ inl source
      | inr came ↦ inr (came.0, came.1, inr came.2)
    ]
put_had k o f (d ∷ before) done (inl put) =
    elim (port_cases d.inlet) [
      | inl host ↦
          let own = (as_sending before d done.2 (ap (is_at H) host)).own in
          inl (sym put.0 ∙ sym own ∙ ap (λ g. g.src) put.1)
      | inr outside ↦ inr (d.inlet, outside, inl (put.0, refl, put.1))
    ]

beside_had : (w : Way) (k : ℕ) (f : Frame) (ds : List Handling) → AreConsistent ds → IsBeside w k f ds → HasIt k f ds
beside_had w k f ds done (inl put) = put_had k (out_of w) f ds done put
beside_had onward k f ds done (inr came) = inr (B, refl, came)
beside_had backward k f ds done (inr came) = inr (A, refl, came)

-- it is at j, or at the one member for which it is meant
abbrev pub IsBroughtTo : ℕ → Frame → List Handling → Type 0
IsBroughtTo j f ds = HasIt j f ds ⊎ ((k : ℕ) × (is_only k f.dest ≡ true) × ((p : Port) × (is_at H p ≡ false) × CameIn k p f ds))

-- what a box sends over goes out at both sides
abbrev pub SendsBoth : Routes → RingPart → Type 0
SendsBoth routes r = (k : ℕ) (f : Frame) (w v : Way) → r.inside k ≡ true → routes k f C (out_of w) ≡ true → routes k f C (out_of v) ≡ true

module _ (net : Net) (routes : Routes) (bars : Bars) (rings : List RingPart) (ts : List PlantTurn)
    (quiet : (r : RingPart) → One (λ x. x ≡ r) rings → IsQuietRing net routes bars r ts)
    (both : (r : RingPart) → One (λ x. x ≡ r) rings → SendsBoth routes r)
    (f : Frame) (sent : IsSent f (handlings ts)) (away : is_only f.src f.dest ≡ false) where
  -- a member that has it puts it out at both sides, or is alone meant
  on_from : (r : RingPart) (k : ℕ) (w : Way) → One (λ x. x ≡ r) rings → r.inside k ≡ true →
      (k ≡ f.src) ⊎ CameRound routes w k f (handlings ts) → CameOver k f (handlings ts)
  on_from r k w here inside (inl source) = inr (λ v. at_source net routes bars r ts f v k (quiet r here) inside sent source)
  on_from r k w here inside (inr (inl side)) = beside_both net routes bars r ts k f (quiet r here) inside sent (inr side)
  on_from r k w here inside (inr (inr linked)) =
      inr (λ v. on net routes bars r ts k C v f (quiet r here) (both r here k f w v inside linked.0) linked.1)

  -- a box at which it is lets it over
  at_box : (r : RingPart) (i : ℕ) (w : Way) → SendsOver routes i → is_only i f.dest ≡ false → HasIt i f (handlings ts) →
      (i ≡ f.src) ⊎ CameRound routes w i f (handlings ts)
  at_box r i w sends other (inl source) = inl source
  at_box r i w sends other (inr (H, outside, came)) = absurd (true≢false outside)
  at_box r i w sends other (inr (A, outside, came)) = inr (inl (A, refl, came))
  at_box r i w sends other (inr (B, outside, came)) = inr (inl (B, refl, came))
  at_box r i w sends other (inr (C, outside, came)) = inr (inr (sends.out f w other, came))

  -- Over every way that is whole, from whichever member has it beside both sides.
  pub brings : (parts : List Part) (r : RingPart) (i j : ℕ) → One (λ x. x ≡ r) rings → r.inside i ≡ true →
      ((w : Way) → IsBeside w i f (handlings ts)) → IsWholeWay net routes rings f ts r i parts j → IsBroughtTo j f (handlings ts)
  brings [] r i j here inside beside same =
      inl (subst (λ k. HasIt k f (handlings ts)) same (beside_had onward i f (handlings ts) (quiet r here).consistent (beside onward)))
  brings (round w m k ∷ parts) r i j here inside beside whole =
      elim (arc net routes bars r ts (quiet r here) f k sent w m i inside (beside w) whole.0) [
        | inr last ↦ inr (last.0, last.1, at_last last.0 last.2)
        | inl had ↦
            elim (on_from r k w here (arrived w m i inside whole.0) had) [
              | inl only ↦ inr (k, only.0, only.1)
              | inr sides ↦ brings parts r k j here (arrived w m i inside whole.0) sides whole.1
            ]
      ]
    where
      at_last : (k : ℕ) → CameRound routes w k f (handlings ts) → (p : Port) × (is_at H p ≡ false) × CameIn k p f (handlings ts)
      at_last k (inl (p, side, came)) = (p, not_host p side, came)
      at_last k (inr linked) = (C, refl, linked.1)

      arrived : (w : Way) (m i : ℕ) → r.inside i ≡ true → IsWhole net r f ts w i m k → r.inside k ≡ true
      arrived w zero i inside whole = subst (λ x. r.inside x ≡ true) whole.1 ((quiet r here).part.closed w i inside)
      arrived w (suc m) i inside whole = arrived w m (r.beyond w i) ((quiet r here).part.closed w i inside) whole.1
  brings (over next k ∷ parts) r i j here inside beside whole =
      elim (cases_Bool (is_only i f.dest)) [
        | inl only ↦ at_end only (beside_had onward i f (handlings ts) (quiet r here).consistent (beside onward))
        | inr other ↦
            let step = whole.0 in
            elim (cross net routes bars next ts onward i k f (quiet next step.part) step.inside step.joined step.box step.other sent other
            (at_box r i onward step.box other (beside_had onward i f (handlings ts) (quiet r here).consistent (beside onward))) step.link) [
              | inl last ↦ inr (k, last.0, last.1)
              | inr sides ↦ brings parts next k j step.part step.inside sides whole.1
            ]
      ]
    where
      at_end : is_only i f.dest ≡ true → HasIt i f (handlings ts) → IsBroughtTo j f (handlings ts)
      at_end only (inl source) = absurd (true≢false (sym only ∙ ap (λ k. is_only k f.dest) source ∙ away))
      at_end only (inr came) = inr (i, only, came)

-- two rings: the left one
left_members : (s : TwoShape) (k : ℕ) → is_left s k ≡ true → k < s.left
left_members s k inside = ltb-true k s.left inside

right_members : (s : TwoShape) (k : ℕ) → is_right s k ≡ true → (s.left ≤ k) × (k < s.left + s.right)
right_members s k inside =
    let parts = and_parts (not (nat_lt k s.left)) (nat_lt k (s.left + s.right)) inside in
    (ltb-false k s.left (not-true (nat_lt k s.left) parts.0), ltb-true k (s.left + s.right) parts.1)

one_shifted : (n : ℕ) (P : Hop → Type 0) (hs : List Hop) → One P (map (shifted n) hs) → One (λ h. P (shifted n h)) hs
one_shifted n P [] o = absurd o
one_shifted n P (h ∷ hs) (inl p) = inl p
one_shifted n P (h ∷ hs) (inr o) = inr (one_shifted n P hs o)

shift_one : (n : ℕ) (P Q : Hop → Type 0) → ((h : Hop) → Q h → P (shifted n h)) → (hs : List Hop) → One Q hs → One P (map (shifted n) hs)
shift_one n P Q to [] o = absurd o
shift_one n P Q to (h ∷ hs) (inl q) = inl (to h q)
shift_one n P Q to (h ∷ hs) (inr o) = inr (shift_one n P Q to hs o)

no_shift : (n i : ℕ) (q : Port) (hs : List Hop) → i < n → One (λ h. (shifted n h).to ≡ record { node = i; port = q }) hs → ⊥
no_shift n i q [] less o = o
no_shift n i q (h ∷ hs) less (inl is) = let same : n + h.to.node ≡ i = ap (λ t. t.node) is in omega (arith, same, less)
no_shift n i q (h ∷ hs) less (inr o) = no_shift n i q hs less o

back_shift : (n i : ℕ) (q : Port) (hs : List Hop) → One (λ h. (shifted n h).to ≡ record { node = i; port = q }) hs →
    One (λ h. h.to ≡ record { node = i - n; port = q }) hs
back_shift n i q [] o = o
back_shift n i q (h ∷ hs) (inl is) =
    let same : n + h.to.node ≡ i = ap (λ t. t.node) is in
    let node : h.to.node ≡ i - n = omega (arith, same) in
    let port : h.to.port ≡ q = ap (λ t. t.port) is in
    inl (λ j. record { node = node j; port = port j })
back_shift n i q (h ∷ hs) (inr o) = inr (back_shift n i q hs o)

no_over : (w : Way) (i link : ℕ) (js : List (ℕ × ℕ)) (k : ℕ) → One (λ h. h.to ≡ record { node = i; port = out_of w }) (over_hops link js k) → ⊥
no_over w i link [] k o = o
no_over w i link (j ∷ js) k o =
    elim (cases_Bool (k == j.0)) [
      | inl a ↦ one_only w j.1 (rw a at o)
      | inr not_a ↦
          elim (cases_Bool (k == j.1)) [
            | inl b ↦ one_only w j.0 (rw (not_a, b) at o)
            | inr not_b ↦ no_over w i (link + 1) js k (rw (not_a, not_b) at o)
          ]
    ]
  where
    no_port : (w : Way) (m : ℕ) → interlink_of m ≡ record { node = i; port = out_of w } → ⊥
    no_port onward m e = let no : C ≡ B = ap (λ t. t.port) e in cc
    no_port backward m e = let no : C ≡ A = ap (λ t. t.port) e in cc

    one_only : (w : Way) (m : ℕ) → One (λ (h : Hop). h.to ≡ record { node = i; port = out_of w }) (record { to = interlink_of m; links = link ∷ [] } ∷ []) → ⊥
    one_only w m (inl is) = no_port w m is
    one_only w m (inr none) = none

left_feeds : (s : TwoShape) (w : Way) (i u : ℕ) (o : Port) → is_left s i ≡ true →
    One (λ h. h.to ≡ record { node = i; port = out_of w }) (two_rings s u o) → (u ≡ beyond s.left w i) × (o ≡ in_to w)
left_feeds s w i u H inside there = absurd there
left_feeds s w i u A inside there =
    elim (cases_Bool (is_left s u)) [
      | inl here ↦ (ring_round s.left).feeds w i u A inside here (rw here at there)
      | inr away ↦ absurd (no_shift s.left i (out_of w) (ring s.right (u - s.left) A) (left_members s i inside)
          (one_shifted s.left (λ h. h.to ≡ record { node = i; port = out_of w }) (ring s.right (u - s.left) A) (rw away at there)))
    ]
left_feeds s w i u B inside there =
    elim (cases_Bool (is_left s u)) [
      | inl here ↦ (ring_round s.left).feeds w i u B inside here (rw here at there)
      | inr away ↦ absurd (no_shift s.left i (out_of w) (ring s.right (u - s.left) B) (left_members s i inside)
          (one_shifted s.left (λ h. h.to ≡ record { node = i; port = out_of w }) (ring s.right (u - s.left) B) (rw away at there)))
    ]
left_feeds s w i u C inside there = absurd (no_over w i (s.left + s.right) s.joins u there)

left_part : (s : TwoShape) → IsRingPart (two_rings s) (left_ring s)
left_part s = record {
  closed = (ring_round s.left).closed;
  leads = λ w k inside. leads w k inside;
  feeds = λ w i u o inside member there. left_feeds s w i u o inside there;
}
  where
    leads : (w : Way) (k : ℕ) → is_left s k ≡ true → One (λ h. h.to ≡ record { node = beyond s.left w k; port = in_to w }) (two_rings s k (out_of w))
    leads onward k inside = rw inside ((ring_round s.left).leads onward k inside)
    leads backward k inside = rw inside ((ring_round s.left).leads backward k inside)

not_left : (s : TwoShape) (k : ℕ) → is_right s k ≡ true → is_left s k ≡ false
not_left s k inside = le-ltb k s.left (right_members s k inside).0

right_at : (s : TwoShape) (k : ℕ) → is_right s k ≡ true → nat_lt (k - s.left) s.right ≡ true
right_at s k inside = let r = right_members s k inside in lt-ltb (k - s.left) s.right (omega (arith, r.0, r.1))

is_right_at : (s : TwoShape) (m : ℕ) → nat_lt m s.right ≡ true → is_right s (s.left + m) ≡ true
is_right_at s m less =
    let low : m < s.right = ltb-true m s.right less in
    and_from _ _ (ap not (le-ltb (s.left + m) s.left (omega arith))) (lt-ltb (s.left + m) (s.left + s.right) (omega (arith, low)))

right_feeds : (s : TwoShape) (w : Way) (i u : ℕ) (o : Port) → is_right s i ≡ true → nat_lt u (all_members s) ≡ true →
    One (λ h. h.to ≡ record { node = i; port = out_of w }) (two_rings s u o) → (u ≡ s.left + beyond s.right w (i - s.left)) × (o ≡ in_to w)
right_feeds s w i u o inside member there = by o there
  where
    low : s.left ≤ i
    low = (right_members s i inside).0

    in_left : (v : Way) (q : Port) → is_left s u ≡ true → (beyond s.left v u ≡ i) → ⊥
    in_left v q here same =
        let less : beyond s.left v u < s.left = ltb-true (beyond s.left v u) s.left ((ring_round s.left).closed v u here) in
        let l = low in
        omega (arith, same, less, l)

    from_right : (q : Port) → is_left s u ≡ false → One (λ h. h.to ≡ record { node = i - s.left; port = out_of w }) (ring s.right (u - s.left) q) →
        (u ≡ s.left + beyond s.right w (i - s.left)) × (q ≡ in_to w)
    from_right q away there =
        let above : s.left ≤ u = ltb-false u s.left away in
        let below : u < s.left + s.right = ltb-true u (s.left + s.right) member in
        let at : nat_lt (u - s.left) s.right ≡ true = lt-ltb (u - s.left) s.right (omega (arith, above, below)) in
        let is = (ring_round s.right).feeds w (i - s.left) (u - s.left) q (right_at s i inside) at there in
        let node = is.0 in
        (omega (arith, above, node), is.1)

    by : (o : Port) → One (λ h. h.to ≡ record { node = i; port = out_of w }) (two_rings s u o) →
        (u ≡ s.left + beyond s.right w (i - s.left)) × (o ≡ in_to w)
    by H there = absurd there
    by A there =
        elim (cases_Bool (is_left s u)) [
          | inl here ↦ absurd (at_a here (rw here at there))
          | inr away ↦ from_right A away (back_shift s.left i (out_of w) (ring s.right (u - s.left) A)
              (one_shifted s.left (λ h. h.to ≡ record { node = i; port = out_of w }) (ring s.right (u - s.left) A) (rw away at there)))
        ]
      where
        at_a : is_left s u ≡ true → One (λ h. h.to ≡ record { node = i; port = out_of w }) (ring s.left u A) → ⊥
        at_a here (inl is) = in_left backward A here (ap (λ t. t.node) is)
        at_a here (inr none) = none
    by B there =
        elim (cases_Bool (is_left s u)) [
          | inl here ↦ absurd (at_b here (rw here at there))
          | inr away ↦ from_right B away (back_shift s.left i (out_of w) (ring s.right (u - s.left) B)
              (one_shifted s.left (λ h. h.to ≡ record { node = i; port = out_of w }) (ring s.right (u - s.left) B) (rw away at there)))
        ]
      where
        at_b : is_left s u ≡ true → One (λ h. h.to ≡ record { node = i; port = out_of w }) (ring s.left u B) → ⊥
        at_b here (inl is) = in_left onward B here (ap (λ t. t.node) is)
        at_b here (inr none) = none
    by C there = absurd (no_over w i (s.left + s.right) s.joins u there)

right_part : (s : TwoShape) → IsRingPart (two_rings s) (right_ring s)
right_part s = record {
  closed = λ w k inside. is_right_at s (beyond s.right w (k - s.left)) ((ring_round s.right).closed w (k - s.left) (right_at s k inside));
  leads = λ w k inside. leads w k inside;
  feeds = λ w i u o inside member there. right_feeds s w i u o inside member there;
}
  where
    moved : (w : Way) (k : ℕ) (h : Hop) → h.to ≡ record { node = beyond s.right w (k - s.left); port = in_to w } →
        (shifted s.left h).to ≡ record { node = s.left + beyond s.right w (k - s.left); port = in_to w }
    moved w k h is = ap (λ t. record { node = s.left + t.node; port = t.port }) is

    leads : (w : Way) (k : ℕ) → is_right s k ≡ true →
        One (λ h. h.to ≡ record { node = s.left + beyond s.right w (k - s.left); port = in_to w }) (two_rings s k (out_of w))
    leads onward k inside = rw (not_left s k inside)
        (shift_one s.left (λ h. h.to ≡ record { node = s.left + beyond s.right onward (k - s.left); port = A }) (λ h. h.to ≡ record { node = beyond s.right onward (k - s.left); port = A }) (moved onward k)
        (ring s.right (k - s.left) B) ((ring_round s.right).leads onward (k - s.left) (right_at s k inside)))
    leads backward k inside = rw (not_left s k inside)
        (shift_one s.left (λ h. h.to ≡ record { node = s.left + beyond s.right backward (k - s.left); port = B }) (λ h. h.to ≡ record { node = beyond s.right backward (k - s.left); port = B }) (moved backward k)
        (ring s.right (k - s.left) A) ((ring_round s.right).leads backward (k - s.left) (right_at s k inside)))

-- their members send round
sends : (s : TwoShape) (r : RingPart) → SendsRound (two_rings_routes s) r
sends s r = record { out = out; on = passes; back = back }
  where
    own : (k : ℕ) → nat_lt k (suc k) ≡ true
    own k = lt-ltb k (suc k) (omega arith)

    out : (k : ℕ) (f : Frame) (w : Way) → r.inside k ≡ true → two_rings_routes s k f H (out_of w) ≡ true
    out k f w inside =
        elim (cases_Bool (is_joined s.joins k)) [
          | inl box ↦ rw box ((box_sends_round r).out k f w inside)
          | inr not_box ↦ rw not_box ((danh_round (suc k)).out k f w (own k))
        ]

    passes : (k : ℕ) (f : Frame) (w : Way) → r.inside k ≡ true → is_only k f.dest ≡ false → two_rings_routes s k f (in_to w) (out_of w) ≡ true
    passes k f w inside other =
        elim (cases_Bool (is_joined s.joins k)) [
          | inl box ↦ rw box ((box_sends_round r).on k f w inside other)
          | inr not_box ↦ rw not_box ((danh_round (suc k)).on k f w (own k) other)
        ]

    back : (k : ℕ) (f : Frame) (p : Port) (w : Way) → r.inside k ≡ true → two_rings_routes s k f p (in_to w) ≡ true →
        (p ≡ H) ⊎ ((p ≡ out_of w) ⊎ ((p ≡ C) × (two_rings_routes s k f C (out_of w) ≡ true)))
    back k f p w inside wants =
        elim (cases_Bool (is_joined s.joins k)) [
          | inl box ↦
              elim ((box_sends_round r).back k f p w inside (rw box at wants)) [
                | inl host ↦ inl host
                | inr (inl side) ↦ inr (inl side)
                | inr (inr linked) ↦ inr (inr (linked.0, rw box linked.1))
              ]
          | inr not_box ↦
              elim ((danh_round (suc k)).back k f p w (own k) (rw not_box at wants)) [
                | inl host ↦ inl host
                | inr (inl side) ↦ inr (inl side)
                | inr (inr linked) ↦ let no_link : false ≡ true = linked.1 in absurd (true≢false (sym no_link))
              ]
        ]

sends_both : (s : TwoShape) (r : RingPart) → SendsBoth (two_rings_routes s) r
sends_both s r k f w v inside wants =
    elim (cases_Bool (is_joined s.joins k)) [
      | inl box ↦ rw box (same w v (rw box at wants))
      | inr not_box ↦ let no_link : false ≡ true = rw not_box at wants in absurd (true≢false (sym no_link))
    ]
  where
    same : (w v : Way) → box_routes k f C (out_of w) ≡ true → box_routes k f C (out_of v) ≡ true
    same onward onward e = e
    same onward backward e = e
    same backward onward e = e
    same backward backward e = e

-- up to hosts
box_up : IsUpward box_routes
box_up k f H e = cc
box_up k f A e = let both = and_parts (not f.supervision) (is_for k f.dest) e in (refl, not-true f.supervision both.0, both.1)
box_up k f B e = let both = and_parts (not f.supervision) (is_for k f.dest) e in (refl, not-true f.supervision both.0, both.1)
box_up k f C e = let both = and_parts (not f.supervision) (is_for k f.dest) e in (refl, not-true f.supervision both.0, both.1)

upward : (s : TwoShape) → IsUpward (two_rings_routes s)
upward s k f p e =
    elim (cases_Bool (is_joined s.joins k)) [
      | inl box ↦ box_up k f p (rw box at e)
      | inr not_box ↦ danh_up k f p (rw not_box at e)
    ]

wants_up : (s : TwoShape) (k : ℕ) (f : Frame) (p : Port) → (is_side p ≡ true) ⊎ ((p ≡ C) × (is_joined s.joins k ≡ true)) →
    f.supervision ≡ false → is_for k f.dest ≡ true → two_rings_routes s k f p H ≡ true
wants_up s k f p from host for =
    elim (cases_Bool (is_joined s.joins k)) [
      | inl box ↦ rw box (at_box p from)
      | inr not_box ↦ rw not_box (at_danh not_box p from)
    ]
  where
    both : (not f.supervision && is_for k f.dest) ≡ true
    both = and_from _ _ (ap not host) for

    at_box : (p : Port) → (is_side p ≡ true) ⊎ ((p ≡ C) × (is_joined s.joins k ≡ true)) → box_routes k f p H ≡ true
    at_box A from = both
    at_box B from = both
    at_box C from = both
    at_box H (inl e) = cc
    at_box H (inr e) = let no : H ≡ C = e.0 in cc

    at_danh : is_joined s.joins k ≡ false → (p : Port) → (is_side p ≡ true) ⊎ ((p ≡ C) × (is_joined s.joins k ≡ true)) → danh_routes k f p H ≡ true
    at_danh not_box A from = both
    at_danh not_box B from = both
    at_danh not_box H (inl e) = cc
    at_danh not_box H (inr e) = let no : H ≡ C = e.0 in cc
    at_danh not_box C (inl e) = cc
    at_danh not_box C (inr e) = absurd (true≢false (sym e.1 ∙ not_box))

-- only boxes are joined
over_is_joined : (link : ℕ) (js : List (ℕ × ℕ)) (u k : ℕ) → One (λ h. h.to ≡ interlink_of k) (over_hops link js u) → is_joined js k ≡ true
over_is_joined link [] u k o = absurd o
over_is_joined link (j ∷ js) u k o =
    elim (cases_Bool (u == j.0)) [
      | inl a ↦ or_left _ (is_joined js k) (or_right (k == j.0) (k == j.1) (to_box j.1 (rw a at o)))
      | inr not_a ↦
          elim (cases_Bool (u == j.1)) [
            | inl b ↦ or_left _ (is_joined js k) (or_left (k == j.0) (k == j.1) (to_box j.0 (rw (not_a, b) at o)))
            | inr not_b ↦ or_right _ (is_joined js k) (over_is_joined (link + 1) js u k (rw (not_a, not_b) at o))
          ]
    ]
  where
    to_box : (m : ℕ) → One (λ (h : Hop). h.to ≡ interlink_of k) (record { to = interlink_of m; links = link ∷ [] } ∷ []) → (k == m) ≡ true
    to_box m (inl is) = eq-eqb k m (sym (ap (λ t. t.node) is))
    to_box m (inr none) = absurd none

joined_by : (s : TwoShape) (u k : ℕ) (o : Port) → One (λ h. h.to ≡ interlink_of k) (two_rings s u o) → is_joined s.joins k ≡ true
joined_by s u k H there = absurd there
joined_by s u k A there =
    elim (cases_Bool (is_left s u)) [
      | inl here ↦ absurd (no_side (rw here at there))
      | inr away ↦ absurd (no_side_right (one_shifted s.left (λ h. h.to ≡ interlink_of k) (ring s.right (u - s.left) A) (rw away at there)))
    ]
  where
    no_side : One (λ h. h.to ≡ interlink_of k) (ring s.left u A) → ⊥
    no_side (inl is) = let no : B ≡ C = ap (λ t. t.port) is in absurd cc
    no_side (inr none) = none

    no_side_right : One (λ h. (shifted s.left h).to ≡ interlink_of k) (ring s.right (u - s.left) A) → ⊥
    no_side_right (inl is) = let no : B ≡ C = ap (λ t. t.port) is in absurd cc
    no_side_right (inr none) = none
joined_by s u k B there =
    elim (cases_Bool (is_left s u)) [
      | inl here ↦ absurd (no_side (rw here at there))
      | inr away ↦ absurd (no_side_right (one_shifted s.left (λ h. h.to ≡ interlink_of k) (ring s.right (u - s.left) B) (rw away at there)))
    ]
  where
    no_side : One (λ h. h.to ≡ interlink_of k) (ring s.left u B) → ⊥
    no_side (inl is) = let no : A ≡ C = ap (λ t. t.port) is in absurd cc
    no_side (inr none) = none

    no_side_right : One (λ h. (shifted s.left h).to ≡ interlink_of k) (ring s.right (u - s.left) B) → ⊥
    no_side_right (inl is) = let no : A ≡ C = ap (λ t. t.port) is in absurd cc
    no_side_right (inr none) = none
joined_by s u k C there = over_is_joined (s.left + s.right) s.joins u k there

pub two_rings_hand_up_the_ideal : TwoRingsHandUpTheIdeal
two_rings_hand_up_the_ideal s es p r =
    hands_up_ideal (two_rings_routes s) (done_in es) (upward s) (consistent_in (two_rings s) es p r.run) r.routed r.sound

module _ (s : TwoShape) (bars : Bars) (es : History) (p : Plant) (r : TwoRingsRun s es p) (exact : AreExact bars (done_in es)) (empty : IsQuiet p) where
  quiet_part : (part : RingPart) → IsRingPart (two_rings s) part → ((k : ℕ) → part.all k ≡ nat_lt k (all_members s)) →
      IsQuietRing (two_rings s) (two_rings_routes s) bars part (turns es)
  quiet_part part is all = record {
    part = is;
    sends = sends s part;
    run = subst (λ v. LedgerRun (two_rings s) (turns es) v) empty (run_of (two_rings s) es p r.run);
    consistent = consistent_in (two_rings s) es p r.run;
    members = each_map (λ d. d.node < all_members s) (λ d. part.all d.node ≡ true) (λ d less. all d.node ∙ lt-ltb d.node (all_members s) less)
        (done_in es) r.members;
    routed = r.routed;
    sound = r.sound;
    exact = exact.exact;
  }

  quiet_rings : (x : RingPart) → One (λ y. y ≡ x) (rings_of s) → IsQuietRing (two_rings s) (two_rings_routes s) bars x (turns es)
  quiet_rings x (inl is) = subst (λ y. IsQuietRing (two_rings s) (two_rings_routes s) bars y (turns es)) is (quiet_part (left_ring s) (left_part s) (λ k. refl))
  quiet_rings x (inr (inl is)) =
      subst (λ y. IsQuietRing (two_rings s) (two_rings_routes s) bars y (turns es)) is (quiet_part (right_ring s) (right_part s) (λ k. refl))
  quiet_rings x (inr (inr none)) = absurd none

  up : (j : ℕ) (f : Frame) → IsIdeal j f (done_in es) → (q : Port) → is_at H q ≡ false → CameIn j q f (done_in es) → IsHanded j f (done_in es)
  up j f ideal q outside came =
      elim (goes bars (done_in es) j H f (consistent_in (two_rings s) es p r.run) (exact.exact j)
      (claimed bars (two_rings_routes s) (done_in es) j q H f r.routed (wants_up s j f q (from q outside came) ideal.host ideal.for) came)) [
        | inl put ↦ handed_up (done_in es) j f put
        | inr barred ↦ absurd (true≢false (sym barred.0 ∙ exact.host j))
      ]
    where
      no_sending : (ds : List Handling) → One (λ d. (is_sending d ≡ true) × ComesIn j C f d) ds → ⊥
      no_sending [] o = o
      no_sending (d ∷ ds) (inl h) = true≢false (sym h.0 ∙ ap (is_at H) h.1.1)
      no_sending (d ∷ ds) (inr o) = no_sending ds o

      joined : CameIn j C f (done_in es) → is_joined s.joins j ≡ true
      joined came =
          elim (fed (two_rings s) (turns es) [] j C f (quiet_part (left_ring s) (left_part s) (λ k. refl)).run came) [
            | inr sends ↦ absurd (no_sending (done_in es) sends)
            | inl from ↦ joined_by s from.node j from.outlet from.leads
          ]

      from : (q : Port) → is_at H q ≡ false → CameIn j q f (done_in es) → (is_side q ≡ true) ⊎ ((q ≡ C) × (is_joined s.joins j ≡ true))
      from H outside came = absurd (true≢false outside)
      from A outside came = inl refl
      from B outside came = inl refl
      from C outside came = inr (refl, joined came)

  pub nothing_lost : LosesNothingOverRings s es
  nothing_lost f j ideal (part, here, inside, (parts, whole)) =
      elim (cases_Bool (is_only f.src f.dest)) [
        | inl self ↦ absurd (true≢false (sym (eq-eqb j f.src (sym (only_one f.src j f.dest self ideal.for))) ∙ ideal.other))
        | inr away ↦
            elim (brings (two_rings s) (two_rings_routes s) bars (rings_of s) (turns es) quiet_rings (λ x there. sends_both s x) f ideal.sent away parts part
            f.src j here inside
            (λ w. at_source (two_rings s) (two_rings_routes s) bars part (turns es) f w f.src (quiet_rings part here) inside ideal.sent refl) whole) [
              | inl (inl source) ↦ absurd (true≢false (sym (eq-eqb j f.src source) ∙ ideal.other))
              | inl (inr came) ↦ up j f ideal came.0 came.1 came.2
              | inr (k, only, (q, outside, came)) ↦
                  up j f ideal q outside (subst (λ m. CameIn m q f (done_in es)) (only_one k j f.dest only ideal.for) came)
            ]
      ]

pub two_rings_lose_nothing : TwoRingsLoseNothing
two_rings_lose_nothing s mac x ws lanes es p h =
    let r = h.happened in
    let consistent = consistent_in (two_rings s) es p r.run in
    let within = of_members (all_members s) (done_in es) consistent r.members in
    let steady = members_are_steady (all_members s) mac ws (done_in es) h.tables.widths h.tables.addressed within consistent h.limits in
    let exact : AreExact (bars_of x) (done_in es) =
    record {
      host = λ k. refl;
      exact = members_are_exact (all_members s) mac x ws lanes (done_in es) (members_of (all_members s) mac x ws lanes (two_rings s) es p r.run h.tables)
          r.members consistent (λ k. (steady k).0);
    } in (
      λ j. hands_up_once (bars_of x) (done_in es) j (exact.exact j),
      λ empty. (
        nothing_lost s (bars_of x) es p r exact empty,
        λ j whole. exactly_ideal es (two_rings_hand_up_the_ideal s es p r) j
            (λ f ideal. nothing_lost s (bars_of x) es p r exact empty f j ideal (whole f ideal)),
      ),
    )

-- of the joins of a plant
Join : ℕ → ℕ → ℕ × ℕ → Type 0
Join a b j = j ≡ (a, b)

in_joins : (a b : ℕ) (js : List (ℕ × ℕ)) → One (λ j. j ≡ (a, b)) js → (is_joined js a ≡ true) × (is_joined js b ≡ true)
in_joins a b [] o = absurd o
in_joins a b (j ∷ js) (inl is) =
    let left : (a == j.0) ≡ true = eq-eqb a j.0 (sym (ap (λ (x : ℕ × ℕ). x.0) is)) in
    let right : (b == j.1) ≡ true = eq-eqb b j.1 (sym (ap (λ (x : ℕ × ℕ). x.1) is)) in (
      or_left _ (is_joined js a) (or_left (a == j.0) (a == j.1) left),
      or_left _ (is_joined js b) (or_right (b == j.0) (b == j.1) right),
    )
in_joins a b (j ∷ js) (inr o) = let rest = in_joins a b js o in (or_right _ (is_joined js a) rest.0, or_right _ (is_joined js b) rest.1)

clash : (js : List (ℕ × ℕ)) (k m : ℕ) → is_joined js m ≡ false → is_joined js k ≡ true → k ≡ m → ⊥
clash js k m none some same = true≢false (sym (ap (is_joined js) (sym same) ∙ some) ∙ none)

-- from the left box to the right one, and back
leads_right : (s : TwoShape) (link : ℕ) (a b : ℕ) (js : List (ℕ × ℕ)) → AreJoins s js → One (λ j. j ≡ (a, b)) js →
    One (λ h. h.to ≡ interlink_of b) (over_hops link js a)
leads_right s link a b [] joins o = absurd o
leads_right s link a b (j ∷ js) joins (inl is) =
    let left : (a == j.0) ≡ true = eq-eqb a j.0 (sym (ap (λ (x : ℕ × ℕ). x.0) is)) in
    rw left (inl (ap (λ (x : ℕ × ℕ). interlink_of x.1) is))
leads_right s link a b (j ∷ js) joins (inr o) =
    let there = (in_joins a b js o).0 in
    rw (ne_eqb a j.0 (clash js a j.0 joins.3 there), ne_eqb a j.1 (clash js a j.1 joins.4 there))
    (leads_right s (link + 1) a b js joins.5 o)

leads_left : (s : TwoShape) (link : ℕ) (a b : ℕ) (js : List (ℕ × ℕ)) → AreJoins s js → One (λ j. j ≡ (a, b)) js →
    One (λ h. h.to ≡ interlink_of a) (over_hops link js b)
leads_left s link a b [] joins o = absurd o
leads_left s link a b (j ∷ js) joins (inl is) =
    let one : j.0 ≡ a = ap (λ (x : ℕ × ℕ). x.0) is in
    let two : j.1 ≡ b = ap (λ (x : ℕ × ℕ). x.1) is in
    let low = joins.0 in
    let high = joins.1 in
    rw (ne_eqb b j.0 (λ e. omega (arith, one, two, low, high, e)), eq-eqb b j.1 (sym two)) (inl (ap interlink_of one))
leads_left s link a b (j ∷ js) joins (inr o) =
    let there = (in_joins a b js o).1 in
    rw (ne_eqb b j.0 (clash js b j.0 joins.3 there), ne_eqb b j.1 (clash js b j.1 joins.4 there))
    (leads_left s (link + 1) a b js joins.5 o)

one_interlink : (link k m : ℕ) → One (λ (h : Hop). h.to ≡ interlink_of k) (record { to = interlink_of m; links = link ∷ [] } ∷ []) → m ≡ k
one_interlink link k m (inl is) = ap (λ t. t.node) is
one_interlink link k m (inr none) = absurd none

-- nothing else leads there
only_left : (s : TwoShape) (link : ℕ) (a b u : ℕ) (js : List (ℕ × ℕ)) → AreJoins s js → One (λ j. j ≡ (a, b)) js →
    One (λ h. h.to ≡ interlink_of a) (over_hops link js u) → u ≡ b
only_left s link a b u [] joins o there = absurd o
only_left s link a b u (j ∷ js) joins o there =
    elim (cases_Bool (u == j.0)) [
      | inl first ↦ absurd (no_first o (one_interlink link a j.1 (rw first at there)))
      | inr not_first ↦
          elim (cases_Bool (u == j.1)) [
            | inl second ↦ by_second o (eqb-true u j.1 second) (one_interlink link a j.0 (rw (not_first, second) at there))
            | inr not_second ↦ further (λ x y. only_left s (link + 1) a b u js joins.5 x y) o (rw (not_first, not_second) at there)
          ]
    ]
  where
    no_first : One (λ x. x ≡ (a, b)) (j ∷ js) → j.1 ≡ a → ⊥
    no_first (inl is) same =
        let one : j.0 ≡ a = ap (λ (x : ℕ × ℕ). x.0) is in
        let low = joins.0 in
        let high = joins.1 in
        omega (arith, one, same, low, high)
    no_first (inr o) same = clash js a j.1 joins.4 (in_joins a b js o).0 (sym same)

    by_second : One (λ x. x ≡ (a, b)) (j ∷ js) → u ≡ j.1 → j.0 ≡ a → u ≡ b
    by_second (inl is) at same = at ∙ ap (λ (x : ℕ × ℕ). x.1) is
    by_second (inr o) at same = absurd (clash js a j.0 joins.3 (in_joins a b js o).0 (sym same))

    further : (One (λ x. x ≡ (a, b)) js → One (λ h. h.to ≡ interlink_of a) (over_hops (link + 1) js u) → u ≡ b) →
        One (λ x. x ≡ (a, b)) (j ∷ js) → One (λ h. h.to ≡ interlink_of a) (over_hops (link + 1) js u) → u ≡ b
    further again (inl is) there = absurd (clash js a j.0 joins.3 (over_is_joined (link + 1) js u a there) (sym (ap (λ (x : ℕ × ℕ). x.0) is)))
    further again (inr o) there = again o there

only_right : (s : TwoShape) (link : ℕ) (a b u : ℕ) (js : List (ℕ × ℕ)) → AreJoins s js → One (λ j. j ≡ (a, b)) js →
    One (λ h. h.to ≡ interlink_of b) (over_hops link js u) → u ≡ a
only_right s link a b u [] joins o there = absurd o
only_right s link a b u (j ∷ js) joins o there =
    elim (cases_Bool (u == j.0)) [
      | inl first ↦ by_first o (eqb-true u j.0 first) (one_interlink link b j.1 (rw first at there))
      | inr not_first ↦
          elim (cases_Bool (u == j.1)) [
            | inl second ↦ absurd (no_second o (one_interlink link b j.0 (rw (not_first, second) at there)))
            | inr not_second ↦ further (λ x y. only_right s (link + 1) a b u js joins.5 x y) o (rw (not_first, not_second) at there)
          ]
    ]
  where
    no_second : One (λ x. x ≡ (a, b)) (j ∷ js) → j.0 ≡ b → ⊥
    no_second (inl is) same =
        let two : j.1 ≡ b = ap (λ (x : ℕ × ℕ). x.1) is in
        let low = joins.0 in
        let high = joins.1 in
        omega (arith, two, same, low, high)
    no_second (inr o) same = clash js b j.0 joins.3 (in_joins a b js o).1 (sym same)

    by_first : One (λ x. x ≡ (a, b)) (j ∷ js) → u ≡ j.0 → j.1 ≡ b → u ≡ a
    by_first (inl is) at same = at ∙ ap (λ (x : ℕ × ℕ). x.0) is
    by_first (inr o) at same = absurd (clash js b j.1 joins.4 (in_joins a b js o).1 (sym same))

    further : (One (λ x. x ≡ (a, b)) js → One (λ h. h.to ≡ interlink_of b) (over_hops (link + 1) js u) → u ≡ a) →
        One (λ x. x ≡ (a, b)) (j ∷ js) → One (λ h. h.to ≡ interlink_of b) (over_hops (link + 1) js u) → u ≡ a
    further again (inl is) there = absurd (clash js b j.1 joins.4 (over_is_joined (link + 1) js u b there) (sym (ap (λ (x : ℕ × ℕ). x.1) is)))
    further again (inr o) there = again o there

-- an interlink is fed by an interlink
fed_at_link : (s : TwoShape) (u k : ℕ) (o : Port) → One (λ h. h.to ≡ interlink_of k) (two_rings s u o) → o ≡ C
fed_at_link s u k H there = absurd there
fed_at_link s u k C there = refl
fed_at_link s u k A there =
    elim (cases_Bool (is_left s u)) [
      | inl here ↦ no_side (rw here at there)
      | inr away ↦ no_side_right (one_shifted s.left (λ h. h.to ≡ interlink_of k) (ring s.right (u - s.left) A) (rw away at there))
    ]
  where
    no_side : One (λ h. h.to ≡ interlink_of k) (ring s.left u A) → A ≡ C
    no_side (inl is) = let no : B ≡ C = ap (λ t. t.port) is in cc
    no_side (inr none) = absurd none

    no_side_right : One (λ h. (shifted s.left h).to ≡ interlink_of k) (ring s.right (u - s.left) A) → A ≡ C
    no_side_right (inl is) = let no : B ≡ C = ap (λ t. t.port) is in cc
    no_side_right (inr none) = absurd none
fed_at_link s u k B there =
    elim (cases_Bool (is_left s u)) [
      | inl here ↦ no_side (rw here at there)
      | inr away ↦ no_side_right (one_shifted s.left (λ h. h.to ≡ interlink_of k) (ring s.right (u - s.left) B) (rw away at there))
    ]
  where
    no_side : One (λ h. h.to ≡ interlink_of k) (ring s.left u B) → B ≡ C
    no_side (inl is) = let no : A ≡ C = ap (λ t. t.port) is in cc
    no_side (inr none) = absurd none

    no_side_right : One (λ h. (shifted s.left h).to ≡ interlink_of k) (ring s.right (u - s.left) B) → B ≡ C
    no_side_right (inl is) = let no : A ≡ C = ap (λ t. t.port) is in cc
    no_side_right (inr none) = absurd none

joined_sends : (s : TwoShape) (k : ℕ) → is_joined s.joins k ≡ true → SendsOver (two_rings_routes s) k
joined_sends s k box = record {
  host = λ f. rw box ((box_sends_over k).host f);
  over = λ f p side other. rw box ((box_sends_over k).over f p side other);
  out = λ f w other. rw box ((box_sends_over k).out f w other);
  back = λ f p wants. (box_sends_over k).back f p (rw box at wants);
}

inside_both : (s : TwoShape) (a b : ℕ) (js : List (ℕ × ℕ)) → AreJoins s js → One (λ j. j ≡ (a, b)) js →
    (is_left s a ≡ true) × (is_right s b ≡ true)
inside_both s a b [] joins o = absurd o
inside_both s a b (j ∷ js) joins (inl is) =
    let one : j.0 ≡ a = ap (λ (x : ℕ × ℕ). x.0) is in
    let two : j.1 ≡ b = ap (λ (x : ℕ × ℕ). x.1) is in
    let low = joins.0 in
    let high = joins.1 in
    let far = joins.2 in (
      lt-ltb a s.left (omega (arith, one, low)),
      and_from _ _ (ap not (le-ltb b s.left (omega (arith, two, high)))) (lt-ltb b (s.left + s.right) (omega (arith, two, far))),
    )
inside_both s a b (j ∷ js) joins (inr o) = inside_both s a b js joins.5 o

pub joins_lead_over : JoinsLeadOver
joins_lead_over s f ts a b joins there =
    let boxes = in_joins a b s.joins there in
    let inside = inside_both s a b s.joins joins there in (
      λ open_link. record {
        joined = record {
          leads = leads_right s (s.left + s.right) a b s.joins joins there;
          feeds = λ u o member hop. feeds_left u o hop;
        };
        inside = inside.1;
        part = inr (inl refl);
        box = joined_sends s a boxes.0;
        other = joined_sends s b boxes.1;
        link = open_link;
      },
      λ open_link. record {
        joined = record {
          leads = leads_left s (s.left + s.right) a b s.joins joins there;
          feeds = λ u o member hop. feeds_right u o hop;
        };
        inside = inside.0;
        part = inl refl;
        box = joined_sends s b boxes.1;
        other = joined_sends s a boxes.0;
        link = open_link;
      },
    )
  where
    feeds_left : (u : ℕ) (o : Port) → One (λ h. h.to ≡ interlink_of a) (two_rings s u o) → (u ≡ b) × (o ≡ C)
    feeds_left u o hop =
        let at : o ≡ C = fed_at_link s u a o hop in
        (only_left s (s.left + s.right) a b u s.joins joins there (subst (λ q. One (λ h. h.to ≡ interlink_of a) (two_rings s u q)) at hop), at)

    feeds_right : (u : ℕ) (o : Port) → One (λ h. h.to ≡ interlink_of b) (two_rings s u o) → (u ≡ a) × (o ≡ C)
    feeds_right u o hop =
        let at : o ≡ C = fed_at_link s u b o hop in
        (only_right s (s.left + s.right) a b u s.joins joins there (subst (λ q. One (λ h. h.to ≡ interlink_of b) (two_rings s u q)) at hop), at)
