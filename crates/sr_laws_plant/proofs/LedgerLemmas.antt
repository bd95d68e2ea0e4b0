-- What was put out and not lost came in, once nothing is in flight.
use Rattle.std.proofs.Common.{◌≡◌, ℕ, ◌+◌, ◌<◌, ◌⊎◌, inl, inr, true, false, List, [], ◌∷◌, ◌++◌, map, arith, refl, sym, ap, ◌∙◌}
use Rattle.std.proofs.lemmas.Bool.{cases_lt, and_parts, and_from, eqb-true, eq-eqb}
use Rattle.std.specs.Prelude.{◌==◌, option_to_list}
use Rattle.sr_laws_plant.specs.Lists.{One}
use Rattle.sr_frame.specs.declared.ports.Port.{Port}
use Rattle.sr_frame.specs.declared.ports.Port.TheVariants.{H, A, B, C}
use Rattle.sr_laws_plant.specs.Ports.{is_at}
use Rattle.sr_laws_plant.specs.Frames.{Frame, same_pair}
use Rattle.sr_laws_plant.specs.Handlings.{Handling, IsSent, AreConsistent}
use Rattle.sr_laws_plant.specs.OneNode.{Puts, WasPut, ComesIn, CameIn}
use Rattle.sr_laws_plant.specs.Ledger.{Place, Hop, same_place, Copy, Net, copies_put, spread, spread_all, PlantTurn, handlings, counts}
use Rattle.sr_laws_plant.specs.Ledger.{count, made_in, lost_in, came_in, IsOpen, IsTakenBy, LedgerRun}
use Rattle.sr_laws_plant.specs.ListLemmas.{one_map, one_is, one_each, one_left, one_right, one_parts, count_append, counted, counts_one}
use Rattle.sr_laws_plant.proofs.FrameLemmas.{port_same, port_self, same_self, same_parts, one_frame, all_sent}

-- copies are in flight, lost, or came in
pub conserved : (net : Net) (ts : List PlantTurn) (v : List Copy) → LedgerRun net ts v → (q : Place) (f : Frame) →
    made_in net q f ts ≡ count q f v + lost_in q f ts + came_in q f ts
conserved net [] v run q f = rw run refl
conserved net (t ∷ ts) v run q f =
    let rest = conserved net ts run.0 run.1 q f in
    let now = run.2.balance q f in
    omega (arith, rest, now)

-- something of it came in
pub part : (net : Net) (ts : List PlantTurn) (q : Place) (f : Frame) → LedgerRun net ts [] → 0 < made_in net q f ts → IsOpen net f ts q →
    0 < came_in q f ts
part net ts q f run some (inl none) = absurd (omega arith)
part net ts q f run some (inr kept) =
    elim (cases_lt 0 (came_in q f ts)) [
      | inl came ↦ came
      | inr none ↦ absurd (kept (let all = conserved net ts [] run q f in omega (arith, all)))
    ]

abbrev Near : Place → Frame → Handling → Type 0
Near q f d = (d.node ≡ q.node) × (d.inlet ≡ q.port) × (same_pair f d.frame ≡ true)

came_near : (net : Net) (ts : List PlantTurn) (v : List Copy) (q : Place) (f : Frame) → LedgerRun net ts v → 0 < came_in q f ts →
    ((q.node == f.src) ≡ true) ⊎ One (Near q f) (handlings ts)
came_near net [] v q f run some = absurd (omega arith)
came_near net (t ∷ ts) v q f run some =
    elim (cases_lt 0 (count q f t.came)) [
      | inl now ↦ taken (one_is (λ c. IsTakenBy (option_to_list t.did) c × (counts q f c ≡ true)) t.came
          (one_each (IsTakenBy (option_to_list t.did)) (λ c. counts q f c ≡ true) t.came run.2.taken (counted (counts q f) t.came now)))
      | inr none ↦
          elim (came_near net ts run.0 q f run.1 (omega arith)) [
            | inl own ↦ inl own
            | inr near ↦ inr (one_right (Near q f) (option_to_list t.did) (handlings ts) near)
          ]
    ]
  where
    taken : (c : Copy) × (IsTakenBy (option_to_list t.did) c × (counts q f c ≡ true)) →
        ((q.node == f.src) ≡ true) ⊎ One (Near q f) (option_to_list t.did ++ handlings ts)
    taken x =
        let c = x.0 in
        let is = and_parts (same_place q c.hop.to) (same_pair f c.frame) x.1.1 in
        let place = and_parts (q.node == c.hop.to.node) (is_at q.port c.hop.to.port) is.0 in
        let node = eqb-true q.node c.hop.to.node place.0 in
        let port = port_same q.port c.hop.to.port place.1 in
        let src = (same_parts f c.frame is.1).0 in
        elim x.1.0 [
          | inl own ↦ inl (eq-eqb q.node f.src (node ∙ eqb-true c.hop.to.node c.frame.src own ∙ sym src))
          | inr one ↦ inr (one_left (Near q f) (option_to_list t.did) (handlings ts)
              (one_map (λ d. (d.node ≡ c.hop.to.node) × (d.inlet ≡ c.hop.to.port) × (d.frame ≡ c.frame)) (Near q f)
              (λ d h. (h.0 ∙ sym node, h.1 ∙ sym port, ap (same_pair f) h.2 ∙ is.1)) (option_to_list t.did) one))
        ]

-- it came in at the member, or it is its own
pub came_done : (net : Net) (ts : List PlantTurn) (v : List Copy) (q : Place) (f : Frame) → LedgerRun net ts v →
    AreConsistent (handlings ts) → IsSent f (handlings ts) → 0 < came_in q f ts →
    ((q.node == f.src) ≡ true) ⊎ CameIn q.node q.port f (handlings ts)
came_done net ts v q f run done sent some =
    elim (came_near net ts v q f run some) [
      | inl own ↦ inl own
      | inr near ↦ inr (one_map (λ d. IsSent d.frame (handlings ts) × Near q f d) (ComesIn q.node q.port f) (λ d h. (
        h.1.0,
        h.1.1,
        sym (one_frame (handlings ts) f d.frame done sent h.0 h.1.2),
      )) (handlings ts)
          (one_each (λ d. IsSent d.frame (handlings ts)) (Near q f) (handlings ts) (all_sent (handlings ts) done) near))
    ]

-- what is put out makes copies
copies_of : (ps : List Hop) (q : Place) (f : Frame) → One (λ h. h.to ≡ q) ps →
    One (λ c. counts q f c ≡ true) (map (λ h. record { hop = h; frame = f }) ps)
copies_of [] q f o = absurd o
copies_of (p ∷ ps) q f (inl is) =
    inl (and_from _ _ (and_from _ _
    (eq-eqb q.node p.to.node (ap (λ x. x.node) (sym is))) (ap (λ x. is_at q.port x.port) is ∙ port_self q.port)) (same_self f))
copies_of (p ∷ ps) q f (inr o) = inr (copies_of ps q f o)

put_counts : (net : Net) (d : Handling) (k : ℕ) (o : Port) (q : Place) (f : Frame) → Puts k o f d → One (λ h. h.to ≡ q) (net k o) →
    One (λ c. counts q f c ≡ true) (copies_put net d o)
put_counts net d k o q f put there =
    let out : copies_put net d o ≡ map (λ h. record { hop = h; frame = f }) (net k o) = rw (put.2, put.0, put.1) refl in
    rw out (copies_of (net k o) q f there)

spread_counts : (net : Net) (d : Handling) (k : ℕ) (o : Port) (q : Place) (f : Frame) → is_at H o ≡ false → Puts k o f d →
    One (λ h. h.to ≡ q) (net k o) → One (λ c. counts q f c ≡ true) (spread net d)
spread_counts net d k H q f no_host put there = cc
spread_counts net d k A q f no_host put there =
    one_left (λ c. counts q f c ≡ true) (copies_put net d A) (copies_put net d B
    ++ copies_put net d C) (put_counts net d k A q f put there)
spread_counts net d k B q f no_host put there =
    one_right (λ c. counts q f c ≡ true) (copies_put net d A) (copies_put net d B
    ++ copies_put net d C) (one_left
    (λ c. counts q f c ≡ true) (copies_put net d B) (copies_put net d C) (put_counts net d k B q f put there))
spread_counts net d k C q f no_host put there =
    one_right (λ c. counts q f c ≡ true) (copies_put net d A) (copies_put net d B
    ++ copies_put net d C) (one_right
    (λ c. counts q f c ≡ true) (copies_put net d B) (copies_put net d C) (put_counts net d k C q f put there))

spreads : (net : Net) (ds : List Handling) (k : ℕ) (o : Port) (q : Place) (f : Frame) → is_at H o ≡ false → WasPut k o f ds →
    One (λ h. h.to ≡ q) (net k o) → One (λ c. counts q f c ≡ true) (spread_all net ds)
spreads net [] k o q f no_host put there = absurd put
spreads net (d ∷ ds) k o q f no_host (inl put) there =
    one_left (λ c. counts q f c ≡ true) (spread net d) (spread_all net ds) (spread_counts net d k o q f no_host put there)
spreads net (d ∷ ds) k o q f no_host (inr rest) there =
    one_right (λ c. counts q f c ≡ true) (spread net d) (spread_all net ds) (spreads net ds k o q f no_host rest there)

pub put_makes : (net : Net) (ts : List PlantTurn) (k : ℕ) (o : Port) (q : Place) (f : Frame) → is_at H o ≡ false →
    WasPut k o f (handlings ts) → One (λ h. h.to ≡ q) (net k o) → 0 < made_in net q f ts
put_makes net [] k o q f no_host put there = absurd put
put_makes net (t ∷ ts) k o q f no_host put there =
    elim (one_parts (Puts k o f) (option_to_list t.did) (handlings ts) put) [
      | inl now ↦
          let some = counts_one (counts q f) (spread_all net (option_to_list t.did))
          (spreads net (option_to_list t.did) k o q f no_host now there) in
          let both = count_append (counts q f) (spread_all net (option_to_list t.did)) t.doubled in
          omega (arith, some, both)
      | inr before ↦
          let rest = put_makes net ts k o q f no_host before there in
          omega (arith, rest)
    ]

-- A part of a way: what a member put out there comes in where that leads, if that is open and nothing is in flight.
pub part_way : (net : Net) (ts : List PlantTurn) (k : ℕ) (o : Port) (q : Place) (f : Frame) → LedgerRun net ts [] →
    AreConsistent (handlings ts) → IsSent f (handlings ts) → is_at H o ≡ false → WasPut k o f (handlings ts) →
    One (λ h. h.to ≡ q) (net k o) → IsOpen net f ts q → ((q.node == f.src) ≡ true) ⊎ CameIn q.node q.port f (handlings ts)
part_way net ts k o q f run done sent no_host put there whole =
    came_done net ts [] q f run done sent (part net ts q f run (put_makes net ts k o q f no_host put there) whole)
