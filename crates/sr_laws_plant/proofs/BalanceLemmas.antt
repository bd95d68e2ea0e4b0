-- Each step of a plant is a turn.
use Rattle.std.proofs.Common.{◌≡◌, ℕ, ◌+◌, inl, inr, Bool, not, List, [], ◌∷◌, ◌++◌, arith, refl, sym, ap, subst, Some}
use Rattle.std.proofs.lemmas.Bool.{cases_Bool}
use Rattle.std.specs.Prelude.{filter}
use Rattle.sr_laws_plant.specs.Lists.{One, how_many}
use Rattle.sr_laws_plant.specs.Frames.{Frame}
use Rattle.sr_laws_plant.specs.Handlings.{Handling}
use Rattle.sr_laws_plant.specs.Ledger.{Place, Copy, Net, spread, PlantTurn, handlings, counts, count, IsArrivalOf, Within, Balances}
use Rattle.sr_laws_plant.specs.Ledger.{LedgerRun}
use Rattle.sr_laws_plant.specs.PlantEvents.{Event, send, tick, carry, drop, repeat, cut, mend, Plant, is_on, is_stopped, those_stopped}
use Rattle.sr_laws_plant.specs.PlantEvents.{those_passing, IsTakenOut, idle_turn, Sends, Refuses, Ends, Takes, Moves, History, turns}
use Rattle.sr_laws_plant.specs.PlantEvents.{PlantRun}
use Rattle.sr_laws_plant.specs.ListLemmas.{one_map, one_left, one_right, each_map, each_append, count_append}

wider_left : (cs xs ys : List Copy) → Within cs xs → Within cs (xs ++ ys)
wider_left cs xs ys w =
    each_map (λ (c : Copy). One (λ (x : Copy). x ≡ c) xs) (λ (c : Copy). One (λ (x : Copy). x ≡ c) (xs ++ ys))
    (λ c o. one_left (λ (x : Copy). x ≡ c) xs ys o) cs w

wider_right : (cs xs ys : List Copy) → Within cs ys → Within cs (xs ++ ys)
wider_right cs xs ys w =
    each_map (λ (c : Copy). One (λ (x : Copy). x ≡ c) ys) (λ (c : Copy). One (λ (x : Copy). x ≡ c) (xs ++ ys))
    (λ c o. one_right (λ (x : Copy). x ≡ c) xs ys o) cs w

within_self : (cs : List Copy) → Within cs cs
within_self [] = tt
within_self (c ∷ cs) = (inl refl, wider_right cs (c ∷ []) cs (within_self cs))

within_filter : (p : Copy → Bool) (cs xs : List Copy) → Within cs xs → Within (filter p cs) xs
within_filter p [] xs w = tt
within_filter p (c ∷ cs) xs w =
    elim (cases_Bool (p c)) [
      | inl is ↦ rw is (w.0, within_filter p cs xs w.1)
      | inr not_so ↦ rw not_so (within_filter p cs xs w.1)
    ]

both_within : (cs bs xs : List Copy) → Within cs xs → Within bs xs → Within (cs ++ bs) xs
both_within cs bs xs a b = each_append (λ (c : Copy). One (λ (x : Copy). x ≡ c) xs) cs bs a b

-- counts of parts
parted : (p q : Copy → Bool) (cs : List Copy) → how_many p cs ≡ how_many p (filter (λ c. not (q c)) cs) + how_many p (filter q cs)
parted p q [] = refl
parted p q (c ∷ cs) =
    let rest = parted p q cs in
    elim (cases_Bool (q c)) [
      | inl takes ↦
          elim (cases_Bool (p c)) [
            | inl is ↦ rw (takes, is) (omega (arith, rest))
            | inr not_so ↦ rw (takes, not_so) rest
          ]
      | inr leaves ↦
          elim (cases_Bool (p c)) [
            | inl is ↦ rw (leaves, is) (omega (arith, rest))
            | inr not_so ↦ rw (leaves, not_so) rest
          ]
    ]

taken_out : (p : Copy → Bool) (flight : List Copy) (place : ℕ) (c : Copy) (rest : List Copy) → IsTakenOut flight place c rest →
    how_many p flight ≡ how_many p rest + how_many p (c ∷ [])
taken_out p flight place c rest out =
    let all : how_many p flight ≡ how_many p (out.before ++ c ∷ out.behind) = ap (how_many p) out.whole in
    let less : how_many p rest ≡ how_many p (out.before ++ out.behind) = ap (how_many p) out.left in
    let front = count_append p out.before (c ∷ out.behind) in
    let middle = count_append p (c ∷ []) out.behind in
    let short = count_append p out.before out.behind in
    omega (arith, all, less, front, middle, short)

pub rest_within : (flight : List Copy) (place : ℕ) (c : Copy) (rest : List Copy) → IsTakenOut flight place c rest → Within rest flight
rest_within flight place c rest out =
    rw (out.whole, out.left) (both_within out.before out.behind (out.before ++ c ∷ out.behind)
    (wider_left out.before out.before (c ∷ out.behind) (within_self out.before))
    (wider_right out.behind out.before (c ∷ out.behind) (wider_right out.behind (c ∷ []) out.behind (within_self out.behind))))

pub in_flight : (flight : List Copy) (place : ℕ) (c : Copy) (rest : List Copy) → IsTakenOut flight place c rest →
    One (λ (x : Copy). x ≡ c) flight
in_flight flight place c rest out = rw out.whole (one_right (λ (x : Copy). x ≡ c) out.before (c ∷ out.behind) (inl refl))

-- at equal turns and plants
at_same : (net : Net) (u : List Copy) (turn x : PlantTurn) (v w : List Copy) → turn ≡ x → v ≡ w → Balances net u x w → Balances net u turn v
at_same net u turn x v w a b is = subst (λ y. Balances net u y v) (sym a) (subst (λ y. Balances net u x y) (sym b) is)

no_copies : (cs : List Copy) → Within [] cs
no_copies cs = tt

quiet_turn : (net : Net) (u : List Copy) → Balances net u idle_turn u
quiet_turn net u = record { balance = λ q f. omega arith; taken = tt; from = tt; doubles = tt; stays = wider_left u u [] (within_self u) }

-- what is put out passes, or is stopped
put_out : (net : Net) (d : Handling) (cuts : List ℕ) (q : Place) (f : Frame) →
    count q f ((spread net d ++ []) ++ []) ≡ count q f (those_passing cuts (spread net d)) + count q f (those_stopped cuts (spread net d))
put_out net d cuts q f =
    let one = count_append (counts q f) (spread net d ++ []) [] in
    let two = count_append (counts q f) (spread net d) [] in
    let parts = parted (counts q f) (is_stopped cuts) (spread net d) in
    omega (arith, one, two, parts)

passing_within : (net : Net) (d : Handling) (cuts : List ℕ) (u : List Copy) →
    Within (those_passing cuts (spread net d)) (u ++ ((spread net d ++ []) ++ []))
passing_within net d cuts u =
    within_filter (λ c. not (is_stopped cuts c)) (spread net d) (u ++ ((spread net d ++ []) ++ []))
    (wider_right (spread net d) u ((spread net d ++ []) ++ [])
    (wider_left (spread net d) (spread net d ++ []) [] (wider_left (spread net d) (spread net d) [] (within_self (spread net d)))))

sends_turn : (net : Net) (done : List Handling) (s : Plant) (now : ℕ) (d : Handling) (turn : PlantTurn) (t : Plant) →
    Sends net done s now d turn t → Balances net s.flight turn t.flight
sends_turn net done s now d turn t m =
    at_same net s.flight turn (record { did = Some d; doubled = []; lost = those_stopped s.cuts (spread net d); came = [] }) t.flight
    (s.flight ++ those_passing s.cuts (spread net d)) m.says (ap (λ x. x.flight) m.after)
    (record {
      balance = λ q f.
          (let out = put_out net d s.cuts q f in
          let all = count_append (counts q f) s.flight (those_passing s.cuts (spread net d)) in
          omega (arith, out, all));
      taken = tt;
      from = (inl m.inlet, tt);
      doubles = tt;
      stays = both_within s.flight (those_passing s.cuts (spread net d)) (s.flight ++ ((spread net d ++ []) ++ []))
          (wider_left s.flight s.flight ((spread net d ++ []) ++ []) (within_self s.flight)) (passing_within net d s.cuts s.flight);
    })

lost_turn : (net : Net) (s : Plant) (place : ℕ) (c : Copy) (rest : List Copy) (turn : PlantTurn) (t : Plant) →
    IsTakenOut s.flight place c rest → Refuses s c rest turn t → Balances net s.flight turn t.flight
lost_turn net s place c rest turn t out m =
    at_same net s.flight turn (record idle_turn { lost = c ∷ [] }) t.flight rest m.says (ap (λ x. x.flight) m.after)
    (record {
      balance = λ q f. (let all = taken_out (counts q f) s.flight place c rest out in omega (arith, all));
      taken = tt;
      from = tt;
      doubles = tt;
      stays = wider_left rest s.flight [] (rest_within s.flight place c rest out);
    })

end_turn : (net : Net) (s : Plant) (place : ℕ) (c : Copy) (rest : List Copy) (turn : PlantTurn) (t : Plant) →
    IsTakenOut s.flight place c rest → Ends s c rest turn t → Balances net s.flight turn t.flight
end_turn net s place c rest turn t out m =
    at_same net s.flight turn (record idle_turn { came = c ∷ [] }) t.flight rest m.says (ap (λ x. x.flight) m.after)
    (record {
      balance = λ q f. (let all = taken_out (counts q f) s.flight place c rest out in omega (arith, all));
      taken = (inl m.own, tt);
      from = tt;
      doubles = tt;
      stays = wider_left rest s.flight [] (rest_within s.flight place c rest out);
    })

taken_turn : (net : Net) (s : Plant) (place : ℕ) (c : Copy) (rest : List Copy) (d : Handling) (turn : PlantTurn) (t : Plant) →
    IsTakenOut s.flight place c rest → Takes net s c rest d turn t → Balances net s.flight turn t.flight
taken_turn net s place c rest d turn t out m =
    at_same net s.flight turn (record { did = Some d; doubled = []; lost = those_stopped s.cuts (spread net d); came = c ∷ [] }) t.flight
    (rest ++ those_passing s.cuts (spread net d)) m.says (ap (λ x. x.flight) m.after)
    (record {
      balance = λ q f.
          (let less = taken_out (counts q f) s.flight place c rest out in
          let put = put_out net d s.cuts q f in
          let all = count_append (counts q f) rest (those_passing s.cuts (spread net d)) in
          omega (arith, less, put, all));
      taken = (inr (inl (m.node, m.port, m.frame)), tt);
      from = (inr (one_map (λ (x : Copy). x ≡ c) (IsArrivalOf d) arrival s.flight (in_flight s.flight place c rest out)), tt);
      doubles = tt;
      stays = both_within rest (those_passing s.cuts (spread net d)) (s.flight ++ ((spread net d ++ []) ++ []))
          (wider_left rest s.flight ((spread net d ++ []) ++ []) (rest_within s.flight place c rest out))
          (passing_within net d s.cuts s.flight);
    })
  where
    arrival : (x : Copy) → x ≡ c → IsArrivalOf d x
    arrival x e = subst (λ y. IsArrivalOf d y) (sym e) (m.node, m.port, m.frame)

repeat_turn : (net : Net) (s : Plant) (place : ℕ) (c : Copy) (rest : List Copy) (turn : PlantTurn) (t : Plant) →
    IsTakenOut s.flight place c rest → turn ≡ record idle_turn { doubled = c ∷ [] } → t ≡ record s { flight = s.flight ++ c ∷ [] } →
    Balances net s.flight turn t.flight
repeat_turn net s place c rest turn t out a b =
    at_same net s.flight turn (record idle_turn { doubled = c ∷ [] }) t.flight (s.flight ++ c ∷ []) a (ap (λ x. x.flight) b)
    (record {
      balance = λ q f. (let all = count_append (counts q f) s.flight (c ∷ []) in omega (arith, all));
      taken = tt;
      from = tt;
      doubles = (in_flight s.flight place c rest out, tt);
      stays = within_self (s.flight ++ c ∷ []);
    })

cut_turn : (net : Net) (s : Plant) (link : ℕ) (turn : PlantTurn) (t : Plant) →
    turn ≡ record idle_turn { lost = filter (is_on link) s.flight } →
    t ≡ record s { flight = filter (λ c. not (is_on link c)) s.flight; cuts = link ∷ s.cuts } → Balances net s.flight turn t.flight
cut_turn net s link turn t a b =
    at_same net s.flight turn (record idle_turn { lost = filter (is_on link) s.flight }) t.flight
    (filter (λ c. not (is_on link c)) s.flight) a (ap (λ x. x.flight) b)
    (record {
      balance = λ q f. (let all = parted (counts q f) (is_on link) s.flight in omega (arith, all));
      taken = tt;
      from = tt;
      doubles = tt;
      stays = within_filter (λ c. not (is_on link c)) s.flight (s.flight ++ []) (wider_left s.flight s.flight [] (within_self s.flight));
    })

pub move_turn : (net : Net) (done : List Handling) (s : Plant) (e : Event) (turn : PlantTurn) (t : Plant) → Moves net done s e turn t →
    Balances net s.flight turn t.flight
move_turn net done s (send node) turn t m = sends_turn net done s s.clock m.0 turn t m.2
move_turn net done s (tick node now) turn t (order, inl idle) =
    at_same net s.flight turn idle_turn t.flight s.flight idle.0 (ap (λ x. x.flight) idle.1) (quiet_turn net s.flight)
move_turn net done s (tick node now) turn t (order, inr life) = sends_turn net done s now life.0 turn t life.3
move_turn net done s (carry place) turn t (c, rest, out, inl m) = lost_turn net s place c rest turn t out m
move_turn net done s (carry place) turn t (c, rest, out, inr (inl m)) = end_turn net s place c rest turn t out m
move_turn net done s (carry place) turn t (c, rest, out, inr (inr m)) = taken_turn net s place c rest m.0 turn t out m.1
move_turn net done s (drop place) turn t m = lost_turn net s place m.0 m.1 turn t m.2 m.3
move_turn net done s (repeat place) turn t m = repeat_turn net s place m.0 m.1 turn t m.2 m.3 m.4
move_turn net done s (cut link) turn t m = cut_turn net s link turn t m.0 m.1
move_turn net done s (mend link) turn t m = at_same net s.flight turn idle_turn t.flight s.flight m.0
    (ap (λ x. x.flight) m.1) (quiet_turn net s.flight)

pub run_of : (net : Net) (es : History) (t : Plant) → PlantRun net es t → LedgerRun net (turns es) t.flight
run_of net [] t run = ap (λ x. x.flight) run
run_of net (e ∷ es) t run = (run.0.flight, run_of net es run.0 run.1, move_turn net (handlings (turns es)) run.0 e.0 e.1 t run.2)
