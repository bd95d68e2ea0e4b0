-- The frame of each copy in flight, counted in the run as in its history.
use Rattle.std.proofs.Common.{◌≡◌, inl, inr, ℕ, zero, suc, ◌+◌, ◌-◌, ◌<◌, ◌≤◌, ◌==◌, ◌&&◌, not, nat_lt, Bool, true, false, List, [], ◌∷◌, ◌++◌, map, length, replicate, Option, None, Some, slice_get, refl, sym, ap, ◌∙◌, subst, arith}
use Rattle.std.specs.List.{filter, remove, list_any}
use Rattle.std.specs.Option.{option_to_list}
use Rattle.std.proofs.lemmas.Bool.{cases_Bool}
use Rattle.std.proofs.lemmas.List.{append-nil, length-append}
use Rattle.sr_node.specs.Starts.{Start}
use Rattle.sr_dup_table.specs.Limits.{forget_time}
use Rattle.sr_laws_plant.specs.Frames.{Frame}
use Rattle.sr_laws_plant.specs.Handlings.{Handling, is_sending, sent_count}
use Rattle.sr_laws_plant.specs.Ledger.{Hop, Net, PlantTurn, copies_put, spread}
use Rattle.sr_laws_plant.specs.Ledger as ledger
use Rattle.sr_laws_plant.specs.Limits.{first_number, most_sent}
use Rattle.sr_laws_plant.specs.Lists.{Each, how_many}
use Rattle.sr_laws_plant.specs.ListLemmas.{each_append}
use Rattle.sr_laws_plant.specs.PlantEvents.{Sends, Takes, Moves}
use Rattle.sr_laws_plant.specs.PlantEvents as law
use Rattle.sr_laws_plant.specs.Premises.{AreWithinLimits, recent_count}
use Rattle.sr_laws_plant.specs.Premises as premises
use Rattle.sr_laws_plant.specs.Widths.{Widths}
use Rattle.sr_frame.specs.declared.ports.Port.{Port}
use Rattle.sr_frame.specs.declared.ports.Port.TheVariants.{A, B, C}
use Rattle.sr_plant.specs.declared.topology.Topology.{Topology}
use Rattle.sr_plant.specs.declared.event.PlantEvent.{PlantEvent}
use Rattle.sr_plant.specs.declared.event.PlantEvent.TheVariants.{Send, Carry, Drop, Repeat, Cut, Mend, Tick}
use Rattle.sr_plant.specs.Copies.{Copy, is_on}
use Rattle.sr_plant.specs.Plants.{Plant}
use Rattle.sr_plant.specs.Topologies.{net_of}
use Rattle.sr_plant.proofs.OrderLemmas.{each_filter}
use Rattle.sr_laws_plant_runs.specs.Histories.{Zip, event_of}
use Rattle.sr_laws_plant_runs.specs.Traffic.{Numbering, is_of, count_of, next_of, is_due_in, numbered_in, copied, marks_off, marks_after, IsTimely, time_of, AreFew}
use Rattle.sr_plant.specs.Steps.{PlantStep}
use Rattle.sr_laws_plant_runs.proofs.HistoryLemmas.{IsDueTold, StepTold}
use Rattle.sr_laws_plant_runs.proofs.LikeLemmas.{FliesAs, Like}
use Rattle.sr_laws_plant_runs.proofs.ZipLemmas.{zip_append}

-- a numbering is that of a copy's frame
abbrev pub Marks : Numbering → ledger.Copy → Type 0
Marks m g = (m.node ≡ g.frame.src) × (first_number + m.before ≡ g.frame.number) × (m.time ≡ g.frame.time)

abbrev recent_of : ℕ → ℕ → Numbering → Bool
recent_of k now m = is_of k m && nat_lt now (m.time + forget_time)

-- a run's counts are its history's
pub record IsCounted (nums : List Numbering) (ds : List Handling) : Type 0 where
  pub counts : (k : ℕ) → count_of k nums ≡ sent_count k ds
  pub recent : (k now : ℕ) → how_many (recent_of k now) nums ≡ recent_count k now ds

pub zip_length : {X Y : Type 0} (R : X → Y → Type 0) (xs : List X) (ys : List Y) → Zip R xs ys → length xs ≡ length ys
zip_length R [] [] zip = refl
zip_length R [] (y ∷ ys) zip = absurd zip
zip_length R (x ∷ xs) [] zip = absurd zip
zip_length R (x ∷ xs) (y ∷ ys) zip = ap suc (zip_length R xs ys zip.1)

zip_replicate : {X Y : Type 0} (R : X → Y → Type 0) (x : X) (ys : List Y) (n : ℕ) → Each (R x) ys → n ≡ length ys → Zip R (replicate n x) ys
zip_replicate R x [] zero each size = tt
zip_replicate R x [] (suc n) each size = absurd (omega (arith, size))
zip_replicate R x (y ∷ ys) zero each size = absurd (omega (arith, size))
zip_replicate R x (y ∷ ys) (suc n) each size = (each.0, zip_replicate R x ys n each.1 (omega (arith, size)))

-- what stands beside one of the others
pub record StandsBeside {X Y : Type 0} (R : X → Y → Type 0) (xs : List X) (place : ℕ) (y : Y) (rest : List Y) : Type 0 where
  pub here : X
  pub there : slice_get xs place ≡ Some here
  pub related : R here y
  pub others : Zip R (remove xs place) rest

zip_split : {X Y : Type 0} (R : X → Y → Type 0) (xs : List X) (before : List Y) (y : Y) (behind : List Y) → Zip R xs (before ++ y ∷ behind) → StandsBeside R xs (length before) y (before ++ behind)
zip_split R [] [] y behind zip = absurd zip
zip_split R [] (b ∷ before) y behind zip = absurd zip
zip_split R (x ∷ xs) [] y behind zip = record { here = x; there = refl; related = zip.0; others = zip.1 }
zip_split R (x ∷ xs) (b ∷ before) y behind zip =
    let s = zip_split R xs before y behind zip.1 in
    record { here = s.here; there = s.there; related = s.related; others = (zip.0, s.others) }

pub beside_out : (ms : List Numbering) (p : law.Plant) (place : ℕ) (g : ledger.Copy) (rest : List ledger.Copy) → Zip Marks ms p.flight → law.IsTakenOut p.flight place g rest → StandsBeside Marks ms place g rest
beside_out ms p place g rest zip out =
    subst (λ r. StandsBeside Marks ms place g r) (sym out.left)
    (subst (λ n. StandsBeside Marks ms n g (out.before ++ out.behind)) out.index (zip_split Marks ms out.before g out.behind (subst (λ l. Zip Marks ms l) out.whole zip)))

-- all that a handling puts out is of its frame
module _ (net : Net) (d : Handling) (P : ledger.Copy → Type 0) (each : (h : Hop) → P (record { hop = h; frame = d.frame })) where
  each_hop : (hs : List Hop) → Each P (map (λ h. record { hop = h; frame = d.frame }) hs)
  each_hop [] = tt
  each_hop (h ∷ hs) = (each h, each_hop hs)

  each_put : (o : Port) → Each P (copies_put net d o)
  each_put o = elim (cases_Bool (d.went o)) [
    | inl out ↦ rw out (each_hop (net d.node o))
    | inr not_out ↦ rw not_out tt
  ]

  each_spread : Each P (spread net d)
  each_spread = each_append P (copies_put net d A) (copies_put net d B ++ copies_put net d C) (each_put A) (each_append P (copies_put net d B) (copies_put net d C) (each_put B) (each_put C))

-- the copies that pass, marked
put_marked : (net : Net) (d : Handling) (cuts : List ℕ) (m : Numbering) (n : ℕ) → (m.node ≡ d.frame.src) → (first_number + m.before ≡ d.frame.number) → (m.time ≡ d.frame.time) → n ≡ length (law.those_passing cuts (spread net d)) → Zip Marks (replicate n m) (law.those_passing cuts (spread net d))
put_marked net d cuts m n node number time size =
    zip_replicate Marks m (law.those_passing cuts (spread net d)) n
    (each_filter (Marks m) (λ c. not (law.is_stopped cuts c)) (spread net d) (each_spread net d (Marks m) (λ h. (node, number, time)))) size

-- one frame more is numbered
counted_more : (nums : List Numbering) (ds : List Handling) (m : Numbering) (d : Handling) → IsCounted nums ds → is_sending d ≡ true → m.node ≡ d.node → m.time ≡ d.time → IsCounted (m ∷ nums) (d ∷ ds)
counted_more nums ds m d c sends node time = record {
  counts = λ k. by k (k == m.node) refl;
  recent = λ k now. again k now (is_of k m && nat_lt now (m.time + forget_time)) refl;
}
  where
    by : (k : ℕ) (b : Bool) → (k == m.node) ≡ b → count_of k (m ∷ nums) ≡ sent_count k (d ∷ ds)
    by k true e = let too : (k == d.node) ≡ true = ap (λ x. k == x) (sym node) ∙ e in rw (e, sends, too) (ap (λ n. n + 1) (c.counts k))
    by k false e = let too : (k == d.node) ≡ false = ap (λ x. k == x) (sym node) ∙ e in rw (e, sends, too) (c.counts k)

    again : (k now : ℕ) (b : Bool) → (is_of k m && nat_lt now (m.time + forget_time)) ≡ b → how_many (recent_of k now) (m ∷ nums) ≡ recent_count k now (d ∷ ds)
    again k now true e =
        let too : ((k == d.node) && nat_lt now (d.time + forget_time)) ≡ true = ap (λ x. (k == x) && nat_lt now (d.time + forget_time)) (sym node) ∙ ap (λ x. (k == m.node) && nat_lt now (x + forget_time)) (sym time) ∙ e in
        rw (e, sends, too) (ap (λ n. n + 1) (c.recent k now))
    again k now false e =
        let too : ((k == d.node) && nat_lt now (d.time + forget_time)) ≡ false = ap (λ x. (k == x) && nat_lt now (d.time + forget_time)) (sym node) ∙ ap (λ x. (k == m.node) && nat_lt now (x + forget_time)) (sym time) ∙ e in
        rw (e, sends, too) (c.recent k now)

-- a frame came in
counted_same : (nums : List Numbering) (ds : List Handling) (d : Handling) → IsCounted nums ds → is_sending d ≡ false → IsCounted nums (d ∷ ds)
counted_same nums ds d c comes = record {
  counts = λ k. rw comes (c.counts k);
  recent = λ k now. rw comes (c.recent k now);
}

-- an event, marked and counted
pub record StepMarked (ws : Widths) (nums ms : List Numbering) (s v : Plant) (e : PlantEvent) (after : law.Plant) (ds : List Handling) (did : Option Handling) : Type 0 where
  pub flight : Zip Marks (marks_after nums ms s e v) after.flight
  pub counted : IsCounted (numbered_in nums s e ++ nums) (option_to_list did ++ ds)
  pub limits : AreWithinLimits ws ds → IsTimely ws.least nums ms s e → AreFew ws.greatest (numbered_in nums s e ++ nums) (time_of s e) → AreWithinLimits ws (option_to_list did ++ ds)

sends_marked : (ws : Widths) (nums ms : List Numbering) (s v : Plant) (p : law.Plant) (net : Net) (ds : List Handling) (i now : ℕ) (d : Handling) (turn : PlantTurn) (after : law.Plant) → Zip Marks ms p.flight → IsCounted nums ds → d.node ≡ i → Sends net ds p now d turn after →
    length s.flight ≡ length p.flight → length v.flight ≡ length after.flight →
    Zip Marks (ms ++ replicate (length v.flight - length s.flight) (next_of i nums now)) after.flight × IsCounted (next_of i nums now ∷ nums) (d ∷ ds) × (AreWithinLimits ws ds → AreFew ws.greatest (next_of i nums now ∷ nums) now → AreWithinLimits ws (d ∷ ds))
sends_marked ws nums ms s v p net ds i now d turn after zip c node sends a b = (marked, counted, limits)
  where
    flight : after.flight ≡ p.flight ++ law.those_passing p.cuts (spread net d)
    flight = ap (λ (x : law.Plant). x.flight) sends.after

    new : length v.flight - length s.flight ≡ length (law.those_passing p.cuts (spread net d))
    new = let all = ap length flight in omega (arith, a, b, all, length-append p.flight (law.those_passing p.cuts (spread net d)))

    marked : Zip Marks (ms ++ replicate (length v.flight - length s.flight) (next_of i nums now)) after.flight
    marked = subst (λ fs. Zip Marks (ms ++ replicate (length v.flight - length s.flight) (next_of i nums now)) fs) (sym flight)
        (zip_append Marks ms p.flight (replicate (length v.flight - length s.flight) (next_of i nums now)) (law.those_passing p.cuts (spread net d)) zip
        (put_marked net d p.cuts (next_of i nums now) (length v.flight - length s.flight) (sym node ∙ sym sends.sending.own)
        (ap (λ n. first_number + n) (c.counts i ∙ ap (λ k. sent_count k ds) (sym node)) ∙ sym sends.sending.number) (sym sends.time ∙ sym sends.sending.time) new))

    counted : IsCounted (next_of i nums now ∷ nums) (d ∷ ds)
    counted = counted_more nums ds (next_of i nums now) d c sends.inlet (sym node) (sym sends.time)

    limits : AreWithinLimits ws ds → AreFew ws.greatest (next_of i nums now ∷ nums) now → AreWithinLimits ws (d ∷ ds)
    limits lim few = (
      lim,
      subst (λ b. premises.IsTimely ws b ds d) (sym sends.inlet) tt,
      λ k. subst (λ x. recent_count k x (d ∷ ds) ≤ most_sent ws.greatest) (sym sends.time) (subst (λ n. n ≤ most_sent ws.greatest) (counted.recent k now) (few k)),
    )

-- a copy that comes in, in time
early_frame : (ws : Widths) (nums : List Numbering) (ds : List Handling) (m : Numbering) (g : ledger.Copy) → IsCounted nums ds → Marks m g → count_of m.node nums - (m.before + 1) < ws.least → premises.IsEarly ws ds g.frame
early_frame ws nums ds m g c mark early =
    let same = c.counts m.node ∙ ap (λ k. sent_count k ds) mark.0 in
    let number = mark.1 in
    omega (arith, same, number, early)

takes_marked : (ws : Widths) (nums ms : List Numbering) (s v : Plant) (p : law.Plant) (net : Net) (ds : List Handling) (place : ℕ) (g : ledger.Copy) (rest : List ledger.Copy) (d : Handling) (turn : PlantTurn) (after : law.Plant) → Zip Marks ms p.flight → IsCounted nums ds → s.clock ≡ p.clock →
    law.IsTakenOut p.flight place g rest → Takes net p g rest d turn after → length s.flight ≡ length p.flight → length v.flight ≡ length after.flight → StepMarked ws nums ms s v (Carry place) after ds (Some d)
takes_marked ws nums ms s v p net ds place g rest d turn after zip c clock out takes a b = record {
  flight = subst (λ fs. Zip Marks (remove ms place ++ copied (suc (length v.flight) - length s.flight) (slice_get ms place)) fs) (sym flight)
      (subst (λ o. Zip Marks (remove ms place ++ copied (suc (length v.flight) - length s.flight) o) (rest ++ law.those_passing p.cuts (spread net d))) (sym beside.there)
      (zip_append Marks (remove ms place) rest (replicate (suc (length v.flight) - length s.flight) beside.here) (law.those_passing p.cuts (spread net d)) beside.others
      (put_marked net d p.cuts beside.here (suc (length v.flight) - length s.flight) (beside.related.0 ∙ ap (λ (f : Frame). f.src) (sym takes.frame)) (beside.related.1 ∙ ap (λ (f : Frame). f.number) (sym takes.frame)) (beside.related.2 ∙ ap (λ (f : Frame). f.time) (sym takes.frame)) new)));
  counted = counted_same nums ds d c takes.inlet;
  limits = λ lim timely few. (let now = timely beside.here beside.there in (
    lim,
    subst (λ b. premises.IsTimely ws b ds d) (sym takes.inlet) (subst (λ f. premises.IsEarly ws ds f) (sym takes.frame) (early_frame ws nums ds beside.here g c beside.related now.0), young now.1),
    λ k. subst (λ x. recent_count k x (d ∷ ds) ≤ most_sent ws.greatest) (sym moment) (subst (λ n. n ≤ most_sent ws.greatest) ((counted_same nums ds d c takes.inlet).recent k s.clock) (few k)),
  ));
}
  where
    beside : StandsBeside Marks ms place g rest
    beside = beside_out ms p place g rest zip out

    flight : after.flight ≡ rest ++ law.those_passing p.cuts (spread net d)
    flight = ap (λ (x : law.Plant). x.flight) takes.after

    one_less : length p.flight ≡ suc (length rest)
    one_less = let x = ap length out.whole in let y = ap length out.left in omega (arith, x, y, length-append out.before (g ∷ out.behind), length-append out.before out.behind)

    new : suc (length v.flight) - length s.flight ≡ length (law.those_passing p.cuts (spread net d))
    new = let all = ap length flight in omega (arith, a, b, all, one_less, length-append rest (law.those_passing p.cuts (spread net d)))

    moment : d.time ≡ s.clock
    moment = takes.time ∙ sym clock

    young : s.clock < beside.here.time + forget_time → premises.IsYoung d
    young less = let x = beside.related.2 ∙ ap (λ (f : Frame). f.time) (sym takes.frame) in omega (arith, less, moment, x)

-- nothing is numbered, and nothing comes in
still_marked : (ws : Widths) (nums ms : List Numbering) (s v : Plant) (e : PlantEvent) (after : law.Plant) (ds : List Handling) (did : Option Handling) → did ≡ None → IsCounted nums ds → numbered_in nums s e ≡ [] → Zip Marks (marks_after nums ms s e v) after.flight → StepMarked ws nums ms s v e after ds did
still_marked ws nums ms s v e after ds did none c nothing zip =
    subst (λ x. StepMarked ws nums ms s v e after ds x) (sym none) (record {
      flight = zip;
      counted = subst (λ l. IsCounted (l ++ nums) ds) (sym nothing) c;
      limits = λ lim timely few. lim;
    })

-- a copy that is gone
carried_off : (ws : Widths) (nums ms : List Numbering) (s v : Plant) (p : law.Plant) (ds : List Handling) (place : ℕ) (g : ledger.Copy) (rest : List ledger.Copy) (after : law.Plant) (did : Option Handling) → did ≡ None → Zip Marks ms p.flight → IsCounted nums ds →
    law.IsTakenOut p.flight place g rest → after.flight ≡ rest → length s.flight ≡ length p.flight → length v.flight ≡ length after.flight → StepMarked ws nums ms s v (Carry place) after ds did
carried_off ws nums ms s v p ds place g rest after did none zip c out flight a b =
    still_marked ws nums ms s v (Carry place) after ds did none c refl
    (subst (λ n. Zip Marks (remove ms place ++ copied n (slice_get ms place)) after.flight) (sym zero_more)
    (subst (λ o. Zip Marks (remove ms place ++ copied 0 o) after.flight) (sym beside.there)
    (subst (λ l. Zip Marks l after.flight) (sym (append-nil (remove ms place))) (subst (λ fs. Zip Marks (remove ms place) fs) (sym flight) beside.others))))
  where
    beside : StandsBeside Marks ms place g rest
    beside = beside_out ms p place g rest zip out

    zero_more : suc (length v.flight) - length s.flight ≡ 0
    zero_more = let x = ap length out.whole in let y = ap length out.left in let z = ap length flight in omega (arith, a, b, x, y, z, length-append out.before (g ∷ out.behind), length-append out.before out.behind)

off_marked : (t : Topology) (starts : List Start) (link : ℕ) (cs : List Copy) (gs : List ledger.Copy) (ms : List Numbering) → Zip (FliesAs t starts) cs gs → Zip Marks ms gs → Zip Marks (marks_off link cs ms) (filter (λ g. not (law.is_on link g)) gs)
off_marked t starts link [] [] [] flies zip = tt
off_marked t starts link [] [] (m ∷ ms) flies zip = absurd zip
off_marked t starts link [] (g ∷ gs) ms flies zip = absurd flies
off_marked t starts link (c ∷ cs) [] ms flies zip = absurd flies
off_marked t starts link (c ∷ cs) (g ∷ gs) [] flies zip = absurd zip
off_marked t starts link (c ∷ cs) (g ∷ gs) (m ∷ ms) flies zip =
    let rest = off_marked t starts link cs gs ms flies.1 zip.1 in
    let same : is_on link c ≡ law.is_on link g = ap (λ (h : Hop). list_any (λ l. l == link) h.links) flies.0.hop in
    elim (cases_Bool (is_on link c)) [
      | inl on ↦ (let too : law.is_on link g ≡ true = sym same ∙ on in rw (on, too) rest)
      | inr off ↦ (let too : law.is_on link g ≡ false = sym same ∙ off in rw (off, too) (zip.0, rest))
    ]

module _ (ws : Widths) (t : Topology) (starts : List Start) (ds : List Handling) (s v : Plant) (p : law.Plant) (nums ms : List Numbering)
    (flies : Zip (FliesAs t starts) s.flight p.flight) (clock : s.clock ≡ p.clock) (zip : Zip Marks ms p.flight) (c : IsCounted nums ds) where
  was : length s.flight ≡ length p.flight
  was = zip_length (FliesAs t starts) s.flight p.flight flies

  moved : (e : PlantEvent) (turn : PlantTurn) (after : law.Plant) → Moves (net_of t (length starts)) ds p (event_of e) turn after → IsDueTold s e turn.did → length v.flight ≡ length after.flight → StepMarked ws nums ms s v e after ds turn.did
  moved (Send i frame) turn after (d, node, sends) due size =
      let m = sends_marked ws nums ms s v p (net_of t (length starts)) ds i s.clock d turn after zip c node (subst (λ x. Sends (net_of t (length starts)) ds p x d turn after) (sym clock) sends) was size in
      subst (λ x. StepMarked ws nums ms s v (Send i frame) after ds x) (sym (ap (λ (y : PlantTurn). y.did) sends.says)) (record { flight = m.0; counted = m.1; limits = λ lim timely few. m.2 lim few })
  moved (Tick i at) turn after (le, inl idle) due size =
      let none : turn.did ≡ None = ap (λ (y : PlantTurn). y.did) idle.0 in
      let not_due : is_due_in (slice_get s.nodes i) at ≡ false = subst (λ x. IsDueTold s (Tick i at) x) none due in
      let same : after.flight ≡ p.flight = ap (λ (x : law.Plant). x.flight) idle.1 in
      let zero_more : length v.flight - length s.flight ≡ 0 = (let x = ap length same in omega (arith, was, size, x)) in
      still_marked ws nums ms s v (Tick i at) after ds turn.did none c (rw not_due refl)
      (subst (λ n. Zip Marks (ms ++ replicate n (next_of i nums at)) after.flight) (sym zero_more) (subst (λ l. Zip Marks l after.flight) (sym (append-nil ms)) (subst (λ fs. Zip Marks ms fs) (sym same) zip)))
  moved (Tick i at) turn after (le, inr (d, node, sup, sends)) due size =
      let m = sends_marked ws nums ms s v p (net_of t (length starts)) ds i at d turn after zip c node sends was size in
      let did : turn.did ≡ Some d = ap (λ (y : PlantTurn). y.did) sends.says in
      let is_due : is_due_in (slice_get s.nodes i) at ≡ true = subst (λ x. IsDueTold s (Tick i at) x) did due in
      let nums_are : numbered_in nums s (Tick i at) ≡ next_of i nums at ∷ [] = rw is_due refl in
      subst (λ x. StepMarked ws nums ms s v (Tick i at) after ds x) (sym did) (record {
        flight = m.0;
        counted = subst (λ l. IsCounted (l ++ nums) (d ∷ ds)) (sym nums_are) m.1;
        limits = λ lim timely few. m.2 lim (subst (λ l. AreFew ws.greatest (l ++ nums) at) nums_are few);
      })
  moved (Carry place) turn after (g, rest, out, inl refuses) due size =
      carried_off ws nums ms s v p ds place g rest after turn.did (ap (λ (y : PlantTurn). y.did) refuses.says) zip c out (ap (λ (x : law.Plant). x.flight) refuses.after) was size
  moved (Carry place) turn after (g, rest, out, inr (inl ends)) due size =
      carried_off ws nums ms s v p ds place g rest after turn.did (ap (λ (y : PlantTurn). y.did) ends.says) zip c out (ap (λ (x : law.Plant). x.flight) ends.after) was size
  moved (Carry place) turn after (g, rest, out, inr (inr (d, takes))) due size =
      subst (λ x. StepMarked ws nums ms s v (Carry place) after ds x) (sym (ap (λ (y : PlantTurn). y.did) takes.says)) (takes_marked ws nums ms s v p (net_of t (length starts)) ds place g rest d turn after zip c clock out takes was size)
  moved (Drop place) turn after (g, rest, out, refuses) due size =
      still_marked ws nums ms s v (Drop place) after ds turn.did (ap (λ (y : PlantTurn). y.did) refuses.says) c refl
      (subst (λ fs. Zip Marks (remove ms place) fs) (sym (ap (λ (x : law.Plant). x.flight) refuses.after)) (beside_out ms p place g rest zip out).others)
  moved (Repeat place) turn after (g, rest, out, says, is) due size =
      let b = beside_out ms p place g rest zip out in
      still_marked ws nums ms s v (Repeat place) after ds turn.did (ap (λ (y : PlantTurn). y.did) says) c refl
      (subst (λ o. Zip Marks (ms ++ option_to_list o) after.flight) (sym b.there) (subst (λ fs. Zip Marks (ms ++ b.here ∷ []) fs) (sym (ap (λ (x : law.Plant). x.flight) is)) (zip_append Marks ms p.flight (b.here ∷ []) (g ∷ []) zip (b.related, tt))))
  moved (Cut link) turn after (says, is) due size =
      still_marked ws nums ms s v (Cut link) after ds turn.did (ap (λ (y : PlantTurn). y.did) says) c refl
      (subst (λ fs. Zip Marks (marks_off link s.flight ms) fs) (sym (ap (λ (x : law.Plant). x.flight) is)) (off_marked t starts link s.flight p.flight ms flies zip))
  moved (Mend link) turn after (says, is) due size =
      still_marked ws nums ms s v (Mend link) after ds turn.did (ap (λ (y : PlantTurn). y.did) says) c refl
      (subst (λ fs. Zip Marks ms fs) (sym (ap (λ (x : law.Plant). x.flight) is)) zip)

pub step_marked : (ws : Widths) (t : Topology) (starts : List Start) (ds : List Handling) (s v : Plant) (p : law.Plant) (e : PlantEvent) (nums ms : List Numbering) → Like t starts s p ds → (step : PlantStep s e v) (told : StepTold t starts ds s p e v step) → Zip Marks ms p.flight → IsCounted nums ds → StepMarked ws nums ms s v e told.after ds told.turn.did
step_marked ws t starts ds s v p e nums ms like step told zip c =
    moved ws t starts ds s v p nums ms like.flight like.clock zip c e told.turn told.after told.moves told.due (zip_length (FliesAs t starts) v.flight told.after.flight told.like.flight)
