-- Few later frames, few frames in 400 ms, and no old copies make a steady run.
use Rattle.std.proofs.Common.{◌≡◌, ℕ, ◌+◌, ◌-◌, ◌<◌, ◌≤◌, inl, inr, true, false, ◌&&◌, List, [], ◌∷◌, ℤ, pos, arith, refl, sym, ap, ◌∙◌}
use Rattle.std.proofs.Common.{subst}
use Rattle.std.specs.Prelude.{◌==◌, nat_lt, ◌+ℤ◌, ◌<ℤ◌, ◌≤ℤ◌}
use Rattle.std.specs.Ordering.{int_eq}
use Rattle.std.proofs.lemmas.Bool.{cases_Bool, and_parts, and_from, and_left, ltb-true, ltb-false, lt-ltb, eqb-true, eq-eqb}
use Rattle.std.proofs.lemmas.Bool.Decides.{Decides-int_eq}
use Rattle.std.proofs.lemmas.Int.{ints}
use Rattle.sr_frame.specs.declared.fields.Mac.{Mac}
use Rattle.sr_frame.specs.Addresses.{mac_eq}
use Rattle.sr_sequence.specs.Numbers.{IsNear}
use Rattle.sr_dup_window.specs.Families.{greater}
use Rattle.sr_dup_window.specs.Bins.{IsWidth}
use Rattle.sr_laws_dup.specs.TableRuns.{Arrival, epoch, greatest_of, copies_of, IsNearAll}
use Rattle.sr_dup_table.specs.Limits.{forget_time}
use Rattle.sr_laws_plant.specs.Limits.{first_number, most_sent}
use Rattle.sr_laws_plant.specs.Lists.{Each}
use Rattle.sr_laws_plant.specs.Frames.{Frame, same_pair}
use Rattle.sr_laws_plant.specs.Handlings.{Handling, is_sending, is_sending_of, sent_count, IsSent, IsNotEarlier, AreConsistent}
use Rattle.sr_laws_plant.specs.ListLemmas.{each_map}
use Rattle.sr_laws_plant.proofs.FrameLemmas.{as_sending, as_arrival, sent_below, one_frame, numbered_more}
use Rattle.sr_laws_plant.specs.Widths.{Widths, AreWidths, all_narrow}
use Rattle.sr_laws_plant.specs.Premises.{IsEarly, IsYoung, IsTimely, recent_count, AreWithinLimits, AreAddressed, AreOfMembers}
use Rattle.sr_laws_plant.specs.Steadiness.{IsClose, is_arrival_at, arrival_of, arrivals_at, MembersAreSteady}

-- the time of the newest
abbrev last : List Handling → ℕ
last [] = 0
last (d ∷ ds) = d.time

last_before : (d : Handling) (ds : List Handling) → IsNotEarlier ds d → last ds ≤ d.time
last_before d [] h = omega arith
last_before d (e ∷ es) h = h

pub not_sending : (k : ℕ) (d : Handling) → is_arrival_at k d ≡ true → is_sending d ≡ false
not_sending k d h =
    elim (cases_Bool (is_sending d)) [
      | inl is ↦ let no : false ≡ true = rw is at h in absurd cc
      | inr not_one ↦ not_one
    ]

-- a frame was sent no later than what came after
sent_time : (ds : List Handling) (f : Frame) → AreConsistent ds → IsSent f ds → f.time ≤ last ds
sent_time [] f done sent = absurd sent
sent_time (d ∷ before) f done (inl is) =
    let s = as_sending before d done.2 is.0 in
    let time : f.time ≡ d.time = sym (ap (λ g. g.time) is.1) ∙ s.time in
    omega arith
sent_time (d ∷ before) f done (inr o) =
    let rest = sent_time before f done.0 o in
    let more = last_before d before done.1 in
    omega (arith, rest, more)

-- a whole number below this one, and not below zero
abbrev Below : ℕ → Arrival → Type 0
Below most a = (m : ℕ) × (a.number ≡ pos m) × (m < most)

below_more : (most more : ℕ) → most ≤ more → (a : Arrival) → Below most a → Below more a
below_more most more le a b = (b.0, b.1, omega (arith, b.2))

greatest_below : (most : ℕ) (x : Arrival) (xs : List Arrival) → Each (Below most) (x ∷ xs) → greatest_of (x ∷ xs) <ℤ pos most
greatest_below most x [] e = let is = e.0.1 in let low = e.0.2 in omega (arith, ints)
greatest_below most x (y ∷ ys) e =
    let is = e.0.1 in
    let low = e.0.2 in
    let first : x.number <ℤ pos most = omega (arith, ints) in
    greater_below (greatest_of (y ∷ ys)) x.number most (greatest_below most y ys e.1) first
  where
    greater_below : (m n : ℤ) (most : ℕ) → m <ℤ pos most → n <ℤ pos most → greater m n <ℤ pos most
    greater_below m n most a b = grind (arith, ints)

greatest_above : (x : Arrival) (xs : List Arrival) → x.number ≤ℤ greatest_of (x ∷ xs)
greatest_above x [] = omega (arith, ints)
greatest_above x (y ∷ ys) = greater_above (greatest_of (y ∷ ys)) x.number
  where
    greater_above : (m n : ℤ) → n ≤ℤ greater m n
    greater_above m n = grind (arith, ints)

-- all numbers of an epoch were given
epoch_below : (n : ℕ) (mac : ℕ → Mac) (k s now : ℕ) (ds : List Handling) → AreAddressed mac n → s < n → AreOfMembers n ds →
    AreConsistent ds → Each (Below (first_number + sent_count s ds)) (epoch (mac s) now (arrivals_at mac k ds))
epoch_below n mac k s now [] own in_n within done = tt
epoch_below n mac k s now (d ∷ before) own in_n within done =
    let grows = numbered_more s d before in
    let wider = below_more (first_number + sent_count s before) (first_number + sent_count s (d ∷ before)) (omega (arith, grows)) in
    let older = each_map (Below (first_number + sent_count s before)) (Below (first_number + sent_count s (d ∷ before))) wider in
    elim (cases_Bool (is_arrival_at k d)) [
      | inr other ↦ rw other (older (epoch (mac s) now (arrivals_at mac k before))
          (epoch_below n mac k s now before own in_n within.1 done.0))
      | inl arrives ↦
          elim (cases_Bool (mac_eq (mac s) (mac d.frame.src))) [
            | inr foreign ↦ rw (arrives, foreign)
                (older (epoch (mac s) now (arrivals_at mac k before)) (epoch_below n mac k s now before own in_n within.1 done.0))
            | inl its ↦
                elim (cases_Bool (nat_lt (now - d.time) forget_time)) [
                  | inr old ↦ rw (arrives, its, old) tt
                  | inl live ↦
                      let source : s ≡ d.frame.src = eqb-true s d.frame.src (sym (own.apart s d.frame.src in_n within.0) ∙ its) in
                      let there : sent_count s before ≡ sent_count d.frame.src before = ap (λ x. sent_count x before) source in
                      let low = sent_below before d.frame done.0 (as_arrival before d done.2 (not_sending k d arrives)).sent in
                      let first : Below (first_number + sent_count s (d ∷ before)) (arrival_of mac d) =
                      (d.frame.number, refl, omega (arith, low, grows)) in
                      rw (arrives, its, live) (
                        first,
                        older (epoch (mac s) d.time (arrivals_at mac k before))
                            (epoch_below n mac k s d.time before own in_n within.1 done.0),
                      )
                ]
          ]
    ]

-- what the newest of an epoch says of the next number
pub record Newest (ws : Widths) (s now : ℕ) (ds : List Handling) (y : Arrival) : Type 0 where
  pub number : ℕ
  pub is : y.number ≡ pos number
  pub near : first_number + sent_count s ds ≤ number + ws.least + recent_count s now ds
  pub live : now < y.time + forget_time
  pub time : y.time ≤ last ds

newest_later : (ws : Widths) (s now : ℕ) (d : Handling) (before : List Handling) (y : Arrival) → IsNotEarlier before d → Newest ws s now before y →
    Newest ws s now (d ∷ before) y
newest_later ws s now d before y order h =
    let after = last_before d before order in
    let live = h.live in
    let time = h.time in
    let recently : nat_lt now (d.time + forget_time) ≡ true = lt-ltb now (d.time + forget_time) (omega (arith, after, live, time)) in
    record {
      number = h.number;
      is = h.is;
      near =
          elim (cases_Bool (is_sending_of s d)) [
            | inl its ↦ rw (its, recently) (let near = h.near in omega (arith, near))
            | inr other ↦ rw other h.near
          ];
      live = h.live;
      time = omega (arith, after, time);
    }

newest_of : (ws : Widths) (n : ℕ) (mac : ℕ → Mac) (k s now : ℕ) (ds : List Handling) (y : Arrival) (ys : List Arrival) → AreAddressed mac n → s < n →
    AreOfMembers n ds → AreConsistent ds → AreWithinLimits ws ds → epoch (mac s) now (arrivals_at mac k ds) ≡ y ∷ ys → Newest ws s now ds y
newest_of ws n mac k s now [] y ys own in_n within done limits is = absurd (let no : [] ≡ y ∷ ys = is in cc)
newest_of ws n mac k s now (d ∷ before) y ys own in_n within done limits is =
    elim (cases_Bool (is_arrival_at k d)) [
      | inr other ↦ newest_later ws s now d before y done.1
          (newest_of ws n mac k s now before y ys own in_n within.1 done.0 limits.0 (rw other at is))
      | inl arrives ↦
          elim (cases_Bool (mac_eq (mac s) (mac d.frame.src))) [
            | inr foreign ↦ newest_later ws s now d before y done.1
                (newest_of ws n mac k s now before y ys own in_n within.1 done.0 limits.0 (rw (arrives, foreign) at is))
            | inl its ↦
                elim (cases_Bool (nat_lt (now - d.time) forget_time)) [
                  | inr old ↦ absurd (let no : [] ≡ y ∷ ys = rw (arrives, its, old) at is in cc)
                  | inl live ↦
                      let here : arrival_of mac d ∷ epoch (mac s) d.time (arrivals_at mac k before) ≡ y ∷ ys =
                      rw (arrives, its, live) at is in
                      let first : arrival_of mac d ≡ y = cc in
                      let source : s ≡ d.frame.src = eqb-true s d.frame.src (sym (own.apart s d.frame.src in_n within.0) ∙ its) in
                      let timely = subst (λ b. IsTimely ws b before d) (not_sending k d arrives) limits.1 in
                      let early = timely.0 in
                      let there : sent_count s before ≡ sent_count d.frame.src before = ap (λ x. sent_count x before) source in
                      let mute : is_sending_of s d ≡ false = and_left (is_sending d) (s == d.node) (not_sending k d arrives) in
                      let same_count : sent_count s (d ∷ before) ≡ sent_count s before = rw mute refl in
                      let near = ltb-true (now - d.time) forget_time live in
                      subst (Newest ws s now (d ∷ before)) first (record {
                        number = d.frame.number;
                        is = refl;
                        near = omega (arith, early, there, same_count);
                        live = omega (arith, near);
                        time = omega arith;
                      })
                ]
          ]
    ]

-- narrow tables have widths
pub narrow_widths : AreWidths all_narrow
narrow_widths = record { width = λ k. inl refl; least = λ k. omega arith; greatest = λ k. omega arith }

-- a table remembers 2048 numbers of a source at most
small_width : (w : ℕ) → IsWidth w → w ≤ 2048
small_width w (inl is) = omega (arith, is)
small_width w (inr is) = omega (arith, is)

-- a number is near those of its epoch
near_all : (ws : Widths) (k : ℕ) → AreWidths ws → (s now number most : ℕ) (before : List Handling) (es : List Arrival) → most ≡ first_number + sent_count s before →
    number < most → most ≤ number + ws.least → recent_count s now before ≤ most_sent ws.greatest → Each (Below most) es →
    ((y : Arrival) (ys : List Arrival) → es ≡ y ∷ ys → Newest ws s now before y) → IsNearAll (ws.at k) es (pos number) × IsClose (ws.at k) es (pos number)
near_all ws k are s now number most before [] is given early few below newest = (tt, tt)
near_all ws k are s now number most before (y ∷ ys) is given early few below newest =
    let small = small_width (ws.at k) (are.width k) in
    let above = are.least k in
    let under = are.greatest k in
    let top = newest y ys refl in
    let m = top.number in
    let head = top.is in
    let near = top.near in
    let high = greatest_below most y ys below in
    let low = greatest_above y ys in
    apart (ws.at k) (greatest_of (y ∷ ys)) m number most high
    (subst (λ z. z ≤ℤ greatest_of (y ∷ ys)) head low) small (omega (arith, early, above)) (omega (arith, near, is, given, few, above, under, small))
  where
    apart : (w : ℕ) (g : ℤ) (m number most : ℕ) → g <ℤ pos most → pos m ≤ℤ g → w ≤ 2048 → most ≤ number + w → number ≤ m + (65536 - w - 1) →
        IsNear w g (pos number) × (pos number ≤ℤ (g +ℤ pos (65536 - w - 1)))
    apart w g m number most high low small early late = (record { above = omega (arith, ints); below = omega (arith, ints) }, omega (arith, ints))

-- of this pair no other frame was sent
abbrev IsOnly : Frame → List Handling → Type 0
IsOnly f ds = (g : Frame) → IsSent g ds → same_pair f g ≡ true → f ≡ g

-- copies of a frame: an arrival with its source and its number
copy_same : (n : ℕ) (mac : ℕ → Mac) (f g : Frame) → AreAddressed mac n → f.src < n → g.src < n →
    (mac_eq (mac f.src) (mac g.src) && int_eq (pos f.number) (pos g.number)) ≡ true → same_pair f g ≡ true
copy_same n mac f g own f_in g_in e =
    let both = and_parts (mac_eq (mac f.src) (mac g.src)) (int_eq (pos f.number) (pos g.number)) e in
    let number : pos f.number ≡ pos g.number = (Decides-int_eq (pos f.number) (pos g.number)).0 both.1 in
    let numbers : f.number ≡ g.number = cc in
    and_from (f.src == g.src) (f.number == g.number) (sym (own.apart f.src g.src f_in g_in) ∙ both.0) (eq-eqb f.number g.number numbers)

-- none came in before it was sent
no_copies : (n : ℕ) (mac : ℕ → Mac) (k : ℕ) (f : Frame) (ds : List Handling) → AreAddressed mac n → f.src < n → AreOfMembers n ds →
    AreConsistent ds → IsOnly f ds → last ds < f.time → copies_of (mac f.src) (pos f.number) (arrivals_at mac k ds) ≡ []
no_copies n mac k f [] own in_n within done only old = refl
no_copies n mac k f (d ∷ before) own in_n within done only old =
    let order = last_before d before done.1 in
    let rest = no_copies n mac k f before own in_n within.1 done.0 (λ g sent is. only g (inr sent) is) (omega (arith, order)) in
    elim (cases_Bool (is_arrival_at k d)) [
      | inr other ↦ rw other rest
      | inl arrives ↦
          elim (cases_Bool (mac_eq (mac f.src) (mac d.frame.src) && int_eq (pos f.number) (pos d.frame.number))) [
            | inr foreign ↦ rw (arrives, foreign) rest
            | inl copy ↦
                let sent = (as_arrival before d done.2 (not_sending k d arrives)).sent in
                let is : f ≡ d.frame = only d.frame (inr sent) (copy_same n mac f d.frame own in_n within.0 copy) in
                let time : f.time ≡ d.frame.time = ap (λ g. g.time) is in
                let past = sent_time before d.frame done.0 sent in
                absurd (omega (arith, past, order, time))
          ]
    ]

one_more : (src : Mac) (n : ℤ) (x : Arrival) (xs ys : List Arrival) → copies_of src n xs ≡ copies_of src n ys →
    copies_of src n (x ∷ xs) ≡ copies_of src n (x ∷ ys)
one_more src n x xs ys rest =
    elim (cases_Bool (mac_eq src x.src && int_eq n x.number)) [
      | inl copy ↦ rw copy (ap (λ zs. x ∷ zs) rest)
      | inr differs ↦ rw differs rest
    ]

-- all since then came in in one epoch
copies_in_epoch : (n : ℕ) (mac : ℕ → Mac) (k now : ℕ) (f : Frame) (ds : List Handling) → AreAddressed mac n → f.src < n →
    AreOfMembers n ds → AreConsistent ds → IsOnly f ds → last ds ≤ now → now < f.time + forget_time →
    copies_of (mac f.src) (pos f.number) (arrivals_at mac k ds) ≡ copies_of (mac f.src) (pos f.number)
    (epoch (mac f.src) now (arrivals_at mac k ds))
copies_in_epoch n mac k now f [] own in_n within done only order young = refl
copies_in_epoch n mac k now f (d ∷ before) own in_n within done only order young =
    let earlier = last_before d before done.1 in
    let rest = λ (t : ℕ). λ (a : last before ≤ t). λ (b : t < f.time
    + forget_time). copies_in_epoch n mac k t f before own in_n within.1 done.0 (λ g sent is. only g (inr sent) is) a b in
    elim (cases_Bool (is_arrival_at k d)) [
      | inr other ↦ rw other (rest now (omega (arith, earlier, order)) young)
      | inl arrives ↦
          elim (cases_Bool (mac_eq (mac f.src) (mac d.frame.src))) [
            | inr foreign ↦ rw (arrives, foreign) (rest now (omega (arith, earlier, order)) young)
            | inl its ↦
                elim (cases_Bool (nat_lt (now - d.time) forget_time)) [
                  | inl live ↦
                      let tail = rest d.time earlier (omega (arith, order, young)) in
                      let all : arrivals_at mac k (d ∷ before) ≡ arrival_of mac d ∷ arrivals_at mac k before = rw arrives refl in
                      let within : epoch (mac f.src) now (arrivals_at mac k (d ∷ before)) ≡ arrival_of mac d ∷ epoch (mac f.src) d.time
                      (arrivals_at mac k before) = rw (arrives, its, live) refl in
                      ap (λ xs. copies_of (mac f.src) (pos f.number) xs) all
                      ∙ one_more (mac f.src) (pos f.number) (arrival_of mac d) (arrivals_at mac k before)
                      (epoch (mac f.src) d.time (arrivals_at mac k before)) tail
                      ∙ sym (ap (λ xs. copies_of (mac f.src) (pos f.number) xs) within)
                  | inr old ↦
                      let gap = ltb-false (now - d.time) forget_time old in
                      let none = no_copies n mac k f (d ∷ before) own in_n within done only (omega (arith, gap, young)) in
                      let over : epoch (mac f.src) now (arrivals_at mac k (d ∷ before)) ≡ [] = rw (arrives, its, old) refl in
                      none ∙ sym (ap (λ xs. copies_of (mac f.src) (pos f.number) xs) over)
                ]
          ]
    ]

pub members_are_steady : MembersAreSteady
members_are_steady n mac ws [] are own within done limits k = (tt, tt)
members_are_steady n mac ws (d ∷ before) are own within done limits k =
    let rest = members_are_steady n mac ws before are own within.1 done.0 limits.0 k in
    elim (cases_Bool (is_arrival_at k d)) [
      | inr other ↦ rw other rest
      | inl arrives ↦
          let close = near arrives in
          rw arrives ((rest.0, (close.0, one_epoch arrives)), (rest.1, close.1))
    ]
  where
    sent_of : is_arrival_at k d ≡ true → IsSent d.frame before
    sent_of arrives = (as_arrival before d done.2 (not_sending k d arrives)).sent

    timely_of : is_arrival_at k d ≡ true → IsEarly ws before d.frame × IsYoung d
    timely_of arrives = subst (λ b. IsTimely ws b before d) (not_sending k d arrives) limits.1

    few : recent_count d.frame.src d.time before ≤ most_sent ws.greatest
    few =
        let now = limits.2 d.frame.src in
        elim (cases_Bool (is_sending_of d.frame.src d && nat_lt d.time (d.time + forget_time))) [
          | inl one_more ↦ (let all : recent_count d.frame.src d.time before + 1 ≤ most_sent ws.greatest = rw one_more at now in omega arith)
          | inr none ↦ rw none at now
        ]

    near : is_arrival_at k d ≡ true → IsNearAll (ws.at k) (epoch (mac d.frame.src) d.time (arrivals_at mac k before)) (pos d.frame.number)
        × IsClose (ws.at k) (epoch (mac d.frame.src) d.time (arrivals_at mac k before)) (pos d.frame.number)
    near arrives =
        let given = sent_below before d.frame done.0 (sent_of arrives) in
        let early = (timely_of arrives).0 in
        near_all ws k are d.frame.src d.time d.frame.number (first_number + sent_count d.frame.src before) before
        (epoch (mac d.frame.src) d.time (arrivals_at mac k before)) refl given (omega (arith, early)) few
        (epoch_below n mac k d.frame.src d.time before own within.0 within.1 done.0)
        (λ y ys is. newest_of ws n mac k d.frame.src d.time before y ys own within.0 within.1 done.0 limits.0 is)

    one_epoch : is_arrival_at k d ≡ true → copies_of (mac d.frame.src) (pos d.frame.number) (arrivals_at mac k before) ≡ copies_of
        (mac d.frame.src) (pos d.frame.number) (epoch (mac d.frame.src) d.time (arrivals_at mac k before))
    one_epoch arrives = copies_in_epoch n mac k d.time d.frame before own within.0 within.1 done.0
        (λ g sent is. one_frame before d.frame g done.0 (sent_of arrives) sent is) (last_before d before done.1) (timely_of arrives).1
