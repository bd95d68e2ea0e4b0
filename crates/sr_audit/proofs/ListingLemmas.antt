-- What waits of the numbers of a stretch, while they are settled one by one.
use Rattle.std.proofs.Common.{◌≡◌, ℕ, suc, ◌+◌, ◌-◌, ◌%◌, ◌<◌, ◌≤◌, List, [], ◌∷◌, ◌++◌, length, arith, refl, sym, ap, ◌∙◌, append_assoc, subst, inl, inr, Bool, true, false, cond}
use Rattle.std.proofs.lemmas.List.{get_or-set_other, get_or-set_same, get_or_past, length-set}
use Rattle.std.proofs.lemmas.Bool.{cases_eq, cases_lt, le-leb}
use Rattle.std.specs.Prelude.{slice_set, slice_index_or}
use Rattle.sr_frame.specs.declared.fields.Mac.{Mac}
use Rattle.sr_sequence.specs.declared.Seq.{Seq}
use Rattle.sr_audit.specs.declared.pending.Fate.{Fate}
use Rattle.sr_audit.specs.declared.pending.Fate.TheVariants.{Settled, PassedOver, ByA, ByB}
use Rattle.sr_audit.specs.declared.listing.Listed.{Listed}
use Rattle.sr_audit.specs.declared.pending.Pending.{Pending}
use Rattle.sr_audit.specs.declared.span.Spans.{Spans}
use Rattle.std.specs.Prelude.{nat_le, nat_lt}
use Rattle.sr_sequence.specs.Numbers.{wire}
use Rattle.sr_sequence.specs.Places.{place_of}
use Rattle.sr_sequence.specs.declared.Distance.{Distance}
use Rattle.sr_sequence.specs.declared.Distance.TheVariants.{Behind, Ahead}
use Rattle.sr_dup_window.specs.Windows.{window_of}
use Rattle.sr_audit.specs.declared.arrival.Arrival.{Arrival}
use Rattle.sr_audit.specs.declared.look.Step.TheVariants.{Restart, Jump, On}
use Rattle.sr_audit.specs.declared.numbers.Numbers.{Numbers}
use Rattle.sr_audit.specs.Following.{KeepsFigures, FollowsArrivals}
use Rattle.sr_audit.specs.Looks.{step_to, look_at}
use Rattle.sr_audit.specs.Stretches.{Placed, top_number, newest_time, stretches}
use Rattle.sr_audit.proofs.FollowLemmas.{none_stands}
use Rattle.sr_audit.specs.Limits.{kept_numbers, epoch_gap, place_in}
use Rattle.sr_audit.specs.Listings.{fate_kept, time_kept, packet_kept, settled_as, listed_of, waiting, steps_before, steps_behind, number_left, left_behind, KeepsPlaces, PutsFate, SettlesNumber, StaysAs, IsKeptAs, GoesOver, IsStepWithin, ListsWaiting, ListsEnd}
use Rattle.sr_audit.specs.Rows.{kept_number}

-- numbers less than 1024 apart have places of their own
places_apart : (greatest i k : ℕ) → k < i → i < 1024 → place_in (kept_number greatest i) ≡ place_in (kept_number greatest k) → ⊥
places_apart greatest i k before few same = omega (arith, before, few, same)

-- the numbers from one on are as they were
pub record AreLeft (greatest steps : ℕ) (old new : Pending) : Type 0 where
  pub times : new.times.items ≡ old.times.items
  pub packets : new.packets.items ≡ old.packets.items
  pub fates : (i : ℕ) → steps ≤ i → i < 1024 → fate_kept new (kept_number greatest i) ≡ fate_kept old (kept_number greatest i)

pub all_left : (greatest : ℕ) (p : Pending) → AreLeft greatest 0 p p
all_left greatest p = record { times = refl; packets = refl; fates = λ i from few. refl }

pub settled_next : (greatest k seq : ℕ) (old mid new : Pending) → AreLeft greatest k old mid → seq ≡ kept_number greatest k →
    SettlesNumber seq mid new → AreLeft greatest (suc k) old new
settled_next greatest k seq old mid new left is settled = let settles = subst (λ n. SettlesNumber n mid new) is settled in record {
  times = settles.times ∙ left.times;
  packets = settles.packets ∙ left.packets;
  fates = λ i from few.
      let later : k < i = omega (arith, from) in
      rw settles.fates (get_or-set_other mid.fates.items (place_in (kept_number greatest k)) (place_in (kept_number greatest i)) Settled Settled
      (places_apart greatest i k later few) ∙ left.fates i (omega (arith, from)) few);
}

-- what is listed of a number, where the same is kept of it
settled_same : (spans : Spans) (p q : Pending) (src : Mac) (seq : Seq) (fate : Fate) → p.times.items ≡ q.times.items →
    p.packets.items ≡ q.packets.items → settled_as spans p src seq fate ≡ settled_as spans q src seq fate
settled_same spans p q src seq Settled times packets = refl
settled_same spans p q src seq PassedOver times packets = rw times refl
settled_same spans p q src seq ByA times packets = rw (times, packets) refl
settled_same spans p q src seq ByB times packets = rw (times, packets) refl

-- what was listed, with one number more
pub listed_next : (spans : Spans) (src : Mac) (greatest k : ℕ) (seq : Seq) (old mid : Pending) (before now next : List Listed) → k < 1024 →
    AreLeft greatest k old mid → seq.0 ≡ kept_number greatest k → now ≡ before ++ waiting spans old src greatest k →
    next ≡ now ++ listed_of spans mid src seq → next ≡ before ++ waiting spans old src greatest (suc k)
listed_next spans src greatest k seq old mid before now next few left number is more =
    more
    ∙ ap (λ n. now ++ listed_of spans mid src (record { 0 = n })) number
    ∙ ap (λ l. l ++ listed_of spans mid src (record { 0 = kept_number greatest k })) is
    ∙ ap (λ f. (before ++ waiting spans old src greatest k) ++ settled_as spans mid src (record { 0 = kept_number greatest k }) f)
    (left.fates k (omega arith) few)
    ∙ ap (λ l. (before ++ waiting spans old src greatest k) ++ l)
    (settled_same spans mid old src (record { 0 = kept_number greatest k }) (fate_kept old (kept_number greatest k)) left.times left.packets)
    ∙ append_assoc before (waiting spans old src greatest k) (listed_of spans old src (record { 0 = kept_number greatest k }))

-- a number has the place of the one 1024 before it
place_before : (n : ℕ) → place_in (steps_before n 1024) ≡ place_in n
place_before n = omega arith

-- numbers on the way ahead have places of their own
way_apart : (seq steps i k : ℕ) → k < i → i < steps → steps < 1024 →
    place_in (steps_before seq (steps - i - 1)) ≡ place_in (steps_before seq (steps - k - 1)) → ⊥
way_apart seq steps i k before within few same = omega (arith, before, within, few, same)

-- the numbers that a stretch will leave behind, from one on, are as they were
pub record AreAhead (seq steps k : ℕ) (old new : Pending) : Type 0 where
  pub fates : (i : ℕ) → k ≤ i → i < steps → fate_kept new (number_left seq steps i) ≡ fate_kept old (number_left seq steps i)
  pub times : (i : ℕ) → k ≤ i → i < steps → time_kept new (number_left seq steps i) ≡ time_kept old (number_left seq steps i)
  pub packets : (i : ℕ) → k ≤ i → i < steps → packet_kept new (number_left seq steps i) ≡ packet_kept old (number_left seq steps i)

pub all_ahead : (seq steps : ℕ) (p : Pending) → AreAhead seq steps 0 p p
all_ahead seq steps p = record { fates = λ i from few. refl; times = λ i from few. refl; packets = λ i from few. refl }

pub gone_next : (spans : Spans) (src : Mac) (seq steps k n time : ℕ) (old mid new : Pending) (before after : List Listed) → steps < 1024 →
    AreAhead seq steps k old mid → n ≡ steps_before seq (steps - k - 1) → GoesOver spans src n time mid new before after →
    AreAhead seq steps (suc k) old new
gone_next spans src seq steps k n time old mid new before after few ahead is gone =
    let goes = subst (λ m. GoesOver spans src m time mid new before after) is gone in record {
      fates = λ i from within.
          let apart = later i from within in
          let other = later_left i from within in
          rw (goes.passed.fates, goes.settled.fates)
          (get_or-set_other (slice_set mid.fates.items (place_in (number_left seq steps k)) Settled) (place_in (steps_before seq (steps - k - 1)))
          (place_in (number_left seq steps i)) PassedOver Settled apart
          ∙ get_or-set_other mid.fates.items (place_in (number_left seq steps k)) (place_in (number_left seq steps i)) Settled Settled other
          ∙ ahead.fates i (omega (arith, from)) within);
      times = λ i from within.
          rw (goes.passed.times, goes.settled.times)
          (get_or-set_other mid.times.items (place_in (steps_before seq (steps - k - 1))) (place_in (number_left seq steps i)) time 0 (later i from within)
          ∙ ahead.times i (omega (arith, from)) within);
      packets = λ i from within.
          rw (goes.passed.packets, goes.settled.packets)
          (get_or-set_other mid.packets.items (place_in (steps_before seq (steps - k - 1))) (place_in (number_left seq steps i)) 0 0 (later i from within)
          ∙ ahead.packets i (omega (arith, from)) within);
    }
  where
    later : (i : ℕ) → suc k ≤ i → i < steps → place_in (number_left seq steps i) ≡ place_in (steps_before seq (steps - k - 1)) → ⊥
    later i from within same =
        way_apart seq steps i k (omega (arith, from)) within few (sym (place_before (steps_before seq (steps - i - 1))) ∙ same)

    later_left : (i : ℕ) → suc k ≤ i → i < steps → place_in (number_left seq steps i) ≡ place_in (number_left seq steps k) → ⊥
    later_left i from within same = later i from within (same ∙ place_before (steps_before seq (steps - k - 1)))

-- what is listed of a number, where the same is kept of it at its place
settled_alike : (spans : Spans) (p q : Pending) (src : Mac) (seq : Seq) (fate : Fate) → time_kept p seq.0 ≡ time_kept q seq.0 →
    packet_kept p seq.0 ≡ packet_kept q seq.0 → settled_as spans p src seq fate ≡ settled_as spans q src seq fate
settled_alike spans p q src seq Settled times packets = refl
settled_alike spans p q src seq PassedOver times packets = rw times refl
settled_alike spans p q src seq ByA times packets = rw (times, packets) refl
settled_alike spans p q src seq ByB times packets = rw (times, packets) refl

pub gone_listed : (spans : Spans) (src : Mac) (seq steps k n time : ℕ) (old mid new : Pending) (before now next : List Listed) → k < steps →
    AreAhead seq steps k old mid → n ≡ steps_before seq (steps - k - 1) → now ≡ before ++ left_behind spans old src seq steps k →
    GoesOver spans src n time mid new now next → next ≡ before ++ left_behind spans old src seq steps (suc k)
gone_listed spans src seq steps k n time old mid new before now next within ahead number is goes =
    (subst (λ m. GoesOver spans src m time mid new now next) number goes).listed
    ∙ ap (λ l. l ++ listed_of spans mid src (record { 0 = number_left seq steps k })) is
    ∙ ap (λ f. (before ++ left_behind spans old src seq steps k) ++ settled_as spans mid src (record { 0 = number_left seq steps k }) f)
    (ahead.fates k (omega arith) within)
    ∙ ap (λ l. (before ++ left_behind spans old src seq steps k) ++ l)
    (settled_alike spans mid old src (record { 0 = number_left seq steps k }) (fate_kept old (number_left seq steps k))
    (ahead.times k (omega arith) within) (ahead.packets k (omega arith) within))
    ∙ append_assoc before (left_behind spans old src seq steps k) (listed_of spans old src (record { 0 = number_left seq steps k }))

-- numbers on the way back have places of their own
back_apart : (seq i k : ℕ) → k < i → i < 1024 → place_in (steps_behind seq i) ≡ place_in (steps_behind seq k) → ⊥
back_apart seq i k before few same = omega (arith, before, few, same)

-- the same is kept of a number at another place
pub kept_alike : (p : Pending) (seq : ℕ) → IsKeptAs p p seq
kept_alike p seq = record { fate = refl; time = refl; packet = refl }

pub kept_too : (p q r : Pending) (seq : ℕ) → IsKeptAs p q seq → IsKeptAs q r seq → IsKeptAs p r seq
kept_too p q r seq first second =
    record { fate = second.fate ∙ first.fate; time = second.time ∙ first.time; packet = second.packet ∙ first.packet }

pub kept_items : (p q : Pending) → q.fates.items ≡ p.fates.items → q.times.items ≡ p.times.items → q.packets.items ≡ p.packets.items →
    (seq : ℕ) → IsKeptAs p q seq
kept_items p q fates times packets seq = record {
  fate = ap (λ l. slice_index_or l (place_in seq) Settled) fates;
  time = ap (λ l. slice_index_or l (place_in seq) 0) times;
  packet = ap (λ l. slice_index_or l (place_in seq) 0) packets;
}

-- a list made as long as another keeps what it had, and has this value from there on
pub resized_alike : {X : Type 0} (old new : List X) (d : X) (k : ℕ) →
    (k < length old → slice_index_or new k d ≡ slice_index_or old k d) → (length old ≤ k → slice_index_or new k d ≡ d) →
    slice_index_or new k d ≡ slice_index_or old k d
resized_alike old new d k same past =
    elim (cases_lt k (length old)) [
      | inl less ↦ same less
      | inr beyond ↦ past beyond ∙ sym (get_or_past old k d beyond)
    ]

pub puts_other : (n time packet seq : ℕ) (fate : Fate) (old new : Pending) → (place_in seq ≡ place_in n → ⊥) →
    PutsFate n fate time packet old new → IsKeptAs old new seq
puts_other n time packet seq fate old new apart puts = record {
  fate = rw puts.fates (get_or-set_other old.fates.items (place_in n) (place_in seq) fate Settled apart);
  time = rw puts.times (get_or-set_other old.times.items (place_in n) (place_in seq) time 0 apart);
  packet = rw puts.packets (get_or-set_other old.packets.items (place_in n) (place_in seq) packet 0 apart);
}

pub settles_other : (n seq : ℕ) (old new : Pending) → (place_in seq ≡ place_in n → ⊥) → SettlesNumber n old new → IsKeptAs old new seq
settles_other n seq old new apart settles = record {
  fate = rw settles.fates (get_or-set_other old.fates.items (place_in n) (place_in seq) Settled Settled apart);
  time = rw settles.times refl;
  packet = rw settles.packets refl;
}

-- those from one on are passed over
pub record ArePassed (seq time reach steps step : ℕ) (old new : Pending) : Type 0 where
  pub fates : (i : ℕ) → steps ≤ i + step → i + reach < steps → fate_kept new (steps_behind seq i) ≡ PassedOver
  pub times : (i : ℕ) → steps ≤ i + step → i + reach < steps → time_kept new (steps_behind seq i) ≡ time
  pub others : (i : ℕ) → steps ≤ i + reach → i < 1024 → IsKeptAs old new (steps_behind seq i)

pub none_passed : (seq time reach steps : ℕ) (p : Pending) → ArePassed seq time reach steps reach p p
none_passed seq time reach steps p = record {
  fates = λ i from within. absurd (omega (arith, from, within));
  times = λ i from within. absurd (omega (arith, from, within));
  others = λ i from within. kept_alike p (steps_behind seq i);
}

pub room_kept : (seq time packet : ℕ) (fate : Fate) (old new : Pending) → KeepsPlaces old → PutsFate seq fate time packet old new → KeepsPlaces new
room_kept seq time packet fate old new room puts = record {
  fates = rw puts.fates (length-set old.fates.items (place_in seq) fate ∙ room.fates);
  times = rw puts.times (length-set old.times.items (place_in seq) time ∙ room.times);
  packets = rw puts.packets (length-set old.packets.items (place_in seq) packet ∙ room.packets);
}

pub room_settled : (seq : ℕ) (old new : Pending) → KeepsPlaces old → SettlesNumber seq old new → KeepsPlaces new
room_settled seq old new room settles = record {
  fates = rw settles.fates (length-set old.fates.items (place_in seq) Settled ∙ room.fates);
  times = ap length settles.times ∙ room.times;
  packets = ap length settles.packets ∙ room.packets;
}

-- what stays through one step, or two
pub stays : (p : Pending) → StaysAs p p
stays p = record { numbers = refl; listed = refl; room = λ h. h }

pub stays_too : (p q r : Pending) → StaysAs p q → StaysAs q r → StaysAs p r
stays_too p q r first second = record {
  numbers = second.numbers ∙ first.numbers;
  listed = second.listed ∙ first.listed;
  room = λ h. second.room (first.room h);
}

pub puts_stays : (seq time packet : ℕ) (fate : Fate) (old new : Pending) → PutsFate seq fate time packet old new → StaysAs old new
puts_stays seq time packet fate old new puts = record {
  numbers = puts.numbers;
  listed = puts.listed;
  room = λ h. room_kept seq time packet fate old new h puts;
}

pub settles_stays : (seq : ℕ) (old new : Pending) → SettlesNumber seq old new → StaysAs old new
settles_stays seq old new settles = record {
  numbers = settles.numbers;
  listed = settles.listed;
  room = λ h. room_settled seq old new h settles;
}

pub passed_next : (seq time reach steps step : ℕ) (old mid new : Pending) → reach ≤ step → step < steps → steps < 1024 →
    KeepsPlaces mid → ArePassed seq time reach steps step old mid →
    PutsFate (steps_behind seq (steps - step - 1)) PassedOver time 0 mid new → ArePassed seq time reach steps (suc step) old new
passed_next seq time reach steps step old mid new later within few room passed puts = record {
  others = λ i from less. kept_too old mid new (steps_behind seq i) (passed.others i from less)
      (puts_other (steps_behind seq (steps - step - 1)) time 0 (steps_behind seq i) PassedOver mid new
      (back_apart seq i (steps - step - 1) (omega (arith, from, later, within)) less) puts);
  fates = λ i from less.
      elim (cases_eq i (steps - step - 1)) [
        | inl same ↦ rw (puts.fates, same) (get_or-set_same mid.fates.items (place_in (steps_behind seq (steps - step - 1))) PassedOver Settled
            (omega (arith, room.fates)))
        | inr other ↦ rw puts.fates (get_or-set_other mid.fates.items (place_in (steps_behind seq (steps - step - 1)))
            (place_in (steps_behind seq i)) PassedOver Settled (back_apart seq i (steps - step - 1) (omega (arith, from, other)) (omega (arith, less, few)))
            ∙ passed.fates i (omega (arith, from, other)) less)
      ];
  times = λ i from less.
      elim (cases_eq i (steps - step - 1)) [
        | inl same ↦ rw (puts.times, same) (get_or-set_same mid.times.items (place_in (steps_behind seq (steps - step - 1))) time 0
            (omega (arith, room.times)))
        | inr other ↦ rw puts.times (get_or-set_other mid.times.items (place_in (steps_behind seq (steps - step - 1)))
            (place_in (steps_behind seq i)) time 0 (back_apart seq i (steps - step - 1) (omega (arith, from, other)) (omega (arith, less, few)))
            ∙ passed.times i (omega (arith, from, other)) less)
      ];
}

-- the numbers from one on are settled
pub record AreSettled (greatest steps : ℕ) (new : Pending) : Type 0 where
  pub fates : (i : ℕ) → i < steps → fate_kept new (kept_number greatest i) ≡ Settled

pub none_settled : (greatest : ℕ) (p : Pending) → AreSettled greatest 0 p
none_settled greatest p = record { fates = λ i none. absurd (omega (arith, none)) }

pub settled_more : (greatest k n : ℕ) (mid new : Pending) → k < 1024 → KeepsPlaces mid → n ≡ kept_number greatest k →
    AreSettled greatest k mid → SettlesNumber n mid new → AreSettled greatest (k + 1) new
settled_more greatest k n mid new few room is are settles = let goes = subst (λ m. SettlesNumber m mid new) is settles in record {
  fates = λ i less.
      elim (cases_eq i k) [
        | inl same ↦ rw (goes.fates, same) (get_or-set_same mid.fates.items (place_in (kept_number greatest k)) Settled Settled
            (omega (arith, room.fates)))
        | inr other ↦
            let before : i < k = omega (arith, less, other) in
            rw goes.fates (get_or-set_other mid.fates.items (place_in (kept_number greatest k)) (place_in (kept_number greatest i)) Settled Settled
            (λ met. places_apart greatest k i before few (sym met)) ∙ are.fates i before)
      ];
}

-- each number has the place of one of the last 1024
place_met : (greatest seq : ℕ) → place_in (kept_number greatest ((seq + (1024 - (greatest + 64513) % 1024)) % 1024)) ≡ place_in seq
place_met greatest seq = omega arith

pub all_settled : (greatest : ℕ) (p : Pending) → AreSettled greatest 1024 p → (seq : ℕ) → fate_kept p seq ≡ Settled
all_settled greatest p are seq =
    let i = (seq + (1024 - (greatest + 64513) % 1024)) % 1024 in
    let few : i < 1024 = omega arith in
    sym (ap (λ m. slice_index_or p.fates.items m Settled) (place_met greatest seq)) ∙ are.fates i few

-- the numbers on the way ahead, up to one, are passed over
pub record AreOver (seq time steps k : ℕ) (old new : Pending) : Type 0 where
  pub fates : (i : ℕ) → i < steps → steps ≤ i + k → fate_kept new (steps_before seq i) ≡ PassedOver
  pub times : (i : ℕ) → i < steps → steps ≤ i + k → time_kept new (steps_before seq i) ≡ time
  pub others : (i : ℕ) → steps ≤ i → i < 1024 → IsKeptAs old new (steps_before seq i)

pub none_over : (seq time steps : ℕ) (p : Pending) → AreOver seq time steps 0 p p
none_over seq time steps p = record {
  fates = λ i less from. absurd (omega (arith, less, from));
  times = λ i less from. absurd (omega (arith, less, from));
  others = λ i from less. kept_alike p (steps_before seq i);
}

ahead_apart : (seq i k : ℕ) → (i ≡ k → ⊥) → i < 1024 → k < 1024 → place_in (steps_before seq i) ≡ place_in (steps_before seq k) → ⊥
ahead_apart seq i k differ few small same = differ (omega (arith, few, small, same))

pub over_more : (spans : Spans) (src : Mac) (seq time steps k n : ℕ) (old mid new : Pending) (before after : List Listed) → k < steps →
    steps < 1024 → KeepsPlaces mid → n ≡ steps_before seq (steps - k - 1) → AreOver seq time steps k old mid →
    GoesOver spans src n time mid new before after → AreOver seq time steps (k + 1) old new
over_more spans src seq time steps k n old mid new before after within few room is over gone =
    record {
      fates = λ i less from.
          elim (cases_eq i j) [
            | inl same ↦ rw (goes.passed.fates, same) (get_or-set_same goes.mid.fates.items (place_in (steps_before seq j)) PassedOver Settled
                (omega (arith, mid_room.fates)))
            | inr other ↦ (kept i (ahead_apart seq i j other (omega (arith, less, few)) small)).fate ∙ over.fates i less (omega (arith, from, other))
          ];
      times = λ i less from.
          elim (cases_eq i j) [
            | inl same ↦ rw (goes.passed.times, same) (get_or-set_same goes.mid.times.items (place_in (steps_before seq j)) time 0
                (omega (arith, mid_room.times)))
            | inr other ↦ (kept i (ahead_apart seq i j other (omega (arith, less, few)) small)).time ∙ over.times i less (omega (arith, from, other))
          ];
      others = λ i from less. kept_too old mid new (steps_before seq i) (over.others i from less)
          (kept i (ahead_apart seq i j (λ same. omega (arith, same, from, within)) less small));
    }
  where
    j : ℕ
    j = steps - k - 1

    small : j < 1024
    small = omega (arith, few)

    goes : GoesOver spans src (steps_before seq j) time mid new before after
    goes = subst (λ m. GoesOver spans src m time mid new before after) is gone

    mid_room : KeepsPlaces goes.mid
    mid_room = room_settled (steps_before (steps_before seq j) kept_numbers) mid goes.mid room goes.settled

    kept : (i : ℕ) → (place_in (steps_before seq i) ≡ place_in (steps_before seq j) → ⊥) → IsKeptAs mid new (steps_before seq i)
    kept i apart = kept_too mid goes.mid new (steps_before seq i)
        (settles_other (steps_before (steps_before seq j) kept_numbers) (steps_before seq i) mid goes.mid
        (λ same. apart (same ∙ place_before (steps_before seq j))) goes.settled)
        (puts_other (steps_before seq j) time 0 (steps_before seq i) PassedOver goes.mid new apart goes.passed)

-- one number more
more : (k : ℕ) → suc k ≡ k + 1
more k = omega arith

pub left_more : (spans : Spans) (src : Mac) (greatest k : ℕ) (seq : Seq) (old mid new : Pending) (before now next : List Listed) → k < 1024 →
    AreLeft greatest k old mid → seq.0 ≡ kept_number greatest k → now ≡ before ++ waiting spans old src greatest k →
    next ≡ now ++ listed_of spans mid src seq → SettlesNumber seq.0 mid new →
    (next ≡ before ++ waiting spans old src greatest (k + 1)) × AreLeft greatest (k + 1) old new
left_more spans src greatest k seq old mid new before now next few left number is listed settles =
    subst (λ m. (next ≡ before ++ waiting spans old src greatest m) × AreLeft greatest m old new) (more k) (
      listed_next spans src greatest k seq old mid before now next few left number is listed,
      settled_next greatest k seq.0 old mid new left number settles,
    )

pub gone_more : (spans : Spans) (src : Mac) (seq steps k n time : ℕ) (old mid new : Pending) (before now next : List Listed) → k < steps →
    steps < 1024 → AreAhead seq steps k old mid → n ≡ steps_before seq (steps - k - 1) → now ≡ before ++ left_behind spans old src seq steps k →
    GoesOver spans src n time mid new now next →
    (next ≡ before ++ left_behind spans old src seq steps (k + 1)) × AreAhead seq steps (k + 1) old new
gone_more spans src seq steps k n time old mid new before now next within few ahead number is goes =
    subst (λ m. (next ≡ before ++ left_behind spans old src seq steps m) × AreAhead seq steps m old new) (more k) (
      gone_listed spans src seq steps k n time old mid new before now next within ahead number is goes,
      gone_next spans src seq steps k n time old mid new now next few ahead number goes,
    )

-- the greatest number of a source is that of its last stretch
pub lists_end : (spans : Spans) (p : Pending) (src : Mac) (greatest : ℕ) (xs : List Arrival) (n : Numbers) (before after : List Listed) →
    FollowsArrivals xs n → greatest ≡ (window_of n.seen).reference → ListsWaiting spans p src greatest before after →
    ListsEnd spans p src (stretches xs) before after
lists_end spans p src greatest xs n before after follows is waits = by (stretches xs) follows
  where
    by : (ss : List (List Placed)) → KeepsFigures ss n → ListsEnd spans p src ss before after
    by [] keeps = absurd (none_stands n keeps.seen)
    by (s ∷ rest) keeps = subst (λ g. ListsWaiting spans p src g before after) (is ∙ keeps.seen.reference) waits

-- what goes on with a stretch lies less than 1024 ahead
pub look_within : (ss : List (List Placed)) (x : Arrival) → IsStepWithin (look_at ss x).step
look_within [] x = tt
look_within (s ∷ before) x = by (nat_lt (x.time - newest_time s) epoch_gap) (place_of (wire (top_number s)) x.seq.0 kept_numbers)
  where
    near_is : (k : ℕ) → nat_le kept_numbers k ≡ false → k < kept_numbers
    near_is k below =
        elim (cases_lt k kept_numbers) [
          | inl within ↦ within
          | inr far ↦ let bad : true ≡ false = sym (le-leb kept_numbers k far) ∙ below in absurd cc
        ]

    ahead : (soon : Bool) (k : ℕ) (b : Bool) → nat_le kept_numbers k ≡ b → IsStepWithin (cond b (cond soon Jump Restart) (On (Ahead k)))
    ahead true k true far = tt
    ahead false k true far = tt
    ahead soon k false near = near_is k near

    by : (soon : Bool) (d : Distance) → IsStepWithin (step_to soon d)
    by true (Behind k) = tt
    by false (Behind k) = tt
    by soon (Ahead k) = ahead soon k (nat_le kept_numbers k) refl
