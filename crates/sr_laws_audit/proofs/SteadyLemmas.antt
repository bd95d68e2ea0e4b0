-- An audit of a steady run counts the frames that go up.
use Rattle.std.proofs.Common.{◌≡◌, ℕ, ◌+◌, ◌-◌, ◌/◌, ◌<◌, ◌≤◌, Bool, true, false, cond, ◌||◌, ◌&&◌, not, List, [], ◌∷◌, ◌++◌, length, ℤ, pos, arith, refl, sym, ap, ◌∙◌, subst, inl, inr}
use Rattle.std.specs.Prelude.{count_by, sum_by, nat_lt, ◌+ℤ◌, ◌-ℤ◌}
use Rattle.std.specs.Ordering.{int_eq}
use Rattle.std.proofs.lemmas.Bool.{cases_Bool}
use Rattle.std.proofs.lemmas.Int.{ints}
use Rattle.std.proofs.lemmas.List.Sums.{sum_by-cons}
use Rattle.sr_frame.specs.declared.fields.Mac.{Mac}
use Rattle.sr_frame.specs.Addresses.{mac_eq}
use Rattle.sr_frame.specs.AddressLemmas.{mac_same}
use Rattle.sr_sequence.specs.Numbers.{wire, IsNear}
use Rattle.sr_sequence.specs.NumberLemmas.{wire-lt}
use Rattle.sr_sequence.specs.Places.{number_at, IsTheOne}
use Rattle.sr_sequence.specs.declared.Distance.{Distance}
use Rattle.sr_sequence.specs.declared.Distance.TheVariants.{Behind, Ahead}
use Rattle.sr_dup_window.specs.declared.lane_sets.Lane.{Lane}
use Rattle.sr_dup_window.specs.declared.lane_sets.Lane.TheVariants.{H, GotA, GotB}
use Rattle.sr_dup_window.specs.LaneSets.{has}
use Rattle.sr_dup_window.specs.Families.{greater}
use Rattle.sr_dup_table.specs.Limits.{forget_time}
use Rattle.sr_dup_table.specs.Sources.{Sources}
use Rattle.sr_laws_dup.specs.TableRuns.{
  Arrival as RunArrival,
  Noting,
  epoch,
  greatest_of,
  is_copy,
  copies_of,
  IsNearAll,
  IsNext,
  AreSteady,
  was_noted,
  TableTurn,
  arrived,
  aged,
  notings_of,
  arrivals_of,
  TableRun,
  IsSteadyRun,
}
use Rattle.sr_laws_dup.specs.EpochLemmas.{noted_epoch, noted_in_epoch, now_is_live}
use Rattle.sr_laws_dup.specs.RunLemmas.{each_pair_is_new_once}
use Rattle.sr_audit.specs.declared.arrival.Arrival.{Arrival}
use Rattle.sr_audit.specs.declared.side.Side.{Side}
use Rattle.sr_audit.specs.declared.side.Side.TheVariants.{A, B}
use Rattle.sr_audit.specs.Audits.{Sent, of}
use Rattle.sr_audit.specs.Edges.{edges_of}
use Rattle.sr_audit.specs.Extents.{is_jump, jumps_of}
use Rattle.sr_audit.specs.Lanes.{side_lane}
use Rattle.sr_audit.specs.Limits.{kept_numbers, epoch_gap}
use Rattle.sr_audit.specs.Stretches.{
  Placed,
  copy_as,
  same_side,
  came,
  top_number,
  newest_time,
  is_far,
  lies_from,
  goes_to,
  goes_on,
  gone_on,
  stretch_begun,
  current,
  with_arrival,
  stretches,
}
use Rattle.sr_audit.specs.Tallies.{frames, frames_with, by_both, by_a_alone, by_b_alone, tally_of}
use Rattle.sr_audit.proofs.EdgeLemmas.{edges-a-le, edges-b-le}
use Rattle.sr_audit.proofs.ExtentLemmas.{no_empty}
use Rattle.sr_audit.proofs.FitLemmas.{frames_split}
use Rattle.sr_audit.proofs.FollowLemmas.{number_is}
use Rattle.sr_audit.proofs.FrameLemmas.{count-cons, frames_with-more}
use Rattle.sr_laws_audit.proofs.ShiftLemmas.{shifted, came_shifted, top_shifted, IsUnseen, start_unseen}
use Rattle.sr_laws_audit.specs.Steady.{
  clock_step,
  IsNotedAs,
  AreNotedAs,
  AreSilentAlike,
  newest_number,
  GoesOnAlike,
  AreGoneOnAlike,
  run_copy,
  run_copies,
  handed_up,
  up_with,
  SteadyAuditsCountWhatGoesUp,
}

-- the copies of a source's epoch at a time
abbrev recent : Mac → ℕ → List Sent → List Noting → List Placed
recent src now [] xs = []
recent src now (c ∷ cs) [] = []
recent src now (c ∷ cs) (x ∷ xs) =
    cond (mac_eq src c.0) (cond (nat_lt (now - x.arrival.time) forget_time) (run_copy c x ∷ recent src x.arrival.time cs xs) [])
    (recent src now cs xs)

-- a copy is noted on the lane of its side
on_lane : (c : Sent) (x : Noting) (side : Side) → IsNotedAs c x → has x.lanes (side_lane side) ≡ same_side side c.1.side
on_lane c x A noted = noted.got_a
on_lane c x B noted = noted.got_b

-- one copy of a source, or of another one
copy_own : (src : Mac) (n : ℤ) (side : Side) (c : Sent) (x : Noting) → IsNotedAs c x → mac_eq src c.0 ≡ true →
    (int_eq n x.arrival.number && same_side side c.1.side) ≡ (is_copy src n x.arrival && has x.lanes (side_lane side))
copy_own src n side c x noted own =
    let src_is : mac_eq src x.arrival.src ≡ true = ap (mac_eq src) noted.src ∙ own in
    rw (src_is, on_lane c x side noted) refl

copy_other : (src : Mac) (n : ℤ) (lane : Lane) (c : Sent) (x : Noting) → IsNotedAs c x → mac_eq src c.0 ≡ false →
    (is_copy src n x.arrival && has x.lanes lane) ≡ false
copy_other src n lane c x noted other =
    let src_is : mac_eq src x.arrival.src ≡ false = ap (mac_eq src) noted.src ∙ other in
    rw src_is refl

-- a copy came by a side where it was noted on the lane of that side
came_noted : (src : Mac) (side : Side) (n : ℤ) (cs : List Sent) (xs : List Noting) → AreNotedAs cs xs →
    came side n (run_copies src cs xs) ≡ was_noted src n (side_lane side) xs
came_noted src side n [] [] noted = refl
came_noted src side n [] (x ∷ xs) noted = absurd noted
came_noted src side n (c ∷ cs) [] noted = absurd noted
came_noted src side n (c ∷ cs) (x ∷ xs) noted =
    elim (cases_Bool (mac_eq src c.0)) [
      | inl own ↦ rw own (ap (λ b. b || came side n (run_copies src cs xs)) (copy_own src n side c x noted.0 own)
          ∙ ap (λ b. (is_copy src n x.arrival && has x.lanes (side_lane side)) || b) (came_noted src side n cs xs noted.1))
      | inr other ↦ rw other (came_noted src side n cs xs noted.1
          ∙ ap (λ b. b || was_noted src n (side_lane side) xs) (sym (copy_other src n (side_lane side) c x noted.0 other)))
    ]

came_recent : (src : Mac) (side : Side) (n : ℤ) (now : ℕ) (cs : List Sent) (xs : List Noting) → AreNotedAs cs xs →
    came side n (recent src now cs xs) ≡ was_noted src n (side_lane side) (noted_epoch src now xs)
came_recent src side n now [] [] noted = refl
came_recent src side n now [] (x ∷ xs) noted = absurd noted
came_recent src side n now (c ∷ cs) [] noted = absurd noted
came_recent src side n now (c ∷ cs) (x ∷ xs) noted =
    elim (cases_Bool (mac_eq src c.0)) [
      | inl own ↦
          let src_is : mac_eq src x.arrival.src ≡ true = ap (mac_eq src) noted.0.src ∙ own in
          elim (cases_Bool (nat_lt (now - x.arrival.time) forget_time)) [
            | inl live ↦ rw (own, src_is, live) (ap (λ b. b || came side n (recent src x.arrival.time cs xs)) (joined own src_is)
                ∙ ap (λ b. (int_eq n x.arrival.number && has x.lanes (side_lane side)) || b)
                (came_recent src side n x.arrival.time cs xs noted.1) ∙ restored src_is)
            | inr old ↦ rw (own, src_is, old) refl
          ]
      | inr other ↦
          let src_is : mac_eq src x.arrival.src ≡ false = ap (mac_eq src) noted.0.src ∙ other in
          rw (other, src_is) (came_recent src side n now cs xs noted.1)
    ]
  where
    joined : mac_eq src c.0 ≡ true → mac_eq src x.arrival.src ≡ true →
        (int_eq n x.arrival.number && same_side side c.1.side) ≡ (int_eq n x.arrival.number && has x.lanes (side_lane side))
    joined own src_is = ap (λ b. int_eq n x.arrival.number && b) (sym (on_lane c x side noted.0))

    restored : mac_eq src x.arrival.src ≡ true →
        ((int_eq n x.arrival.number && has x.lanes (side_lane side)) || was_noted src n (side_lane side) (noted_epoch src x.arrival.time xs))
        ≡ was_noted src n (side_lane side) (x ∷ noted_epoch src x.arrival.time xs)
    restored src_is = rw src_is refl

-- every copy is noted for the host
some_noted : (src : Mac) (n : ℤ) (cs : List Sent) (xs : List Noting) → AreNotedAs cs xs →
    was_noted src n H xs ≡ (was_noted src n GotA xs || was_noted src n GotB xs)
some_noted src n [] [] noted = refl
some_noted src n [] (x ∷ xs) noted = absurd noted
some_noted src n (c ∷ cs) [] noted = absurd noted
some_noted src n (c ∷ cs) (x ∷ xs) noted =
    rw (noted.0.host, noted.0.got_a, noted.0.got_b)
    (by (is_copy src n x.arrival) c.1.side (was_noted src n H xs) (was_noted src n GotA xs) (was_noted src n GotB xs)
    (some_noted src n cs xs noted.1))
  where
    by : (k : Bool) (side : Side) (h a b : Bool) → h ≡ (a || b) →
        ((k && true) || h) ≡ (((k && same_side A side) || a) || ((k && same_side B side) || b))
    by true A h a b e = refl
    by true B h true b e = refl
    by true B h false b e = refl
    by false side h a b e = e

-- the numbers that went up are the frames of all copies, under the whole numbers of the run
up_frames : (src : Mac) (turns : List TableTurn) (t : Sources) (cs : List Sent) → TableRun kept_numbers [] turns t →
    IsSteadyRun kept_numbers 0 [] turns → AreNotedAs cs (notings_of [] turns) → handed_up src turns ≡ frames (run_copies src cs (notings_of [] turns))
up_frames src [] t [] run steady noted = refl
up_frames src [] t (c ∷ cs) run steady noted = absurd noted
up_frames src (aged now ∷ turns) t cs run steady noted = up_frames src turns run.0 cs run.1 (steady.0.0, steady.1) noted
up_frames src (arrived x fresh ∷ turns) t [] run steady noted = absurd noted
up_frames src (arrived x fresh ∷ turns) t (c ∷ cs) run steady noted =
    let before = notings_of [] turns in
    let rest : handed_up src turns ≡ frames (run_copies src cs before) = up_frames src turns run.0 cs run.1 (steady.0.0, steady.1.0) noted.1 in
    elim (cases_Bool (mac_eq src c.0)) [
      | inl own ↦
          let src_is : mac_eq src x.arrival.src ≡ true = ap (mac_eq src) noted.0.src ∙ own in
          let new : has fresh H ≡ not (came A x.arrival.number (run_copies src cs before) || came B x.arrival.number (run_copies src cs before)) =
          each_pair_is_new_once kept_numbers (inl refl) x fresh turns t H run steady
          ∙ ap (λ b. b && not (was_noted x.arrival.src x.arrival.number H before)) noted.0.host
          ∙ ap (λ m. not (was_noted m x.arrival.number H before)) (sym (mac_same src x.arrival.src src_is))
          ∙ ap not (some_noted src x.arrival.number cs before noted.1)
          ∙ ap (λ b. not (b || was_noted src x.arrival.number GotB before)) (sym (came_noted src A x.arrival.number cs before noted.1))
          ∙ ap (λ b. not (came A x.arrival.number (run_copies src cs before) || b)) (sym (came_noted src B x.arrival.number cs before noted.1)) in
          rw (own, src_is, new) (by (came A x.arrival.number (run_copies src cs before) || came B x.arrival.number (run_copies src cs before)) rest)
      | inr other ↦
          let src_is : mac_eq src x.arrival.src ≡ false = ap (mac_eq src) noted.0.src ∙ other in
          rw (other, src_is) rest
    ]
  where
    by : (known : Bool) → handed_up src turns ≡ frames (run_copies src cs (notings_of [] turns)) →
        cond (not known) (x.arrival.number ∷ handed_up src turns) (handed_up src turns)
        ≡ cond known (frames (run_copies src cs (notings_of [] turns))) (x.arrival.number ∷ frames (run_copies src cs (notings_of [] turns)))
    by true e = e
    by false e = ap (λ ns. x.arrival.number ∷ ns) e

-- tests that are alike count alike
alike : (p q : ℤ → Bool) → ((n : ℤ) → p n ≡ q n) → (ns : List ℤ) → count_by p ns ≡ count_by q ns
alike p q same [] = refl
alike p q same (n ∷ ns) = count-cons p n ns ∙ ap (λ b. cond b 1 0 + count_by p ns) (same n) ∙ ap (λ k. cond (q n) 1 0 + k) (alike p q same ns)
    ∙ sym (count-cons q n ns)

up_counted : (test : Bool → Bool → Bool) (src : Mac) (turns : List TableTurn) (cs : List Sent) → AreNotedAs cs (notings_of [] turns) →
    handed_up src turns ≡ frames (run_copies src cs (notings_of [] turns)) →
    frames_with test (run_copies src cs (notings_of [] turns)) ≡ up_with test src turns
up_counted test src turns cs noted ups =
    let xs = notings_of [] turns in
    alike (λ n. test (came A n (run_copies src cs xs)) (came B n (run_copies src cs xs))) (λ n. test (was_noted src n GotA xs) (was_noted src n GotB xs))
    (λ n. ap (λ b. test b (came B n (run_copies src cs xs))) (came_noted src A n cs xs noted)
    ∙ ap (test (was_noted src n GotA xs)) (came_noted src B n cs xs noted)) (frames (run_copies src cs xs))
    ∙ ap (count_by (λ n. test (was_noted src n GotA xs) (was_noted src n GotB xs))) (sym ups)

-- the epoch of a source has the numbers of its copies
abbrev top_in : List ℤ → ℤ
top_in [] = pos 0
top_in (n ∷ []) = n
top_in (n ∷ m ∷ ns) = greater (top_in (m ∷ ns)) n

abbrev numbers : List Placed → List ℤ
numbers [] = []
numbers (y ∷ s) = y.number ∷ numbers s

top_numbers : (s : List Placed) → top_number s ≡ top_in (numbers s)
top_numbers [] = refl
top_numbers (y ∷ []) = refl
top_numbers (y ∷ z ∷ s) = ap (λ g. greater g y.number) (top_numbers (z ∷ s))

abbrev numbers_of : List RunArrival → List ℤ
numbers_of [] = []
numbers_of (a ∷ later) = a.number ∷ numbers_of later

greatest_numbers : (later : List RunArrival) → greatest_of later ≡ top_in (numbers_of later)
greatest_numbers [] = refl
greatest_numbers (a ∷ []) = refl
greatest_numbers (a ∷ b ∷ later) = ap (λ g. greater g a.number) (greatest_numbers (b ∷ later))

same_numbers : (src : Mac) (now : ℕ) (cs : List Sent) (xs : List Noting) → AreNotedAs cs xs →
    numbers (recent src now cs xs) ≡ numbers_of (epoch src now (arrivals_of xs))
same_numbers src now [] [] noted = refl
same_numbers src now [] (x ∷ xs) noted = absurd noted
same_numbers src now (c ∷ cs) [] noted = absurd noted
same_numbers src now (c ∷ cs) (x ∷ xs) noted =
    elim (cases_Bool (mac_eq src c.0)) [
      | inl own ↦
          let src_is : mac_eq src x.arrival.src ≡ true = ap (mac_eq src) noted.0.src ∙ own in
          elim (cases_Bool (nat_lt (now - x.arrival.time) forget_time)) [
            | inl live ↦ rw (own, src_is, live) (ap (λ ns. x.arrival.number ∷ ns) (same_numbers src x.arrival.time cs xs noted.1))
            | inr old ↦ rw (own, src_is, old) refl
          ]
      | inr other ↦
          let src_is : mac_eq src x.arrival.src ≡ false = ap (mac_eq src) noted.0.src ∙ other in
          rw (other, src_is) (same_numbers src now cs xs noted.1)
    ]

-- a number near those of an epoch is near the greatest of its copies
near_recent : (w : ℕ) (m : ℤ) (later : List RunArrival) (y : Placed) (s : List Placed) → numbers (y ∷ s) ≡ numbers_of later → IsNearAll w later m →
    IsNear w (top_number (y ∷ s)) m
near_recent w m [] y s same near = let no_way : y.number ∷ numbers s ≡ [] = same in absurd cc
near_recent w m (a ∷ later) y s same near =
    subst (λ g. IsNear w g m) (greatest_numbers (a ∷ later) ∙ ap top_in (sym same) ∙ sym (top_numbers (y ∷ s))) near

-- the epoch at a time is that at the newest copy, or none
recent_now : (src : Mac) (now : ℕ) (cs : List Sent) (xs : List Noting) (y : Arrival) (ys : List Arrival) → AreNotedAs cs xs → of src cs ≡ y ∷ ys →
    recent src now cs xs ≡ cond (nat_lt (now - y.time / clock_step) forget_time) (recent src (y.time / clock_step) cs xs) []
recent_now src now [] xs y ys noted is = let no_way : [] ≡ y ∷ ys = is in absurd cc
recent_now src now (c ∷ cs) [] y ys noted is = absurd noted
recent_now src now (c ∷ cs) (x ∷ xs) y ys noted is =
    elim (cases_Bool (mac_eq src c.0)) [
      | inl own ↦
          let both : c.1 ∷ of src cs ≡ y ∷ ys = rw own at is in
          let head : c.1 ≡ y = cc in
          let then_is : x.arrival.time ≡ y.time / clock_step = noted.0.time ∙ ap (λ a. a.time / clock_step) head in
          let live : nat_lt (y.time / clock_step - x.arrival.time) forget_time ≡ true =
          ap (λ u. nat_lt (y.time / clock_step - u) forget_time) then_is ∙ now_is_live (y.time / clock_step) in
          rw own (ap (λ u. cond (nat_lt (now - u) forget_time) (run_copy c x ∷ recent src x.arrival.time cs xs) []) then_is
          ∙ ap (λ l. cond (nat_lt (now - y.time / clock_step) forget_time) l [])
          (sym (ap (λ b. cond b (run_copy c x ∷ recent src x.arrival.time cs xs) []) live)))
      | inr other ↦ rw other (recent_now src now cs xs y ys noted.1 (rw other at is))
    ]

-- a source of which nothing came
none_whole : (src : Mac) (cs : List Sent) (xs : List Noting) → AreNotedAs cs xs → of src cs ≡ [] → run_copies src cs xs ≡ []
none_whole src [] [] noted is = refl
none_whole src [] (x ∷ xs) noted is = refl
none_whole src (c ∷ cs) [] noted is = refl
none_whole src (c ∷ cs) (x ∷ xs) noted is =
    elim (cases_Bool (mac_eq src c.0)) [
      | inl own ↦ let no_way : c.1 ∷ of src cs ≡ [] = rw own at is in absurd cc
      | inr other ↦ rw other (none_whole src cs xs noted.1 (rw other at is))
    ]

none_recent : (src : Mac) (now : ℕ) (cs : List Sent) (xs : List Noting) → AreNotedAs cs xs → of src cs ≡ [] → recent src now cs xs ≡ []
none_recent src now [] [] noted is = refl
none_recent src now [] (x ∷ xs) noted is = refl
none_recent src now (c ∷ cs) [] noted is = refl
none_recent src now (c ∷ cs) (x ∷ xs) noted is =
    elim (cases_Bool (mac_eq src c.0)) [
      | inl own ↦ let no_way : c.1 ∷ of src cs ≡ [] = rw own at is in absurd cc
      | inr other ↦ rw other (none_recent src now cs xs noted.1 (rw other at is))
    ]

-- one copy more, of frames of which copies came by the same sides
more_alike : (test : Bool → Bool → Bool) (y p : Placed) (s t : List Placed) (rest : ℕ) → y.side ≡ p.side → came A y.number s ≡ came A p.number t →
    came B y.number s ≡ came B p.number t → frames_with test s + rest ≡ frames_with test t →
    frames_with test (y ∷ s) + rest ≡ frames_with test (p ∷ t)
more_alike test y p s t rest side by_a by_b e =
    sums (frames_with test (y ∷ s)) (frames_with test (p ∷ t)) (frames_with test s) (frames_with test t) rest _ _ _ _
    (frames_with-more test y s) (frames_with-more test p t)
    (ap (λ b. cond (b || came B y.number s) (cond {A = ℕ} (test b (came B y.number s)) 1 0) 0) by_a
    ∙ ap (λ b. cond (came A p.number t || b) (cond {A = ℕ} (test (came A p.number t) b) 1 0) 0) by_b)
    (ap (λ u. cond {A = ℕ} (test (same_side A u || came A y.number s) (same_side B u || came B y.number s)) 1 0) side
    ∙ ap (λ b. cond {A = ℕ} (test (same_side A p.side || b) (same_side B p.side || came B y.number s)) 1 0) by_a
    ∙ ap (λ b. cond {A = ℕ} (test (same_side A p.side || came A p.number t) (same_side B p.side || b)) 1 0) by_b) e
  where
    sums : (fy fp fs ft rest k k' l l' : ℕ) → fy + k ≡ fs + l → fp + k' ≡ ft + l' → k ≡ k' → l ≡ l' → fs + rest ≡ ft → fy + rest ≡ fp
    sums fy fp fs ft rest k k' l l' a b c d e = omega (arith, a, b, c, d, e)

-- the current stretch has the newest copies of the source under a constant, and the newest of these are those of the epoch, with the greatest
-- number of the stretch among them
record Linked (src : Mac) (cs : List Sent) (xs : List Noting) (y : Arrival) (ys : List Arrival) (d : ℤ) : Type 0 where
  unseen : IsUnseen d
  older : List Placed
  earlier : List Placed
  newest : Placed
  behind : List Placed
  whole : run_copies src cs xs ≡ shifted d (current (stretches (y ∷ ys))) ++ older
  linked : shifted d (current (stretches (y ∷ ys))) ≡ recent src (y.time / clock_step) cs xs ++ earlier
  some : recent src (y.time / clock_step) cs xs ≡ newest ∷ behind
  top : top_number (recent src (y.time / clock_step) cs xs) ≡ top_number (shifted d (current (stretches (y ∷ ys))))

abbrev Links : Mac → List Sent → List Noting → List Arrival → Type 0
Links src cs xs [] = Unit {0}
Links src cs xs (y ∷ ys) = (d : ℤ) × Linked src cs xs y ys d

-- an audit's count of frames is that of all copies, and its current stretch has the newest of them
abbrev Counts : (Bool → Bool → Bool) → Mac → List Sent → List Noting → List Arrival → Type 0
Counts test src cs xs ys = (sum_by (frames_with test) (stretches ys) ≡ frames_with test (run_copies src cs xs)) × Links src cs xs ys

links_other : (src : Mac) (c : Sent) (cs : List Sent) (x : Noting) (xs : List Noting) (ys : List Arrival) → mac_eq src c.0 ≡ false →
    Links src cs xs ys → Links src (c ∷ cs) (x ∷ xs) ys
links_other src c cs x xs [] other links = tt
links_other src c cs x xs (y ∷ ys) other (d, l) = (
  d,
  record {
    unseen = l.unseen;
    older = l.older;
    earlier = l.earlier;
    newest = l.newest;
    behind = l.behind;
    whole = rw other l.whole;
    linked = rw other l.linked;
    some = rw other l.some;
    top = rw other l.top;
  },
)

-- the newest copy of the current stretch
newest_is : (y : Arrival) (ys : List Arrival) → newest_time (current (stretches (y ∷ ys))) ≡ y.time
newest_is y ys = by (stretches ys)
  where
    by : (ss : List (List Placed)) → newest_time (current (with_arrival ss y)) ≡ y.time
    by [] = refl
    by (s ∷ ss) =
        elim (cases_Bool (goes_on s y)) [
          | inl on ↦ rw on refl
          | inr off ↦ rw off refl
        ]

not_none : (y : Arrival) (ys : List Arrival) → stretches (y ∷ ys) ≡ [] → ⊥
not_none y ys e = by (stretches ys) e
  where
    by : (ss : List (List Placed)) → with_arrival ss y ≡ [] → ⊥
    by [] e = cc
    by (s ∷ ss) e =
        elim (cases_Bool (goes_on s y)) [
          | inl on ↦ let is : gone_on s y ∷ ss ≡ [] = rw on at e in cc
          | inr off ↦ let is : stretch_begun y ∷ s ∷ ss ≡ [] = rw off at e in cc
        ]

no_jump_first : (b : Bool) (n : ℕ) → cond b 1 0 + n ≡ 0 → b ≡ false
no_jump_first true n e = absurd (omega (arith, e))
no_jump_first false n e = refl

no_jump_rest : (b : Bool) (n : ℕ) → cond b 1 0 + n ≡ 0 → n ≡ 0
no_jump_rest true n e = omega (arith, e)
no_jump_rest false n e = omega (arith, e)

-- a number that is no jump goes on where its source was not silent
near_on : (p : Distance) → is_far p ≡ false → goes_to true p ≡ true
near_on (Behind k) near = refl
near_on (Ahead k) near = ap not near

-- an arrival of the source
own_src : (src : Mac) (c : Sent) (x : Noting) → IsNotedAs c x → mac_eq src c.0 ≡ true → x.arrival.src ≡ src
own_src src c x noted own = noted.src ∙ sym (mac_same src c.0 own)

came_whole : (src : Mac) (side : Side) (c : Sent) (cs : List Sent) (x : Noting) (xs : List Noting) → AreNotedAs (c ∷ cs) (x ∷ xs) →
    mac_eq src c.0 ≡ true → IsNext kept_numbers (arrivals_of xs) x.arrival →
    came side x.arrival.number (run_copies src cs xs) ≡ came side x.arrival.number (recent src x.arrival.time cs xs)
came_whole src side c cs x xs noted own next =
    let m = x.arrival.number in
    let together : copies_of src m (arrivals_of xs) ≡ copies_of src m (epoch src x.arrival.time (arrivals_of xs)) =
    subst (λ a. copies_of a m (arrivals_of xs) ≡ copies_of a m (epoch a x.arrival.time (arrivals_of xs))) (own_src src c x noted.0 own) next.1 in
    came_noted src side m cs xs noted.1 ∙ noted_in_epoch src x.arrival.time m (side_lane side) xs together
    ∙ sym (came_recent src side m x.arrival.time cs xs noted.1)

-- the newest copy is in its epoch
recent_own : (src : Mac) (c : Sent) (cs : List Sent) (x : Noting) (xs : List Noting) → IsNotedAs c x → mac_eq src c.0 ≡ true →
    recent src (c.1.time / clock_step) (c ∷ cs) (x ∷ xs) ≡ run_copy c x ∷ recent src x.arrival.time cs xs
recent_own src c cs x xs noted own =
    let live : nat_lt (c.1.time / clock_step - x.arrival.time) forget_time ≡ true =
    ap (λ u. nat_lt (c.1.time / clock_step - u) forget_time) noted.time ∙ now_is_live (c.1.time / clock_step) in
    rw (own, live) refl

back_again : (m d : ℤ) → (m -ℤ d) +ℤ d ≡ m
back_again m d = omega (arith, ints)

forth_again : (m d n : ℤ) → m -ℤ d ≡ n → n +ℤ d ≡ m
forth_again m d n e = omega (arith, ints, e)

from_start : (m : ℤ) (seq : ℕ) → pos seq +ℤ (m -ℤ pos seq) ≡ m
from_start m seq = omega (arith, ints)

near_less : (g m d : ℤ) → IsNear kept_numbers (g +ℤ d) m → IsNear kept_numbers g (m -ℤ d)
near_less g m d near = record { above = omega (arith, ints, near.above); below = omega (arith, ints, near.below) }

-- an arrival that begins a stretch begins an epoch
began : (test : Bool → Bool → Bool) (src : Mac) (c : Sent) (cs : List Sent) (x : Noting) (xs : List Noting) (ss : List (List Placed)) →
    IsNotedAs c x → came A x.arrival.number (run_copies src cs xs) ≡ false → came B x.arrival.number (run_copies src cs xs) ≡ false →
    sum_by (frames_with test) ss ≡ frames_with test (run_copies src cs xs) →
    sum_by (frames_with test) (stretch_begun c.1 ∷ ss) ≡ frames_with test (run_copy c x ∷ run_copies src cs xs)
began test src c cs x xs ss noted by_a by_b e =
    sum_by-cons (frames_with test) (stretch_begun c.1) ss
    ∙ more_alike test (copy_as c.1 (pos c.1.seq.0)) (run_copy c x) [] (run_copies src cs xs) (sum_by (frames_with test) ss) refl (sym by_a) (sym by_b)
    (none_more (sum_by (frames_with test) ss) ∙ e)
  where
    none_more : (n : ℕ) → 0 + n ≡ n
    none_more n = omega arith

began_linked : (src : Mac) (c : Sent) (cs : List Sent) (x : Noting) (xs : List Noting) (ys : List Arrival) → IsNotedAs c x → mac_eq src c.0 ≡ true →
    recent src x.arrival.time cs xs ≡ [] → current (stretches (c.1 ∷ ys)) ≡ stretch_begun c.1 → Links src (c ∷ cs) (x ∷ xs) (c.1 ∷ ys)
began_linked src c cs x xs ys noted own none begun = (
  x.arrival.number -ℤ pos c.1.seq.0,
  record {
    unseen = start_unseen x.arrival.number c.1.seq.0 noted.number;
    older = run_copies src cs xs;
    earlier = [];
    newest = run_copy c x;
    behind = [];
    whole = rw own (ap (λ l. l ++ run_copies src cs xs) one);
    linked = sym one ∙ ap (λ l. l ++ []) (sym alone);
    some = alone;
    top = ap top_number (alone ∙ one);
  },
)
  where
    alone : recent src (c.1.time / clock_step) (c ∷ cs) (x ∷ xs) ≡ run_copy c x ∷ []
    alone = recent_own src c cs x xs noted own ∙ ap (λ l. run_copy c x ∷ l) none

    one : run_copy c x ∷ [] ≡ shifted (x.arrival.number -ℤ pos c.1.seq.0) (current (stretches (c.1 ∷ ys)))
    one = ap (λ m. record { side = c.1.side; number = m; time = c.1.time } ∷ []) (sym (from_start x.arrival.number c.1.seq.0))
        ∙ ap (shifted (x.arrival.number -ℤ pos c.1.seq.0)) (sym begun)

-- copies of two lists
came_both : (side : Side) (n : ℤ) (s t : List Placed) → came side n (s ++ t) ≡ (came side n s || came side n t)
came_both side n [] t = refl
came_both side n (y ∷ s) t =
    ap (λ b. (int_eq n y.number && same_side side y.side) || b) (came_both side n s t)
    ∙ or_more (int_eq n y.number && same_side side y.side) (came side n s) (came side n t)
  where
    or_more : (a b c : Bool) → (a || (b || c)) ≡ ((a || b) || c)
    or_more true b c = refl
    or_more false b c = refl

-- what is among the newest alone is no further among all between
squeeze : (r e o : Bool) → ((r || e) || o) ≡ r → (r || e) ≡ ((r || e) || o)
squeeze true e o h = refl
squeeze false true o h = refl
squeeze false false o h = sym h

-- an arrival that goes on with a stretch is the newest copy of the run
went : (test : Bool → Bool → Bool) (src : Mac) (c : Sent) (cs : List Sent) (x : Noting) (xs : List Noting) (ys : List Arrival) (s : List Placed)
    (rest : List (List Placed)) (d : ℤ) (older earlier : List Placed) → AreNotedAs (c ∷ cs) (x ∷ xs) → mac_eq src c.0 ≡ true →
    IsNext kept_numbers (arrivals_of xs) x.arrival → IsUnseen d → run_copies src cs xs ≡ shifted d s ++ older →
    shifted d s ≡ recent src x.arrival.time cs xs ++ earlier →
    number_at (top_number s) (lies_from s c.1.seq.0) +ℤ d ≡ x.arrival.number →
    top_number (run_copy c x ∷ recent src x.arrival.time cs xs) ≡ top_number (run_copy c x ∷ shifted d s) →
    current (stretches (c.1 ∷ ys)) ≡ gone_on s c.1 → sum_by (frames_with test) (s ∷ rest) ≡ frames_with test (run_copies src cs xs) →
    (sum_by (frames_with test) (gone_on s c.1 ∷ rest) ≡ frames_with test (run_copy c x ∷ run_copies src cs xs))
    × Links src (c ∷ cs) (x ∷ xs) (c.1 ∷ ys)
went test src c cs x xs ys s rest d older earlier noted own next unseen whole linked number_of top on e = (
  sum_by-cons (frames_with test) (gone_on s c.1) rest
      ∙ more_alike test (copy_as c.1 n) (run_copy c x) s (run_copies src cs xs) (sum_by (frames_with test) rest) refl (came_is A) (came_is B)
      (sym (sum_by-cons (frames_with test) s rest) ∙ e),
  (
    d,
    record {
      unseen = unseen;
      older = older;
      earlier = earlier;
      newest = run_copy c x;
      behind = recent src x.arrival.time cs xs;
      whole = rw own (ap (λ l. run_copy c x ∷ l) whole ∙ ap (λ l. l ++ older) grown);
      linked = sym grown ∙ ap (λ l. run_copy c x ∷ l) linked ∙ ap (λ l. l ++ earlier) (sym own_recent);
      some = own_recent;
      top = ap top_number own_recent ∙ top ∙ ap top_number grown;
    },
  ),
)
  where
    m : ℤ
    m = x.arrival.number

    n : ℤ
    n = number_at (top_number s) (lies_from s c.1.seq.0)

    own_recent : recent src (c.1.time / clock_step) (c ∷ cs) (x ∷ xs) ≡ run_copy c x ∷ recent src x.arrival.time cs xs
    own_recent = recent_own src c cs x xs noted.0 own

    grown : run_copy c x ∷ shifted d s ≡ shifted d (current (stretches (c.1 ∷ ys)))
    grown = ap (λ k. record { side = c.1.side; number = k; time = c.1.time } ∷ shifted d s) (sym number_of) ∙ ap (shifted d) (sym on)

    all_is : (side : Side) → came side m (run_copies src cs xs)
        ≡ ((came side m (recent src x.arrival.time cs xs) || came side m earlier) || came side m older)
    all_is side = ap (came side m) whole ∙ came_both side m (shifted d s) older
        ∙ ap (λ b. b || came side m older) (ap (came side m) linked ∙ came_both side m (recent src x.arrival.time cs xs) earlier)

    came_is : (side : Side) → came side n s ≡ came side m (run_copies src cs xs)
    came_is side = sym (came_shifted side n d s) ∙ ap (λ k. came side k (shifted d s)) number_of ∙ ap (came side m) linked
        ∙ came_both side m (recent src x.arrival.time cs xs) earlier
        ∙ squeeze (came side m (recent src x.arrival.time cs xs)) (came side m earlier) (came side m older)
        (sym (all_is side) ∙ came_whole src side c cs x xs noted own next)
        ∙ sym (all_is side)

-- the number that the run gives an arrival which goes on in its epoch
number_near : (src : Mac) (c : Sent) (cs : List Sent) (x : Noting) (xs : List Noting) (z : Placed) (before : List Placed) (d : ℤ) (newest : Placed)
    (behind : List Placed) → AreNotedAs (c ∷ cs) (x ∷ xs) → mac_eq src c.0 ≡ true → IsNext kept_numbers (arrivals_of xs) x.arrival → IsUnseen d →
    c.1.seq.0 < 65536 → recent src x.arrival.time cs xs ≡ newest ∷ behind →
    top_number (recent src x.arrival.time cs xs) ≡ top_number (shifted d (z ∷ before)) →
    number_at (top_number (z ∷ before)) (lies_from (z ∷ before) c.1.seq.0) +ℤ d ≡ x.arrival.number
number_near src c cs x xs z before d newest behind noted own next unseen fits some top =
    forth_again m d n (one.alone (m -ℤ d) near (sym (unseen (m -ℤ d)) ∙ ap wire (back_again m d) ∙ noted.0.number))
  where
    s : List Placed
    s = z ∷ before

    m : ℤ
    m = x.arrival.number

    n : ℤ
    n = number_at (top_number s) (lies_from s c.1.seq.0)

    one : IsTheOne kept_numbers (top_number s) c.1.seq.0 n
    one = number_is (top_number s) c.1.seq.0 fits

    own_next : IsNearAll kept_numbers (epoch src x.arrival.time (arrivals_of xs)) m
    own_next = subst (λ a. IsNearAll kept_numbers (epoch a x.arrival.time (arrivals_of xs)) m) (own_src src c x noted.0 own) next.0

    near : IsNear kept_numbers (top_number s) (m -ℤ d)
    near = near_less (top_number s) m d (subst (λ g. IsNear kept_numbers g m) (ap top_number (sym some) ∙ top ∙ top_shifted d z before)
        (near_recent kept_numbers m (epoch src x.arrival.time (arrivals_of xs)) newest behind
        (ap numbers (sym some) ∙ same_numbers src x.arrival.time cs xs noted.1) own_next))

-- one that goes on behind a silence lies ahead
up_top : (t d : ℤ) (k : ℕ) → greater (t +ℤ d) ((t +ℤ pos k) +ℤ d) ≡ (t +ℤ pos k) +ℤ d
up_top t d k = grind (arith, ints)

over_top : (t d : ℤ) (p : Distance) → goes_to false p ≡ true → greater (t +ℤ d) (number_at t p +ℤ d) ≡ number_at t p +ℤ d
over_top t d (Behind k) on = let no_way : false ≡ true = on in absurd cc
over_top t d (Ahead k) on = up_top t d k

-- the number that the run gives it
number_behind : (m n z d l : ℤ) → m -ℤ l ≡ n -ℤ z → l ≡ z +ℤ d → n +ℤ d ≡ m
number_behind m n z d l e f = omega (arith, ints, e, f)

-- one arrival more of the source
own_step : (test : Bool → Bool → Bool) (src : Mac) (c : Sent) (cs : List Sent) (x : Noting) (xs : List Noting) (ys : List Arrival) →
    AreNotedAs (c ∷ cs) (x ∷ xs) → mac_eq src c.0 ≡ true → IsNext kept_numbers (arrivals_of xs) x.arrival → of src cs ≡ ys →
    AreSilentAlike (c.1 ∷ ys) → GoesOnAlike c.1 x.arrival.number (run_copies src cs xs) (current (stretches ys)) → jumps_of (c.1 ∷ ys) ≡ 0 →
    c.1.seq.0 < 65536 → Counts test src cs xs ys →
    (sum_by (frames_with test) (stretches (c.1 ∷ ys)) ≡ frames_with test (run_copy c x ∷ run_copies src cs xs)) × Links src (c ∷ cs) (x ∷ xs) (c.1 ∷ ys)
own_step test src c cs x xs [] noted own next is alike_silent goes still fits (e, links) =
    let none : run_copies src cs xs ≡ [] = none_whole src cs xs noted.1 is in (
      began test src c cs x xs [] noted.0 (ap (came A x.arrival.number) none) (ap (came B x.arrival.number) none) e,
      began_linked src c cs x xs [] noted.0 own (none_recent src x.arrival.time cs xs noted.1 is) refl,
    )
own_step test src c cs x xs (y ∷ ys) noted own next is alike_silent goes still fits (e, (d, l)) =
    by (stretches (y ∷ ys)) refl e l.whole l.linked l.top goes (newest_is y ys) (no_jump_first (is_jump (stretches (y ∷ ys)) c.1) (jumps_of (y ∷ ys)) still)
  where
    now_is : recent src x.arrival.time cs xs
        ≡ cond (nat_lt (c.1.time / clock_step - y.time / clock_step) forget_time) (recent src (y.time / clock_step) cs xs) []
    now_is = recent_now src x.arrival.time cs xs y ys noted.1 is
        ∙ ap (λ u. cond (nat_lt (u - y.time / clock_step) forget_time) (recent src (y.time / clock_step) cs xs) []) noted.0.time

    by : (ss : List (List Placed)) → stretches (y ∷ ys) ≡ ss → sum_by (frames_with test) ss ≡ frames_with test (run_copies src cs xs) →
        run_copies src cs xs ≡ shifted d (current ss) ++ l.older →
        shifted d (current ss) ≡ recent src (y.time / clock_step) cs xs ++ l.earlier →
        top_number (recent src (y.time / clock_step) cs xs) ≡ top_number (shifted d (current ss)) →
        GoesOnAlike c.1 x.arrival.number (run_copies src cs xs) (current ss) →
        newest_time (current ss) ≡ y.time → is_jump ss c.1 ≡ false →
        (sum_by (frames_with test) (with_arrival ss c.1) ≡ frames_with test (run_copy c x ∷ run_copies src cs xs))
        × Links src (c ∷ cs) (x ∷ xs) (c.1 ∷ y ∷ ys)
    by [] same sums whole linked top goes newest quiet = absurd (not_none y ys same)
    by ([] ∷ rest) same sums whole linked top goes newest quiet = absurd (no_empty (y ∷ ys) rest same)
    by ((z ∷ before) ∷ rest) same sums whole linked top goes newest quiet =
        elim (cases_Bool (nat_lt (c.1.time - z.time) epoch_gap)) [
          | inl soon ↦
              let on : goes_on s c.1 ≡ true =
              ap (λ b. goes_to b place) soon ∙ near_on place (ap (λ b. b && is_far place) (sym soon) ∙ quiet) in
              let now : recent src x.arrival.time cs xs ≡ recent src (y.time / clock_step) cs xs =
              now_is ∙ ap (λ b. cond b (recent src (y.time / clock_step) cs xs) []) (sym told ∙ soon) in
              let now_top : top_number (recent src x.arrival.time cs xs) ≡ top_number (shifted d s) = ap top_number now ∙ top in
              goes_further on l.earlier (linked ∙ ap (λ r. r ++ l.earlier) (sym now))
              (number_near src c cs x xs z before d l.newest l.behind noted own next l.unseen fits (now ∙ l.some) now_top)
              (more_top l.newest l.behind (now ∙ l.some) now_top)
          | inr silent ↦
              let none : recent src x.arrival.time cs xs ≡ [] =
              now_is ∙ ap (λ b. cond b (recent src (y.time / clock_step) cs xs) []) (sym told ∙ silent) in
              elim (cases_Bool (goes_on s c.1)) [
                | inl on ↦
                    let number_of : number_at (top_number s) place +ℤ d ≡ m =
                    number_behind m (number_at (top_number s) place) z.number d (newest_number (run_copies src cs xs)) (goes silent on)
                    (ap newest_number whole) in
                    let ahead : goes_to false place ≡ true = ap (λ b. goes_to b place) (sym silent) ∙ on in
                    goes_further on (shifted d s) (ap (λ r. r ++ shifted d s) (sym none)) number_of
                    (ap (λ r. top_number (run_copy c x ∷ r)) none ∙ sym number_of ∙ sym (over_top (top_number s) d place ahead)
                    ∙ ap (λ g. greater g (number_at (top_number s) place +ℤ d)) (sym (top_shifted d z before))
                    ∙ ap (greater (top_number (shifted d s))) number_of)
                | inr off ↦ (
                  ap (λ b. sum_by (frames_with test) (cond b (gone_on s c.1 ∷ rest) (stretch_begun c.1 ∷ s ∷ rest))) off
                      ∙ began test src c cs x xs (s ∷ rest) noted.0
                      (came_whole src A c cs x xs noted own next ∙ ap (came A m) none)
                      (came_whole src B c cs x xs noted own next ∙ ap (came B m) none) sums,
                  began_linked src c cs x xs (y ∷ ys) noted.0 own none
                      (step_is ∙ ap (λ b. current (cond b (gone_on s c.1 ∷ rest) (stretch_begun c.1 ∷ s ∷ rest))) off),
                )
              ]
        ]
      where
        s : List Placed
        s = z ∷ before

        m : ℤ
        m = x.arrival.number

        place : Distance
        place = lies_from s c.1.seq.0

        step_is : current (stretches (c.1 ∷ y ∷ ys)) ≡ current (with_arrival (s ∷ rest) c.1)
        step_is = ap (λ ss. current (with_arrival ss c.1)) same

        told : nat_lt (c.1.time - z.time) epoch_gap ≡ nat_lt (c.1.time / clock_step - y.time / clock_step) forget_time
        told = ap (λ u. nat_lt (c.1.time - u) epoch_gap) newest ∙ alike_silent.0

        more_top : (p : Placed) (ps : List Placed) → recent src x.arrival.time cs xs ≡ p ∷ ps →
            top_number (recent src x.arrival.time cs xs) ≡ top_number (shifted d s) →
            top_number (run_copy c x ∷ recent src x.arrival.time cs xs) ≡ top_number (run_copy c x ∷ shifted d s)
        more_top p ps some now_top = ap (λ r. top_number (run_copy c x ∷ r)) some ∙ ap (λ g. greater g m) (ap top_number (sym some) ∙ now_top)

        goes_further : goes_on s c.1 ≡ true → (earlier : List Placed) → shifted d s ≡ recent src x.arrival.time cs xs ++ earlier →
            number_at (top_number s) place +ℤ d ≡ m →
            top_number (run_copy c x ∷ recent src x.arrival.time cs xs) ≡ top_number (run_copy c x ∷ shifted d s) →
            (sum_by (frames_with test) (with_arrival (s ∷ rest) c.1) ≡ frames_with test (run_copy c x ∷ run_copies src cs xs))
            × Links src (c ∷ cs) (x ∷ xs) (c.1 ∷ y ∷ ys)
        goes_further on earlier linked_now number_of now_top =
            let result = went test src c cs x xs (y ∷ ys) s rest d l.older earlier noted own next l.unseen whole linked_now number_of now_top
            (step_is ∙ ap (λ b. current (cond b (gone_on s c.1 ∷ rest) (stretch_begun c.1 ∷ s ∷ rest))) on) sums in
            (ap (λ b. sum_by (frames_with test) (cond b (gone_on s c.1 ∷ rest) (stretch_begun c.1 ∷ s ∷ rest))) on ∙ result.0, result.1)

silent_before : (x : Arrival) (ys : List Arrival) → AreSilentAlike (x ∷ ys) → AreSilentAlike ys
silent_before x [] alike_silent = tt
silent_before x (y ∷ ys) alike_silent = alike_silent.1

counts : (test : Bool → Bool → Bool) (src : Mac) (cs : List Sent) (xs : List Noting) → AreNotedAs cs xs → AreSteady kept_numbers (arrivals_of xs) →
    AreSilentAlike (of src cs) → AreGoneOnAlike src cs xs → jumps_of (of src cs) ≡ 0 → Counts test src cs xs (of src cs)
counts test src [] [] noted steady alike_silent goes still = (refl, tt)
counts test src [] (x ∷ xs) noted steady alike_silent goes still = absurd noted
counts test src (c ∷ cs) [] noted steady alike_silent goes still = absurd noted
counts test src (c ∷ cs) (x ∷ xs) noted steady alike_silent goes still =
    elim (cases_Bool (mac_eq src c.0)) [
      | inl own ↦
          let silent : AreSilentAlike (c.1 ∷ of src cs) = rw own at alike_silent in
          let quiet : jumps_of (c.1 ∷ of src cs) ≡ 0 = rw own at still in
          let ih = counts test src cs xs noted.1 steady.0 (silent_before c.1 (of src cs) silent) goes.0
          (no_jump_rest (is_jump (stretches (of src cs)) c.1) (jumps_of (of src cs)) quiet) in
          rw own (own_step test src c cs x xs (of src cs) noted own steady.1 refl silent (goes.1 own) quiet
          (subst (λ w. w < 65536) noted.0.number (wire-lt x.arrival.number)) ih)
      | inr other ↦
          let ih = counts test src cs xs noted.1 steady.0 (rw other at alike_silent) goes.0 (rw other at still) in
          rw other (ih.0, links_other src c cs x xs (of src cs) other ih.1)
    ]

-- the frames that went up are those that the audit counts
pub counts_what_goes_up : SteadyAuditsCountWhatGoesUp
counts_what_goes_up turns t sent spans src run steady noted alike_silent goes still =
    record {
      ups = ups;
      each = λ side n. came_noted src side n sent (notings_of [] turns) noted;
      pairs = of_test by_both;
      alone_a = of_test by_a_alone;
      alone_b = of_test by_b_alone;
      frames = all (tally_of ss).pairs (tally_of ss).alone.a (tally_of ss).alone.b (edges_of spans ss).a (edges_of spans ss).b
          (frames_with by_both copies) (frames_with by_a_alone copies) (frames_with by_b_alone copies) (length (frames copies))
          (length (handed_up src turns)) (counted by_both) (counted by_a_alone) (counted by_b_alone) (frames_split copies) (ap length (sym ups))
          (edges-a-le spans ss) (edges-b-le spans ss);
    }
  where
    ss : List (List Placed)
    ss = stretches (of src sent)

    copies : List Placed
    copies = run_copies src sent (notings_of [] turns)

    ups : handed_up src turns ≡ frames copies
    ups = up_frames src turns t sent run steady noted

    counted : (test : Bool → Bool → Bool) → sum_by (frames_with test) ss ≡ frames_with test copies
    counted test = (counts test src sent (notings_of [] turns) noted steady.1 alike_silent goes still).0

    of_test : (test : Bool → Bool → Bool) → sum_by (frames_with test) ss ≡ up_with test src turns
    of_test test = counted test ∙ up_counted test src turns sent noted ups

    all : (p a b ea eb p' a' b' frames ups : ℕ) → p ≡ p' → a ≡ a' → b ≡ b' → p' + a' + b' ≡ frames → frames ≡ ups → ea ≤ a → eb ≤ b →
        p + (a - ea) + (b - eb) + ea + eb ≡ ups
    all p a b ea eb p' a' b' frames ups e f g h i j k = omega (arith, e, f, g, h, i, j, k)
