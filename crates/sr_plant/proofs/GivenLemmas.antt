-- What a node gives out after one event.
use Rattle.std.proofs.Common.{◌≡◌, ℕ, ◌≤◌, Bool, true, false, List, [], ◌∷◌, length, drop, Option, Some, None, refl, ◌∙◌, arith}
use Rattle.std.specs.Option.{option_to_list}
use Rattle.sr_frame.specs.declared.ports.Port.{Port}
use Rattle.sr_frame.specs.declared.ports.Port.TheVariants.{H, A, B, C}
use Rattle.sr_forwarding.specs.declared.outlets.Outlets.{Outlets as Set}
use Rattle.sr_forwarding.specs.Outlets.{has}
use Rattle.sr_forwarding.specs.Parcels.{ParcelImage}
use Rattle.sr_node.specs.declared.event.Answer.{Answer}
use Rattle.sr_node.specs.declared.event.Answer.TheVariants as answer
use Rattle.sr_node.specs.declared.event.Event.{Event}
use Rattle.sr_node.specs.declared.event.Event.TheVariants as event
use Rattle.sr_node.specs.Outboxes.{boxes_empty, boxes_left, first_of}
use Rattle.sr_node.specs.Copies.{copy_if, put_at, with_copy}
use Rattle.sr_node.specs.LifeChecks.{is_due}
use Rattle.sr_node.specs.Images.{State, time_at}
use Rattle.sr_node.specs.Arriving.{Arrived, PassedTo, goes, going_on}
use Rattle.sr_node.specs.Sending.{send_outlets, sent_parcel}
use Rattle.sr_node.specs.Ticking.{after_tick, next_life_check, life_outlets}
use Rattle.sr_node.specs.Taking.{Took}
use Rattle.sr_node.specs.Steps.{Step}
use Rattle.sr_plant.specs.Plants.{IsEmptied}
use Rattle.sr_plant.specs.Steps.{emptied}
use Rattle.sr_plant.specs.Given.{IsAtMostOneEach}

-- a list of at most one
only_one : (q : List ParcelImage) → length q ≤ 1 → (option_to_list (first_of q) ≡ q) × (drop 1 q ≡ [])
only_one [] few = (refl, refl)
only_one (p ∷ []) few = (refl, refl)
only_one (p ∷ q ∷ qs) few = absurd (omega arith)

-- all four outlets, one after the other
pub taken_out : (s t u v w : State) (up a b c : Option ParcelImage) → IsAtMostOneEach s.core.out →
    Took s H (answer.Taken up) t → Took t A (answer.Taken a) u → Took u B (answer.Taken b) v → Took v C (answer.Taken c) w →
    (option_to_list up ≡ s.core.out.h) × (option_to_list a ≡ s.core.out.a) × (option_to_list b ≡ s.core.out.b) × (option_to_list c ≡ s.core.out.c) × (w ≡ emptied s)
taken_out s t u v w up a b c few h1 a1 b1 c1 =
    let a2 = rw h1.1 at a1 in
    let b2 = rw a2.1 at b1 in
    let c2 = rw b2.1 at c1 in
    let h = only_one s.core.out.h few.h in
    let x = only_one s.core.out.a few.a in
    let y = only_one s.core.out.b few.b in
    let z = only_one s.core.out.c few.c in
    (rw h1.0 h.0, rw a2.0 x.0, rw b2.0 y.0, rw c2.0 z.0, c2.1 ∙ rw (h.1, x.1, y.1, z.1) refl)

few_copy : (wanted : Bool) (p : ParcelImage) → length (with_copy [] (copy_if wanted p)) ≤ 1
few_copy true p = omega arith
few_copy false p = omega arith

put_few : (o : Set) (p : ParcelImage) → IsAtMostOneEach (put_at boxes_empty o p)
put_few o p = record { h = few_copy (has o H) p; a = few_copy (has o A) p; b = few_copy (has o B) p; c = few_copy (has o C) p }

none_few : IsAtMostOneEach boxes_empty
none_few = record { h = omega arith; a = omega arith; b = omega arith; c = omega arith }

-- where nothing waited, an arrival puts one parcel at each outlet at most
pub arrived_few : (s : State) (port : Port) (p : ParcelImage) (now : ℕ) (a : Answer) (t : State) → IsEmptied s → Arrived s port p now a t → IsAtMostOneEach t.core.out
arrived_few s port p now answer.Own t empty came = rw (came.1, empty) none_few
arrived_few s port p now (answer.Passed outlets) t empty came = by_outlets (goes s port p now) came.1
  where
    by_outlets : (o : Option Set) → PassedTo s port p now o outlets t → IsAtMostOneEach t.core.out
    by_outlets None came = absurd came
    by_outlets (Some o) came = rw (came.3, empty) (put_few o (going_on s port p))
arrived_few s port p now (answer.Sent number) t empty came = absurd came
arrived_few s port p now (answer.Ticked sources nodes proxies life) t empty came = absurd came
arrived_few s port p now (answer.Taken given) t empty came = absurd came

-- any event leaves one parcel at most at each outlet
pub stepped_few : (s : State) (e : Event) (a : Answer) (t : State) → IsEmptied s → Step s e a t → IsAtMostOneEach t.core.out
stepped_few s (event.Arrive port p now) a t empty step = arrived_few s port p (time_at s now) a t empty step
stepped_few s (event.Send frame now) (answer.Sent number) t empty step = rw (step.1, empty) (put_few (send_outlets s frame (time_at s now)) (sent_parcel s frame))
stepped_few s (event.Send frame now) answer.Own t empty step = absurd step
stepped_few s (event.Send frame now) (answer.Passed outlets) t empty step = absurd step
stepped_few s (event.Send frame now) (answer.Ticked sources nodes proxies life) t empty step = absurd step
stepped_few s (event.Send frame now) (answer.Taken given) t empty step = absurd step
stepped_few s (event.Tick now) (answer.Ticked sources nodes proxies life) t empty step =
    rw step.4 (ticked (is_due s.core.life_at (time_at s now)) refl)
  where
    ticked : (due : Bool) → is_due s.core.life_at (time_at s now) ≡ due → IsAtMostOneEach (after_tick s (time_at s now)).out
    ticked true e = rw (e, empty) (put_few (life_outlets s (time_at s now)) (next_life_check s))
    ticked false e = rw (e, empty) none_few
stepped_few s (event.Tick now) answer.Own t empty step = absurd step
stepped_few s (event.Tick now) (answer.Passed outlets) t empty step = absurd step
stepped_few s (event.Tick now) (answer.Sent number) t empty step = absurd step
stepped_few s (event.Tick now) (answer.Taken given) t empty step = absurd step
stepped_few s (event.Take port) (answer.Taken given) t empty step = rw (step.1, empty) (left_few port)
  where
    left_few : (port : Port) → IsAtMostOneEach (boxes_left boxes_empty port)
    left_few H = none_few
    left_few A = none_few
    left_few B = none_few
    left_few C = none_few
stepped_few s (event.Take port) answer.Own t empty step = absurd step
stepped_few s (event.Take port) (answer.Passed outlets) t empty step = absurd step
stepped_few s (event.Take port) (answer.Sent number) t empty step = absurd step
stepped_few s (event.Take port) (answer.Ticked sources nodes proxies life) t empty step = absurd step
