use Rattle.std.proofs.Common.{arith, rules, ◌≡◌, ◌+◌, ◌<◌, ◌⊎◌, List, [], ◌∷◌, length, ◌∙◌, subst, sym, true}
use Rattle.std.specs.Prelude.{◌^◌}
use Rattle.sr_audit.specs.declared.arrival.Arrival.{Arrival}
use Rattle.std.proofs.lemmas.Result.{on_ok_weaker}
use Rattle.sr_audit.specs.Listings.{greatest_in, IsStepWithin, KeepsPlaces, ListsArrival, ListsDecided, MovesTo, TakesCopy}
use Rattle.sr_audit.specs.Stretches.{stretches}
use Rattle.sr_audit.specs.Taken.{IsKeptIn}
use Rattle.sr_audit.proofs.ListingLemmas.{kept_items, kept_too, look_within}
use Rattle.sr_audit.proofs.PendingLemmas.{room_same, notes_listed}
use Rattle.sr_audit.proofs.pending.Pending.note.Goals as goal

taken_by : (c : goal.After-take_copy) (xs : List Arrival) → length xs + 1 < 2 ^ 64 → IsKeptIn xs c.args.self.now.numbers →
    IsKeptIn (c.args.x.arrival ∷ xs) c.take_copy.new.self.numbers
taken_by c xs few kept =
    subst (IsKeptIn (c.args.x.arrival ∷ xs)) (sym (c.take_copy.ensures.numbers ∙ c.step.ensures.numbers))
    (c.look.ensures.taken xs few (subst (IsKeptIn xs) (sym c.make_room.ensures.numbers) kept))

listed_by : (c : goal.After-take_copy) →
    TakesCopy c.look.result.1.came c.args.x c.step.new.self c.take_copy.new.self c.step.new.list.items c.take_copy.new.list.items →
    (xs : List Arrival) → IsKeptIn xs c.args.self.now.numbers → (c.args.self.now.fates.items ≡ []) ⊎ KeepsPlaces c.args.self.now →
    ListsArrival c.args.spans.now (stretches xs) c.args.x c.args.self.now c.take_copy.new.self c.args.list.now.items c.take_copy.new.list.items
listed_by c took xs kept made =
    let then = subst (IsKeptIn xs) (sym c.make_room.ensures.numbers) kept in
    let look = c.look.ensures.look xs then in
    let greatest = c.look.ensures.greatest xs then in
    let within = subst (λ k. IsStepWithin k.step) (sym look) (look_within (stretches xs) c.args.x.arrival) in
    let goes = subst (λ k. ListsDecided c.args.spans.now c.look.new.self c.args.x (greatest_in (stretches xs) c.args.x.arrival.seq.0) k.step c.args.list.now.items c.step.new.list.items) look
    (subst (λ g. ListsDecided c.args.spans.now c.look.new.self c.args.x g c.look.result.1.step c.args.list.now.items c.step.new.list.items) greatest
    (c.in_ok-step.ensures.decided within)) in
    let taken = subst (λ k. TakesCopy k.came c.args.x c.step.new.self c.take_copy.new.self c.step.new.list.items c.take_copy.new.list.items) look took in
    let room = room_same c.make_room.new.self c.look.new.self c.look.ensures.fates c.look.ensures.times c.look.ensures.packets
    (c.in_ok-make_room.ensures.room made) in
    record {
      at = c.look.new.self;
      room = room;
      same = λ seq. kept_too c.args.self.now c.make_room.new.self c.look.new.self seq (c.in_ok-make_room.ensures.same seq)
          (kept_items c.make_room.new.self c.look.new.self c.look.ensures.fates c.look.ensures.times c.look.ensures.packets seq);
      same_reach = c.look.ensures.reach ∙ c.make_room.ensures.reach;
      between = c.step.new.self;
      still = c.step.ensures.stays.room room;
      moves = subst (λ k. MovesTo k.step c.args.x.arrival c.look.new.self c.step.new.self) look (c.in_ok-step.ensures.moved room);
      decided = c.step.new.list.items;
      goes = goes;
      taken = taken;
    }

room_by : (c : goal.After-take_copy) → (c.args.self.now.fates.items ≡ []) ⊎ KeepsPlaces c.args.self.now → KeepsPlaces c.take_copy.new.self
room_by c made =
    c.take_copy.ensures.stays.room (c.step.ensures.stays.room (room_same c.make_room.new.self c.look.new.self c.look.ensures.fates
    c.look.ensures.times c.look.ensures.packets (c.in_ok-make_room.ensures.room made)))

pub returns-clause-taken : goal.returns-clause-taken
returns-clause-taken c = on_ok_weaker c.take_copy.result (λ took xs few kept listed. taken_by c xs few kept) c.take_copy.ensures.taken

pub returns-clause-listed : goal.returns-clause-listed
returns-clause-listed c = on_ok_weaker c.take_copy.result (λ took xs kept listed made. listed_by c took xs kept made) c.take_copy.ensures.taken

pub returns-clause-room : goal.returns-clause-room
returns-clause-room c = on_ok_weaker c.take_copy.result (λ took is made. room_by c made) c.take_copy.ensures.taken

pub returns-clause-next : goal.returns-clause-next
returns-clause-next c =
    let is : c.args.self.now.is_listed ≡ true = search rules in
    let fits : c.args.x.arrival.seq.0 < 65536 = omega arith in
    on_ok_weaker c.take_copy.result (λ took. notes_listed c.args.spans.now c.args.x c.args.self.now c.take_copy.new.self
    c.args.list.now.items c.take_copy.new.list.items fits is
    (c.take_copy.ensures.stays.listed ∙ c.step.ensures.stays.listed ∙ c.look.ensures.listed ∙ c.make_room.ensures.listed)
    (taken_by c) (listed_by c took) (room_by c)) c.take_copy.ensures.taken
