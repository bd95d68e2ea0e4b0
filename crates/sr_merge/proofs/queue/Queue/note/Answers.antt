use Rattle.std.proofs.Common.{◌≡◌, ◌<◌, length, arith, sym, ap, ◌∙◌, subst}
use Rattle.std.specs.Prelude.{map}
use Rattle.std.proofs.lemmas.List.{length-map}
use Rattle.sr_merge.specs.declared.came.FrameAt.{FrameAt}
use Rattle.sr_merge.specs.Merging.{pending_of, HasPlaces, newest_copy, meet, meet_at}
use Rattle.sr_merge.proofs.PlaceLemmas.{places-met, meet_list, meet-settled, meet-late, known_at}
use Rattle.sr_merge.proofs.queue.Queue.note.Goals as goal

pub returns-in_default : goal.returns-in_default
returns-in_default c =
    let own : FrameAt = record { frame = c.args.frame; side = c.other-side.result } in
    sym (meet-settled c.args.came.time (newest_copy own c.args.self.now) c.args.self.now c.in_default.ensures.settled)
    ∙ ap (λ side. meet_at c.args.came.time (newest_copy (record { frame = c.args.frame; side = side }) c.args.self.now) c.args.self.now)
    c.other-side.ensures

pub invariant_of-self : goal.invariant_of-self
invariant_of-self c =
    let gone = c.self.inside.gone in
    let items = c.self.inside.waiting.items in
    let ws = map pending_of items in
    let at = c.in-Some.place in
    let time = c.args.came.time in
    let own : FrameAt = record { frame = c.args.frame; side = c.other-side.result } in
    let m = length-map items pending_of in
    let n : length ws ≡ length c.args.self.now = ap length c.self.view_is in
    let l = c.in-Some.ensures.within in
    let fits : at < length items = omega (arith, l, n, m) in (
      c.self.invariant.0,
      subst (HasPlaces gone c.forget_all.new.newest) (sym (meet_list time at items c.meet.new.waiting.items c.meet.ensures.met))
          (places-met gone time at c.self.inside.newest c.forget_all.new.newest ws own
          (ap (newest_copy own) c.self.view_is ∙ c.in-Some.ensures.place)
          (known_at time at items c.meet.result fits c.meet.ensures.known ∙ c.if-meet.true) c.self.invariant.1 c.forget_all.ensures),
    )

pub invariant_of-self-else-meet : goal.invariant_of-self-else-meet
invariant_of-self-else-meet c =
    let gone = c.self.inside.gone in
    let items = c.self.inside.waiting.items in
    let ws = map pending_of items in
    let at = c.in-Some.place in
    let time = c.args.came.time in
    let m = length-map items pending_of in
    let n : length ws ≡ length c.args.self.now = ap length c.self.view_is in
    let l = c.in-Some.ensures.within in
    let fits : at < length items = omega (arith, l, n, m) in (
      c.self.invariant.0,
      subst (HasPlaces gone c.self.inside.newest)
          (sym (meet_list time at items c.meet.new.waiting.items c.meet.ensures.met
          ∙ meet-late time at ws (known_at time at items c.meet.result fits c.meet.ensures.known ∙ c.if-meet.false)))
          c.self.invariant.1,
    )

pub returns-then-meet : goal.returns-then-meet
returns-then-meet c =
    meet_list c.args.came.time c.in-Some.place c.self.inside.waiting.items c.meet.new.waiting.items c.meet.ensures.met
    ∙ ap (meet c.args.came.time c.in-Some.place) c.self.view_is
    ∙ ap (λ o. meet_at c.args.came.time o c.args.self.now) (sym c.in-Some.ensures.place)
    ∙ ap (λ side. meet_at c.args.came.time (newest_copy (record { frame = c.args.frame; side = side }) c.args.self.now) c.args.self.now)
    c.other-side.ensures

pub returns-else-meet : goal.returns-else-meet
returns-else-meet c =
    meet_list c.args.came.time c.in-Some.place c.self.inside.waiting.items c.meet.new.waiting.items c.meet.ensures.met
    ∙ ap (meet c.args.came.time c.in-Some.place) c.self.view_is
    ∙ ap (λ o. meet_at c.args.came.time o c.args.self.now) (sym c.in-Some.ensures.place)
    ∙ ap (λ side. meet_at c.args.came.time (newest_copy (record { frame = c.args.frame; side = side }) c.args.self.now) c.args.self.now)
    c.other-side.ensures
