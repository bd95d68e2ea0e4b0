use Rattle.std.proofs.Common.{rules, ap, ◌∙◌, ◌+◌, refl, sym, subst, arith}
use Rattle.sr_workers.specs.Told.{told_of, turns_in}
use Rattle.sr_workers.specs.Work.{ServesPort, nones_of}
use Rattle.sr_workers.proofs.Steps.{at_end, last_still}
use Rattle.sr_workers.proofs.Calling.{called_still, feed_not_full}
use Rattle.sr_workers.proofs.Carrying.{HandsOut, same_brought, same_then, on_as, on_then, on_brought, on_ended, short_then, short_brought}
use Rattle.sr_workers.proofs.running.one_turn.Goals as goal

pub returns-in-Err : goal.returns-in-Err
returns-in-Err g c =
    let e = c.next.ensures in
    let fails = c.in-Err.ensures in
    record {
      same = record { whose = refl; worker = refl; name = e.name; tells = e.tells };
      unread = omega arith;
      ok = tt;
      err = record {
        did = last_still _ _ _ _ _ _ _ c.requires.ready.held refl refl refl fails.unhanded fails.unasked e.given e.losses e.counted (λ _. fails.failed);
        calls = called_still _ _ _ _ _ _ _ _ _ _ _ _ _ (feed_not_full _ c.into.ensures) refl fails.unhanded refl refl;
      };
    }

pub returns-then-is_last : goal.returns-then-is_last
returns-then-is_last g c =
    let e = c.next.ensures in
    let turn = c.in-Ok.turn in
    let hands : HandsOut g.F.Feed (turns_in turn) (told_of turn c.next.new.into.items) c.args.post.now.feed c.next.new.self =
    record { name = e.name; tells = e.tells; handed = c.in-Ok.ensures.handed; asked = c.in-Ok.ensures.asked; given = e.given; losses = e.losses; counted = e.counted } in
    record {
      same = record { whose = refl; worker = refl; name = e.name; tells = e.tells };
      unread = omega arith;
      ok = (
        record { outgoing = c.requires.ready.room.outgoing; spare = c.requires.ready.room.spare },
        (
          at_end _ _ c.if-is_last.ensures c.in-Ok.ensures.ended,
          on_ended _ _ _ turn _ _ _ c.if-is_last.ensures c.requires.ready.held hands refl refl refl refl,
        ),
      );
      err = tt;
    }

pub returns-in-Err-bring : goal.returns-in-Err-bring
returns-in-Err-bring g c =
    let p = c.args.post.now in
    let e = c.next.ensures in
    let turn = c.in-Ok.turn in
    let hands : HandsOut g.F.Feed (turns_in turn) (told_of turn c.next.new.into.items) p.feed c.next.new.self =
    record { name = e.name; tells = e.tells; handed = c.in-Ok.ensures.handed; asked = c.in-Ok.ensures.asked; given = e.given; losses = e.losses; counted = e.counted } in
    let brought = c.in-Err-bring.ensures in
    let none = brought.err.0 in
    let f = g.G.Framing.meaning c.args.framing.now in
    record {
      same = same_brought g.E.Enters g.F.Feed f _ _ p c.bring.new.post _ hands brought.same.whose brought.same.worker brought.same.feed;
      unread = brought.unread;
      ok = tt;
      err = short_brought g.E.Enters g.F.Feed f _ turn _ _ p c.bring.new.post _ c.requires.ready.held hands brought.same.feed brought.same.held none.other none.count none.pairs none.unread brought.err.1 (search rules);
    }

pub drain-requires-clause-serves : goal.drain-requires-clause-serves
drain-requires-clause-serves g c = subst (λ w. ServesPort w c.in-Some.port) c.worker.ensures c.in-Some.ensures.port

pub drain-requires-clause-ready : goal.drain-requires-clause-ready
drain-requires-clause-ready g c =
    record {
      held = c.bring.ensures.same.held ∙ c.requires.ready.held;
      room = record { outgoing = c.requires.ready.room.outgoing; spare = c.requires.ready.room.spare };
    }

pub returns-in-None : goal.returns-in-None
returns-in-None g c =
    let p = c.args.post.now in
    let e = c.next.ensures in
    let turn = c.in-Ok.turn in
    let hands : HandsOut g.F.Feed (turns_in turn) (told_of turn c.next.new.into.items) p.feed c.next.new.self =
    record { name = e.name; tells = e.tells; handed = c.in-Ok.ensures.handed; asked = c.in-Ok.ensures.asked; given = e.given; losses = e.losses; counted = e.counted } in
    let brought = c.in-Ok-bring.ensures in
    let f = g.G.Framing.meaning c.args.framing.now in
    let first = on_brought g.E.Enters g.F.Feed f turn _ _ p c.bring.new.post _ c.requires.ready.held hands brought.same.feed brought.same.held brought.ok.0 brought.ok.1 (search rules) in
    record {
      same = same_brought g.E.Enters g.F.Feed f _ _ p c.bring.new.post _ hands brought.same.whose brought.same.worker brought.same.feed;
      unread = brought.unread;
      ok = (
        record { outgoing = c.requires.ready.room.outgoing; spare = c.requires.ready.room.spare },
        on_as _ _ _ 0 _ _ 1 _ _ (sym (ap (λ w. nones_of w 1) (sym (c.worker.ensures ∙ brought.same.whose)) ∙ c.in-None.ensures.once)) c.if-is_last.ensures first,
      );
      err = tt;
    }

pub returns-in-Ok-drain : goal.returns-in-Ok-drain
returns-in-Ok-drain g c =
    let p = c.args.post.now in
    let e = c.next.ensures in
    let turn = c.in-Ok.turn in
    let hands : HandsOut g.F.Feed (turns_in turn) (told_of turn c.next.new.into.items) p.feed c.next.new.self =
    record { name = e.name; tells = e.tells; handed = c.in-Ok.ensures.handed; asked = c.in-Ok.ensures.asked; given = e.given; losses = e.losses; counted = e.counted } in
    let brought = c.in-Ok-bring.ensures in
    let drained = c.in-Ok-drain.ensures in
    let f = g.G.Framing.meaning c.args.framing.now in
    let first = on_brought g.E.Enters g.F.Feed f turn _ _ p c.bring.new.post _ c.requires.ready.held hands brought.same.feed brought.same.held brought.ok.0 brought.ok.1 (search rules) in
    let same = same_brought g.E.Enters g.F.Feed f _ _ p c.bring.new.post _ hands brought.same.whose brought.same.worker brought.same.feed in
    record {
      same = same_then _ _ _ _ _ same drained.same;
      unread = omega (arith, brought.unread, drained.unread);
      ok = (
        drained.ok.0,
        on_as _ _ _ 1 _ (turns_in turn + 0) 1 _ _ (sym (ap (λ w. nones_of w 1) (sym (c.worker.ensures ∙ brought.same.whose)) ∙ c.in-Some.ensures.once)) (omega (arith, c.if-is_last.ensures)) (on_then _ _ _ 0 1 (turns_in turn) 0 _ _ _ same first drained.ok.1),
      );
      err = tt;
    }

pub returns-in-Err-drain : goal.returns-in-Err-drain
returns-in-Err-drain g c =
    let p = c.args.post.now in
    let e = c.next.ensures in
    let turn = c.in-Ok.turn in
    let hands : HandsOut g.F.Feed (turns_in turn) (told_of turn c.next.new.into.items) p.feed c.next.new.self =
    record { name = e.name; tells = e.tells; handed = c.in-Ok.ensures.handed; asked = c.in-Ok.ensures.asked; given = e.given; losses = e.losses; counted = e.counted } in
    let brought = c.in-Ok-bring.ensures in
    let drained = c.in-Err-drain.ensures in
    let f = g.G.Framing.meaning c.args.framing.now in
    let first = on_brought g.E.Enters g.F.Feed f turn _ _ p c.bring.new.post _ c.requires.ready.held hands brought.same.feed brought.same.held brought.ok.0 brought.ok.1 (search rules) in
    let same = same_brought g.E.Enters g.F.Feed f _ _ p c.bring.new.post _ hands brought.same.whose brought.same.worker brought.same.feed in
    record {
      same = same_then _ _ _ _ _ same drained.same;
      unread = omega (arith, brought.unread, drained.unread);
      ok = tt;
      err = short_then _ _ _ _ _ _ _ _ same first drained.err;
    }
