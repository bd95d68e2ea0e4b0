use Rattle.std.proofs.Common.{Ok, ap, refl, arith, lit<}
use Rattle.sr_session.specs.declared.fault.FaultKind.TheVariants as kind
use Rattle.sr_session.specs.declared.fault.Fault.{Fault}
use Rattle.sr_session.proofs.Going.{going_from, going_more, ends_later, ends_too_many, ends_unread}
use Rattle.sr_session.proofs.LeftLines.{left_later, behind_left}
use Rattle.sr_session.proofs.running.obey_lines.Goals as goal

pub returns-in-Err-clause-ended : goal.returns-in-Err-clause-ended
returns-in-Err-clause-ended g c =
    ends_later g.S.Session.dialogue _ _ _ _ _ _ _ _ 1 c.in-Err.fault (going_from g.S.Session.dialogue _ _ _) c.in-Err.ensures.ended

pub loop-number-init : goal.loop-number-init
loop-number-init g c = record {
  count = c.in-Ok.ensures.count;
  room = omega (arith, c.requires.room, c.in-Ok.ensures.room);
  text = c.in-Ok.ensures.text;
  marks = c.in-Ok.ensures.marks;
  going = going_more g.S.Session.dialogue _ _ _ _ _ _ _ _ _ 1 c.in-Ok.next (going_from g.S.Session.dialogue _ _ _) c.in-Ok.ensures.obeyed;
}

pub returns-in-Err-obey_next-clause-ended : goal.returns-in-Err-obey_next-clause-ended
returns-in-Err-obey_next-clause-ended g c =
    ends_later g.S.Session.dialogue _ _ _ _ _ _ _ _ c.loop-number.number c.in-Err-obey_next.fault c.loop-number.invariant.going c.in-Err-obey_next.ensures.ended

pub returns-in-Err-obey_at_hand-clause-ended : goal.returns-in-Err-obey_at_hand-clause-ended
returns-in-Err-obey_at_hand-clause-ended g c =
    let going = going_more g.S.Session.dialogue _ _ _ _ _ _ _ _ _ c.loop-number.number _ c.loop-number.invariant.going (rw c.in-Ok-true.field-0-test at c.in-Ok-true.ensures.turned) in
    ends_later g.S.Session.dialogue _ _ _ _ _ _ _ _ _ c.in-Err-obey_at_hand.fault going c.in-Err-obey_at_hand.ensures.ended

pub loop-number-preserved : goal.loop-number-preserved
loop-number-preserved g c =
    let going = going_more g.S.Session.dialogue _ _ _ _ _ _ _ _ _ c.loop-number.number _ c.loop-number.invariant.going (rw c.in-Ok-true.field-0-test at c.in-Ok-true.ensures.turned) in
    record {
      count = c.in-Ok-obey_at_hand.ensures.count;
      room = omega (arith, c.in-Ok-obey_at_hand.ensures.room, c.in-Ok-true.ensures.room, c.loop-number.invariant.room);
      text = c.in-Ok-obey_at_hand.ensures.text;
      marks = c.in-Ok-obey_at_hand.ensures.marks;
      going = going_more g.S.Session.dialogue _ _ _ _ _ _ _ _ _ _ c.in-Ok-obey_at_hand.next going c.in-Ok-obey_at_hand.ensures.obeyed;
    }

pub returns-in-Ok-false-is_at_end-clause-ended : goal.returns-in-Ok-false-is_at_end-clause-ended
returns-in-Ok-false-is_at_end-clause-ended g c =
    let f : Fault = record { line = 1000001; kind = kind.Long } in
    ends_too_many g.S.Session.dialogue _ _ _ _ _ _ _ c.loop-number.number f (omega arith) (lit< tt) refl c.loop-number.invariant.going (c.in-Ok-false-is_at_end.ensures.more (ap Ok c.in-Ok-false-is_at_end.field-0-test))

pub returns-in-Err-is_at_end-clause-ended : goal.returns-in-Err-is_at_end-clause-ended
returns-in-Err-is_at_end-clause-ended g c =
    let f : Fault = record { line = 1000001; kind = c.in-Err-is_at_end.kind } in
    ends_unread g.S.Session.dialogue _ _ _ _ _ _ _ c.loop-number.number f (omega arith) c.in-Err-is_at_end.ensures.fault c.loop-number.invariant.going c.in-Err-is_at_end.ensures.untaken

pub returns-in-Err-obey_next-clause-left : goal.returns-in-Err-obey_next-clause-left
returns-in-Err-obey_next-clause-left g c =
    left_later g.S.Session.dialogue _ _ _ _ _ _ c.loop-number.number c.in-Err-obey_next.fault.kind _ _ c.loop-number.invariant.going c.in-Err-obey_next.ensures.left

pub returns-in-Err-obey_at_hand-clause-left : goal.returns-in-Err-obey_at_hand-clause-left
returns-in-Err-obey_at_hand-clause-left g c =
    let going = going_more g.S.Session.dialogue _ _ _ _ _ _ _ _ _ c.loop-number.number _ c.loop-number.invariant.going (rw c.in-Ok-true.field-0-test at c.in-Ok-true.ensures.turned) in
    left_later g.S.Session.dialogue _ _ _ _ _ _ _ c.in-Err-obey_at_hand.fault.kind _ _ going c.in-Err-obey_at_hand.ensures.left

pub returns-in-Ok-false-is_at_end-clause-left : goal.returns-in-Ok-false-is_at_end-clause-left
returns-in-Ok-false-is_at_end-clause-left g c = behind_left _ 1000001 _ (lit< tt)
