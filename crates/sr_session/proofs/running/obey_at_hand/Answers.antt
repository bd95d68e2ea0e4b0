use Rattle.std.proofs.Common.{inl, []}
use Rattle.sr_session.proofs.LeftLines.{hand_left, left_alone, unread_alone}
use Rattle.sr_session.proofs.WaitingTexts.{waits_replies, fill_within, hand_took, hand_unread, hand_cut, hand_stops}
use Rattle.sr_session.proofs.running.obey_at_hand.Goals as goal

pub returns-in_default-clause-ended : goal.returns-in_default-clause-ended
returns-in_default-clause-ended g c =
    hand_unread g.S.Session.dialogue _ c.args.first _ _ _ c.fill_buf.follows.holds-at-none.0

pub returns-in-Err-clause-ended : goal.returns-in-Err-clause-ended
returns-in-Err-clause-ended g c =
    let front = c.obey_front-front.ensures.front in
    let filled = c.fill_buf.follows.holds-at-none in
    let within = fill_within _ _ _ c.in-Ok.available c.in-Ok.is filled.1 in
    let took = hand_took _ _ _ _ c.in-Ok.available.now c.obey_front-front.result.used front.lines filled.0 within c.in-Ok.ensures.front c.consume.ensures.bytes front.within front.whole in
    hand_cut g.S.Session.dialogue _ c.args.first front.lines _ _ _ c.in-Err.fault _ _ _ _ front.waits c.in-Err.ensures.cut took

pub returns-in-Some-clause-ended : goal.returns-in-Some-clause-ended
returns-in-Some-clause-ended g c =
    let front = c.obey_front-front.ensures.front in
    let replies = waits_replies g.S.Session.dialogue _ c.args.first 0 front.lines _ _ _ front.waits in
    hand_stops g.S.Session.dialogue _ c.args.first front.lines _ _ _ (g.S.Session.state c.obey_front-front.new.session) _ c.in-Some.kind _ _ _ _ c.in-Ok.available.now _ replies front.next c.in_default-send.ensures.sent front.whole
    (rw c.in-Some.is at front.stops) c.in-Ok.ensures.front

pub returns-in-None-clause-obeyed : goal.returns-in-None-clause-obeyed
returns-in-None-clause-obeyed g c =
    let front = c.obey_front-front.ensures.front in
    let replies = waits_replies g.S.Session.dialogue _ c.args.first 0 front.lines _ _ _ front.waits in
    let filled = c.fill_buf.follows.holds-at-none in
    let within = fill_within _ _ _ c.in-Ok.available c.in-Ok.is filled.1 in
    let stays = rw c.in-None.is at front.stops in (
      front.lines,
      c.obey_front-front.new.waiting.text,
      hand_took _ _ _ _ c.in-Ok.available.now c.obey_front-front.result.used front.lines filled.0 within c.in-Ok.ensures.front c.consume.ensures.bytes front.within front.whole,
      rw stays replies,
      front.next,
      c.in_default-send.ensures.sent,
    )

pub returns-in-Err-clause-left : goal.returns-in-Err-clause-left
returns-in-Err-clause-left g c = left_alone c.in-Err.fault.kind _ c.args.first _ _ (inl c.in-Err.ensures.cut.7)

pub returns-in-Some-clause-left : goal.returns-in-Some-clause-left
returns-in-Some-clause-left g c =
    let front = c.obey_front-front.ensures.front in
    hand_left g.S.Session.dialogue _ (g.S.Session.state c.obey_front-front.new.session) c.args.first _ c.in-Some.kind front.lines _ c.in-Ok.available.now _ _ front.next front.whole (rw c.in-Some.is at front.stops)
    c.in-Ok.ensures.front

pub returns-in_default-clause-left : goal.returns-in_default-clause-left
returns-in_default-clause-left g c = unread_alone _ c.args.first c.args.first []
