use Rattle.std.proofs.Common.{inl, ap, sym, subst, Err, true, List, ℕ, length, arith}
use Rattle.sr_session.specs.Lines.{TakesLine}
use Rattle.sr_session.proofs.WaitingTexts.{one_waits, one_obeyed, one_cut, one_stops, one_unread}
use Rattle.sr_session.proofs.LeftLines.{one_left, part_left, left_alone}
use Rattle.sr_session.proofs.running.obey_next.Goals as goal

pub returns-in-Err-clause-ended : goal.returns-in-Err-clause-ended
returns-in-Err-clause-ended g c =
    one_unread g.S.Session.dialogue _ c.args.number c.in-Err.kind _ _ _ c.in-Err.ensures.fault _ (λ e. c.in-Err.ensures.long (ap Err e)) (λ e. c.in-Err.ensures.read (ap Err e))

pub returns-in-Err-obey_line-clause-ended : goal.returns-in-Err-obey_line-clause-ended
returns-in-Err-obey_line-clause-ended g c =
    let taken = subst (λ (l : List ℕ). TakesLine true l (g.R.Read.remaining c.args.reader.now) (g.R.Read.remaining c.next_line.new.reader)) (sym c.deref.ensures.value) (rw c.in-Ok-true.field-0-test at c.in-Ok-true.ensures.taken) in
    one_stops g.S.Session.dialogue _ c.args.number c.deref.result.now c.in-Err-obey_line.kind _ _ _ taken c.requires.number (omega (arith, ap length c.deref.ensures.value, c.in-Ok-true.ensures.short))
    c.in-Err-obey_line.ensures.fault (λ e. c.in-Err-obey_line.ensures.bad (ap Err e)) (λ e. c.in-Err-obey_line.ensures.memory (ap Err e))

pub returns-in-Err-send-clause-ended : goal.returns-in-Err-send-clause-ended
returns-in-Err-send-clause-ended g c =
    let taken = subst (λ (l : List ℕ). TakesLine true l (g.R.Read.remaining c.args.reader.now) (g.R.Read.remaining c.next_line.new.reader)) (sym c.deref.ensures.value) (rw c.in-Ok-true.field-0-test at c.in-Ok-true.ensures.taken) in
    let waits = one_waits g.S.Session.dialogue _ _ c.args.number c.deref.result.now _ _ _ _ c.requires.text c.requires.marks c.requires.number
    (omega (arith, ap length c.deref.ensures.value, c.in-Ok-true.ensures.short)) c.in_default.ensures.ok in
    one_cut g.S.Session.dialogue _ _ c.args.number c.deref.result.now _ _ c.in-Err-send.fault _ _ _ _ taken waits c.in-Err-send.ensures.cut

pub returns-clause-turned : goal.returns-clause-turned
returns-clause-turned g c =
    let taken = subst (λ (l : List ℕ). TakesLine true l (g.R.Read.remaining c.args.reader.now) (g.R.Read.remaining c.next_line.new.reader)) (sym c.deref.ensures.value) (rw c.in-Ok-true.field-0-test at c.in-Ok-true.ensures.taken) in
    let waits = one_waits g.S.Session.dialogue _ _ c.args.number c.deref.result.now _ _ _ _ c.requires.text c.requires.marks c.requires.number
    (omega (arith, ap length c.deref.ensures.value, c.in-Ok-true.ensures.short)) c.in_default.ensures.ok in
    one_obeyed g.S.Session.dialogue _ _ c.args.number c.deref.result.now _ _ _ _ _ _ taken waits c.in_default-send.ensures.sent

pub returns-in-Err-clause-left : goal.returns-in-Err-clause-left
returns-in-Err-clause-left g c = part_left c.in-Err.kind c.args.number _ _ c.in-Err.ensures.fault (λ e. c.in-Err.ensures.long (ap Err e))

pub returns-in-Err-obey_line-clause-left : goal.returns-in-Err-obey_line-clause-left
returns-in-Err-obey_line-clause-left g c =
    one_left c.in-Err-obey_line.kind c.args.number _ _ _ (rw c.in-Ok-true.field-0-test at c.in-Ok-true.ensures.taken) c.in-Err-obey_line.ensures.fault

pub returns-in-Err-send-clause-left : goal.returns-in-Err-send-clause-left
returns-in-Err-send-clause-left g c = left_alone c.in-Err-send.fault.kind _ c.args.number _ _ (inl c.in-Err-send.ensures.cut.7)
