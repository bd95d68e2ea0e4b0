use Rattle.std.proofs.Common.{sym, subst}
use Rattle.std.proofs.lemmas.Result.{on_ok_weaker}
use Rattle.sr_capture_audit.specs.Auditing.{TakesKind}
use Rattle.sr_capture_audit.proofs.Audited.{takes_numbered}
use Rattle.sr_capture_audit.proofs.gathering.note_kind.Goals as goal

pub returns-clause-taken : goal.returns-clause-taken
returns-clause-taken c = on_ok_weaker c.hear_sign.result (λ heard.
    subst (λ k. TakesKind k c.args.time c.args.audit.now c.hear_sign.new.audit) (sym c.in-Numbered.is)
    (takes_numbered c.in-Numbered.numbered c.args.time c.args.audit.now c.note.new.self c.hear_sign.new.audit c.note.ensures.spans
    c.hear_sign.ensures.spans c.in_ok-note.ensures.taken c.note.ensures.hears c.in_ok-note.ensures.left_out c.hear_sign.ensures.audits heard
    c.hear_sign.ensures.left_out)) c.hear_sign.ensures.hears
