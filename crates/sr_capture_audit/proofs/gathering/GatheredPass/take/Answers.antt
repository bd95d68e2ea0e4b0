use Rattle.std.proofs.Common.{refl}
use Rattle.std.proofs.lemmas.Result.{on_ok_weaker}
use Rattle.sr_capture_audit.proofs.GatheringLemmas.{gathers_passed, gathers_taken}
use Rattle.sr_capture_audit.proofs.gathering.GatheredPass.take.Goals as goal

pub returns-in_default-clause-taken : goal.returns-in_default-clause-taken
returns-in_default-clause-taken c x is =
    gathers_passed c.args.place c.args.packet.now x c.args.self.now c.tap_at.result is c.tap_at.ensures c.in_default.is

pub returns-clause-taken : goal.returns-clause-taken
returns-clause-taken c =
    on_ok_weaker c.note_parts.result (λ took x is.
    gathers_taken c.args.place c.args.packet.now x c.args.self.now _ c.tap_at.result c.in-Some.tap c.kind_of-kind.result c.as_slice.result.now is
    c.tap_at.ensures c.in-Some.is c.kind_of-kind.ensures c.as_slice.ensures.value c.note.ensures c.lengthened-self.ensures
    c.in_ok-note_kind.ensures.taken refl refl c.in_ok-learn.ensures.taken took.0 took.1)
    c.note_parts.ensures.taken
