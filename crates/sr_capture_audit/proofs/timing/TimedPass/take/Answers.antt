use Rattle.std.proofs.Common.{refl}
use Rattle.std.proofs.lemmas.Result.{on_ok_weaker}
use Rattle.sr_capture_audit.specs.Timing.{put_right}
use Rattle.sr_capture_audit.proofs.timing.TimedPass.take.Goals as goal

pub returns-clause-taken : goal.returns-clause-taken
returns-clause-taken g c =
    on_ok_weaker c.take.result (λ took x is.
    record { clock = refl; taken = took (put_right c.args.self.now.clock x) (c.put_right.ensures c.args.packet.now x is) })
    c.take.ensures.taken
