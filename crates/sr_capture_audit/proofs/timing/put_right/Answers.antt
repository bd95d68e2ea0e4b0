use Rattle.std.proofs.Common.{refl}
use Rattle.sr_capture_audit.proofs.Timings.{place_right}
use Rattle.sr_capture_audit.proofs.timing.put_right.Goals as goal

pub returns : goal.returns
returns c shown x is = place_right c.args.clock c.args.place _ shown x refl refl c.time_by.ensures is
