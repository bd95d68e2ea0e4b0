use Rattle.std.proofs.Common.{refl}
use Rattle.sr_script.proofs.Arrivals.{arrives}
use Rattle.sr_script.proofs.reading.arrival_at.Goals as goal

pub returns : goal.returns
returns c =
    arrives c.args.role c.args.text.now _ c.in_ok-port.rest.now _ c.in_ok-port.port c.in_ok-line.line
    c.in_ok-port.ensures.found refl c.in_ok-port.ensures.inlet c.in_ok-line.ensures
