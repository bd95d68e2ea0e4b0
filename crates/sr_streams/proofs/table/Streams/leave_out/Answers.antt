use Rattle.sr_streams.proofs.Tabled.{left}
use Rattle.std.proofs.Common.{refl}
use Rattle.sr_streams.proofs.table.Streams.leave_out.Goals as goal

pub returns : goal.returns
returns c xs m full placed less h = left xs m c.args.self.now _ refl c.saturating_add-self.ensures full placed less h
