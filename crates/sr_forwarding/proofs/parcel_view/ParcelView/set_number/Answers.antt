use Rattle.std.proofs.Common.{rules}
use Rattle.sr_forwarding.proofs.parcel_view.ParcelView.set_number.Goals as goal

pub returns : goal.returns
returns c = search rules
