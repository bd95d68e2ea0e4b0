use Rattle.std.proofs.Common.{rules}
use Rattle.sr_forwarding.proofs.parcel.Parcel.into_octets.Goals as goal

pub returns : goal.returns
returns c = search rules
