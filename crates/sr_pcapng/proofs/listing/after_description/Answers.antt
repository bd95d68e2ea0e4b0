use Rattle.std.proofs.Common.{rules}
use Rattle.sr_pcapng.proofs.listing.after_description.Goals as goal

pub returns : goal.returns
returns c = search rules
