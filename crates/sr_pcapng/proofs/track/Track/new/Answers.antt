use Rattle.std.proofs.Common.{rules}
use Rattle.sr_pcapng.proofs.track.Track.new.Goals as goal

pub returns-clause-check_len : goal.returns-clause-check_len
returns-clause-check_len c = search rules
