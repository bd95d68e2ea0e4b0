use Rattle.sr_capture_streams.proofs.Watched.{watched_all}
use Rattle.sr_capture_streams.proofs.watching.StreamWatch.into_streams.Goals as goal

pub returns : goal.returns
returns c choice x y z new none all = watched_all choice x y z new c.args.self none all
