use Rattle.sr_streams.specs.Views.{said}
use Rattle.sr_capture_streams.proofs.Watched.{watched_one}
use Rattle.sr_capture_streams.proofs.watching.StreamWatchPass.take.Goals as goal

pub returns-clause-taken : goal.returns-clause-taken
returns-clause-taken c x is =
    watched_one c.args.place c.args.packet.now x c.args.self.now _ c.in-Some.src (said c.in-Some.message) is c.in-Some.ensures c.in_ok-note.ensures
