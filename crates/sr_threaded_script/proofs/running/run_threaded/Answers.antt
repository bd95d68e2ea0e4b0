use Rattle.std.proofs.Common.{subst}
use Rattle.std.specs.Prelude.{IfSome}
use Rattle.sr_session.specs.Lines.{lines_of}
use Rattle.sr_session.specs.Runs.{IsAnsweredTo}
use Rattle.sr_threaded_script.specs.Lines.{threaded_dialogue}
use Rattle.sr_threaded_script.specs.Runs.{sendings_of}
use Rattle.sr_threaded_script.proofs.Taken.{runs_behind}
use Rattle.sr_threaded_script.proofs.running.run_threaded.Goals as goal

pub returns-in-Ok : goal.returns-in-Ok
returns-in-Ok g c =
    let held = g.O.Write.contents c.args.writer.now in
    let mid = g.O.Write.contents c.run_session.new.writer in
    let left = g.R.Read.remaining c.args.reader.now in
    let told = sendings_of c.run_session.new.session in
    runs_behind _ c.args.setup.now c.args.turns told c.report.result left _ held mid _ c.report.ensures.done c.report.ensures.failed
    c.report.ensures.kind c.report.ensures.line
    (subst (λ s. IfSome left (λ input. IsAnsweredTo threaded_dialogue s (lines_of input) held mid told)) c.new-session.ensures c.in-Ok.ensures.reached)
