use Rattle.sr_capture_script.proofs.Outcomes.{handed_on}
use Rattle.sr_capture_merge.specs.Files.{sink}
use Rattle.sr_capture_merge.proofs.Merged.{broken_stop}
use Rattle.sr_capture_merge.proofs.merging.finish_broken.Goals as goal

pub returns-in_err-write_rest-in-File-clause-stops : goal.returns-in_err-write_rest-in-File-clause-stops
returns-in_err-write_rest-in-File-clause-stops g c =
    handed_on c.from_residual.result _ _ c.from_residual.ensures.1
    (broken_stop c.args.own _ c.in-File.field-0 c.in-File.field-1 c.args.output.now.plan c.args.output.now.start c.args.now c.args.merge.now.waiting _
    (sink (g.W.Write.contents c.args.writer.now) c.args.output.now.counts) _ c.in-File.is c.in_err-write_rest-in-File.ensures.stops)
