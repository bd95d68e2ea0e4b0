use Rattle.std.proofs.lemmas.Result.{IfErr-weaker}
use Rattle.sr_capture_merge.specs.Files.{sink}
use Rattle.sr_capture_merge.proofs.Merged.{stopped_whole}
use Rattle.sr_capture_merge.proofs.merging.finish.Goals as goal

pub returns-in-Ok-clause-stops : goal.returns-in-Ok-clause-stops
returns-in-Ok-clause-stops g c =
    IfErr-weaker c.write_rest.result _ _ (λ fault stop.
    stopped_whole c.args.taken _ fault c.args.output.now.plan c.args.output.now.start c.args.now c.args.merge.now.waiting _ (sink (g.W.Write.contents c.args.writer.now) c.args.output.now.counts) _
    c.in-Ok.is stop) c.write_rest.ensures.stops
