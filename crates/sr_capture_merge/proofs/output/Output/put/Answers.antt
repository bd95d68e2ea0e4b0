use Rattle.std.proofs.Common.{subst, ◌∙◌}
use Rattle.std.specs.Io.KnownBytes.{Appends}
use Rattle.sr_merge.specs.Merging.{packet_of}
use Rattle.sr_capture_merge.specs.Entries.{is_shown, piece_by}
use Rattle.sr_capture_merge.proofs.output.Output.put.Goals as goal

pub returns-clause-wrote : goal.returns-clause-wrote
returns-clause-wrote g c =
    let plan = c.args.self.now.plan in
    subst (λ t. Appends (g.W.Write.contents c.args.writer.now) (g.W.Write.contents c.write_wanted.new.writer)
    (piece_by (is_shown plan.scope t) c.args.self.now.start plan.early t (packet_of c.args.waiting.now)))
    (c.as_slice.ensures.value ∙ c.in_ok-put_remark.ensures.ok) c.in_ok-shown.ensures.wrote
