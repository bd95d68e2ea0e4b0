use Rattle.std.proofs.Common.{arith, ap, refl}
use Rattle.sr_merge.specs.Merging.{read_of}
use Rattle.sr_capture_merge.specs.Reading.{is_whole}
use Rattle.sr_capture_merge.proofs.Merged.{left_out, cut_counted, long_counted, long_is, whole_is, none_due, taken_on}
use Rattle.sr_capture_merge.proofs.Counted.{cut_left, long_left}
use Rattle.sr_capture_merge.specs.Files.{sink}
use Rattle.sr_capture_merge.proofs.merging.take.Goals as goal

pub returns-in-Cut-clause-goes : goal.returns-in-Cut-clause-goes
returns-in-Cut-clause-goes g c =
    left_out c.args.output.now.plan c.args.output.now.start c.args.side c.args.number c.args.time c.args.packet.now c.args.merge.now
    (sink (g.W.Write.contents c.args.writer.now) c.args.output.now.counts) _ (ap (λ x. is_whole x c.args.packet.now.len) c.in-Cut.is) refl (cut_left c.args.output.now.plan c.args.output.now.counts _)
    (cut_counted c.args.packet.now.extent c.args.packet.now.len c.args.output.now.counts _ c.in-Cut.is c.more.ensures)

pub returns-in-Whole-clause-goes : goal.returns-in-Whole-clause-goes
returns-in-Whole-clause-goes g c =
    left_out c.args.output.now.plan c.args.output.now.start c.args.side c.args.number c.args.time c.args.packet.now c.args.merge.now
    (sink (g.W.Write.contents c.args.writer.now) c.args.output.now.counts) _ (long_is c.args.packet.now.extent c.args.packet.now.len c.in-Whole.is (omega arith)) refl (long_left c.args.output.now.plan c.args.output.now.counts _)
    (long_counted c.args.packet.now.extent c.args.packet.now.len c.args.output.now.counts _ c.in-Whole.is (omega arith) c.more-in-Whole.ensures)

pub returns-clause-goes : goal.returns-clause-goes
returns-clause-goes g c =
    taken_on c.args.output.now.plan c.write_due.new.output.plan c.args.output.now.start c.args.side c.args.number c.args.time c.args.packet.now
    c.as_slice.result.now (read_of c.packet_of.result) c.args.merge.now c.write_due.new.merge c.take.new.self
    (sink (g.W.Write.contents c.args.writer.now) c.args.output.now.counts) (sink (g.W.Write.contents c.write_due.new.writer) c.write_due.new.output.counts)
    (whole_is c.args.packet.now.extent c.args.packet.now.len c.in-Whole.is (omega arith))
    c.write_due.ensures.plan c.as_slice.ensures.value c.packet_of.ensures c.in_ok-write_due.ensures.goes c.in_ok-take.ensures.taken

pub take-requires : goal.take-requires
take-requires g c =
    none_due c.write_due.new.output.plan c.args.side c.args.number c.args.time c.as_slice.result.now (read_of c.packet_of.result)
    c.write_due.new.merge.waiting c.packet_of.ensures c.in_ok-write_due.ensures.due
