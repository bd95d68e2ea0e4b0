use Rattle.std.proofs.Common.{◌≡◌, refl, sym, subst, ◌∙◌}
use Rattle.std.specs.Io.KnownBytes.{Appends}
use Rattle.sr_merge.specs.Merging.{pending_of, packet_of}
use Rattle.sr_capture_merge.specs.Entries.{written_piece}
use Rattle.sr_capture_merge.specs.Files.{sink, WritesOn}
use Rattle.sr_capture_merge.specs.Settling.{counted_one}
use Rattle.sr_capture_script.proofs.Outcomes.{handed_on}
use Rattle.sr_capture_merge.proofs.Counted.{none_left_more}
use Rattle.sr_capture_merge.proofs.Merged.{sink_is, stops_so}
use Rattle.sr_capture_merge.proofs.Settled.{written_later, written_next}
use Rattle.sr_capture_merge.proofs.merging.write_due.Goals as goal

pub waiting-init : goal.waiting-init
waiting-init g c = record {
  on = record {
    left_out = record { cut = refl; long = refl };
    on = λ taken before held le h.
        written_later c.args.output.now.plan c.args.output.now.start taken before c.args.now c.args.merge.now held (sink (g.W.Write.contents c.args.writer.now) c.args.output.now.counts) le h;
  };
  plan = refl;
  start = refl;
}

pub waiting-preserved : goal.waiting-preserved
waiting-preserved g c =
    let i = c.waiting.invariant in
    let own = packet_of c.in-Some.field-0.waiting.now in
    let v = c.in-Some.field-0.verdict in
    let counted = subst (λ p. c.put.new.self.counts ≡ counted_one p (record { packet = own; verdict = v }) c.waiting.output.counts) i.plan
    c.in_ok-put.ensures.counts in
    record {
      on = record {
        left_out = none_left_more c.args.output.now.plan (record { packet = own; verdict = v }) c.args.output.now.counts c.waiting.output.counts
            c.put.new.self.counts i.on.left_out counted;
        on = λ taken before held le h.
            written_next c.args.output.now.plan c.args.output.now.start taken c.args.now c.waiting.merge c.drop_front.new.self
            (pending_of c.in-Some.field-0.waiting.now) v held (sink (g.W.Write.contents c.waiting.writer) c.waiting.output.counts)
            (sink (g.W.Write.contents c.put.new.writer) c.put.new.self.counts)
            (i.on.on taken before held le h) c.in-Some.ensures.first c.drop_front.ensures.sources c.drop_front.ensures.untold
            c.drop_front.ensures.waiting
            (sym c.in-Some.ensures.verdict)
            c.in-Some.ensures.crowded
            (subst (λ p. Appends (g.W.Write.contents c.waiting.writer) (g.W.Write.contents c.put.new.writer) (written_piece p c.args.output.now.start v own)) i.plan
            (subst (λ s. Appends (g.W.Write.contents c.waiting.writer) (g.W.Write.contents c.put.new.writer) (written_piece c.waiting.output.plan s v own)) i.start
            c.in_ok-put.ensures.wrote))
            counted;
      };
      plan = c.put.ensures.plan ∙ i.plan;
      start = c.put.ensures.start ∙ i.start;
    }

pub returns-in_err-put-clause-stops : goal.returns-in_err-put-clause-stops
returns-in_err-put-clause-stops g c =
    handed_on c.from_residual.result _ _ c.from_residual.ensures.1 (stops_so _ (λ same.
    subst (λ s. WritesOn c.args.output.now.plan c.args.output.now.start c.args.now c.args.merge.now c.waiting.merge (sink (g.W.Write.contents c.args.writer.now) c.args.output.now.counts) s) (sink_is _ _ _ _ (sym same) (sym c.in_err-put.ensures.uncounted)) c.waiting.invariant.on) c.in_err-put.ensures.stops)
