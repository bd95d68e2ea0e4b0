use Rattle.std.proofs.KnownBytes.{Appends-kept}
use Rattle.sr_capture_script.proofs.Merged.{scripts, halts_merged}
use Rattle.sr_capture_script.proofs.Outcomes.{handed_on}
use Rattle.sr_capture_script.proofs.scripting.print.Goals as goal

pub returns-in-Ok-clause-scripts : goal.returns-in-Ok-clause-scripts
returns-in-Ok-clause-scripts g c sa sb sc fa fb fc =
    let m = c.in_ok-last.ensures in
    scripts c.args.options.now.choice _ _ _ c.merge.new.a c.merge.new.b c.merge.new.c _ _ _ c.in_ok-last.last (g.W.Write.contents c.args.writer.now) (g.W.Write.contents c.merge.new.writer) (g.W.Write.contents c.write_last_ticks.new.writer) (g.W.Write.contents c.flush.new.self) _ c.append_end.new.text.items c.as_slice.result.now
    (m.merged sa sb sc fa fb fc) m.same_a.file m.same_b.file m.same_c.file
    c.clear.ensures.items c.as_slice.ensures.value c.in_ok-append_end.ensures.ok c.in_ok-write_last_ticks.ensures.ok
    (Appends-kept (g.W.Write.contents c.write_last_ticks.new.writer) (g.W.Write.contents c.write_text.new.writer) (g.W.Write.contents c.flush.new.self) c.as_slice.result.now c.in_ok-write_text.ensures.ok c.in-Ok.ensures.bytes)

pub returns-in_err-append_end-clause-halts : goal.returns-in_err-append_end-clause-halts
returns-in_err-append_end-clause-halts g c =
    handed_on c.from_residual-in_err-append_end.result _ _ c.from_residual-in_err-append_end.ensures.1 (λ other sa sb sc fa fb fc.
    halts_merged c.args.options.now.choice _ _ _ _ _ _ _ _ _ _ (c.in_ok-last.ensures.merged sa sb sc fa fb fc) c.in_err-append_end.ensures.err)
