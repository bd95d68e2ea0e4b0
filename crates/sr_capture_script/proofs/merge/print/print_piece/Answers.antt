use Rattle.std.proofs.Common.{rules, refl}
use Rattle.sr_capture_script.proofs.Outcomes.{handed_on}
use Rattle.sr_capture_script.proofs.Stopping.{stops_without_memory, stops_writing}
use Rattle.sr_capture_script.proofs.Writing.{no_piece, whole_piece}
use Rattle.sr_capture_script.proofs.merge.print.print_piece.Goals as goal

pub returns-then-not-is_wanted-clause-ok : goal.returns-then-not-is_wanted-clause-ok
returns-then-not-is_wanted-clause-ok g c item at when number shown =
    no_piece c.args.choice.now c.args.base c.args.last.now item c.args.place.moment c.time_since-time.result (g.W.Write.contents c.args.writer.now) when
    c.time_since-time.ensures (search rules)

pub returns-clause-ok : goal.returns-clause-ok
returns-clause-ok g c item at when number shown =
    whole_piece c.args.choice.now c.args.base c.args.last.now item c.args.place.inlet c.args.place.moment c.time_since-time.result _
    c.append_line.new.text.items c.as_slice.result.now (g.W.Write.contents c.args.writer.now) (g.W.Write.contents c.write_ticks.new.writer)
    (g.W.Write.contents c.write_text.new.writer) at when c.time_since-time.ensures (search rules) (search rules)
    (c.in_ok-append_line.ensures.ok item.packet item.number shown number) c.as_slice.ensures.value c.in_ok-write_ticks.ensures.ok
    c.in_ok-write_text.ensures.ok

pub returns-in_err-append_line-clause-err : goal.returns-in_err-append_line-clause-err
returns-in_err-append_line-clause-err g c =
    handed_on c.from_residual.result _ _ c.from_residual.ensures.1 (stops_without_memory _ _ _ c.in_err-append_line.ensures.err refl)

pub returns-in_err-write_ticks-clause-err : goal.returns-in_err-write_ticks-clause-err
returns-in_err-write_ticks-clause-err g c =
    handed_on c.from_residual-in_err-write_ticks.result _ _ c.from_residual-in_err-write_ticks.ensures.1 (stops_writing _ _ _ c.in_err-write_ticks.ensures.err)

pub returns-in_err-write_text-clause-err : goal.returns-in_err-write_text-clause-err
returns-in_err-write_text-clause-err g c =
    handed_on c.from_residual-in_err-write_text.result _ _ c.from_residual-in_err-write_text.ensures.1 (stops_writing _ _ _ c.in_err-write_text.ensures.err)
