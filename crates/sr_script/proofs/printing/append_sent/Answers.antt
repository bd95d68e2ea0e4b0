use Rattle.std.proofs.Common.{refl}
use Rattle.sr_node.specs.Outboxes.{box_at}
use Rattle.sr_script.specs.Texts.{frame_line}
use Rattle.sr_script.proofs.PrintedLines.{line_of_first}
use Rattle.sr_script.proofs.printing.append_sent.Goals as goal

pub returns-in_ok-append_framed-clause-ok : goal.returns-in_ok-append_framed-clause-ok
returns-in_ok-append_framed-clause-ok g c =
    let told = c.in_ok-append_framed.ensures.ok in
    let line = frame_line c.args.port told.0 in
    let first = line_of_first c.args.role.now c.args.port (box_at c.args.node.now.core.out c.args.port) c.in-Some.parcel.now line c.in-Some.ensures.some (told.0, told.1, refl) in
    (line, (first, c.drop_first.ensures.dropped.1), told.2)
