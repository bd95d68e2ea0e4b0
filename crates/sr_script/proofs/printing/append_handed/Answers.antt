use Rattle.std.proofs.Common.{refl}
use Rattle.sr_frame.specs.declared.ports.Port.TheVariants.{H}
use Rattle.sr_forwarding.specs.Parcels.{plain_of}
use Rattle.sr_node.specs.Outboxes.{box_at}
use Rattle.sr_script.specs.Texts.{frame_line}
use Rattle.sr_script.proofs.PrintedLines.{line_of_first}
use Rattle.sr_script.proofs.printing.append_handed.Goals as goal

pub returns-in_ok-append_plain-clause-ok : goal.returns-in_ok-append_plain-clause-ok
returns-in_ok-append_plain-clause-ok g c role =
    let p = c.in-Some.parcel.now in
    let line = frame_line H (plain_of p) in
    let first = line_of_first role H (box_at c.args.node.now.core.out H) p line c.in-Some.ensures.some (plain_of p, refl, refl) in
    (line, (first, c.drop_first.ensures.dropped.1), c.in_ok-append_plain.ensures.ok)
