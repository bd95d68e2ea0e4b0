use Rattle.sr_capture_audit.proofs.Counted.{counts_a, counts_b, counts_neither}
use Rattle.sr_capture_audit.proofs.counts.Counts.note.Goals as goal

pub returns-in-Some-A : goal.returns-in-Some-A
returns-in-Some-A c =
    counts_a c.args.tap c.args.kind c.args.octets.now c.args.self.now c.note.new.self c.side_of.result _ c.side_of.ensures c.in-Some-A.is
    c.in-Some-A.field-0-is c.note.ensures

pub returns-in-Some-B : goal.returns-in-Some-B
returns-in-Some-B c =
    counts_b c.args.tap c.args.kind c.args.octets.now c.args.self.now c.note-in-Some-B.new.self c.side_of.result _ c.side_of.ensures c.in-Some-B.is
    c.in-Some-B.field-0-is c.note-in-Some-B.ensures

pub returns-in-None : goal.returns-in-None
returns-in-None c =
    counts_neither c.args.tap c.args.kind c.args.octets.now c.args.self.now c.note-in-None.new.self c.side_of.result c.side_of.ensures c.in-None.is
    c.note-in-None.ensures
