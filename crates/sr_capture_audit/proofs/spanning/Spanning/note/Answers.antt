use Rattle.std.proofs.Common.{refl}
use Rattle.sr_capture_audit.specs.Timing.{put_right}
use Rattle.sr_capture_audit.proofs.Spanned.{spans_passed, spans_unnamed, spans_noted}
use Rattle.sr_capture_audit.proofs.spanning.Spanning.note.Goals as goal

pub returns-in_default : goal.returns-in_default
returns-in_default c x is =
    spans_passed c.put_right-place.result c.args.packet.now (put_right c.args.self.now.subject.clock x) c.args.self.now c.tap_at.result
    (c.put_right-place.ensures c.args.packet.now x is) c.tap_at.ensures c.in_default.is

pub returns-in_default-side_of : goal.returns-in_default-side_of
returns-in_default-side_of c x is =
    spans_unnamed c.put_right-place.result c.args.packet.now (put_right c.args.self.now.subject.clock x) c.args.self.now c.tap_at.result c.in-Some.tap
    c.side_of.result (c.put_right-place.ensures c.args.packet.now x is) c.tap_at.ensures c.in-Some.is c.side_of.ensures c.in_default-side_of.is

pub returns : goal.returns
returns c x is =
    spans_noted c.put_right-place.result c.args.packet.now (put_right c.args.self.now.subject.clock x) c.args.self.now _ c.tap_at.result c.in-Some.tap
    c.side_of.result c.in-Some-side_of.side (c.put_right-place.ensures c.args.packet.now x is) c.tap_at.ensures c.in-Some.is c.side_of.ensures
    c.in-Some-side_of.is c.note.ensures refl
