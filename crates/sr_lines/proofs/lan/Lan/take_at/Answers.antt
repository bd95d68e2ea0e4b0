use Rattle.std.proofs.Common.{refl, ap, arith, ◌<◌, length}
use Rattle.sr_lines.proofs.Spread.{seen_same, took_of}
use Rattle.sr_lines.specs.Names.{end_wires}
use Rattle.sr_lines.proofs.lan.Lan.take_at.Goals as goal

pub returns-in-Some-clause-wires : goal.returns-in-Some-clause-wires
returns-in-Some-clause-wires g c = seen_same (λ e. end_wires e) _ _ c.in-Some.wire.now _ c.in-Some.ensures.value c.take_next.ensures.wires

pub returns-in-Some-clause-sent : goal.returns-in-Some-clause-sent
returns-in-Some-clause-sent g c =
    seen_same (λ e. e.send.frames) _ _ c.in-Some.wire.now _ c.in-Some.ensures.value (ap (λ s. s.frames) c.take_next.ensures.same)

pub returns-in-Some-clause-seen : goal.returns-in-Some-clause-seen
returns-in-Some-clause-seen g c = seen_same (λ e. e.take.seen) _ _ c.in-Some.wire.now _ c.in-Some.ensures.value c.take_next.ensures.seen

pub returns-in-Some-clause-taken : goal.returns-in-Some-clause-taken
returns-in-Some-clause-taken g c =
    let low : c.args.at < length c.args.self.now.ends.items = omega (arith, c.in-Some.ensures.variant.0 refl, c.args.self.now.ends.ok.0) in
    took_of c.take_next.result c.args.self.now.ends.items c.args.at c.in-Some.wire.now c.take_next.new.self low c.in-Some.ensures.value c.take_next.ensures.take
