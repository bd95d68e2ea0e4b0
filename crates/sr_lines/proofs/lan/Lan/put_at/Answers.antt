use Rattle.std.proofs.Common.{refl, ap, arith}
use Rattle.sr_lines.proofs.Spread.{seen_same, seen_more, said}
use Rattle.sr_lines.specs.Names.{end_wires}
use Rattle.sr_lines.proofs.lan.Lan.put_at.Goals as goal

pub returns-in-Some-clause-wires : goal.returns-in-Some-clause-wires
returns-in-Some-clause-wires g c = seen_same (λ e. end_wires e) _ _ c.in-Some.wire.now _ c.in-Some.ensures.value c.put.ensures.wires

pub returns-in-Some-clause-taken : goal.returns-in-Some-clause-taken
returns-in-Some-clause-taken g c =
    seen_same (λ e. e.take.frames) _ _ c.in-Some.wire.now _ c.in-Some.ensures.value (ap (λ s. s.frames) c.put.ensures.same)

pub returns-in-Some-clause-seen : goal.returns-in-Some-clause-seen
returns-in-Some-clause-seen g c = seen_same (λ e. e.send.seen) _ _ c.in-Some.wire.now _ c.in-Some.ensures.value c.put.ensures.seen

pub returns-in-Some-clause-sent : goal.returns-in-Some-clause-sent
returns-in-Some-clause-sent g c =
    said _ _ _ _ _ _ c.is_ok.ensures.value c.put.ensures.put
    (λ _ m. seen_more (λ e. e.send.frames) _ _ c.in-Some.wire.now _ _ (omega (arith, c.in-Some.ensures.variant.0 refl, c.args.self.now.ends.ok.0)) c.in-Some.ensures.value m)
    (λ _ m. seen_same (λ e. e.send.frames) _ _ c.in-Some.wire.now _ c.in-Some.ensures.value m.1)
