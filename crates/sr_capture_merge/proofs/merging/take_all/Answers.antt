use Rattle.std.proofs.Common.{◌+◌, ◌∙◌, length, refl, subst, arith}
use Rattle.sr_capture_script.proofs.Outcomes.{handed_on}
use Rattle.sr_capture_merge.specs.Files.{sink}
use Rattle.sr_capture_merge.specs.Merged.{IsMerging}
use Rattle.sr_capture_merge.proofs.Merged.{merging_endless, goes_within, stops_within}
use Rattle.sr_capture_merge.proofs.merging.take_all.Goals as goal

pub packets-init : goal.packets-init
packets-init g c = record { on = λ x y z held h. (h, omega arith); plan = refl; start = refl }

pub returns-in_default-clause-goes : goal.returns-in_default-clause-goes
returns-in_default-clause-goes g c x y z held h =
    subst (λ o. IsMerging g.R.Read.remaining c.args.choice.now c.args.output.now.plan c.args.output.now.start x y z c.packets.captures o c.packets.now
    c.packets.merge held (sink (g.W.Write.contents c.packets.writer) c.packets.output.counts)) c.in_default.is (c.packets.invariant.on x y z held h).0

pub returns-in_err-pass-clause-stops : goal.returns-in_err-pass-clause-stops
returns-in_err-pass-clause-stops g c =
    let i = c.packets.invariant in
    handed_on c.from_residual.result _ _ c.from_residual.ensures.1 (λ other x y z held h.
    stops_within g.R.Read.remaining c.args.choice.now c.packets.output.plan c.args.output.now.plan c.packets.output.start c.args.output.now.start x y z
    c.packets.captures c.packets.next c.in-Some.front _ c.packets.now _ c.packets.merge _ held (sink (g.W.Write.contents c.packets.writer) c.packets.output.counts) _ i.plan i.start
    c.in-Some.is (c.in_err-pass.ensures.stops other) (i.on x y z held h).0)

pub returns-clause-stops : goal.returns-clause-stops
returns-clause-stops g c other x y z held h =
    let all = c.packets.invariant.on x y z held h in
    merging_endless g.R.Read.remaining c.args.choice.now c.args.output.now.plan c.args.output.now.start x y z c.packets.captures c.packets.next c.packets.now
    c.packets.merge held (sink (g.W.Write.contents c.packets.writer) c.packets.output.counts) all.0 (omega (arith, all.1))

pub packets-preserved : goal.packets-preserved
packets-preserved g c =
    let i = c.packets.invariant in
    record {
      on = λ x y z held h.
          let was = i.on x y z held h in
          let is = goes_within g.R.Read.remaining c.args.choice.now c.packets.output.plan c.args.output.now.plan c.packets.output.start c.args.output.now.start
          x y z c.packets.captures c.pass.new.captures c.packets.next c.front-next.result c.in-Some.front (length h.out + c.packets.counter)
          c.packets.now c.pass.new.now c.packets.merge c.pass.new.merge held (sink (g.W.Write.contents c.packets.writer) c.packets.output.counts) (sink (g.W.Write.contents c.pass.new.writer) c.pass.new.output.counts)
          i.plan i.start c.in-Some.is c.in_ok-pass.ensures.goes c.front-next.ensures.some c.front-next.ensures.none was in
          (is.0, omega (arith, is.1));
      plan = c.pass.ensures.plan ∙ i.plan;
      start = c.pass.ensures.start ∙ i.start;
    }
