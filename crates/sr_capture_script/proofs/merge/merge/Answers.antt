use Rattle.std.proofs.Common.{refl, arith}
use Rattle.sr_capture_script.proofs.Going.{going_from}
use Rattle.sr_capture_script.proofs.Merged.{merges, merges_as, halts_as, halts_endless, feed_is, same_again}
use Rattle.sr_capture_script.proofs.Outcomes.{handed_on}
use Rattle.sr_capture_script.proofs.merge.merge.Goals as goal

pub packets-init : goal.packets-init
packets-init g c = record {
  going = λ sa sb sc fa fb fc. going_from g.R.Read.remaining c.args.choice.now sa sb sc c.args.a.now c.args.b.now c.args.c.now _ (g.W.Write.contents c.args.writer.now) refl refl fa fb fc;
  same_a = record { form = refl; delay = refl; file = refl };
  same_b = record { form = refl; delay = refl; file = refl };
  same_c = record { form = refl; delay = refl; file = refl };
}

pub packets-preserved : goal.packets-preserved
packets-preserved g c =
    let e = c.in_ok-serve_at-in-Some.ensures in
    let i = c.packets.invariant in
    record {
      going = λ sa sb sc fa fb fc.
          let was = i.going sa sb sc fa fb fc in
          let is = e.goes sa sb sc (g.W.Write.contents c.args.writer.now) was.0 in
          (is.0, omega (arith, is.1, was.1));
      same_a = same_again _ _ _ i.same_a e.same_a;
      same_b = same_again _ _ _ i.same_b e.same_b;
      same_c = same_again _ _ _ i.same_c e.same_c;
    }

pub returns-in-None : goal.returns-in-None
returns-in-None g c =
    let i = c.packets.invariant in
    record {
      merged = λ sa sb sc fa fb fc.
          merges_as c.args.choice.now _ _ _ _ _ _ c.packets.a c.packets.b c.packets.c c.packets.clock.last (g.W.Write.contents c.args.writer.now) (g.W.Write.contents c.packets.writer)
          (feed_is c.args.a.now c.packets.a sa i.same_a) (feed_is c.args.b.now c.packets.b sb i.same_b) (feed_is c.args.c.now c.packets.c sc i.same_c)
          (merges g.R.Read.remaining c.args.choice.now sa sb sc c.packets.a c.packets.b c.packets.c c.packets.clock (g.W.Write.contents c.args.writer.now) (g.W.Write.contents c.packets.writer)
          (i.going sa sb sc fa fb fc).0 c.in-None.ensures);
      halts = tt;
      same_a = i.same_a;
      same_b = i.same_b;
      same_c = i.same_c;
    }

pub returns-in_err-serve_at-in-Some-clause-halts : goal.returns-in_err-serve_at-in-Some-clause-halts
returns-in_err-serve_at-in-Some-clause-halts g c =
    let i = c.packets.invariant in
    handed_on c.from_residual.result _ _ c.from_residual.ensures.1 (λ other sa sb sc fa fb fc.
    halts_as c.args.choice.now _ _ _ _ _ _ _ _ _ (feed_is c.args.a.now c.packets.a sa i.same_a) (feed_is c.args.b.now c.packets.b sb i.same_b) (feed_is c.args.c.now c.packets.c sc i.same_c)
    (c.in_err-serve_at-in-Some.ensures.halts other sa sb sc (g.W.Write.contents c.args.writer.now) (i.going sa sb sc fa fb fc).0))

pub returns-clause-halts : goal.returns-clause-halts
returns-clause-halts g c other sa sb sc fa fb fc =
    let i = c.packets.invariant in
    halts_as c.args.choice.now _ _ _ _ _ _ _ _ _ (feed_is c.args.a.now c.packets.a sa i.same_a) (feed_is c.args.b.now c.packets.b sb i.same_b) (feed_is c.args.c.now c.packets.c sc i.same_c)
    (halts_endless g.R.Read.remaining c.args.choice.now sa sb sc c.packets.a c.packets.b c.packets.c c.packets.clock (g.W.Write.contents c.args.writer.now) (g.W.Write.contents c.packets.writer)
    (i.going sa sb sc fa fb fc).0 (omega (arith, (i.going sa sb sc fa fb fc).1)))
