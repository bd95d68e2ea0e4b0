use Rattle.std.proofs.Common.{◌≡◌, ◌/◌, true, false, ap}
use Rattle.std.proofs.lemmas.Result.{IfErr-weaker, on_ok_weaker}
use Rattle.sr_capture_script.proofs.Outcomes.{handed_on}
use Rattle.sr_capture_script.specs.Texts.{is_wanted}
use Rattle.sr_capture_merge.specs.Files.{sink}
use Rattle.sr_capture_merge.proofs.Merged.{sink_is, pass_taken, pass_passed, pass_refused, pass_stuck_taken, pass_stuck_passed}
use Rattle.sr_capture_merge.proofs.merging.pass.Goals as goal
use Rattle.sr_capture_merge.proofs.merging.pass.Goals.{then-covers+in_ok-take, else-covers}

pub returns-in_err-take-clause-stops : goal.returns-in_err-take-clause-stops
returns-in_err-take-clause-stops g c =
    handed_on c.from_residual.result _ _ c.from_residual.ensures.1 (λ other.
    pass_refused g.R.Read.remaining c.args.choice.now c.args.output.now.plan c.args.output.now.start c.args.captures.now c.args.front _ c.args.now.now _
    c.saturating_sub-time.result c.args.merge.now _ (sink (g.W.Write.contents c.args.writer.now) c.args.output.now.counts) _ c.saturating_sub-time.ensures other c.in_err-take.ensures.stops)

pub returns-clause-goes : goal.returns-clause-goes
returns-clause-goes g c =
    let told = c.covers.ensures in
    on_ok_weaker c.advance.result (λ goes. elim c.if-covers.branch [
      | then-covers+in_ok-take w ↦
          let test = w.if-covers.true in
          let wanted : is_wanted c.args.choice.now (c.saturating_sub-time.result / 1000000) ≡ true = cc (told, test) in
          pass_taken g.R.Read.remaining c.args.choice.now c.args.output.now.plan c.args.output.now.start c.args.captures.now c.advance.new.self c.args.front
          c.args.now.now c.saturating_sub-time.result w.side_of-side.result w.packet-packet.result.now c.args.merge.now w.take.new.merge c.if-covers.merge
          (sink (g.W.Write.contents c.args.writer.now) c.args.output.now.counts) (sink (g.W.Write.contents w.take.new.writer) w.take.new.output.counts) (sink (g.W.Write.contents c.if-covers.writer) c.if-covers.output.counts)
          c.saturating_sub-time.ensures w.side_of-side.ensures w.packet-packet.ensures w.merge-is (sink_is _ _ _ _ (ap g.W.Write.contents w.writer-is) (ap (λ o. o.counts) w.output-is)) wanted
          w.in_ok-take.ensures.goes goes c.advance.ensures.others
      | else-covers w ↦
          let test = w.if-covers.false in
          let wanted : is_wanted c.args.choice.now (c.saturating_sub-time.result / 1000000) ≡ false = cc (told, test) in
          pass_passed g.R.Read.remaining c.args.choice.now c.args.output.now.plan c.args.output.now.start c.args.captures.now c.advance.new.self c.args.front
          c.args.now.now c.saturating_sub-time.result c.args.merge.now c.if-covers.merge (sink (g.W.Write.contents c.args.writer.now) c.args.output.now.counts)
          (sink (g.W.Write.contents c.if-covers.writer) c.if-covers.output.counts) c.saturating_sub-time.ensures w.merge-is (sink_is _ _ _ _ (ap g.W.Write.contents w.writer-is) (ap (λ o. o.counts) w.output-is)) wanted goes
          c.advance.ensures.others
    ]) c.advance.ensures.goes

pub returns-clause-stops : goal.returns-clause-stops
returns-clause-stops g c =
    let told = c.covers.ensures in
    IfErr-weaker c.advance.result _ _ (λ fault stops other. elim c.if-covers.branch [
      | then-covers+in_ok-take w ↦
          let test = w.if-covers.true in
          let wanted : is_wanted c.args.choice.now (c.saturating_sub-time.result / 1000000) ≡ true = cc (told, test) in
          pass_stuck_taken g.R.Read.remaining c.args.choice.now c.args.output.now.plan c.args.output.now.start c.args.captures.now c.advance.new.self c.args.front
          fault c.args.now.now c.saturating_sub-time.result w.side_of-side.result w.packet-packet.result.now c.args.merge.now w.take.new.merge c.if-covers.merge
          (sink (g.W.Write.contents c.args.writer.now) c.args.output.now.counts) (sink (g.W.Write.contents w.take.new.writer) w.take.new.output.counts) (sink (g.W.Write.contents c.if-covers.writer) c.if-covers.output.counts)
          c.saturating_sub-time.ensures w.side_of-side.ensures w.packet-packet.ensures w.merge-is (sink_is _ _ _ _ (ap g.W.Write.contents w.writer-is) (ap (λ o. o.counts) w.output-is)) wanted
          w.in_ok-take.ensures.goes stops
      | else-covers w ↦
          let test = w.if-covers.false in
          let wanted : is_wanted c.args.choice.now (c.saturating_sub-time.result / 1000000) ≡ false = cc (told, test) in
          pass_stuck_passed g.R.Read.remaining c.args.choice.now c.args.output.now.plan c.args.output.now.start c.args.captures.now c.advance.new.self c.args.front
          fault c.args.now.now c.saturating_sub-time.result c.args.merge.now c.if-covers.merge (sink (g.W.Write.contents c.args.writer.now) c.args.output.now.counts)
          (sink (g.W.Write.contents c.if-covers.writer) c.if-covers.output.counts) c.saturating_sub-time.ensures w.merge-is (sink_is _ _ _ _ (ap g.W.Write.contents w.writer-is) (ap (λ o. o.counts) w.output-is)) wanted stops
    ]) c.advance.ensures.stops
