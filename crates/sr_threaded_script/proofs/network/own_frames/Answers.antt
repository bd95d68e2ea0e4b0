use Rattle.std.proofs.Common.{ap, sym, ◌∙◌, ◌++◌, ◌∷◌, [], List, ℕ}
use Rattle.sr_threaded_script.specs.Sent.{own_frames}
use Rattle.sr_threaded_script.proofs.Chosen.{frames_more}
use Rattle.sr_threaded_script.proofs.network.own_frames.Goals as goal

pub loop-one-preserved : goal.loop-one-preserved
loop-one-preserved c =
    let x = c.one-item.result in
    let n = c.args.number in
    c.in_ok-take_own.ensures ∙ ap (λ (l : List (List ℕ)). l ++ own_frames n (x ∷ [])) c.loop-one.invariant
    ∙ sym (frames_more n c.args.sent.now c.loop-one.one-index x c.loop-one-test.true c.one-item.is)
