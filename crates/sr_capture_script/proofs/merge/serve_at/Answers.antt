use Rattle.sr_capture_script.proofs.Going.{goes_a, goes_b, goes_c}
use Rattle.sr_capture_script.proofs.Merged.{halts_a, halts_b, halts_c}
use Rattle.sr_capture_script.proofs.Outcomes.{on_ok_both, if_err_map}
use Rattle.sr_capture_script.proofs.merge.serve_at.Goals as goal

pub returns-in-A-clause-goes : goal.returns-in-A-clause-goes
returns-in-A-clause-goes g c =
    let early = rw c.in-A.is at c.requires in
    on_ok_both c.serve.result _ _ _ c.serve.ensures.served c.serve.ensures.clock
    (λ served clock sa sb sc held going. goes_a g.R.Read.remaining c.args.choice.now sa sb sc c.args.a.now c.serve.new.source c.args.b.now c.args.c.now c.args.clock.now c.serve.new.clock held
    (g.W.Write.contents c.args.writer.now) (g.W.Write.contents c.serve.new.writer) c.args.moment going early (record { base = clock.0; last = clock.1 }) served)

pub returns-in-A-clause-halts : goal.returns-in-A-clause-halts
returns-in-A-clause-halts g c =
    let early = rw c.in-A.is at c.requires in
    if_err_map c.serve.result _ _ c.serve.ensures.stopped
    (λ fault stop other sa sb sc held going. halts_a g.R.Read.remaining c.args.choice.now sa sb sc c.args.a.now c.serve.new.source c.args.b.now c.args.c.now c.args.clock.now held
    (g.W.Write.contents c.args.writer.now) (g.W.Write.contents c.serve.new.writer) c.args.moment fault other going early stop)

pub returns-in-B-clause-goes : goal.returns-in-B-clause-goes
returns-in-B-clause-goes g c =
    let early = rw c.in-B.is at c.requires in
    on_ok_both c.serve-in-B.result _ _ _ c.serve-in-B.ensures.served c.serve-in-B.ensures.clock
    (λ served clock sa sb sc held going. goes_b g.R.Read.remaining c.args.choice.now sa sb sc c.args.a.now c.args.b.now c.serve-in-B.new.source c.args.c.now c.args.clock.now c.serve-in-B.new.clock held
    (g.W.Write.contents c.args.writer.now) (g.W.Write.contents c.serve-in-B.new.writer) c.args.moment going early (record { base = clock.0; last = clock.1 }) served)

pub returns-in-B-clause-halts : goal.returns-in-B-clause-halts
returns-in-B-clause-halts g c =
    let early = rw c.in-B.is at c.requires in
    if_err_map c.serve-in-B.result _ _ c.serve-in-B.ensures.stopped
    (λ fault stop other sa sb sc held going. halts_b g.R.Read.remaining c.args.choice.now sa sb sc c.args.a.now c.args.b.now c.serve-in-B.new.source c.args.c.now c.args.clock.now held
    (g.W.Write.contents c.args.writer.now) (g.W.Write.contents c.serve-in-B.new.writer) c.args.moment fault other going early stop)

pub returns-in-C-clause-goes : goal.returns-in-C-clause-goes
returns-in-C-clause-goes g c =
    let early = rw c.in-C.is at c.requires in
    on_ok_both c.serve-in-C.result _ _ _ c.serve-in-C.ensures.served c.serve-in-C.ensures.clock
    (λ served clock sa sb sc held going. goes_c g.R.Read.remaining c.args.choice.now sa sb sc c.args.a.now c.args.b.now c.args.c.now c.serve-in-C.new.source c.args.clock.now c.serve-in-C.new.clock held
    (g.W.Write.contents c.args.writer.now) (g.W.Write.contents c.serve-in-C.new.writer) c.args.moment going early (record { base = clock.0; last = clock.1 }) served)

pub returns-in-C-clause-halts : goal.returns-in-C-clause-halts
returns-in-C-clause-halts g c =
    let early = rw c.in-C.is at c.requires in
    if_err_map c.serve-in-C.result _ _ c.serve-in-C.ensures.stopped
    (λ fault stop other sa sb sc held going. halts_c g.R.Read.remaining c.args.choice.now sa sb sc c.args.a.now c.args.b.now c.args.c.now c.serve-in-C.new.source c.args.clock.now held
    (g.W.Write.contents c.args.writer.now) (g.W.Write.contents c.serve-in-C.new.writer) c.args.moment fault other going early stop)
