use Rattle.std.proofs.Common.{refl}
use Rattle.sr_capture_script.specs.Merging.{feed_of}
use Rattle.sr_capture_script.specs.Passing.{wanted}
use Rattle.sr_capture_audit.specs.PassLemmas.{taken_within}
use Rattle.sr_capture_audit.specs.Spanning.{SpansBeside}
use Rattle.sr_capture_audit.specs.declared.spanning.Beside.{Beside}
use Rattle.sr_capture_audit.proofs.Spanned.{spans_none, spans_all, spans_folded}
use Rattle.sr_capture_audit.proofs.spanning.spans_beside.Goals as goal

pub returns-clause-spans : goal.returns-clause-spans
returns-clause-spans g c sa sb sc fa fb fc =
    let all = c.args.captures.now in
    let took = c.in_ok-pass_over.ensures.takes sa sb sc fa fb fc in
    spans_all c.args.choice.now (feed_of all.a sa) (feed_of all.b sb) (feed_of all.c sc) _ c.pass_over.new.pass.spanning took.merged took.came
    (spans_none c.args.subject _ refl refl) (spans_folded _ _ (wanted c.args.choice.now took.merged) c.pass_over.new.pass took.taken)

pub returns-clause-takes : goal.returns-clause-takes
returns-clause-takes g c sa sb sc fa fb fc =
    let all = c.args.captures.now in
    taken_within (λ (b : Beside _). b.other) _ _ (λ o h n is. is.other) c.args.choice.now (feed_of all.a sa) (feed_of all.b sb) (feed_of all.c sc) _
    c.pass_over.new.pass (c.in_ok-pass_over.ensures.takes sa sb sc fa fb fc)
