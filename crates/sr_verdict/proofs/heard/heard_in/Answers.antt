use Rattle.sr_verdict.proofs.HeardLemmas.{heard_step, heard_all}
use Rattle.sr_verdict.proofs.heard.heard_in.Goals as goal

pub loop-mac-preserved : goal.loop-mac-preserved
loop-mac-preserved c =
    heard_step c.args.spans.now c.args.audit.now.sources.entries c.loop-mac.mac-iterator c.next.new.self c.in-Some.mac c.in-Some.source.now
    c.sided.result c.was_sided.result c.figures.result c.loop-mac.heard.items c.note_heard.new.all.items c.in-Some.ensures.steps c.figures.ensures.shown
    (record { row_is = c.sided.ensures; closed_is = c.was_sided.ensures }) c.in_ok-note_heard.ensures c.loop-mac.invariant

pub returns : goal.returns
returns c =
    heard_all c.args.spans.now c.args.audit.now.sources.entries c.loop-mac.mac-iterator c.loop-mac.heard.items c.in-None.ensures.steps.0
    c.loop-mac.invariant
