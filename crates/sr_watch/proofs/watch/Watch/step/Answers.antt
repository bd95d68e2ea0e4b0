use Rattle.std.proofs.Common.{◌∙◌}
use Rattle.sr_watch.proofs.FollowLemmas.{taken}
use Rattle.sr_watch.proofs.watch.Watch.step.Goals as goal

pub returns-in_ok-note-in-Some-clause-goes : goal.returns-in_ok-note-in-Some-clause-goes
returns-in_ok-note-in-Some-clause-goes c =
    let drawn = c.draw.ensures.goes in
    let e = c.in_ok-note-in-Some.ensures in
    let took = taken c.draw.new.self c.in-Some.next c.note.new.self c.in-Some.is e.taken e.passed e.full e.tabled e.left_out
    e.forgotten in
    record {
      goes = λ slack start turns acts g. took.goes slack start turns acts (drawn.goes slack start turns acts g);
      forgotten = took.forgotten ∙ drawn.forgotten;
      lans = took.lans ∙ drawn.lans;
      keeps = record { settings = took.keeps.settings ∙ drawn.keeps.settings; floor = took.keeps.floor ∙ drawn.keeps.floor };
    }
