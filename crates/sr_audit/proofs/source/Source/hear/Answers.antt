use Rattle.std.proofs.Common.{◌+◌, ◌<◌, ◌∙◌, arith, ap, length}
use Rattle.std.specs.Prelude.{Some, ◌^◌}
use Rattle.sr_audit.specs.Hearing.{sign_of, alive_before, alive_with}
use Rattle.sr_audit.proofs.HearLemmas.{alive_more}
use Rattle.sr_audit.proofs.source.Source.hear.Goals as goal

pub returns-clause-taken : goal.returns-clause-taken
returns-clause-taken c = record {
  keeps = λ spans xs taken. record {
    numbers = taken.numbers;
    edges = taken.edges;
    extent = taken.extent;
    skews = taken.skews;
    rows = taken.rows;
  };
}

pub returns-clause-heard : goal.returns-clause-heard
returns-clause-heard c = record {
  hears = λ signs heard. record {
    alive = λ few.
        let before : length signs < 2 ^ 64 = omega (arith, few) in
        let room : length signs + 1 < 2 ^ 64 = omega (arith, few) in
        ap Some (c.note.ensures ∙ ap (alive_with c.args.kind c.args.side c.args.time) c.before-alive.ensures)
        ∙ ap (λ o. Some (alive_with c.args.kind c.args.side c.args.time (alive_before c.args.kind o))) (heard.alive before)
        ∙ alive_more (sign_of c.args.kind c.args.side c.args.time) signs room;
  };
}
