use Rattle.sr_supervision.proofs.Meaning.{first_refused, later_refused}
use Rattle.sr_supervision.proofs.reading.content.Goals as goal

pub returns-in_err-life : goal.returns-in_err-life
returns-in_err-life c =
    first_refused c.args.payload.now c.in-Some.behind.now c.in-Some.version c.in-Some.seq.0 c.from_residual.result c.in_err-life.field-0.0
    c.in-Some.ensures.found c.if-version-gt-MAX_VERSION.false c.in_err-life.ensures c.from_residual.ensures.1

pub returns-in_err-redbox : goal.returns-in_err-redbox
returns-in_err-redbox c =
    later_refused c.args.payload.now c.in-Some.behind.now c.in_ok-life.rest.now c.in-Some.version c.in-Some.seq.0 c.in_ok-life.life c.in_ok-life.mac c.from_residual-in_err-redbox.result c.in_err-redbox.field-0.0
    c.in-Some.ensures.found c.if-version-gt-MAX_VERSION.false c.in_ok-life.ensures c.in_err-redbox.ensures c.from_residual-in_err-redbox.ensures.1
