use Rattle.sr_capture_script.proofs.Opened.{opened_none, opened_some, fails_in_front, fails_behind_front}
use Rattle.sr_capture_script.proofs.packets.open.Goals as goal

pub returns-in-None-clause-opened : goal.returns-in-None-clause-opened
returns-in-None-clause-opened g c =
    opened_none g.R.Read.remaining c.args.inlet c.args.how c.args.delay c.args.file _ c.untaken.result c.in-None.is c.untaken.ensures.reader c.untaken.ensures.form c.untaken.ensures.delay c.untaken.ensures.none

pub returns-in-Ok-advance-clause-opened : goal.returns-in-Ok-advance-clause-opened
returns-in-Ok-advance-clause-opened g c =
    let u = c.untaken-source.ensures in
    opened_some g.R.Read.remaining c.args.inlet c.args.how c.args.delay c.args.file c.in-Some.reader c.take_front.new.reader c.in-Ok.form c.untaken-source.result c.advance.new.source c.in-Some.is c.in-Ok.ensures.taken u.reader u.form u.delay u.none c.in-Ok-advance.ensures.goes c.advance.ensures.same

pub returns-in-Err-clause-fault : goal.returns-in-Err-clause-fault
returns-in-Err-clause-fault g c =
    fails_in_front g.R.Read.remaining c.args.inlet c.args.how c.args.file c.in-Some.reader c.take_front.new.reader c.in-Err.fault c.in-Some.is c.in-Err.ensures.refused

pub returns-clause-fault : goal.returns-clause-fault
returns-clause-fault g c =
    let u = c.untaken-source.ensures in
    fails_behind_front g.R.Read.remaining c.args.inlet c.args.how c.args.file c.in-Some.reader c.take_front.new.reader c.in-Ok.form c.untaken-source.result c.in-Err-advance.fault _ c.in-Some.is c.in-Ok.ensures.taken u.reader u.none c.in-Err-advance.ensures.fault
