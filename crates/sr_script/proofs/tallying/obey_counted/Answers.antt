use Rattle.std.proofs.Common.{refl, sym}
use Rattle.std.proofs.lemmas.Result.{on_ok_weaker}
use Rattle.sr_script.proofs.tallying.obey_counted.Goals as goal

pub returns-in-Arrive-clause-ok : goal.returns-in-Arrive-clause-ok
returns-in-Arrive-clause-ok g c = rw (c.in-Arrive.is, sym c.deref.ensures.value) c.count_arrival.ensures.ok

pub returns-in-Skip-clause-ok : goal.returns-in-Skip-clause-ok
returns-in-Skip-clause-ok g c =
    on_ok_weaker c.obey.result (λ told. (told.0, told.1, rw c.in-Skip.is refl, told.2)) c.obey.ensures.ok

pub returns-in-Send-clause-ok : goal.returns-in-Send-clause-ok
returns-in-Send-clause-ok g c =
    on_ok_weaker c.obey-in-Send.result (λ told. (told.0, told.1, rw c.in-Send.is refl, told.2)) c.obey-in-Send.ensures.ok

pub returns-in-Tick-clause-ok : goal.returns-in-Tick-clause-ok
returns-in-Tick-clause-ok g c =
    on_ok_weaker c.obey-in-Tick.result (λ told. (told.0, told.1, rw c.in-Tick.is refl, told.2)) c.obey-in-Tick.ensures.ok
