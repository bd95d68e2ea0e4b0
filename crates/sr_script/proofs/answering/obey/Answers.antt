use Rattle.std.proofs.Common.{[], inl, inr, refl, sym}
use Rattle.std.proofs.lemmas.List.{append-nil}
use Rattle.std.proofs.lemmas.Result.{on_ok_weaker}
use Rattle.sr_script.specs.Texts.{refusal_line}
use Rattle.sr_script.proofs.answering.obey.Goals.{in-Ok, in-Err}
use Rattle.sr_script.proofs.answering.obey.Goals as goal

pub returns-in-Arrive-clause-ok : goal.returns-in-Arrive-clause-ok
returns-in-Arrive-clause-ok g c = rw (c.in-Arrive.is, sym c.deref.ensures.value) c.obey_arrival.ensures.ok

pub returns-in-Send-clause-ok : goal.returns-in-Send-clause-ok
returns-in-Send-clause-ok g c = rw c.in-Send.is c.obey_sending.ensures.ok

pub returns-after-tick-clause-ok : goal.returns-after-tick-clause-ok
returns-after-tick-clause-ok g c = elim c.match-tick.branch [
  | in-Ok w ↦
      rw (w.result-is, w.text-is) (
        [],
        rw c.in-Tick.is (inl (w.in-Ok.field-0, (w.in-Ok.ensures.ok, w.in-Ok.ensures.step), refl)),
        sym (append-nil c.args.text.now),
      )
  | in-Err w ↦
      rw (w.result-is, w.text-is) (on_ok_weaker w.tell_refusal.result
      (λ told. (
        refusal_line c.args.number told.0,
        rw c.in-Tick.is (inr (w.in-Err.fault, told.0, w.in-Err.ensures.err, told.1, refl, w.in-Err.ensures.same)),
        told.2,
      ))
      w.tell_refusal.ensures.ok)
]
