use Rattle.std.proofs.Common.{[], inl, inr, refl, sym}
use Rattle.std.proofs.lemmas.List.{append-nil}
use Rattle.std.proofs.lemmas.Result.{on_ok_weaker}
use Rattle.sr_script.specs.Texts.{refusal_line}
use Rattle.sr_script.proofs.answering.obey_sending.Goals.{in-Ok, in-Err}
use Rattle.sr_script.proofs.answering.obey_sending.Goals as goal

pub returns-clause-ok : goal.returns-clause-ok
returns-clause-ok g c = elim c.match-send.branch [
  | in-Ok w ↦
      rw (w.result-is, w.text-is) ([], inl (w.in-Ok.field-0, (w.in-Ok.ensures.ok, w.in-Ok.ensures.step), refl), sym (append-nil c.args.text.now))
  | in-Err w ↦
      rw (w.result-is, w.text-is) (on_ok_weaker w.tell_refusal.result
      (λ told. (
        refusal_line c.args.number told.0,
        inr (w.in-Err.fault, told.0, w.in-Err.ensures.err, told.1, refl, w.in-Err.ensures.same),
        told.2,
      ))
      w.tell_refusal.ensures.ok)
]
