use Rattle.std.proofs.Common.{[], inl, inr, refl, sym}
use Rattle.std.proofs.lemmas.List.{append-nil}
use Rattle.std.proofs.lemmas.Result.{on_ok_weaker}
use Rattle.sr_node.specs.Arriving.{arrival_answer}
use Rattle.sr_script.specs.Texts.{refusal_line}
use Rattle.sr_script.proofs.tallying.count_arrival.Goals as goal

pub returns-in-Ok-clause-ok : goal.returns-in-Ok-clause-ok
returns-in-Ok-clause-ok g c = (
  [],
  inl (arrival_answer c.in-Ok.field-0, c.in-Ok.ensures, refl),
  inl (refl, c.count_taken.ensures),
  sym (append-nil c.args.text.now),
)

pub returns-in-Err-clause-ok : goal.returns-in-Err-clause-ok
returns-in-Err-clause-ok g c =
    on_ok_weaker c.tell_refusal.result
    (λ told. (
      refusal_line c.args.number told.0,
      inr (c.in-Err.fault, told.0, c.in-Err.ensures.err, told.1, refl, c.in-Err.ensures.same),
      inr (c.in-Err.fault, told.0, told.1, refl, c.count_refused.ensures),
      told.2,
    ))
    c.tell_refusal.ensures.ok
