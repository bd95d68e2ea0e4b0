use Rattle.std.proofs.Common.{[], refl, sym, subst}
use Rattle.std.proofs.lemmas.Result.{on_ok_weaker}
use Rattle.sr_supervision.specs.Supervised.{IsSupervision}
use Rattle.sr_capture_sources.specs.Sighting.{noted_sign, sign, no_sign}
use Rattle.sr_capture_sources.proofs.sighting.note_said.Goals as goal

pub returns-in-Ok-clause-taken : goal.returns-in-Ok-clause-taken
returns-in-Ok-clause-taken c =
    on_ok_weaker c.note_sign.result (λ took.
    (noted_sign c.in-Ok.said, sign c.in-Ok.said (subst (λ l. IsSupervision l c.in-Ok.said) c.plain.ensures c.in-Ok.ensures.found) refl, took))
    c.note_sign.ensures.taken

pub returns-in-Err-clause-taken : goal.returns-in-Err-clause-taken
returns-in-Err-clause-taken c = (
  [],
  no_sign (λ s h.
      let no = c.in-Err.ensures.only s (subst (λ l. IsSupervision l s) (sym c.plain.ensures) h) in
      cc no) refl,
  λ told keeps. keeps,
)
