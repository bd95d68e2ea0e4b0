use Rattle.std.proofs.Common.{sym, subst}
use Rattle.sr_supervision.specs.Supervised.{IsSupervision}
use Rattle.sr_capture_audit.proofs.kind.sign_of.Goals as goal

pub returns-in-Err : goal.returns-in-Err
returns-in-Err c s h =
    let no = c.in-Err.ensures.only s (subst (λ l. IsSupervision l s) (sym c.plain.ensures) h) in
    cc no
