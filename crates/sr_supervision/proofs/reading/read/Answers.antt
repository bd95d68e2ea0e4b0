use Rattle.std.proofs.Common.{◌≡◌, true, false, Ok, Err, refl}
use Rattle.sr_frame.specs.View.{fields_of}
use Rattle.sr_supervision.specs.declared.fault.SupFault.TheVariants.{Truncated}
use Rattle.sr_supervision.proofs.Meaning.{means_once, means_of, says_payload}
use Rattle.sr_supervision.proofs.reading.read.Goals as goal

pub returns-then-not-is_supervision-clause-only : goal.returns-then-not-is_supervision-clause-only
returns-then-not-is_supervision-clause-only c s is =
    let says = says_payload (fields_of c.args.frame.now) s c.args.frame.now.legal is in
    let no : false ≡ true = c.if-not-is_supervision.ensures.1 says.0 in
    absurd cc

pub returns-clause-only : goal.returns-clause-only
returns-clause-only c s is =
    let says = says_payload (fields_of c.args.frame.now) s c.args.frame.now.legal is in
    means_once c.args.frame.now.payload.now c.content.result (Ok s) c.content.ensures says.1

pub returns-clause-truncated : goal.returns-clause-truncated
returns-clause-truncated c = (
  λ e. (c.if-not-is_supervision.ensures.0 refl, means_of c.args.frame.now.payload.now c.content.result (Err Truncated) c.content.ensures e),
  λ w. means_once c.args.frame.now.payload.now c.content.result (Err Truncated) c.content.ensures w.1,
)
