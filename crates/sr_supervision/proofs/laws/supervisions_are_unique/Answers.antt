use Rattle.std.proofs.Common.{List, ℕ, subst}
use Rattle.sr_supervision.specs.Supervised.{IsSupervision}
use Rattle.sr_supervision.proofs.Meaning.{says_payload, says_once}
use Rattle.sr_supervision.proofs.laws.supervisions_are_unique.Goals as goal

pub returns : goal.returns
returns c octets s t a b =
    let P : List ℕ → Type 0 = λ o. IsSupervision o t in
    says_once a.fields.payload s t a.content (says_payload a.fields t a.legal (subst P a.spelled b)).1
