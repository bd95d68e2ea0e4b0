use Rattle.std.proofs.Common.{rules, ap, ◌∙◌, refl, [], ◌∷◌}
use Rattle.sr_agreement.specs.Agreement.{arrivals_in}
use Rattle.sr_agreement.specs.Progress.{silent}
use Rattle.sr_agreement.proofs.Pending.{none_head, some_head, advance_none, advance_same, advance_other, match_true, match_false}
use Rattle.sr_agreement.proofs.agreeing.after.Goals as goal

pub returns-in-None-clause-after : goal.returns-in-None-clause-after
returns-in-None-clause-after g c =
    let enc = match_true _ _ c.encoding.result (search rules) c.encoding.ensures.encoding in
    λ xs p. ([], refl, advance_none _ _ _ xs enc (none_head (λ o. o.now) _ xs c.args.first c.in-None.is p))

pub returns-then-eq-clause-after : goal.returns-then-eq-clause-after
returns-then-eq-clause-after g c =
    let enc = match_true _ _ c.encoding.result (search rules) c.encoding.ensures.encoding in
    λ xs p. (arrivals_in c.args.source c.args.left.now, c.next_arrival.ensures, advance_same _ _ _ c.in-Some.octets.now xs _ enc (search rules) (some_head (λ o. o.now) _ xs c.args.first c.in-Some.octets c.in-Some.is p))

pub returns-else-eq-clause-after : goal.returns-else-eq-clause-after
returns-else-eq-clause-after g c =
    let enc = match_true _ _ c.encoding.result (search rules) c.encoding.ensures.encoding in
    λ xs p. (xs, p, advance_other _ _ _ c.in-Some.octets.now xs (arrivals_in c.args.source c.args.left.now) enc (search rules) (some_head (λ o. o.now) _ xs c.args.first c.in-Some.octets c.in-Some.is p))

pub returns-then-not-encoding-clause-after : goal.returns-then-not-encoding-clause-after
returns-then-not-encoding-clause-after g c =
    let none = match_false _ _ c.encoding.result (search rules) c.encoding.ensures.encoding in λ xs p. (xs, p, silent none refl)
