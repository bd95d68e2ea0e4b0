use Rattle.std.proofs.Common.{rules, ◌≡◌, ap, ◌∙◌, subst}
use Rattle.sr_node.specs.NodeImages.{image_state}
use Rattle.sr_threaded.specs.Losses.{lost_from}
use Rattle.sr_threaded.specs.Ran.{IsSettlementFrom}
use Rattle.sr_threaded.proofs.node.end_of.Goals as goal

pub invariant_of-result : goal.invariant_of-result
invariant_of-result g c =
    let ends : c.as_slice-2.result.now ≡ c.args.ends.items = search rules in
    record { counts = c.lost_in_all-lost.ensures ∙ ap (λ l. lost_from 0 l) ends }

pub returns-clause-settles : goal.returns-clause-settles
returns-clause-settles g c =
    let logs : c.as_slice.result.now ≡ c.args.logs.items = search rules in
    subst (λ l. IsSettlementFrom (image_state c.args.given.now) c.args.segment l c.settlement_from-settlement.result) logs c.settlement_from-settlement.ensures
