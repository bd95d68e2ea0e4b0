use Rattle.std.proofs.Common.{◌≡◌, List, [], ap, sym, refl, ◌∙◌}
use Rattle.std.proofs.lemmas.Result.{IfOk-at_ok}
use Rattle.sr_node.specs.NodeImages.{image_state}
use Rattle.sr_node.specs.States.{state_of}
use Rattle.sr_ports.proofs.HistoryLemmas.{begins}
use Rattle.sr_ports.proofs.kept.Kept.new.Goals as goal

pub invariant_of-kept-clause-legal : goal.invariant_of-kept-clause-legal
invariant_of-kept-clause-legal g c =
    let meaning = g.R.Role.meaning in
    begins (image_state c.in_ok-opening.opening) (state_of meaning c.in_ok-opening.node) c.new.result.items
    (IfOk-at_ok (λ i. image_state i ≡ state_of meaning c.args.node) c.in_ok-opening.ensures.own c.image.ensures
    ∙ ap (state_of meaning) (sym c.in_ok-opening.ensures.value)) c.new.ensures.items
