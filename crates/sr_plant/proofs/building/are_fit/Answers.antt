use Rattle.std.proofs.Common.{◌≡◌, ◌+◌, ◌∙◌, sym, true, false, arith, rules}
use Rattle.sr_node.specs.States.{state_of}
use Rattle.sr_plant.specs.Building.{is_fit}
use Rattle.sr_plant.proofs.BuildingLemmas.{unfit_here, fit_further}
use Rattle.sr_plant.proofs.building.are_fit.Goals as goal

pub loop-place-preserved : goal.loop-place-preserved
loop-place-preserved g c =
    let fit : is_fit c.args.topology (c.args.first + c.loop-place.place) (state_of g.R.Role.meaning c.index-nodes-place.result) ≡ true = search rules in
    c.loop-place.invariant
    ∙ fit_further (state_of g.R.Role.meaning) c.args.nodes.now (c.args.first + c.loop-place.place) (c.args.first + (c.loop-place.place + 1)) c.loop-place.place _ c.index-nodes-place.result c.args.topology (omega arith) (omega arith) (omega arith) (sym c.index-nodes-place.is) fit

pub returns-then-not-is_fit : goal.returns-then-not-is_fit
returns-then-not-is_fit g c =
    let unfit : is_fit c.args.topology (c.args.first + c.loop-place.place) (state_of g.R.Role.meaning c.index-nodes-place.result) ≡ false = search rules in
    sym (c.loop-place.invariant
    ∙ unfit_here (state_of g.R.Role.meaning) c.args.nodes.now (c.args.first + c.loop-place.place) c.loop-place.place c.index-nodes-place.result c.args.topology (omega arith) (sym c.index-nodes-place.is) unfit)
