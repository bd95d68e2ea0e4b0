use Rattle.std.proofs.Common.{◌≡◌, ◌∙◌, ◌&&◌, nat_le, sym, true, false, arith, rules}
use Rattle.sr_node.specs.States.{state_of}
use Rattle.sr_plant.specs.Coupled.{is_sought}
use Rattle.sr_plant.proofs.CoupledLemmas.{found_here, found_further}
use Rattle.sr_plant.proofs.coupled.box_place.Goals as goal

pub loop-place-preserved : goal.loop-place-preserved
loop-place-preserved g c =
    let other : (nat_le c.args.from c.loop-place.place && is_sought c.args.sought (g.R.Role.meaning c.index-nodes-place.result.role).kind) ≡ false = search rules in
    c.loop-place.invariant
    ∙ found_further (state_of g.R.Role.meaning) c.args.nodes.now c.loop-place.place _ c.index-nodes-place.result c.args.sought c.args.from (omega arith) (omega arith) (sym c.index-nodes-place.is) other

pub returns-then-is_found-clause-place : goal.returns-then-is_found-clause-place
returns-then-is_found-clause-place g c =
    let found : (nat_le c.args.from c.loop-place.place && is_sought c.args.sought (g.R.Role.meaning c.index-nodes-place.result.role).kind) ≡ true = search rules in
    sym (c.loop-place.invariant
    ∙ found_here (state_of g.R.Role.meaning) c.args.nodes.now c.loop-place.place c.index-nodes-place.result c.args.sought c.args.from (omega arith) (sym c.index-nodes-place.is) found)
