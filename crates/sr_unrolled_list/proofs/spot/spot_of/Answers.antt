use Rattle.std.proofs.Common.{◌+◌, List, length, subst}
use Rattle.std.specs.declared.collections.VecDeque.{VecDeque}
use Rattle.std.specs.declared.alloc.Global.{Global}
use Rattle.sr_unrolled_list.specs.Lists.{IsAt}
use Rattle.sr_unrolled_list.proofs.PieceLemmas.{spot_here, spot_behind}
use Rattle.sr_unrolled_list.proofs.spot.spot_of.Goals as goal

pub returns-then-spot-front : goal.returns-then-spot-front
returns-then-spot-front g c =
    let two = c.as_slices.result in
    subst (λ (ps : List (VecDeque g.row.T.Denot Global)). IsAt ps c.args.place c.walk-spot.result.piece c.walk-spot.result.place) c.as_slices.ensures.items
    (spot_here two.0.now two.1.now c.args.place _ _ c.walk-spot.ensures c.if-spot-front.true)

pub returns : goal.returns
returns g c =
    let two = c.as_slices.result in
    subst (λ (ps : List (VecDeque g.row.T.Denot Global)). IsAt ps c.args.place (length two.0.now + c.walk-behind.result.piece) c.walk-behind.result.place) c.as_slices.ensures.items
    (spot_behind two.0.now two.1.now c.args.place _ _ _ _ c.walk-spot.ensures c.if-spot-front.false c.walk-behind.ensures)
