use Rattle.std.proofs.Common.{◌≤◌, sym, subst, ap, List, length, arith}
use Rattle.std.specs.declared.collections.VecDeque.{VecDeque}
use Rattle.std.specs.declared.alloc.Global.{Global}
use Rattle.sr_unrolled_list.specs.declared.TheConstants.{PIECE}
use Rattle.sr_unrolled_list.specs.Lists.{front_of}
use Rattle.sr_unrolled_list.proofs.SoundLemmas.{front_few, front_push}
use Rattle.sr_unrolled_list.proofs.pieces.Pieces.put_last.Goals as goal

pub returns-in-Some-clause-few : goal.returns-in-Some-clause-few
returns-in-Some-clause-few g c =
    let full = c.replace-full.result in
    let long = ap (λ (p : VecDeque g.row.T.Denot Global). length p.items) c.replace-full.ensures.value in
    subst (λ (ps : List (VecDeque g.row.T.Denot Global)). front_of ps ≤ PIECE) (sym c.push_back_reserved.ensures.items)
    (front_push c.self.inside.used.items full (front_few c.self.inside.used.items c.self.invariant.filled) (omega (arith, long, c.requires.is.few)))
