use Rattle.std.proofs.Common.{◌<◌, length, ap, rules, arith}
use Rattle.std.proofs.lemmas.Option.{IfSome_then}
use Rattle.sr_unrolled_list.proofs.SoundLemmas.{front_few, front_some}
use Rattle.sr_unrolled_list.proofs.pieces.Pieces.pop_front.Goals as goal

pub returns-then-len-eq1-clause-front : goal.returns-then-len-eq1-clause-front
returns-then-len-eq1-clause-front g c =
    let take = c.take_piece in
    let few = front_few take.new.used.items take.ensures.sound.filled in
    let some : 0 < length c.self.inside.used.items = search (rules, arith) in
    let before = front_some c.self.inside.used.items c.self.invariant.filled some in
    let front = ap (λ v. v.front) c.self.view_is in
    let spare = ap (λ v. v.spare) c.self.view_is in
    IfSome_then take.result take.ensures.item (λ x p. omega (arith, few, before, front, spare, take.ensures.spare))
