use Rattle.std.proofs.Common.{length, refl}
use Rattle.sr_unrolled_list.proofs.SoundLemmas.{turned, as_many}
use Rattle.sr_unrolled_list.proofs.list.UnrolledList.turn.Goals as goal

pub invariant_of-self : goal.invariant_of-self
invariant_of-self g c =
    let was = c.self.inside in
    let pop = c.in-Some.ensures in
    let put = c.put.ensures in
    let is = c.self.invariant in
    record {
      is = put.is;
      counted = as_many was.pieces.items was.last.items c.pop_front.new.self.items c.put.new.pieces.items c.put.new.last.items c.in-Some.first was.len is.counted (pop.there.0 refl) pop.items put.items;
      few = put.few pop.few;
      first = λ some. turned was.pieces.front (length was.last.items) was.pieces.spare c.pop_front.new.self.front c.pop_front.new.self.spare c.put.new.pieces.front (length c.put.new.last.items) c.put.new.pieces.spare
          is.few pop.some (is.first pop.some) is.is.few pop.front pop.last put.room (put.few pop.few) put.front;
    }
