use Rattle.std.proofs.Common.{inl, inr, refl}
use Rattle.sr_pcapng.proofs.block.take_front.Goals as goal

pub returns-in-Err-front_of-clause-fault : goal.returns-in-Err-front_of-clause-fault
returns-in-Err-front_of-clause-fault g c =
    let front = rw c.in-Ok-true.field-0-test at c.in-Ok-true.ensures.taken in
    let refused = rw c.deref.ensures.value at c.in-Err-front_of.ensures.refused in
    inr (refl, inr (c.keep.new.kept.items, front.0, inl refused))
