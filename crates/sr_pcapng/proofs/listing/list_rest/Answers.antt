use Rattle.std.proofs.Common.{arith, inl, inr, refl}
use Rattle.sr_pcapng.proofs.Listings.{goes_on, lists, lacks_memory, lists_most, added}
use Rattle.sr_pcapng.proofs.listing.list_rest.Goals as goal

pub returns-in-Ok-None-clause-listed : goal.returns-in-Ok-None-clause-listed
returns-in-Ok-None-clause-listed g c =
    let none = rw c.in-Ok-None.field-0-is at c.in-Ok-None.ensures.taken in
    lists c.args.order c.args.start c.rest.listing c.rest.counter (g.R.Read.remaining c.args.reader.now) (g.R.Read.remaining c.rest.reader) (g.R.Read.remaining c.take_block.new.reader)
    c.rest.invariant (inl none)

pub returns-in-NoMemory-clause-refused : goal.returns-in-NoMemory-clause-refused
returns-in-NoMemory-clause-refused g c = (
  refl,
  lacks_memory c.args.order c.args.start c.rest.listing c.rest.counter (g.R.Read.remaining c.args.reader.now) (g.R.Read.remaining c.rest.reader) (g.R.Read.remaining c.take_block.new.reader)
      c.in-Err.fault c.rest.invariant c.in-Err.ensures.fault c.in-NoMemory.is,
)

pub returns-in_default-clause-listed : goal.returns-in_default-clause-listed
returns-in_default-clause-listed g c =
    lists c.args.order c.args.start c.rest.listing c.rest.counter (g.R.Read.remaining c.args.reader.now) (g.R.Read.remaining c.rest.reader) (g.R.Read.remaining c.take_block.new.reader)
    c.rest.invariant (inr (inl (c.in-Err.fault, c.in-Err.ensures.fault, c.in_default.not-NoMemory)))

pub returns-in-None-clause-listed : goal.returns-in-None-clause-listed
returns-in-None-clause-listed g c =
    let block = rw c.in-Ok-Some.field-0-is at c.in-Ok-Some.ensures.taken in
    let by = added c.kind_of.result c.in-Ok-Some.own c.take_block.new.block.items c.deref.result.now c.deref-in-rest.result.now c.rest.listing c.listed_by.result _
    c.listed_by.ensures c.kind_of.ensures c.deref-in-rest.ensures.value c.deref.ensures.value c.in-None.is in
    lists c.args.order c.args.start c.rest.listing c.rest.counter (g.R.Read.remaining c.args.reader.now) (g.R.Read.remaining c.rest.reader) (g.R.Read.remaining c.take_block.new.reader)
    c.rest.invariant (inr (inr (c.take_block.new.block.items, c.in-Ok-Some.own, block.0, block.1, by)))

pub rest-preserved : goal.rest-preserved
rest-preserved g c =
    let block = rw c.in-Ok-Some.field-0-is at c.in-Ok-Some.ensures.taken in
    let by = added c.kind_of.result c.in-Ok-Some.own c.take_block.new.block.items c.deref.result.now c.deref-in-rest.result.now c.rest.listing c.listed_by.result _
    c.listed_by.ensures c.kind_of.ensures c.deref-in-rest.ensures.value c.deref.ensures.value c.in-Some.is in
    goes_on c.args.order c.in-Ok-Some.own c.args.start c.rest.listing c.in-Some.next c.rest.counter (g.R.Read.remaining c.args.reader.now) (g.R.Read.remaining c.rest.reader) (g.R.Read.remaining c.take_block.new.reader)
    c.take_block.new.block.items c.rest.invariant block.0 block.1 by

pub returns-clause-listed : goal.returns-clause-listed
returns-clause-listed g c =
    lists_most c.args.order c.args.start c.rest.listing c.rest.counter (g.R.Read.remaining c.args.reader.now) (g.R.Read.remaining c.rest.reader)
    c.rest.invariant (omega (arith, c.rest-test.false, c.rest.auto.counter-end))
