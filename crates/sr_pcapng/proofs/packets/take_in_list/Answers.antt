use Rattle.std.proofs.Common.{Option, subst, inl}
use Rattle.sr_capture.specs.declared.numbers.ByteOrder.{ByteOrder}
use Rattle.sr_pcapng.specs.Blocks.{IsNoBlock}
use Rattle.sr_pcapng.proofs.packets.take_in_list.Goals as goal

pub returns-in-Err-clause-fault : goal.returns-in-Err-clause-fault
returns-in-Err-clause-fault g c =
    inl (subst (λ (o : Option ByteOrder). IsNoBlock o c.in-Err.fault (g.R.Read.remaining c.args.reader.now) (g.R.Read.remaining c.take_block.new.reader))
    c.order_in.ensures c.in-Err.ensures.fault)
