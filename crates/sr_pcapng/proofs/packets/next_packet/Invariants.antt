use Rattle.sr_pcapng.proofs.Steps.{Passes}
use Rattle.sr_pcapng.proofs.packets.next_packet.Given as goal

abbrev pub invariant-steps : goal.invariant-steps
invariant-steps g l = Passes l.fn.track (g.R.Read.remaining l.fn.reader) (g.R.Read.remaining l.reader) l.size l.counter l.track
