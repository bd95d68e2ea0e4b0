use Rattle.std.proofs.Common.{subst, ap}
use Rattle.std.specs.Io.KnownBytes.{Appends}
use Rattle.sr_pcapng.specs.Writing.{packet_block}
use Rattle.sr_capture_merge.specs.Entries.{entry_block}
use Rattle.sr_capture_merge.proofs.output.write_entry.Goals as goal

pub returns-clause-ok : goal.returns-clause-ok
unfolding entry_block
returns-clause-ok g c = subst (Appends (g.W.Write.contents c.args.writer.now) _) (ap packet_block c.entry_of-entry.ensures) c.in_ok-write_packet.ensures
