use Rattle.std.proofs.Common.{ℕ, OnOk, subst}
use Rattle.std.specs.Io.KnownBytes.{Appends}
use Rattle.sr_pcapng.specs.Writing.{written_of, packet_size, block_of}
use Rattle.sr_pcapng.proofs.writing.write_packet.Goals as goal

pub returns : goal.returns
returns g c =
    let p = written_of c.args.packet.now in
    let old = g.W.Write.contents c.args.writer.now in
    let new = (g.W.Write.contents c.write_block.new.writer) in
    let r = c.write_block.result in
    let one = subst (λ (n : ℕ). OnOk r (Appends old new (block_of n c.lane_number.result p))) c.packet_size.ensures c.write_block.ensures in
    subst (λ (n : ℕ). OnOk r (Appends old new (block_of (packet_size p) n p))) c.lane_number.ensures one
