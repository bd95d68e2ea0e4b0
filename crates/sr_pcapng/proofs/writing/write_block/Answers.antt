use Rattle.std.proofs.Common.{ℕ, List, Option, ◌++◌, length}
use Rattle.sr_pcapng.specs.Writing.{written_of, word_octets, front_of, filling, comment_part}
use Rattle.sr_pcapng.proofs.Appends.{more, last}
use Rattle.sr_pcapng.proofs.writing.write_block.Goals as goal

pub returns : goal.returns
returns g c =
    let old : Option (List ℕ) = g.W.Write.contents c.args.writer.now in
    let p = written_of c.args.packet.now in
    let p1 : List ℕ = front_of c.args.size c.args.number p.time (length p.octets) p.len in
    let one = c.in_ok-write_front.ensures in
    let p2 : List ℕ = p.octets in
    let two = more old (p1) (g.W.Write.contents c.write_front.new.writer) (g.W.Write.contents c.write_all.new.self) p2 one c.in_ok-write_all.ensures.bytes in
    let p3 : List ℕ = filling (length p.octets) in
    let three = more old (p1 ++ p2) (g.W.Write.contents c.write_all.new.self) (g.W.Write.contents c.write_filling.new.writer) p3 two c.in_ok-write_filling.ensures in
    let p4 : List ℕ = comment_part p.comment in
    let four = more old (p1 ++ p2 ++ p3) (g.W.Write.contents c.write_filling.new.writer) (g.W.Write.contents c.write_comment.new.writer) p4 three c.in_ok-write_comment.ensures in
    let p5 : List ℕ = word_octets c.args.size in
    last old (p1 ++ p2 ++ p3 ++ p4) (g.W.Write.contents c.write_comment.new.writer) (g.W.Write.contents c.write_word.new.writer) p5 c.write_word.result four c.write_word.ensures
