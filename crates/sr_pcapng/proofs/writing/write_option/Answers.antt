use Rattle.std.proofs.Common.{ℕ, List, Option, ◌++◌, length}
use Rattle.sr_pcapng.specs.Writing.{half_octets, filling}
use Rattle.sr_pcapng.proofs.Appends.{more, last}
use Rattle.sr_pcapng.proofs.writing.write_option.Goals as goal

pub returns : goal.returns
returns g c =
    let old : Option (List ℕ) = g.W.Write.contents c.args.writer.now in
    let p1 : List ℕ = half_octets c.args.code in
    let one = c.in_ok-write_half.ensures in
    let p2 : List ℕ = half_octets (length c.args.value.now) in
    let two = more old (p1) (g.W.Write.contents c.write_half.new.writer) (g.W.Write.contents c.write_half-2.new.writer) p2 one c.in_ok-write_half-2.ensures in
    let p3 : List ℕ = c.args.value.now in
    let three = more old (p1 ++ p2) (g.W.Write.contents c.write_half-2.new.writer) (g.W.Write.contents c.write_all.new.self) p3 two c.in_ok-write_all.ensures.bytes in
    let p4 : List ℕ = filling (length c.args.value.now) in
    last old (p1 ++ p2 ++ p3) (g.W.Write.contents c.write_all.new.self) (g.W.Write.contents c.write_filling.new.writer) p4 c.write_filling.result three c.write_filling.ensures
