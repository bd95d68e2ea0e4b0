use Rattle.std.proofs.Common.{ℕ, List, Option, [], ◌∷◌, ◌++◌}
use Rattle.sr_pcapng.specs.Writing.{half_octets, word_octets, option_of}
use Rattle.sr_pcapng.proofs.Appends.{more, last}
use Rattle.sr_pcapng.proofs.writing.write_described.Goals as goal

pub returns : goal.returns
returns g c =
    let old : Option (List ℕ) = g.W.Write.contents c.args.writer.now in
    let p1 : List ℕ = word_octets 1 in
    let one = c.in_ok-write_word.ensures in
    let p2 : List ℕ = word_octets c.args.size in
    let two = more old (p1) (g.W.Write.contents c.write_word.new.writer) (g.W.Write.contents c.write_word-2.new.writer) p2 one c.in_ok-write_word-2.ensures in
    let p3 : List ℕ = half_octets 1 in
    let three = more old (p1 ++ p2) (g.W.Write.contents c.write_word-2.new.writer) (g.W.Write.contents c.write_half.new.writer) p3 two c.in_ok-write_half.ensures in
    let p4 : List ℕ = half_octets 0 in
    let four = more old (p1 ++ p2 ++ p3) (g.W.Write.contents c.write_half.new.writer) (g.W.Write.contents c.write_half-2.new.writer) p4 three c.in_ok-write_half-2.ensures in
    let p5 : List ℕ = word_octets 0 in
    let five = more old (p1 ++ p2 ++ p3 ++ p4) (g.W.Write.contents c.write_half-2.new.writer) (g.W.Write.contents c.write_word-3.new.writer) p5 four c.in_ok-write_word-3.ensures in
    let p6 : List ℕ = option_of 2 c.args.name.now in
    let six = more old (p1 ++ p2 ++ p3 ++ p4 ++ p5) (g.W.Write.contents c.write_word-3.new.writer) (g.W.Write.contents c.write_option.new.writer) p6 five c.in_ok-write_option.ensures in
    let p7 : List ℕ = option_of 9 (9 ∷ []) in
    let seven = more old (p1 ++ p2 ++ p3 ++ p4 ++ p5 ++ p6) (g.W.Write.contents c.write_option.new.writer) (g.W.Write.contents c.write_option-2.new.writer) p7 six c.in_ok-write_option-2.ensures in
    let p8 : List ℕ = word_octets 0 in
    let eight = more old (p1 ++ p2 ++ p3 ++ p4 ++ p5 ++ p6 ++ p7) (g.W.Write.contents c.write_option-2.new.writer) (g.W.Write.contents c.write_word-4.new.writer) p8 seven c.in_ok-write_word-4.ensures in
    let p9 : List ℕ = word_octets c.args.size in
    last old (p1 ++ p2 ++ p3 ++ p4 ++ p5 ++ p6 ++ p7 ++ p8) (g.W.Write.contents c.write_word-4.new.writer) (g.W.Write.contents c.write_word-5.new.writer) p9 c.write_word-5.result eight c.write_word-5.ensures
