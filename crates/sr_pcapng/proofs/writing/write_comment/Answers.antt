use Rattle.std.proofs.Common.{◌≡◌, ℕ, List, [], ◌∷◌, Option, ◌++◌, length, OnOk, Bool, false, refl, sym, subst}
use Rattle.std.specs.Prelude.{◌==◌}
use Rattle.std.specs.Io.KnownBytes.{Appends}
use Rattle.sr_pcapng.specs.Writing.{option_of, word_octets, comment_part}
use Rattle.sr_pcapng.proofs.Appends.{last}
use Rattle.sr_pcapng.proofs.writing.write_comment.Goals as goal

-- a comment that has octets is an option, and the end of options
comment_is : (comment : List ℕ) (empty : Bool) → empty ≡ (length comment == 0) → empty ≡ false → comment_part comment ≡ option_of 1 comment ++ word_octets 0
comment_is [] empty e f = absurd cc
comment_is (c ∷ cs) empty e f = refl

pub returns : goal.returns
returns g c =
    let old : Option (List ℕ) = g.W.Write.contents c.args.writer.now in
    let new : Option (List ℕ) = g.W.Write.contents c.write_word.new.writer in
    let comment = c.args.comment.now in
    subst (λ l. OnOk c.write_word.result (Appends old new l)) (sym (comment_is comment c.is_empty.result c.is_empty.ensures c.if-is_empty.false))
    (last old (option_of 1 comment) (g.W.Write.contents c.write_option.new.writer) new (word_octets 0) c.write_word.result c.in_ok-write_option.ensures
    c.write_word.ensures)
