use Rattle.std.proofs.Common.{rules, ◌≡◌, slice_index}
use Rattle.sr_words.proofs.Ascii.{ascii_comment}
use Rattle.sr_words.proofs.words.is_comment.Goals as goal

pub returns-then-line-eq35 : goal.returns-then-line-eq35
returns-then-line-eq35 c =
    let first : slice_index c.args.line.now 0 ≡ 35 = search rules in
    ascii_comment c.args.line.now c.is_ascii.result first c.is_ascii.ensures.cases
