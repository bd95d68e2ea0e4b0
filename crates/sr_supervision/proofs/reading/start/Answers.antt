use Rattle.std.proofs.Common.{arith}
use Rattle.sr_supervision.proofs.Meaning.{starts_from}
use Rattle.sr_supervision.proofs.reading.start.Goals as goal

pub returns-clause-found : goal.returns-clause-found
returns-clause-found c =
    let w = c.in_ok-front.ensures.cases in
    starts_from c.args.payload.now c.in_ok-front.front.now c.in_ok-front.behind.now c.word_and_seq-word.result.0 c.word_and_seq-word.result.1.0 w.0 w.1 c.word_and_seq-word.ensures (omega arith) (omega arith)
