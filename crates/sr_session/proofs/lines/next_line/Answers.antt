use Rattle.std.proofs.Common.{arith, ap, not, eqb, ◌∙◌, rules}
use Rattle.sr_session.proofs.Pieces.{goes_on, ends_at_feed, ends_at_end, BeginsLong-taken}
use Rattle.sr_session.proofs.lines.next_line.Goals as goal

pub loop-reader-preserved : goal.loop-reader-preserved
loop-reader-preserved g c =
    let more = goes_on _ _ _ _ _ c.loop-reader.invariant.unbroken c.loop-reader.invariant.took (rw c.in-Part.is at c.in_ok-take_piece.ensures.taken) in
    record {
      short = more.0;
      unbroken = more.1;
      room = omega (arith, c.in_ok-take_piece.ensures.room, c.loop-reader.invariant.room);
      no_less = omega (arith, c.in_ok-take_piece.ensures.room, c.loop-reader.invariant.no_less);
      took = more.2;
    }

pub returns-in-Last-clause-taken : goal.returns-in-Last-clause-taken
returns-in-Last-clause-taken g c =
    ends_at_feed _ _ _ _ _ c.loop-reader.invariant.unbroken c.loop-reader.invariant.took (rw c.in-Last.is at c.in_ok-take_piece.ensures.taken)

pub returns-in-End-clause-taken : goal.returns-in-End-clause-taken
returns-in-End-clause-taken g c =
    ends_at_end _ _ _ _ _ _ c.loop-reader.invariant.unbroken c.loop-reader.invariant.took (rw c.in-End.is at c.in_ok-take_piece.ensures.taken) (ap not (c.is_empty.ensures ∙ ap (λ n. eqb n 0) c.take_piece.new.line.ok.0))

pub returns-clause-long : goal.returns-clause-long
returns-clause-long g c _ =
    BeginsLong-taken c.loop-reader.line.items _ _ c.loop-reader.invariant.unbroken (omega (arith, c.loop-reader.invariant.short)) c.loop-reader.invariant.took

pub returns-clause-read : goal.returns-clause-read
returns-clause-read g c = search rules

pub take_piece-requires-clause-short : goal.take_piece-requires-clause-short
take_piece-requires-clause-short g c = search rules

pub returns-in_err-take_piece-clause-read : goal.returns-in_err-take_piece-clause-read
returns-in_err-take_piece-clause-read g c = search rules

pub returns-in-End-clause-short : goal.returns-in-End-clause-short
returns-in-End-clause-short g c = search rules
