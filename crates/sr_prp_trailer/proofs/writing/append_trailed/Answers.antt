use Rattle.std.proofs.Common.{ℕ, ◌+◌, List, ◌++◌, ap, refl, ◌∙◌, arith, rules}
use Rattle.std.proofs.lemmas.List.{append_assoc}
use Rattle.sr_frame.specs.Frame.{spelling, padded}
use Rattle.sr_frame.specs.View.{fields_of}
use Rattle.sr_prp_trailer.specs.Trailed.{trailer_octets}
use Rattle.sr_frame.specs.LengthLemmas.{length-padded}
use Rattle.sr_prp_trailer.proofs.Whole.{appended_is}
use Rattle.sr_prp_trailer.proofs.writing.append_trailed.Goals as goal

pub returns-clause-ok : goal.returns-clause-ok
returns-clause-ok c =
    let f = fields_of c.args.frame.now in
    let trailer = trailer_octets (record { seq = c.args.seq; lan = c.args.lan; size = c.max-payload_len.result + 6 }) in
    let own = padded (spelling f) ++ trailer in (
      own,
      c.put_trailer.ensures.items ∙ ap (λ (l : List ℕ). l ++ trailer) (c.put_padded.ensures.items ∙ ap (λ (l : List ℕ). l ++ padded (spelling f)) c.in_ok-reserve.ensures.items) ∙ append_assoc c.args.out.now.items (padded (spelling f)) trailer,
      appended_is f own c.args.seq c.args.lan c.max-payload_len.result c.args.frame.now.legal c.max-payload_len.ensures (omega (arith, c.header_len.ensures, c.if-len-gt-MAX_FRAME_LEN.false)) (omega arith) refl,
    )

pub returns-clause-long : goal.returns-clause-long
returns-clause-long c =
    let len = length-padded (fields_of c.args.frame.now) c.max-payload_len.result c.args.frame.now.legal c.max-payload_len.ensures in (
      λ e. absurd cc,
      λ lt. absurd (omega (arith, len, lt, c.header_len.ensures, c.if-len-gt-MAX_FRAME_LEN.false)),
    )

pub put_padded-requires-clause-len : goal.put_padded-requires-clause-len
put_padded-requires-clause-len c =
    let len = length-padded (fields_of c.args.frame.now) c.max-payload_len.result c.args.frame.now.legal c.max-payload_len.ensures in
    omega (arith, len, c.header_len.ensures)

pub returns-then-len-gt-MAX_FRAME_LEN-clause-long : goal.returns-then-len-gt-MAX_FRAME_LEN-clause-long
returns-then-len-gt-MAX_FRAME_LEN-clause-long c =
    let len = length-padded (fields_of c.args.frame.now) c.max-payload_len.result c.args.frame.now.legal c.max-payload_len.ensures in (
      λ _. omega (arith, len, c.header_len.ensures, c.if-len-gt-MAX_FRAME_LEN.true),
      λ _. refl,
    )

pub returns-in_err-reserve-clause-long : goal.returns-in_err-reserve-clause-long
returns-in_err-reserve-clause-long c =
    let len = length-padded (fields_of c.args.frame.now) c.max-payload_len.result c.args.frame.now.legal c.max-payload_len.ensures in (
      λ e. search rules,
      λ lt. absurd (omega (arith, len, lt, c.header_len.ensures, c.if-len-gt-MAX_FRAME_LEN.false)),
    )
