use Rattle.std.proofs.Common.{inl, inr, arith, ap, Err}
use Rattle.hex.proofs.HexLemmas.{decode_of-ok}
use Rattle.sr_words.proofs.Digits.{pairs_spell}
use Rattle.sr_words.proofs.hexadecimal.read_hex.Goals as goal

pub returns-then-digits-ne0-clause-only : goal.returns-then-digits-ne0-clause-only
returns-then-digits-ne0-clause-only c os h =
    let all = decode_of-ok c.args.digits.now os h.0 in
    elim c.then-digits-ne0.either [ inl odd ↦ absurd (odd all.0) | inr none ↦ absurd (omega (arith, all.2, h.1, none)) ]

pub returns-in-Err-clause-only : goal.returns-in-Err-clause-only
returns-in-Err-clause-only c os h =
    let all = decode_of-ok c.args.digits.now os h.0 in
    elim c.in-Err.ensures.fault [ inl line ↦ absurd (c.in-Err.ensures.bad (ap Err line) all.1) | inr (inl memory) ↦ memory | inr (inr none) ↦ absurd none ]

pub returns-in-Err-clause-memory : goal.returns-in-Err-clause-memory
returns-in-Err-clause-memory c h = pairs_spell c.args.digits.now (omega arith) (λ z. absurd (c.if-count-eq0.false z)) (c.in-Err.ensures.memory h)
