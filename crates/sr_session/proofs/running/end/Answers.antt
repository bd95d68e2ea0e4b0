use Rattle.std.proofs.Common.{ℕ, List, take, drop, length, sym, ap, subst, inl, inr, arith}
use Rattle.std.proofs.KnownBytes.{Appends-kept}
use Rattle.std.proofs.lemmas.List.{take-append-drop, take_all, length-drop}
use Rattle.std.specs.Io.KnownBytes.{Appends}
use Rattle.sr_session.proofs.running.end.Goals.{then-write_out-len-via-then-write_out-len, then-write_out-len-via-else-write_out-len+then-is_err}
use Rattle.sr_session.proofs.running.end.Goals as goal

pub returns-then-write_out-len-clause-kept : goal.returns-then-write_out-len-clause-kept
returns-then-write_out-len-clause-kept g c number rest =
    let text = c.deref.result.now in
    let n = c.write_out.result in
    let ends = subst (λ (l : List ℕ). g.S.Session.dialogue.Ends (g.S.Session.state c.args.session.now) l) (sym c.deref.ensures.value) c.in_ok-finish.ensures.ok in
    let old = g.W.Write.contents c.args.writer.now in
    elim c.then-write_out-len.branch [
      | then-write_out-len-via-then-write_out-len w ↦ inl (
        take n text,
        drop n text,
        rw w.writer-is c.write_out.ensures.held,
        λ none. absurd (omega (arith, w.if-write_out-len.true, length-drop n text, ap length none, ap length c.deref.ensures.value)),
        subst (λ (l : List ℕ). g.S.Session.dialogue.Ends (g.S.Session.state c.args.session.now) l) (sym (take-append-drop n text)) ends,
      )
      | then-write_out-len-via-else-write_out-len+then-is_err w ↦ inr (
        text,
        rw w.writer-is (Appends-kept _ _ _ text (subst (Appends old _) (take_all n text (omega (arith, w.if-write_out-len.false, ap length c.deref.ensures.value))) c.write_out.ensures.held) w.flush.ensures.bytes),
        λ none. absurd (grind (arith, c.if-is_empty.false, c.is_empty.ensures, ap length none, ap length c.deref.ensures.value)),
        ends,
      )
    ]
