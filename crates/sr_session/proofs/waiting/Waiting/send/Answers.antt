use Rattle.std.proofs.Common.{◌≡◌, ℕ, List, take, length, ap, refl, subst, arith}
use Rattle.std.specs.Io.KnownBytes.{Appends}
use Rattle.std.proofs.KnownBytes.{Appends-kept}
use Rattle.std.proofs.lemmas.Grind.{common_steps}
use Rattle.sr_session.specs.declared.waiting.Mark.{Mark}
use Rattle.sr_session.specs.Turns.{line_of}
use Rattle.sr_session.proofs.waiting.Waiting.send.Goals.{then-taken-len-via-then-taken-len, then-taken-len-via-else-taken-len+then-is_err}
use Rattle.sr_session.proofs.waiting.Waiting.send.Goals as goal

pub returns-then-taken-len-clause-cut : goal.returns-then-taken-len-clause-cut
returns-then-taken-len-clause-cut g c =
    let text = c.args.self.now.text in
    let taken = c.write_out-taken.result in
    let place = c.min-place.result in
    let old = g.W.Write.contents c.args.writer.now in
    let mid = g.W.Write.contents c.write_out-taken.new.writer in
    let bound = c.write_out-taken.ensures.bound in
    let long = ap length c.as_slice.ensures in
    let no = c.if-is_empty.false in
    let some : length text ≡ 0 → ⊥ = λ e. let yes = c.is_empty.ensures.none.1 e in absurd cc in
    let held = subst (λ (l : List ℕ). Appends old mid (take taken l)) c.as_slice.ensures c.write_out-taken.ensures.held in
    let named = subst (λ (l : List Mark). c.line_of.result ≡ line_of l place) c.deref.ensures.value c.line_of.ensures in
    elim c.then-taken-len.branch [
      | then-taken-len-via-then-taken-len w ↦ (
        taken,
        place,
        rw w.writer-is held,
        omega (arith, long, bound, c.min-place.ensures, w.if-taken-len.true),
        omega (arith, long, bound, c.min-place.ensures, w.if-taken-len.true),
        omega (arith, long, some, bound, c.min-place.ensures, w.if-taken-len.true),
        named,
        refl,
        λ less. omega (arith, less, long, bound, c.min-place.ensures),
      )
      | then-taken-len-via-else-taken-len+then-is_err w ↦ (
        taken,
        place,
        rw w.writer-is (Appends-kept old mid _ (take taken text) held w.flush.ensures.bytes),
        omega (arith, long, bound, c.min-place.ensures, w.if-taken-len.false),
        omega (arith, long, bound, c.min-place.ensures, w.if-taken-len.false),
        omega (arith, long, some, bound, c.min-place.ensures, w.if-taken-len.false),
        named,
        refl,
        λ less. omega (arith, less, long, bound, c.min-place.ensures),
      )
    ]

pub returns-clause-sent : goal.returns-clause-sent
returns-clause-sent g c = grind (arith, common_steps)
