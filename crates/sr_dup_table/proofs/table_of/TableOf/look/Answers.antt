use Rattle.std.proofs.Common.{◌*◌, ◌≡◌, ◌∙◌, sym, refl, Some, None, nat_lt, length}
use Rattle.sr_dup_table.specs.Sources.{with_room}
use Rattle.sr_dup_table.proofs.SourceLemmas.{full_where, known_answers, unknown_answers, answer_full, answer_room}
use Rattle.sr_dup_table.proofs.table_of.TableOf.look.Goals as goal

pub returns-in-Some-clause-full : goal.returns-in-Some-clause-full
returns-in-Some-clause-full g c =
    let exactly = full_where (64 * g.row.N) c.args.self.now.sources c.args.src c.args.seq.0 c.args.lanes c.args.now c.in-Some.ensures.few in
    let answer = known_answers (64 * g.row.N) c.args.self.now.sources c.args.src c.args.seq.0 c.args.lanes c.in-Some.look.fresh c.args.now c.in-Some.ensures.answer in
    (λ e. cc, λ e. let bad : Some c.in-Some.look.fresh ≡ None = sym answer ∙ exactly.1 e in cc)

pub returns-then-is_full_now-clause-full : goal.returns-then-is_full_now-clause-full
returns-then-is_full_now-clause-full g c =
    let exactly = full_where (64 * g.row.N) c.args.self.now.sources c.args.src c.args.seq.0 c.args.lanes c.args.now c.in_default.ensures.few in
    let full = answer_full (nat_lt (length (with_room c.args.now c.args.self.now.sources)) 1024) c.args.lanes c.if-is_full_now.ensures.result in
    (λ e. exactly.0 (unknown_answers (64 * g.row.N) c.args.self.now.sources c.args.src c.args.seq.0 c.args.lanes c.args.now c.in_default.ensures.answer ∙ sym full), λ e. refl)

pub returns-clause-full : goal.returns-clause-full
returns-clause-full g c =
    let exactly = full_where (64 * g.row.N) c.args.self.now.sources c.args.src c.args.seq.0 c.args.lanes c.args.now c.in_default.ensures.few in
    let room = answer_room (nat_lt (length (with_room c.args.now c.args.self.now.sources)) 1024) c.args.lanes c.if-is_full_now.ensures.result in (
      λ e. cc,
      λ e. let bad : Some c.args.lanes ≡ None = room ∙ sym (unknown_answers (64 * g.row.N) c.args.self.now.sources c.args.src c.args.seq.0 c.args.lanes c.args.now c.in_default.ensures.answer) ∙ exactly.1 e in cc,
    )
