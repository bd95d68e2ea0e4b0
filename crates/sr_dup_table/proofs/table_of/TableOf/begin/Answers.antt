use Rattle.std.proofs.Common.{◌*◌, ◌≡◌, ◌∙◌, refl, sym, ap, true, false, nat_lt, length, arith, rules}
use Rattle.std.proofs.lemmas.Grind.{common_steps}
use Rattle.sr_dup_table.specs.Sources.{answer_of, with_room, is_held, is_ready}
use Rattle.sr_dup_table.specs.Arrivals.{as_table}
use Rattle.sr_dup_table.proofs.SourceLemmas.{answer_full, answer_room}
use Rattle.sr_dup_table.proofs.ArriveLemmas.{ready_held, arrives_ok, arrives_full, arrives_no_memory}
use Rattle.sr_dup_table.proofs.table_of.TableOf.begin.Goals as goal

apart : false ≡ true → ⊥
apart e = cc

pub returns-then-is_full_now : goal.returns-then-is_full_now
returns-then-is_full_now g c =
    let s = c.args.self.now.sources in
    let said = ap (λ o. answer_of (64 * g.row.N) o s c.args.seq.0 c.args.lanes c.args.now) c.requires.absent
    ∙ sym (answer_full (nat_lt (length (with_room c.args.now s)) 1024) c.args.lanes c.if-is_full_now.ensures.result) in
    arrives_full (as_table (64 * g.row.N) c.args.self.now) (as_table (64 * g.row.N) c.is_full_now.new.self) c.args.src c.args.seq.0 c.args.lanes c.args.now c.requires.few
    said (ap (as_table (64 * g.row.N)) c.if-is_full_now.ensures.same)

pub returns-in_err-put_last : goal.returns-in_err-put_last
returns-in_err-put_last g c =
    let s = c.args.self.now.sources in
    let said = ap (λ o. answer_of (64 * g.row.N) o s c.args.seq.0 c.args.lanes c.args.now) c.requires.absent
    ∙ sym (answer_room (nat_lt (length (with_room c.args.now s)) 1024) c.args.lanes c.if-is_full_now.ensures.result) in
    let unready = λ (h : is_ready c.args.self.now.held s c.args.src ≡ true).
    apart (c.in_err-put_last.ensures.reserved (ap (λ t. is_held t.held c.args.src) c.if-is_full_now.ensures.same ∙ ready_held _ _ c.requires.absent h)) in
    arrives_no_memory (as_table (64 * g.row.N) c.args.self.now) (as_table (64 * g.row.N) c.put_last.new.self) c.args.src c.args.seq.0 c.args.lanes c.args.now c.requires.few
    c.args.lanes said unready (ap (as_table (64 * g.row.N)) (c.in_err-put_last.ensures.err ∙ c.if-is_full_now.ensures.same)) c.from_residual.result c.from_residual.ensures.1

pub returns : goal.returns
returns g c =
    let s = c.args.self.now.sources in
    let said = ap (λ o. answer_of (64 * g.row.N) o s c.args.seq.0 c.args.lanes c.args.now) c.requires.absent
    ∙ sym (answer_room (nat_lt (length (with_room c.args.now s)) 1024) c.args.lanes c.if-is_full_now.ensures.result) in
    arrives_ok (as_table (64 * g.row.N) c.args.self.now) (as_table (64 * g.row.N) c.put_last.new.self) c.args.src c.args.seq.0 c.args.lanes c.args.now c.requires.few
    c.args.lanes said (search rules) refl (grind (arith, common_steps)) c.in_ok-put_last.ensures.used
