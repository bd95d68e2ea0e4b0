use Rattle.std.proofs.Common.{◌*◌, ◌≡◌, ◌≤◌, ◌∙◌, refl, subst, sym, ap, Some, None, nat_lt, length, arith}
use Rattle.std.specs.Map.{lookup}
use Rattle.std.specs.Option.{option_map}
use Rattle.sr_frame.specs.Addresses.{mac_eq}
use Rattle.sr_dup_table.specs.Sources.{Contents, answer_of, arrive_answer, with_room}
use Rattle.sr_dup_table.specs.Shown.{heard_of, sources_of}
use Rattle.sr_dup_table.proofs.SourceLemmas.{full_where, lookup-shown, length-shown, answer_full, answer_room}
use Rattle.sr_dup_table.proofs.table_of.TableOf.fresh.Goals as goal

few : {t u : Contents} → t ≡ u → length t.sources ≤ 1024 → length u.sources ≤ 1024
few e h = subst (λ t. length t.sources ≤ 1024) e h

pub returns-in-Some-clause-answer : goal.returns-in-Some-clause-answer
returns-in-Some-clause-answer g c =
    let look = lookup-shown (mac_eq c.args.src) c.self.inside.slots.entries ∙ ap (option_map heard_of) (sym c.in-Some.ensures.value) in
    ap Some c.fresh.ensures
    ∙ sym (ap (λ o. answer_of (64 * g.row.N) o (sources_of c.self.inside.slots.entries) c.args.seq.0 c.args.lanes c.args.now) look)
    ∙ ap (λ t. arrive_answer (64 * g.row.N) t.sources c.args.src c.args.seq.0 c.args.lanes c.args.now) c.self.view_is

pub returns-then-is_full-clause-answer : goal.returns-then-is_full-clause-answer
returns-then-is_full-clause-answer g c =
    let look = ap (λ t. lookup (mac_eq c.args.src) t.sources) (sym c.self.view_is) ∙ lookup-shown (mac_eq c.args.src) c.self.inside.slots.entries ∙ ap (option_map heard_of) (sym c.in-None.ensures.value) in
    answer_full (nat_lt (length (with_room c.args.now c.args.self.now.sources)) 1024) c.args.lanes c.if-is_full.ensures
    ∙ sym (ap (λ o. answer_of (64 * g.row.N) o c.args.self.now.sources c.args.seq.0 c.args.lanes c.args.now) look)

pub returns-else-is_full-clause-answer : goal.returns-else-is_full-clause-answer
returns-else-is_full-clause-answer g c =
    let look = ap (λ t. lookup (mac_eq c.args.src) t.sources) (sym c.self.view_is) ∙ lookup-shown (mac_eq c.args.src) c.self.inside.slots.entries ∙ ap (option_map heard_of) (sym c.in-None.ensures.value) in
    answer_room (nat_lt (length (with_room c.args.now c.args.self.now.sources)) 1024) c.args.lanes c.if-is_full.ensures
    ∙ sym (ap (λ o. answer_of (64 * g.row.N) o c.args.self.now.sources c.args.seq.0 c.args.lanes c.args.now) look)

pub returns-in-Some-clause-full : goal.returns-in-Some-clause-full
returns-in-Some-clause-full g c =
    let exactly = full_where (64 * g.row.N) c.args.self.now.sources c.args.src c.args.seq.0 c.args.lanes c.args.now (few c.self.view_is (omega (arith, c.get.ensures.few, length-shown c.self.inside.slots.entries))) in
    (λ e. cc, λ e. let bad : Some c.fresh.result ≡ None = returns-in-Some-clause-answer g c ∙ exactly.1 e in cc)

pub returns-then-is_full-clause-full : goal.returns-then-is_full-clause-full
returns-then-is_full-clause-full g c =
    let exactly = full_where (64 * g.row.N) c.args.self.now.sources c.args.src c.args.seq.0 c.args.lanes c.args.now (few c.self.view_is (omega (arith, c.get.ensures.few, length-shown c.self.inside.slots.entries))) in
    (λ e. exactly.0 (sym (returns-then-is_full-clause-answer g c)), λ e. refl)

pub returns-else-is_full-clause-full : goal.returns-else-is_full-clause-full
returns-else-is_full-clause-full g c =
    let exactly = full_where (64 * g.row.N) c.args.self.now.sources c.args.src c.args.seq.0 c.args.lanes c.args.now (few c.self.view_is (omega (arith, c.get.ensures.few, length-shown c.self.inside.slots.entries))) in
    (λ e. cc, λ e. let bad : Some c.args.lanes ≡ None = returns-else-is_full-clause-answer g c ∙ exactly.1 e in cc)
