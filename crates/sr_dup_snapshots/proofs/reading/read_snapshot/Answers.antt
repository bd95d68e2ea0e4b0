use Rattle.std.proofs.Common.{◌∙◌, Err, sym, ap, subst, arith}
use Rattle.std.proofs.lemmas.Result.{err_from_is_err_and}
use Rattle.sr_dup_table.specs.declared.width.Width.TheVariants.{Narrow, Wide}
use Rattle.sr_dup_table.specs.Widths.{numbers_in}
use Rattle.sr_dup_table.specs.Sources.{Table}
use Rattle.sr_dup_snapshots.specs.Reading.{IsReadAs}
use Rattle.sr_dup_snapshots.proofs.TextLemmas.{some-table}
use Rattle.sr_dup_snapshots.proofs.RecutLemmas.{read-as, exact-ok, exact-err}
use Rattle.sr_dup_snapshots.proofs.reading.read_snapshot.Goals as goal

pub returns-in_ok-built-in-Narrow-clause-found : goal.returns-in_ok-built-in-Narrow-clause-found
returns-in_ok-built-in-Narrow-clause-found c =
    let t = c.in-Some.text in
    let sources = ap (λ (d : Table). d.sources) c.from.ensures ∙ c.in_ok-built-in-Narrow.ensures.sources in
    subst (λ x. IsReadAs (numbers_in x) c.args.octets.now c.from.result.sources) (sym c.in-Narrow.is)
    (subst (IsReadAs 1024 c.args.octets.now) (sym sources)
    (read-as Narrow t.width c.args.octets.now t.count t.sources.now c.in-Some.ensures.text (λ i. omega (arith, c.type_inv.octets i)) c.in-Some.ensures.order))

pub returns-in_ok-built-in-Wide-clause-found : goal.returns-in_ok-built-in-Wide-clause-found
returns-in_ok-built-in-Wide-clause-found c =
    let t = c.in-Some.text in
    let sources = ap (λ (d : Table). d.sources) c.from-in-Wide.ensures ∙ c.in_ok-built-in-Wide.ensures.sources in
    subst (λ x. IsReadAs (numbers_in x) c.args.octets.now c.from-in-Wide.result.sources) (sym c.in-Wide.is)
    (subst (IsReadAs 2048 c.args.octets.now) (sym sources)
    (read-as Wide t.width c.args.octets.now t.count t.sources.now c.in-Some.ensures.text (λ i. omega (arith, c.type_inv.octets i)) c.in-Some.ensures.order))

pub returns-in_ok-built-in-Narrow-clause-exact : goal.returns-in_ok-built-in-Narrow-clause-exact
returns-in_ok-built-in-Narrow-clause-exact c =
    let t = c.in-Some.text in
    exact-ok c.from.result
    (some-table t.width c.args.octets.now t.count t.sources.now c.in-Some.ensures.text (λ i. omega (arith, c.type_inv.octets i)) c.in-Some.ensures.order)

pub returns-in_ok-built-in-Wide-clause-exact : goal.returns-in_ok-built-in-Wide-clause-exact
returns-in_ok-built-in-Wide-clause-exact c =
    let t = c.in-Some.text in
    exact-ok c.from-in-Wide.result
    (some-table t.width c.args.octets.now t.count t.sources.now c.in-Some.ensures.text (λ i. omega (arith, c.type_inv.octets i)) c.in-Some.ensures.order)

pub returns-in_err-built-in-Narrow-clause-exact : goal.returns-in_err-built-in-Narrow-clause-exact
returns-in_err-built-in-Narrow-clause-exact c =
    let t = c.in-Some.text in
    let e = err_from_is_err_and c.from_residual.result c.from_residual.ensures.1 in
    exact-err c.from_residual.result (e.1 ∙ ap Err e.2)
    (some-table t.width c.args.octets.now t.count t.sources.now c.in-Some.ensures.text (λ i. omega (arith, c.type_inv.octets i)) c.in-Some.ensures.order)

pub returns-in_err-built-in-Wide-clause-exact : goal.returns-in_err-built-in-Wide-clause-exact
returns-in_err-built-in-Wide-clause-exact c =
    let t = c.in-Some.text in
    let e = err_from_is_err_and c.from_residual-in_err-built-in-Wide.result c.from_residual-in_err-built-in-Wide.ensures.1 in
    exact-err c.from_residual-in_err-built-in-Wide.result (e.1 ∙ ap Err e.2)
    (some-table t.width c.args.octets.now t.count t.sources.now c.in-Some.ensures.text (λ i. omega (arith, c.type_inv.octets i)) c.in-Some.ensures.order)
