use Rattle.std.proofs.Common.{◌≡◌, ◌≤◌, ◌∙◌, ◌∷◌, arith, sym, subst, ap, length}
use Rattle.sr_audit.specs.Limits.{exact_arrivals}
use Rattle.sr_audit.specs.Rows.{KeepsRows}
use Rattle.sr_audit.specs.Stretches.{stretches}
use Rattle.sr_audit.proofs.EdgeLemmas.{edges_taken}
use Rattle.sr_audit.proofs.ExtentLemmas.{extent_follows}
use Rattle.sr_audit.proofs.RowLemmas.{rows_follow}
use Rattle.sr_audit.proofs.SkewLemmas.{skews_after}
use Rattle.sr_audit.proofs.source.Source.note.Goals as goal

pub returns-clause-taken : goal.returns-clause-taken
returns-clause-taken c =
    let p = c.pass in
    let l = c.look-look in
    let full : length c.args.self.now.moments.times.items ≡ 1024 = omega arith in
    let taken_by = rw p.ensures.numbers at l.ensures.taken in
    let look_by = rw p.ensures.numbers at l.ensures.look in
    let moments = rw (l.ensures.moments, p.ensures.moments) at c.pair.ensures.moments in
    let edges = rw (l.ensures.edges, p.ensures.edges, c.at-first.ensures) at c.pair.ensures.edges in
    let skews = rw (l.ensures.skews, p.ensures.skews, c.at-first.ensures) at c.pair.ensures.skews in
    let noted = rw (l.ensures.extent, p.ensures.extent) at c.note.ensures in
    record {
      takes = λ xs few taken. record {
        numbers = rw c.pair.ensures.numbers (taken_by xs few taken.numbers);
        edges = edges_taken c.args.spans.now xs c.args.x l.result.came c.args.self.now.moments.times.items c.pair.new.self.moments.times.items
            c.args.self.now.edges c.pair.new.self.edges (omega arith) full few (ap (λ k. k.came) (look_by xs taken.numbers)) moments edges
            taken.edges;
        extent = λ exact.
            let before : length xs ≤ exact_arrivals = omega (arith, exact) in
            rw (c.pair.ensures.extent, noted) (extent_follows xs c.args.x l.result c.args.self.now.extent (omega (arith, exact))
            (look_by xs taken.numbers) (taken.extent before));
        skews = λ exact.
            let before : length xs ≤ exact_arrivals = omega (arith, exact) in
            skews_after xs c.args.x l.result.came c.args.self.now.moments.times.items c.args.self.now.skews c.pair.new.self.skews (omega arith) (omega arith)
            (omega arith) exact (ap (λ k. k.came) (look_by xs taken.numbers)) skews taken.edges.times (taken.skews before);
        rows = subst (KeepsRows c.args.spans.now (stretches (c.args.x ∷ xs))) (sym (c.pair.ensures.rows ∙ l.ensures.rows ∙ p.ensures.rows))
            (rows_follow c.args.spans.now xs c.args.x c.args.self.now.numbers c.args.self.now.moments.times.items c.args.self.now.rows
            taken.numbers taken.edges.times taken.rows);
      };
    }
