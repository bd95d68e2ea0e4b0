use Rattle.std.proofs.Common.{◌≡◌, ◌+◌, ◌<◌, length, min, slice_index_or, slice_set, arith}
use Rattle.std.proofs.lemmas.Grind.{common_steps}
use Rattle.std.proofs.lemmas.List.{length-set}
use Rattle.sr_audit_charts.proofs.HistogramLemmas.{counted}
use Rattle.sr_audit_charts.proofs.histogram.Histogram.note.Goals as goal

pub returns-in-Some-clause-noted : goal.returns-in-Some-clause-noted
returns-in-Some-clause-noted c = λ xs is.
    let old = c.args.self.now.counts.items in
    let n = c.saturating_add.result in
    let within : c.args.at < length c.args.self.now.counts.items = grind (arith, common_steps) in
    let put : c.saturating_add.result ≡ min (slice_index_or c.args.self.now.counts.items c.args.at 0 + 1) 4294967295 =
    grind (arith, common_steps) in
    record {
      counts = λ k small.
          let long : length (slice_set old c.args.at n) ≡ length old = length-set old c.args.at n in
          counted old xs c.args.at n k within put is.counts (omega (arith, small, long));
    }
