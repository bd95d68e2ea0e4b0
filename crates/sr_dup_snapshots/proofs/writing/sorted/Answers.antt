use Rattle.std.proofs.Common.{◌++◌, ◌∙◌, List, sym, ap, subst}
use Rattle.std.proofs.lemmas.List.{append-nil}
use Rattle.sr_frame.specs.declared.fields.Mac.{Mac}
use Rattle.sr_dup_table.specs.Shown.{sources_of}
use Rattle.std.specs.Prelude.{IsPermutation}
use Rattle.std.specs.Map.{keys_of}
use Rattle.sr_dup_snapshots.proofs.OrderLemmas.{strictly-sorted, still-distinct}
use Rattle.sr_dup_snapshots.proofs.writing.sorted.Goals as goal

pub returns-clause-all : goal.returns-clause-all
returns-clause-all g c =
    let macs = c.loop-src.macs.items in
    let all = sym (append-nil macs) ∙ ap (λ es. macs ++ keys_of (sources_of es)) (sym c.in-None.ensures.steps.0) ∙ c.loop-src.invariant in
    subst (λ (ks : List Mac). IsPermutation ks c.sort_unstable.new.self.items) all c.sort_unstable.ensures.permutation

pub returns-clause-ascending : goal.returns-clause-ascending
returns-clause-ascending g c =
    strictly-sorted c.sort_unstable.new.self.items
    (still-distinct (keys_of c.args.table.now.sources) c.sort_unstable.new.self.items (returns-clause-all g c) c.source_count.ensures.table.unique)
    c.sort_unstable.ensures.sorted
