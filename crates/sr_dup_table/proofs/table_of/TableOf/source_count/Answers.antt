use Rattle.std.proofs.Common.{sym, ap, subst, arith, length}
use Rattle.std.proofs.lemmas.Grind.{common_steps}
use Rattle.std.specs.List.{IsDistinct}
use Rattle.sr_frame.specs.Addresses.{mac_eq}
use Rattle.sr_dup_table.specs.Sources.{IsTable}
use Rattle.sr_dup_table.proofs.SourceLemmas.{keys-shown, length-shown, length-live_le}
use Rattle.sr_dup_table.proofs.table_of.TableOf.source_count.Goals as goal

pub returns-clause-table : goal.returns-clause-table
returns-clause-table g c =
    subst (λ t. IsTable t.sources) c.self.view_is (record {
      unique = subst (IsDistinct mac_eq) (sym (keys-shown c.self.inside.slots.entries)) c.len.ensures.unique;
      few = omega (arith, c.len.ensures.few, length-shown c.self.inside.slots.entries);
    })

pub returns-clause-live : goal.returns-clause-live
returns-clause-live g c now =
    omega (arith, length-live_le now c.args.self.now.sources, ap (λ t. length t.sources) c.self.view_is, c.len.ensures.few, length-shown c.self.inside.slots.entries)

pub returns-clause-count : goal.returns-clause-count
returns-clause-count g c = grind (arith, common_steps)
