use Rattle.std.proofs.Common.{◌∙◌, ap}
use Rattle.sr_dup_table.specs.Sources.{live_at}
use Rattle.sr_dup_table.specs.Shown.{sources_of}
use Rattle.sr_dup_table.proofs.SourceLemmas.{live-shown}
use Rattle.sr_dup_table.proofs.table_of.TableOf.age.Goals as goal

pub returns-clause-sources : goal.returns-clause-sources
returns-clause-sources g c =
    ap sources_of c.age.ensures.entries ∙ live-shown c.args.now c.self.inside.slots.entries ∙ ap (λ t. live_at c.args.now t.sources) c.self.view_is
