use Rattle.std.proofs.Common.{subst}
use Rattle.sr_dup_table.specs.Sources.{Table}
use Rattle.sr_dup_table.specs.JoinLaws.{IsSound}
use Rattle.sr_dup_table.proofs.join_laws.tables_are_sound.Goals as goal

pub returns-in-Narrow : goal.returns-in-Narrow
returns-in-Narrow c = subst (λ (t : Table). IsSound t.width t.sources) c.in-Narrow.ensures c.is_sound.ensures

pub returns-in-Wide : goal.returns-in-Wide
returns-in-Wide c = subst (λ (t : Table). IsSound t.width t.sources) c.in-Wide.ensures c.is_sound-in-Wide.ensures
