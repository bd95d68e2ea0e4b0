use Rattle.std.proofs.Common.{subst}
use Rattle.std.specs.Prelude.{IfOk}
use Rattle.sr_dup_table.specs.Sources.{Table}
use Rattle.sr_dup_snapshots.specs.Snapshots.{IsSnapshot}
use Rattle.sr_dup_snapshots.proofs.writing.snapshot.Goals as goal

pub returns-in-Narrow : goal.returns-in-Narrow
returns-in-Narrow c = subst (λ (t : Table). IfOk c.spelled.result (λ octets. IsSnapshot t.width octets.items t.sources)) c.in-Narrow.ensures c.spelled.ensures

pub returns-in-Wide : goal.returns-in-Wide
returns-in-Wide c = subst (λ (t : Table). IfOk c.spelled-in-Wide.result (λ octets. IsSnapshot t.width octets.items t.sources)) c.in-Wide.ensures c.spelled-in-Wide.ensures
