-- The alarms of a node after a run are those of what happened to its table of nodes.
use Rattle.std.proofs.Common.{ap, ◌∙◌}
use Rattle.sr_node_table.specs.Stating.{has_at, status_at, listed_at}
use Rattle.sr_laws_node_table.specs.TableLaws.{AlarmsAreTheLatest, ListIsOfKept, StatusIsOfKept}
use Rattle.sr_laws_node.specs.Alarms.{AlarmsAreOfWhatCameIn}
use Rattle.sr_laws_node.proofs.HeardLemmas.{made}

pub alarms_lem : AlarmsAreTheLatest → ListIsOfKept → StatusIsOfKept → AlarmsAreOfWhatCameIn
alarms_lem latest listed told origin turns t run =
    let m = made origin turns t run in
    let now = t.core.time in (
      m.all,
      m.happen,
      record {
        order = m.order;
        alarms = ap (λ u. u.alarms) m.table ∙ latest m.all now m.order;
        listed = ap (λ u. listed_at u now) m.table ∙ listed m.all now m.order;
        live = λ mac. ap (λ u. has_at u mac now) m.table ∙ (told m.all now mac m.order).0;
        status = λ mac. ap (λ u. status_at u mac now) m.table ∙ (told m.all now mac m.order).1;
      },
    )
