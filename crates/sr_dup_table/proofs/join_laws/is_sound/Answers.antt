use Rattle.std.proofs.Common.{◌*◌, subst}
use Rattle.std.specs.Map.{lookup}
use Rattle.sr_frame.specs.Addresses.{mac_eq}
use Rattle.sr_dup_table.specs.Sources.{Sources}
use Rattle.sr_dup_table.proofs.JoinLawLemmas.{WholeRecord, whole-shown}
use Rattle.sr_dup_table.proofs.join_laws.is_sound.Goals as goal

pub returns : goal.returns
returns g c = (
  c.source_count-count.ensures.table,
  λ src. subst (λ (s : Sources). WholeRecord (64 * g.row.N) (lookup (mac_eq src) s)) c.entries-records.ensures (whole-shown c.entries-records.result src),
)
