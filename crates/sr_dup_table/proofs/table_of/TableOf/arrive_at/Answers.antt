use Rattle.std.proofs.Common.{◌*◌, refl}
use Rattle.sr_dup_table.specs.Arrivals.{as_table}
use Rattle.sr_dup_table.proofs.ArriveLemmas.{arrives_ok}
use Rattle.sr_dup_table.proofs.table_of.TableOf.arrive_at.Goals as goal

pub returns-in-Some : goal.returns-in-Some
returns-in-Some g c =
    let h = c.in-Some.ensures in
    arrives_ok (as_table (64 * g.row.N) c.args.self.now) (as_table (64 * g.row.N) c.note.new.self) c.args.src c.args.seq.0 c.args.lanes c.args.now h.few
    c.in-Some.fresh h.answer h.after refl h.others h.used
