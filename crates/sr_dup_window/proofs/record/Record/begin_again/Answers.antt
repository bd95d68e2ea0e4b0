use Rattle.std.proofs.Common.{refl, arith, ◌*◌, ◌%◌}
use Rattle.sr_dup_window.specs.RecordLemmas.{record-width}
use Rattle.sr_dup_window.specs.WindowLemmas.{begins-from}
use Rattle.sr_dup_window.proofs.CallLemmas.{begun_window, some_marked}
use Rattle.sr_dup_window.proofs.record.Record.begin_again.Goals as goal

pub invariant_of-self-clause-some : goal.invariant_of-self-clause-some
invariant_of-self-clause-some g c = some_marked c.clear_all.new.rows c.mark.new.rows c.args.lanes (c.args.seq.0 % (64 * g.row.N)) c.requires c.mark.ensures.lanes

pub returns-clause-value : goal.returns-clause-value
returns-clause-value g c = begun_window _ c.clear_all.new.rows c.args.lanes c.args.seq.0 (omega arith) refl c.clear_all.ensures.lanes c.mark.ensures.lanes

pub returns-clause-stands : goal.returns-clause-stands
returns-clause-stands g c = begins-from (64 * g.row.N) _ c.args.seq.0 c.args.lanes (record-width c.args.self.now) c.requires (begun_window _ c.clear_all.new.rows c.args.lanes c.args.seq.0 (omega arith) refl c.clear_all.ensures.lanes c.mark.ensures.lanes)
