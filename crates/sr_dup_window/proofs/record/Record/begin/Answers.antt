use Rattle.std.proofs.Common.{refl, replicate, arith, [], ◌∷◌, ◌*◌, ◌%◌}
use Rattle.sr_dup_window.specs.WindowLemmas.{begins-from}
use Rattle.sr_dup_window.proofs.CallLemmas.{begun_window, some_marked, width_from}
use Rattle.sr_dup_window.proofs.BinLemmas.{zero_ring}
use Rattle.sr_dup_window.proofs.record.Record.begin.Goals as goal

pub invariant_of-result-clause-some : goal.invariant_of-result-clause-some
invariant_of-result-clause-some g c = some_marked (replicate g.row.N (0 ∷ 0 ∷ 0 ∷ 0 ∷ 0 ∷ 0 ∷ [])) c.mark.new.rows c.args.lanes (c.args.seq.0 % (64 * g.row.N)) c.requires.some c.mark.ensures.lanes

pub returns-clause-value : goal.returns-clause-value
returns-clause-value g c = begun_window _ (replicate g.row.N (0 ∷ 0 ∷ 0 ∷ 0 ∷ 0 ∷ 0 ∷ [])) c.args.lanes c.args.seq.0 (omega arith) refl (zero_ring g.row.N) c.mark.ensures.lanes

pub returns-clause-stands : goal.returns-clause-stands
returns-clause-stands g c = begins-from (64 * g.row.N) _ c.args.seq.0 c.args.lanes (width_from g.row.N c.requires.width) c.requires.some (begun_window _ (replicate g.row.N (0 ∷ 0 ∷ 0 ∷ 0 ∷ 0 ∷ 0 ∷ [])) c.args.lanes c.args.seq.0 (omega arith) refl (zero_ring g.row.N) c.mark.ensures.lanes)
