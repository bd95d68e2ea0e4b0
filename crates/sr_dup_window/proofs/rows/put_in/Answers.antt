use Rattle.std.proofs.Common.{eqb}
use Rattle.std.specs.Int.{bit_at}
use Rattle.sr_dup_window.proofs.RowLemmas.{put_lanes}
use Rattle.sr_dup_window.proofs.rows.put_in.Goals as goal

pub returns-clause-lanes : goal.returns-clause-lanes
returns-clause-lanes c = λ b h.
    put_lanes c.args.row.now c.keep_in.new.row c.mark_in.new.row c.args.bit b c.args.lanes (eqb (bit_at c.all_but_one.result b) 1)
    (c.all_but_one.ensures b h) (c.keep_in.ensures.lanes b) (c.mark_in.ensures.lanes b)
