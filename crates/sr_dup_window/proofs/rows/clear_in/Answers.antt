use Rattle.std.proofs.Common.{◌+◌, ◌&&◌, eqb, leb, ltb}
use Rattle.std.specs.Int.{bit_at}
use Rattle.sr_dup_window.proofs.RowLemmas.{cleared_lanes}
use Rattle.sr_dup_window.proofs.rows.clear_in.Goals as goal

pub returns-clause-lanes : goal.returns-clause-lanes
returns-clause-lanes c = λ b h.
    cleared_lanes c.args.row.now c.keep_in.new.row b (eqb (bit_at c.all_but.result b) 1) (leb c.args.first b && ltb b (c.args.first + c.args.count))
    (c.all_but.ensures b h) (c.keep_in.ensures.lanes b)
