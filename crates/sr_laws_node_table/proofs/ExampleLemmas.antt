-- The two runs, computed.
use Rattle.std.proofs.Common.{refl, arith}
use Rattle.sr_laws_node_table.specs.Examples.{AreWorkedOut}

pub are_worked_out : AreWorkedOut
are_worked_out = record {
  ring_order = (omega arith, (omega arith, (omega arith, (omega arith, (omega arith, (omega arith, (omega arith, (omega arith, (omega arith, (omega arith, (omega arith, (omega arith, tt))))))))))));
  ring_table = refl;
  ring_raised = refl;
  renewed_order = (omega arith, (omega arith, (omega arith, tt)));
  renewed_list = refl;
  renewed_live = refl;
  renewed_raised = refl;
}
