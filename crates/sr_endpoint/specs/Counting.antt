-- What is counted at the ports of a node.
use Rattle.std.specs.Prelude.{ℕ, ◌+◌, min, Option, None, Some}
use Rattle.std.specs.declared.result.Result.{Result}
use Rattle.std.specs.declared.result.Result.TheVariants.{Ok, Err}
use Rattle.sr_frame.specs.declared.ports.Port.{Port}
use Rattle.sr_forwarding.specs.declared.outlets.Outlets.{Outlets}
use Rattle.sr_node.specs.declared.fault.StepFault.{StepFault}
use Rattle.sr_node.specs.declared.fault.StepFault.TheVariants as fault
use Rattle.sr_node.specs.declared.per_port.PerPort.{PerPort}
use Rattle.sr_node.specs.PerPort.{at, with_at, same_for_all}
use Rattle.sr_node.specs.Limits.{greatest_count}
use Rattle.sr_endpoint.specs.declared.counters.Counters.{Counters}

-- one more at a port; a count stays at its greatest value
abbrev pub one_more_at : PerPort ℕ → Port → PerPort ℕ
one_more_at counts port = with_at counts port (min (at counts port + 1) greatest_count)

-- nothing is counted yet
abbrev pub no_traffic : Counters
no_traffic = record {
  received = same_for_all 0;
  own = same_for_all 0;
  unread = same_for_all 0;
  untagged = same_for_all 0;
  table_full = same_for_all 0;
  outbox_full = same_for_all 0;
  no_memory = same_for_all 0;
  sent = same_for_all 0;
}

-- a frame that came in at a port was refused for this reason
abbrev pub after_refusal : Counters → Port → StepFault → Counters
after_refusal c port (fault.Reading reason) = record c { unread = one_more_at c.unread port }
after_refusal c port fault.Untagged = record c { untagged = one_more_at c.untagged port }
after_refusal c port fault.TableFull = record c { table_full = one_more_at c.table_full port }
after_refusal c port (fault.OutboxFull full) = record c { outbox_full = one_more_at c.outbox_full port }
after_refusal c port fault.NoMemory = record c { no_memory = one_more_at c.no_memory port }

abbrev pub one_came : Counters → Port → Counters
one_came c port = record c { received = one_more_at c.received port }

-- a frame came in at a port, and this came of it
abbrev pub after_arrival : {A : Type 0} → Counters → Port → Result A StepFault → Counters
after_arrival c port (Ok a) = one_came c port
after_arrival c port (Err f) = after_refusal (one_came c port) port f

-- the node's own frame came back at a port
abbrev pub came_back : Counters → Port → Counters
came_back c port = record c { own = one_more_at c.own port }

-- octets came in at a port: they were refused, or a frame went to these outlets, or it was the node's own and went nowhere
abbrev pub after_reception : Counters → Port → Result (Option Outlets) StepFault → Counters
after_reception c port (Ok (Some outlets)) = one_came c port
after_reception c port (Ok None) = came_back (one_came c port) port
after_reception c port (Err f) = after_refusal (one_came c port) port f

-- a frame was taken out at a port
abbrev pub after_taken : Counters → Port → Counters
after_taken c port = record c { sent = one_more_at c.sent port }
