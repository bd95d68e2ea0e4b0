use Rattle.std.proofs.Common.{◌∙◌, ap}
use Rattle.sr_node_table.specs.Nodes.{down_of}
use Rattle.sr_node_table.proofs.WatchLemmas.{raises_on}
use Rattle.sr_node_table.proofs.watching.raise_downs.Goals as goal

pub loop-mac-preserved : goal.loop-mac-preserved
loop-mac-preserved c = record {
  raised = raises_on (λ e. down_of e.0 e.1 c.args.now) _ _ _ c.loop-mac.alarms c.raise.new.alarms c.down_of.result _ _ (c.in-Some.mac, c.in-Some.entry.now) c.in-Some.ensures.steps c.down_of.ensures c.loop-mac.invariant.capacity c.raise.ensures c.loop-mac.invariant.raised;
  capacity = ap (λ b. b.capacity) c.raise.ensures ∙ c.loop-mac.invariant.capacity;
}
