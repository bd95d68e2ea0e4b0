use Rattle.std.proofs.Common.{◌∙◌, ap}
use Rattle.std.specs.Map.{lookup}
use Rattle.sr_frame.specs.Addresses.{mac_eq}
use Rattle.sr_node_table.specs.Watching.{late_port, alarm_of}
use Rattle.sr_node_table.proofs.WatchLemmas.{raises_on, finds_on, asked_where_late}
use Rattle.sr_node_table.proofs.watching.watch.Goals as goal

pub loop-mac-preserved : goal.loop-mac-preserved
loop-mac-preserved c =
    let mac = c.in-Some.mac in
    let e = c.in-Some.entry.now in
    let o = lookup (mac_eq mac) c.args.before.now.ports in
    let alarm =
    c.alarm_of.ensures
    ∙ (λ j. alarm_of (c.late_before-port.ensures j) c.late_port-late.result mac e c.args.now)
    ∙ asked_where_late o c.late_port-late.result mac e c.args.now
    ∙ (λ j. alarm_of o (c.late_port-late.ensures j) mac e c.args.now) in
    record {
      raised = raises_on (λ e. alarm_of (lookup (mac_eq e.0) c.args.before.now.ports) (late_port c.args.now e.1) e.0 e.1 c.args.now) _ _ _ c.loop-mac.alarms c.raise.new.alarms c.alarm_of.result _ _ (mac, e) c.in-Some.ensures.steps alarm c.loop-mac.invariant.capacity c.raise.ensures c.loop-mac.invariant.raised;
      capacity = ap (λ b. b.capacity) c.raise.ensures ∙ c.loop-mac.invariant.capacity;
      found = finds_on (λ e. late_port c.args.now e.1) _ c.loop-mac.found.ports c.find.new.found.ports c.loop-mac.found.room c.find.new.found.room _ c.late_port-late.result _ _ (mac, e) c.in-Some.ensures.steps c.late_port-late.ensures c.find.ensures.ports c.find.ensures.room c.loop-mac.invariant.found;
    }
