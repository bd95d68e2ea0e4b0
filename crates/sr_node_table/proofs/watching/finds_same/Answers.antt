use Rattle.std.proofs.Common.{◌≡◌, ◌<◌, length, true, Some, arith, rules}
use Rattle.std.specs.Map.{lookup}
use Rattle.std.specs.List.{slice_get}
use Rattle.sr_frame.specs.Addresses.{mac_eq}
use Rattle.sr_node_table.specs.Nodes.{is_live}
use Rattle.sr_node_table.specs.Watching.{late_port}
use Rattle.sr_node_table.proofs.WatchLemmas.{same_late}
use Rattle.sr_node_table.proofs.watching.finds_same.Goals as goal

pub loop-mac-preserved-in-Some-late_port : goal.loop-mac-preserved-in-Some-late_port
loop-mac-preserved-in-Some-late_port c =
    let before = c.args.before.now.ports in
    let mac = c.in-Some.mac in
    let e = c.in-Some.entry.now in
    let port = c.in-Some-late_port.port in
    let live : is_live c.args.now e ≡ true = search rules in
    let late : late_port c.args.now e ≡ Some port = search rules in
    let there : slice_get before c.loop-mac.found ≡ Some (mac, port) = search rules in
    let was : lookup (mac_eq mac) before ≡ Some port = search rules in
    let within : c.loop-mac.found < length before = search rules in
    record {
      same = same_late before c.args.now c.args.nodes.now.entries c.loop-mac.found mac e _ _ c.in-Some.ensures.steps live c.loop-mac.invariant.same port late there was;
      within = omega (arith, within);
    }
