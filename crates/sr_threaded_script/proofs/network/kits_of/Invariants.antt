use Rattle.std.proofs.Common.{◌≡◌, map, vec_items, vec_len}
use Rattle.sr_threaded_script.specs.Beginnings.{beginning_of, starting_nodes}
use Rattle.sr_threaded_script.proofs.network.kits_of.Given as goal

-- the nodes so far are new, as the setup has them
abbrev pub invariant-loop-number : goal.invariant-loop-number
invariant-loop-number l = record {
  count : vec_len l.kits ≡ l.number;
  new : map beginning_of (vec_items l.kits) ≡ starting_nodes l.fn.setup l.fn.sent l.number;
}
