use Rattle.std.proofs.Common.{◌≡◌, ◌∙◌, ◌≤◌, sym, ap, subst, true, cond, nat_lt, length, [], arith, rules}
use Rattle.std.proofs.lemmas.Bool.{lt-ltb}
use Rattle.sr_node_table.specs.Nodes.{Nodes, downs_of, downs_at, raised}
use Rattle.sr_node_table.proofs.WatchLemmas.{keep_last_none}
use Rattle.sr_node_table.proofs.table.NodeTable.raise_downs.Goals as goal

pub returns-else-len-ge-MAX_NODES-clause-table : goal.returns-else-len-ge-MAX_NODES-clause-table
returns-else-len-ge-MAX_NODES-clause-table c =
    let es = c.self.inside.nodes.entries in
    let alarms = c.self.inside.alarms.items in
    let room : nat_lt (length es) 1024 ≡ true = lt-ltb (length es) 1024 (omega (arith, c.len.ensures.len, c.if-len-ge-MAX_NODES.false)) in
    let few : length alarms ≤ 64 = omega (arith, c.capacity-room.ensures.within.0, c.capacity-room.ensures.capacity, c.self.invariant.alarms) in
    let same : alarms ≡ raised alarms (downs_of c.args.now es) = sym (ap (λ b. raised alarms (cond b [] (downs_at c.args.now es))) room ∙ keep_last_none 64 alarms few) in
    let P : Nodes → Type 0 = λ t. t.table ≡ record t.table { alarms = raised t.table.alarms (downs_of c.args.now t.table.entries) } in
    subst P c.self.view_is (λ j. record { entries = es; alarms = same j; late = c.self.inside.late.ports })

pub returns-then-len-ge-MAX_NODES-clause-table : goal.returns-then-len-ge-MAX_NODES-clause-table
returns-then-len-ge-MAX_NODES-clause-table c = search rules
