use Rattle.std.proofs.Common.{◌<◌, length, arith}
use Rattle.sr_plant.proofs.LinkLemmas.{over_first, over_same, over_both, beside}
use Rattle.sr_plant.proofs.flight.counts.add_hop.Goals as goal

pub raise-requires : goal.raise-requires
raise-requires c within = c.requires c.args.hop.first within

pub raise-requires-then-second-hop : goal.raise-requires-then-second-hop
raise-requires-then-second-hop c within =
    let one = c.raise.ensures in
    let inside : c.in-Some.second < length c.args.counts.now.items = omega (arith, within, one.len) in
    let same = beside c.args.hop.first c.in-Some.second c.args.counts.now.items c.raise.new.counts.items c.if-second-hop.true one inside in
    let few = c.requires c.in-Some.second inside in
    omega (arith, same, few)

pub returns-in_default : goal.returns-in_default
returns-in_default c = over_first c.args.hop c.args.counts.now.items c.raise.new.counts.items c.in_default.is c.raise.ensures

pub returns-then-second-hop : goal.returns-then-second-hop
returns-then-second-hop c =
    over_both c.args.hop c.in-Some.second c.args.counts.now.items c.raise.new.counts.items c.raise-then-second-hop.new.counts.items c.in-Some.is c.if-second-hop.true c.raise.ensures c.raise-then-second-hop.ensures

pub returns-else-second-hop : goal.returns-else-second-hop
returns-else-second-hop c =
    over_same c.args.hop c.in-Some.second c.args.counts.now.items c.raise.new.counts.items c.in-Some.is c.if-second-hop.false c.raise.ensures
