use Rattle.std.proofs.Common.{◌<◌, length, arith}
use Rattle.sr_plant.proofs.LinkLemmas.{over_first, over_same, over_both_back, beside, goes_over_first, goes_over_second}
use Rattle.sr_plant.proofs.flight.counts.drop_hop.Goals as goal

pub lower-requires : goal.lower-requires
lower-requires c within = c.requires c.args.hop.first within (goes_over_first c.args.hop)

pub lower-requires-then-second-hop : goal.lower-requires-then-second-hop
lower-requires-then-second-hop c within =
    let one = c.lower.ensures in
    let inside : c.in-Some.second < length c.args.counts.now.items = omega (arith, within, one.len) in
    let same = beside c.args.hop.first c.in-Some.second c.lower.new.counts.items c.args.counts.now.items c.if-second-hop.true one within in
    let some = c.requires c.in-Some.second inside (goes_over_second c.args.hop c.in-Some.second c.in-Some.is c.if-second-hop.true) in
    omega (arith, same, some)

pub returns-in_default : goal.returns-in_default
returns-in_default c = over_first c.args.hop c.lower.new.counts.items c.args.counts.now.items c.in_default.is c.lower.ensures

pub returns-then-second-hop : goal.returns-then-second-hop
returns-then-second-hop c =
    over_both_back c.args.hop c.in-Some.second c.lower-then-second-hop.new.counts.items c.lower.new.counts.items c.args.counts.now.items c.in-Some.is c.if-second-hop.true c.lower-then-second-hop.ensures c.lower.ensures

pub returns-else-second-hop : goal.returns-else-second-hop
returns-else-second-hop c =
    over_same c.args.hop c.in-Some.second c.lower.new.counts.items c.args.counts.now.items c.in-Some.is c.if-second-hop.false c.lower.ensures
