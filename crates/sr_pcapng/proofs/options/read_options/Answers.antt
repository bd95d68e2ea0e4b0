use Rattle.std.proofs.Common.{◌≡◌, ◌<◌, [], length, refl, arith, inl, inr}
use Rattle.std.proofs.lemmas.List.{take_rest, nil_from_length}
use Rattle.sr_pcapng.proofs.OptionLists.{goes_on, no_reads, read_none}
use Rattle.sr_pcapng.proofs.options.read_options.Goals as goal

pub returns-in-Broken-clause-none : goal.returns-in-Broken-clause-none
returns-in-Broken-clause-none c options known reads =
    let left = c.loop-rest.invariant.back options known reads in
    let broken = rw c.in-Broken.is at c.front_of.ensures in
    let some : 0 < length c.loop-rest.rest.now = grind (arith, c.loop-rest-test.true, c.is_empty.ensures) in
    no_reads c.args.order c.loop-rest.rest.now c.loop-rest.known known left.0 some broken.0 broken.1 left.1

pub returns-in-End-clause-found : goal.returns-in-End-clause-found
returns-in-End-clause-found c =
    let end = rw c.in-End.is at c.front_of.ensures in
    c.loop-rest.invariant.forth [] c.loop-rest.known (read_none c.args.order c.loop-rest.rest.now c.loop-rest.known (inr end))

pub loop-rest-preserved : goal.loop-rest-preserved
loop-rest-preserved c =
    let whole = rw c.in-Whole.is at c.front_of.ensures in
    goes_on c.args.order c.args.octets.now c.args.interface c.loop-rest.rest.now c.loop-rest.known c.in-Whole.size _ _ c.told-known.result
    c.loop-rest.invariant refl (take_rest c.loop-rest.rest.now c.in-Whole.size) whole.1 c.told-known.ensures

pub returns-clause-found : goal.returns-clause-found
returns-clause-found c =
    let none : length c.loop-rest.rest.now ≡ 0 = grind (arith, c.loop-rest-test.false, c.is_empty.ensures) in
    let nil : c.loop-rest.rest.now ≡ [] = nil_from_length c.loop-rest.rest.now none in
    c.loop-rest.invariant.forth [] c.loop-rest.known (read_none c.args.order c.loop-rest.rest.now c.loop-rest.known (inl nil))
