use Rattle.std.proofs.Common.{◌≡◌, true, false, arith}
use Rattle.std.proofs.lemmas.List.{take_rest}
use Rattle.sr_pcapng.specs.Statistics.{is_end, is_option}
use Rattle.sr_pcapng.proofs.Drops.{ends, breaks, goes_on}
use Rattle.sr_pcapng.proofs.statistics.drops_in.Goals as goal

pub returns-then-not-is_option : goal.returns-then-not-is_option
returns-then-not-is_option c =
    let more : is_end c.args.order c.loop-rest.rest.now ≡ false = grind (arith, c.loop-rest-test.true, c.is_end.ensures) in
    let cut : is_option c.args.order c.loop-rest.rest.now ≡ false = grind (arith, c.if-not-is_option.true, c.is_option.ensures) in
    breaks c.args.order c.args.octets.now c.loop-rest.rest.now c.loop-rest.known c.loop-rest.invariant more cut

pub loop-rest-preserved : goal.loop-rest-preserved
loop-rest-preserved c =
    let more : is_end c.args.order c.loop-rest.rest.now ≡ false = grind (arith, c.loop-rest-test.true, c.is_end.ensures) in
    let whole : is_option c.args.order c.loop-rest.rest.now ≡ true = grind (arith, c.if-not-is_option.false, c.is_option.ensures) in
    goes_on c.args.order c.args.octets.now c.loop-rest.rest.now _ c.option_len.result c.loop-rest.known c.with_option-known.result c.loop-rest.invariant more whole
    (take_rest c.loop-rest.rest.now c.option_len.result) c.option_len.ensures c.with_option-known.ensures

pub returns : goal.returns
returns c =
    let end : is_end c.args.order c.loop-rest.rest.now ≡ true = grind (arith, c.loop-rest-test.false, c.is_end.ensures) in
    ends c.args.order c.args.octets.now c.loop-rest.rest.now c.loop-rest.known c.loop-rest.invariant end
