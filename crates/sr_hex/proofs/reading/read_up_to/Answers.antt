use Rattle.std.proofs.Common.{◌*◌}
use Rattle.sr_hex.proofs.Blocks.{block_small, front_in_first, front_in_second}
use Rattle.sr_hex.proofs.reading.read_up_to.Goals as goal

pub returns-then-are_small-clause-none : goal.returns-then-are_small-clause-none
returns-then-are_small-clause-none c _ =
    (block_small c.args.text.now _ _ c.args.at c.read_block.ensures.first c.read_block.ensures.second).0 (c.both.ensures.0 (c.are_small.ensures.0 c.if-are_small.true))

pub returns-then-count-lt16-clause-end : goal.returns-then-count-lt16-clause-end
returns-then-count-lt16-clause-end c =
    front_in_first c.args.text.now _ (2 * c.args.at) _ c.read_block.ensures.first c.small_front-count.ensures c.if-count-lt16.true

pub returns-clause-end : goal.returns-clause-end
returns-clause-end c =
    front_in_second c.args.text.now _ _ (2 * c.args.at) _ _ c.read_block.ensures.first c.read_block.ensures.second c.small_front-count.ensures c.if-count-lt16.false c.small_front.ensures
    (λ small. let is = c.are_small.ensures.1 (c.both.ensures.1 small) in let not = c.if-are_small.false in absurd cc)
