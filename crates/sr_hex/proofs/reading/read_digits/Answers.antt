use Rattle.sr_hex.proofs.Blocks.{block_small}
use Rattle.sr_hex.proofs.reading.read_digits.Goals as goal

pub returns-clause-small : goal.returns-clause-small
returns-clause-small c =
    let parts = block_small c.args.digits.now _ _ c.args.at c.read_block.ensures.first c.read_block.ensures.second in
    (λ h. parts.0 (c.both.ensures.0 h), λ all. c.both.ensures.1 (parts.1 all))
