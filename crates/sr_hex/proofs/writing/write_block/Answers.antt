use Rattle.std.proofs.Common.{◌+◌, ◌*◌, ◌/◌, ◌%◌, ◌∙◌, arith}
use Rattle.sr_hex.specs.Values.{digit_of}
use Rattle.sr_hex.proofs.Blocks.{through}
use Rattle.sr_hex.proofs.Digested.{turns_written}
use Rattle.sr_hex.proofs.writing.write_block.Goals as goal

pub returns-clause-written : goal.returns-clause-written
returns-clause-written c =
    let block = c.load-block.ensures in
    let high = through digit_of _ _ _ (through (λ n. n / 16) _ _ _ block c.upper.ensures) c.digits_of-high.ensures in
    let low = through digit_of _ _ _ (through (λ n. n % 16) _ _ _ block c.lower.ensures) c.digits_of-low.ensures in
    turns_written c.args.octets.now c.store-2.new.octets _ _ _ _ c.args.at high low c.in_turn_first.ensures c.in_turn_last.ensures
    (λ i h. c.store-2.ensures.kept (2 * c.args.at + i) (omega arith) ∙ c.store.ensures.stored i h) c.store-2.ensures.stored
