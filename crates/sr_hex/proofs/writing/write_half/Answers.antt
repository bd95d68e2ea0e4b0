use Rattle.std.proofs.Common.{◌/◌, ◌%◌, arith}
use Rattle.sr_hex.specs.Values.{digit_of}
use Rattle.sr_hex.proofs.Blocks.{through}
use Rattle.sr_hex.proofs.Digested.{half_written, piece_lane}
use Rattle.sr_hex.proofs.writing.write_half.Goals as goal

pub returns-clause-written : goal.returns-clause-written
returns-clause-written c =
    let block = c.load-block.ensures in
    let high = through digit_of _ _ _ (through (λ n. n / 16) _ _ _ block c.upper.ensures) c.digits_of-high.ensures in
    let low = through digit_of _ _ _ (through (λ n. n % 16) _ _ _ block c.lower.ensures) c.digits_of-low.ensures in
    half_written c.args.octets.now c.store.new.octets _ _ _ _ c.args.at high low
    (λ k lt. piece_lane c.args.octets.now _ _ c.args.at k c.copy_from_slice.ensures.after (omega arith) lt) c.in_turn_first.ensures c.store.ensures.stored
