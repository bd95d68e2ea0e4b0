use Rattle.std.proofs.Common.{ℕ, ◌-◌, ◌<◌, ◌≤◌, length, slice_index, arith}
use Rattle.sr_hex.specs.Values.{AreWritten}
use Rattle.sr_hex.proofs.Digested.{blocks_written, written_on}
use Rattle.sr_hex.proofs.writing.write_blocks.Goals as goal
use Rattle.sr_hex.proofs.writing.write_blocks.Goals.{then-at-last, else-at-last}

pub returns : goal.returns
returns c =
    let octets = c.args.octets.now in
    let fits : (k : ℕ) → slice_index octets k < 256 = λ k. (c.type_inv.octets k).fits in
    let now = c.write_block-2.ensures in
    let so_far : AreWritten octets c.if-at-last.digits 0 c.if-at-last.at = elim c.if-at-last.branch [
      | then-at-last w ↦
          let more = w.write_block-then-at-last.ensures in
          rw (w.digits-is, w.at-is) (written_on octets c.loop-at.digits _ c.loop-at.at c.loop-at.invariant.written more.written more.kept)
      | else-at-last w ↦ rw (w.digits-is, w.at-is) c.loop-at.invariant.written
    ] in
    let past : length octets - 16 ≤ c.if-at-last.at = elim c.if-at-last.branch [
      | then-at-last w ↦ omega arith
      | else-at-last w ↦ omega arith
    ] in
    blocks_written octets c.if-at-last.digits _ c.if-at-last.at (length octets - 16) fits (omega arith) (omega arith) past so_far now.written now.kept
