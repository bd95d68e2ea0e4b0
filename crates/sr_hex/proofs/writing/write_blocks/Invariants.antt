use Rattle.std.proofs.Common.{◌≡◌, ◌+◌, ◌-◌, ◌<◌, length}
use Rattle.sr_hex.specs.Values.{AreWritten}
use Rattle.sr_hex.proofs.writing.write_blocks.Given as goal

abbrev pub invariant-loop-at : goal.invariant-loop-at
invariant-loop-at l = record {
  long : length l.digits ≡ length l.fn.digits;
  within : l.at < l.last + 16;
  written : AreWritten l.octets l.digits 0 l.at;
}

abbrev pub decreases-loop-at : goal.decreases-loop-at
decreases-loop-at l = l.last + 16 - l.at
