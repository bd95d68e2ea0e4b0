use Rattle.std.proofs.Common.{◌+◌, ◌-◌, ◌<◌, ◌↔◌}
use Rattle.sr_hex.specs.Values.{AreDigits, AreSmall}
use Rattle.sr_hex.proofs.reading.are_blocks_digits.Given as goal

abbrev pub invariant-loop-at : goal.invariant-loop-at
invariant-loop-at l = record {
  within : l.at < l.last + 16;
  good : AreSmall l.worst ↔ (AreDigits l.octets 0 l.at × AreDigits l.octets l.last (l.last + 16));
}

abbrev pub decreases-loop-at : goal.decreases-loop-at
decreases-loop-at l = l.last + 16 - l.at
