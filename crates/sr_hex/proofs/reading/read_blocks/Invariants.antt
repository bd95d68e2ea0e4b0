use Rattle.std.proofs.Common.{◌≡◌, ◌+◌, ◌-◌, ◌*◌, ◌<◌, ◌↔◌, length}
use Rattle.sr_hex.specs.Values.{AreSpelled, AreDigits, AreSmall}
use Rattle.sr_hex.proofs.reading.read_blocks.Given as goal

abbrev pub invariant-loop-at : goal.invariant-loop-at
invariant-loop-at l = record {
  long : length l.octets ≡ length l.fn.octets;
  within : l.at < l.last + 16;
  spelled : AreSpelled l.digits l.octets 0 l.at;
  good : AreSmall l.worst ↔ AreDigits l.digits 0 (2 * l.at);
}

abbrev pub decreases-loop-at : goal.decreases-loop-at
decreases-loop-at l = l.last + 16 - l.at
