use Rattle.std.proofs.Common.{◌≡◌, ◌+◌, ◌-◌, ◌*◌, ◌%◌, ◌≤◌, length}
use Rattle.sr_hex.specs.Values.{IsReadTo}
use Rattle.sr_hex.proofs.reading.read_front.Given as goal

abbrev pub invariant-loop-at : goal.invariant-loop-at
invariant-loop-at l = record {
  steps : l.at % 16 ≡ 0;
  inside : 2 * l.at ≤ length l.text;
  room : l.at ≤ length l.octets;
  read : IsReadTo l.text l.fn.octets l.octets 0 l.at;
}

abbrev pub decreases-loop-at : goal.decreases-loop-at
decreases-loop-at l = length l.text + 1 - l.at

abbrev pub invariant-loop-at-2 : goal.invariant-loop-at-2
invariant-loop-at-2 l = record {
  steps : l.at % 16 ≡ 0;
  inside : 2 * l.at ≤ length l.text;
  room : l.at ≤ length l.octets;
  read : IsReadTo l.text l.fn.octets l.octets 0 l.at;
}

abbrev pub decreases-loop-at-2 : goal.decreases-loop-at-2
decreases-loop-at-2 l = length l.text + 1 - l.at
