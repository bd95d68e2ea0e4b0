use Rattle.std.proofs.Common.{◌≡◌}
use Rattle.sr_lines.specs.Names.{wires_in}
use Rattle.sr_lines.specs.Spreading.{sent_by_lan, taken_by_lan, seen_taken_of_lan}
use Rattle.sr_lines.proofs.Spread.{SoFar}
use Rattle.sr_lines.proofs.lan.Lan.give_all.Given as goal

abbrev pub invariant-loop-at : goal.invariant-loop-at
invariant-loop-at g l =
    (l.self.counts.lost ≡ l.initial.self.counts.lost)
    × (l.self.counts.ended ≡ l.initial.self.counts.ended)
    × (l.self.counts.failures ≡ l.initial.self.counts.failures)
    × (wires_in l.self ≡ wires_in l.initial.self)
    × (taken_by_lan l.self ≡ taken_by_lan l.initial.self)
    × (seen_taken_of_lan l.self ≡ seen_taken_of_lan l.initial.self)
    × SoFar l.octets l.initial.self.counts.failures (sent_by_lan l.initial.self) (seen_taken_of_lan l.initial.self) (sent_by_lan l.self) l.at l.all
