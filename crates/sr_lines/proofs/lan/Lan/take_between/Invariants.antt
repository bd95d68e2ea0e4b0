use Rattle.std.proofs.Common.{◌≡◌, ◌<◌, ◌≤◌}
use Rattle.sr_lines.specs.Names.{wires_in}
use Rattle.sr_lines.specs.Spreading.{sent_by_lan, taken_by_lan, seen_sent_to_lan, WereEmpty}
use Rattle.sr_lines.proofs.lan.Lan.take_between.Given as goal

abbrev pub invariant-loop-at : goal.invariant-loop-at
invariant-loop-at g l =
    (l.self.counts ≡ l.initial.self.counts)
    × (wires_in l.self ≡ wires_in l.initial.self)
    × (sent_by_lan l.self ≡ sent_by_lan l.initial.self)
    × (taken_by_lan l.self ≡ taken_by_lan l.initial.self)
    × (seen_sent_to_lan l.self ≡ seen_sent_to_lan l.initial.self)
    × (l.from ≤ l.at)
    × WereEmpty (λ i. (l.from ≤ i) × (i < l.at)) (taken_by_lan l.initial.self) (seen_sent_to_lan l.initial.self)
