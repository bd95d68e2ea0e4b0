use Rattle.std.proofs.Common.{ap, length}
use Rattle.std.specs.Map.Iter.{TakesFirst}
use Rattle.std.proofs.iter.runs.Sources.{from_front}
use Rattle.sr_slots.specs.Calls.{shown_entry}
use Rattle.sr_slots.proofs.by_address.Slots.iter.Goals as goal

pub returns-clause-runs : goal.returns-clause-runs
returns-clause-runs g c = from_front (TakesFirst shown_entry) shown_entry (λ s. s) (λ s t h. ap length h.0) (λ s x t h. h)
