use Rattle.std.proofs.Common.{subst, rules}
use Rattle.std.specs.List.{IsDistinct}
use Rattle.std.specs.Map.{keys_of}
use Rattle.sr_frame.specs.Addresses.{mac_eq}
use Rattle.sr_slots.proofs.PlaceLemmas.{distinct-entries}
use Rattle.sr_slots.proofs.by_address.Slots.len.Goals as goal

pub returns-clause-unique : goal.returns-clause-unique
returns-clause-unique g c = subst (λ v. IsDistinct mac_eq (keys_of v.entries)) c.self.view_is (distinct-entries c.self.inside.map.entries c.len-places.ensures.unique)

pub returns-clause-len : goal.returns-clause-len
returns-clause-len g c = search rules
