-- What a hearing answers, and what it leaves of a table.
use Rattle.std.specs.Prelude.{◌≡◌, ◌↔◌, true, false, length, is_some, IsOk, IfOk, OnOk, OnErr}
use Rattle.std.specs.Map.{lookup}
use Rattle.std.specs.declared.result.Result.{Result}
use Rattle.std.specs.declared.result.Result.TheVariants.{Ok}
use Rattle.sr_frame.specs.declared.fault.NoMemory.{NoMemory}
use Rattle.sr_frame.specs.declared.learn_outcome.LearnOutcome.{LearnOutcome}
use Rattle.sr_frame.specs.declared.learn_outcome.LearnOutcome.TheVariants.{Full}
use Rattle.sr_frame.specs.Addresses.{mac_eq}
use Rattle.sr_slots.specs.Places.{KeepsHeld}
use Rattle.sr_node_table.specs.Limits.{most_nodes}
use Rattle.sr_node_table.specs.Nodes.{Nodes, Hearing, is_held, live_others, answer_to, after_hearing}

-- a hearing is kept, or answered Full, or refused for want of memory
pub record ObservesNode (old : Nodes) (h : Hearing) (result : Result LearnOutcome NoMemory) (new : Nodes) : Type 0 where
  pub answer : IfOk result (λ learnt. learnt ≡ answer_to old.table h)
  pub after : OnOk result (new.table ≡ after_hearing old.table h)
  -- Full exactly where 1024 others are live; an address that has an entry, or a held place, takes no memory
  pub full : (result ≡ Ok Full) ↔ (length (live_others h.mac h.time old.table.entries) ≡ most_nodes)
  pub known : is_some (lookup (mac_eq h.mac) old.table.entries) ≡ true → IsOk result
  pub reserved : is_held old h.mac ≡ true → IsOk result
  -- a held place is used up, and no other
  pub held : OnOk result (KeepsHeld old.held new.held h.mac)
  pub used : IfOk result (λ learnt. (learnt ≡ Full → ⊥) → is_held new h.mac ≡ false)
  pub nothing : result ≡ Ok Full → new ≡ old
  pub err : OnErr result (new ≡ old)
