-- Runs of a node from its start. Newest first, so that what came before a turn is the rest of the list.
use Rattle.std.specs.Prelude.{◌≡◌, ℤ, List, [], ◌∷◌, None}
use Rattle.sr_forwarding.specs.declared.role_image.RoleImage.{RoleImage}
use Rattle.sr_node.specs.declared.event.Event.{Event}
use Rattle.sr_node.specs.declared.event.Answer.{Answer}
use Rattle.sr_node.specs.Images.{State}
use Rattle.sr_node.specs.Starts.{Start}
use Rattle.sr_node.specs.Steps.{Step, refusal_of}
use Rattle.sr_laws_node.specs.Origins.{Origin, new, BeginsAs}

-- An event that the node took in a state, with its answer; or another role in the place of the old one. Of a frame that came in with a
-- number, of which the wire carries 16 bits, `number` is the whole number without bound; the node never has it.
pub data Turn : Type 0 where
  happened : (before : State) (event : Event) (answer : Answer) (number : ℤ) → Turn
  swapped : (before : State) (role : RoleImage) → Turn

-- the turns lead from a node that begins so to this state, none of the events refused; a role is exchanged for one of the same address
abbrev pub RunFrom : Origin → List Turn → State → Type 0
RunFrom origin [] t = BeginsAs origin t
RunFrom origin (happened s event answer number ∷ before) t = RunFrom origin before s × (refusal_of s event ≡ None) × Step s event answer t
RunFrom origin (swapped s role ∷ before) t = RunFrom origin before s × (role.mac ≡ s.role.mac) × (t ≡ record s { role = role })

-- a run of a new node
abbrev pub Run : Start → List Turn → State → Type 0
Run start turns t = RunFrom (new start) turns t
