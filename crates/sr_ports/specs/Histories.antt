-- Histories that one thread could have made.
use Rattle.std.specs.Prelude.{◌≡◌, List, [], ◌∷◌, None}
use Rattle.sr_node.specs.declared.event.Event.{Event}
use Rattle.sr_node.specs.declared.event.Answer.{Answer}
use Rattle.sr_node.specs.Images.{State}
use Rattle.sr_node.specs.Steps.{Step, refusal_of}
use Rattle.sr_ports.specs.declared.entry.Entry.{Entry}
use Rattle.sr_ports.specs.declared.worker.Worker.{Worker}

abbrev pub entry : Worker → Event → Answer → Entry
entry w e a = record { worker = w; event = e; answer = a }

-- the node takes an event in this state, answers so, and is in the other state then
pub record EnteredAs (s : State) (event : Event) (answer : Answer) (t : State) : Type 0 where
  pub taken : refusal_of s event ≡ None
  pub step : Step s event answer t

-- the entries, the oldest first, lead from one state to another, each by a step of the node
abbrev pub Steps : State → List Entry → State → Type 0
Steps s [] t = t ≡ s
Steps s (e ∷ es) t = (m : State) × EnteredAs s e.event e.answer m × Steps m es t
