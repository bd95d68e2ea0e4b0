-- Which answers belong to which events.
use Rattle.sr_node.specs.declared.event.Event.{Event}
use Rattle.sr_node.specs.declared.event.Event.TheVariants.{Arrive, Send, Tick, Take}
use Rattle.sr_node.specs.declared.event.Answer.{Answer}
use Rattle.sr_node.specs.declared.event.Answer.TheVariants.{Own, Passed, Sent, Ticked, Taken}

-- the answer says what was taken out of an outbox
abbrev pub SaysTaken : Answer → Type 0
SaysTaken Own = ⊥
SaysTaken (Passed outlets) = ⊥
SaysTaken (Sent number) = ⊥
SaysTaken (Ticked sources nodes proxies life) = ⊥
SaysTaken (Taken given) = Unit {0}

-- a Take is answered with what it took, and no other event is
abbrev pub IsAnswerOf : Event → Answer → Type 0
IsAnswerOf (Arrive port p now) a = SaysTaken a → ⊥
IsAnswerOf (Send frame now) a = SaysTaken a → ⊥
IsAnswerOf (Tick now) a = SaysTaken a → ⊥
IsAnswerOf (Take port) a = SaysTaken a
