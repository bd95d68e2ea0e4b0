-- What a node answers belongs to the event.
use Rattle.sr_node.specs.declared.event.Event.{Event}
use Rattle.sr_node.specs.declared.event.Event.TheVariants.{Arrive, Send, Tick, Take}
use Rattle.sr_node.specs.declared.event.Answer.{Answer}
use Rattle.sr_node.specs.declared.event.Answer.TheVariants.{Own, Passed, Sent, Ticked, Taken}
use Rattle.sr_node.specs.Answers.{IsAnswerOf}
use Rattle.sr_node.specs.Images.{State}
use Rattle.sr_node.specs.Steps.{Step}

pub answered : (s t : State) (e : Event) (a : Answer) → Step s e a t → IsAnswerOf e a
answered s t (Arrive port p now) Own is = λ x. x
answered s t (Arrive port p now) (Passed outlets) is = λ x. x
answered s t (Arrive port p now) (Sent number) is = absurd is
answered s t (Arrive port p now) (Ticked a b c d) is = absurd is
answered s t (Arrive port p now) (Taken given) is = absurd is
answered s t (Send frame now) Own is = absurd is
answered s t (Send frame now) (Passed outlets) is = absurd is
answered s t (Send frame now) (Sent number) is = λ x. x
answered s t (Send frame now) (Ticked a b c d) is = absurd is
answered s t (Send frame now) (Taken given) is = absurd is
answered s t (Tick now) Own is = absurd is
answered s t (Tick now) (Passed outlets) is = absurd is
answered s t (Tick now) (Sent number) is = absurd is
answered s t (Tick now) (Ticked a b c d) is = λ x. x
answered s t (Tick now) (Taken given) is = absurd is
answered s t (Take port) Own is = absurd is
answered s t (Take port) (Passed outlets) is = absurd is
answered s t (Take port) (Sent number) is = absurd is
answered s t (Take port) (Ticked a b c d) is = absurd is
answered s t (Take port) (Taken given) is = tt
