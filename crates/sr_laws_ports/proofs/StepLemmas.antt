-- A state, an event and its answer have one state behind them.
use Rattle.std.proofs.Common.{◌≡◌, ℕ, List, Option, None, Some, refl, sym, ap, ◌∙◌}
use Rattle.sr_frame.specs.declared.ports.Port.{Port}
use Rattle.sr_supervision.specs.declared.message.Supervision.{Supervision}
use Rattle.sr_supervision.specs.Supervised.{IsSupervision}
use Rattle.sr_forwarding.specs.declared.outlets.Outlets.{Outlets}
use Rattle.sr_forwarding.specs.Parcels.{ParcelImage, plain_of}
use Rattle.sr_node.specs.declared.event.Event.{Event}
use Rattle.sr_node.specs.declared.event.Event.TheVariants as event
use Rattle.sr_node.specs.declared.event.Answer.{Answer}
use Rattle.sr_node.specs.declared.event.Answer.TheVariants as answer
use Rattle.sr_node.specs.Images.{State, time_at}
use Rattle.sr_node.specs.Arriving.{goes, going_on, next_at, passed, PassedTo}
use Rattle.sr_node.specs.Hearing.{SaysOf}
use Rattle.sr_node.specs.Steps.{Step}

-- a list of octets says one thing at most
abbrev pub AreUnique : Type 0
AreUnique = (octets : List ℕ) (s t : Supervision) → IsSupervision octets s → IsSupervision octets t → s ≡ t

says_one : AreUnique → (p : ParcelImage) (x y : Option Supervision) → SaysOf p x → SaysOf p y → x ≡ y
says_one unique p None None h k = refl
says_one unique p None (Some t) h k = absurd (h t k)
says_one unique p (Some s) None h k = absurd (k s h)
says_one unique p (Some s) (Some t) h k = ap Some (unique (plain_of p) s t h k)

passed_one : AreUnique → (s : State) (port : Port) (p : ParcelImage) (now : ℕ) (g : Option Outlets) (answered : List Port) (t u : State)
    → PassedTo s port p now g answered t → PassedTo s port p now g answered u → t ≡ u
passed_one unique s port p now None answered t u h k = absurd h
passed_one unique s port p now (Some outlets) answered t u h k =
    h.3
    ∙ ap (λ said. passed s port (going_on s port p) (next_at s.core.next port p) now outlets said) (says_one unique p h.0 k.0 h.1 k.1)
    ∙ sym k.3

pub step_one : AreUnique → (s : State) (e : Event) (a : Answer) (t u : State) → Step s e a t → Step s e a u → t ≡ u
step_one unique s (event.Arrive port p at) answer.Own t u h k = h.1 ∙ sym k.1
step_one unique s (event.Arrive port p at) (answer.Passed outlets) t u h k =
    passed_one unique s port p (time_at s at) (goes s port p (time_at s at)) outlets t u h.1 k.1
step_one unique s (event.Arrive port p at) (answer.Sent number) t u h k = absurd h
step_one unique s (event.Arrive port p at) (answer.Ticked sources nodes proxies life) t u h k = absurd h
step_one unique s (event.Arrive port p at) (answer.Taken given) t u h k = absurd h
step_one unique s (event.Send octets at) answer.Own t u h k = absurd h
step_one unique s (event.Send octets at) (answer.Passed outlets) t u h k = absurd h
step_one unique s (event.Send octets at) (answer.Sent number) t u h k = h.1 ∙ sym k.1
step_one unique s (event.Send octets at) (answer.Ticked sources nodes proxies life) t u h k = absurd h
step_one unique s (event.Send octets at) (answer.Taken given) t u h k = absurd h
step_one unique s (event.Tick at) answer.Own t u h k = absurd h
step_one unique s (event.Tick at) (answer.Passed outlets) t u h k = absurd h
step_one unique s (event.Tick at) (answer.Sent number) t u h k = absurd h
step_one unique s (event.Tick at) (answer.Ticked sources nodes proxies life) t u h k = h.4 ∙ sym k.4
step_one unique s (event.Tick at) (answer.Taken given) t u h k = absurd h
step_one unique s (event.Take port) answer.Own t u h k = absurd h
step_one unique s (event.Take port) (answer.Passed outlets) t u h k = absurd h
step_one unique s (event.Take port) (answer.Sent number) t u h k = absurd h
step_one unique s (event.Take port) (answer.Ticked sources nodes proxies life) t u h k = absurd h
step_one unique s (event.Take port) (answer.Taken given) t u h k = h.1 ∙ sym k.1
