-- What a worker asked of its node, call by call, and what came of it.
use Rattle.std.specs.Prelude.{◌≡◌, ◌≢◌, ◌≤◌, ℕ, ◌+◌, Bool, true, List, [], ◌∷◌, ◌++◌, map, length, Option, None, Some, MatchOption}
use Rattle.std.specs.declared.result.Result.{Result}
use Rattle.std.specs.declared.result.Result.TheVariants.{Ok, Err}
use Rattle.sr_forwarding.specs.Framings.{FramingImage}
use Rattle.sr_node.specs.declared.event.Event.{Event}
use Rattle.sr_node.specs.declared.event.Answer.{Answer}
use Rattle.sr_ports.specs.declared.fault.EnterFault.{EnterFault}
use Rattle.sr_ports.specs.declared.worker.Worker.{Worker}
use Rattle.sr_workers.specs.declared.fault.WorkerFault.{WorkerFault}
use Rattle.sr_workers.specs.declared.fault.WorkerFault.TheVariants.{NoMemory, JournalFull}
use Rattle.sr_workers.specs.Ends.{stop_of}
use Rattle.sr_workers.specs.Told.{Told}
use Rattle.sr_workers.specs.Work.{IsEventOf, HasNoEvent, brought_by}

-- an event that was to be entered, and what came of it
abbrev pub Call : Type 0
Call = Event × Result Answer EnterFault

-- how events are entered: that an event led from one state to another, with this answer or refusal
abbrev pub EntersBy : Type 0 → Type 1
EntersBy E = E → Event → Result Answer EnterFault → E → Type 0

-- these calls, one after the other, led from one state to another
pub data LedBy {E : Type 0} (enters : EntersBy E) : E → List Call → E → Type 0 where
  none : (s : E) → LedBy enters s [] s
  call : (s m t : E) (e : Event) (r : Result Answer EnterFault) (cs : List Call)
      → enters s e r m → LedBy enters m cs t → LedBy enters s ((e, r) ∷ cs) t

-- the events that were entered, with their answers
abbrev pub answered_by : Event → Result Answer EnterFault → List (Event × Answer)
answered_by e (Ok a) = (e, a) ∷ []
answered_by e (Err fault) = []

abbrev pub answered_in : List Call → List (Event × Answer)
answered_in [] = []
answered_in (c ∷ cs) = answered_by c.0 c.1 ++ answered_in cs

-- the calls but for the takes
abbrev pub fed_by : Call → List Call
fed_by c = map (λ e. (e, c.1)) (brought_by c.0)

abbrev pub fed_in : List Call → List Call
fed_in [] = []
fed_in (c ∷ cs) = fed_by c ++ fed_in cs

-- why a call stops the worker; an answer does not, and neither does a refusal by the node itself
abbrev pub stop_by : Result Answer EnterFault → Option WorkerFault
stop_by (Ok a) = None
stop_by (Err fault) = stop_of fault

-- how many events were refused by the node itself, so that the worker goes on
abbrev pub one_if_none : Option WorkerFault → ℕ
one_if_none None = 1
one_if_none (Some reason) = 0

abbrev pub refused_by : Result Answer EnterFault → ℕ
refused_by (Ok a) = 0
refused_by (Err fault) = one_if_none (stop_of fault)

abbrev pub refused_in : List Call → ℕ
refused_in [] = 0
refused_in (c ∷ cs) = refused_by c.1 + refused_in cs

-- a call that stops the worker is its last, and the worker stops with that fault; that the journal is full is told of no other
abbrev pub StopsBy : List Call → Option WorkerFault → Type 0
StopsBy [] why = why ≢ Some JournalFull
StopsBy (c ∷ cs) why = MatchOption (stop_by c.1) (StopsBy cs why) (λ reason. (cs ≡ []) × (why ≡ Some reason))

-- what was handed out led to these calls, in order, with so many between them of which no event comes
pub data LedTo (w : Worker) (f : FramingImage) : List Told → List Call → ℕ → Type 0 where
  nothing : LedTo w f [] [] 0
  called : (t : Told) (e : Event) (r : Result Answer EnterFault) (ts : List Told) (cs : List Call) (n : ℕ)
      → IsEventOf w f t e → LedTo w f ts cs n → LedTo w f (t ∷ ts) ((e, r) ∷ cs) n
  eventless : (t : Told) (ts : List Told) (cs : List Call) (n : ℕ)
      → HasNoEvent w f t → LedTo w f ts cs n → LedTo w f (t ∷ ts) cs (1 + n)

-- A worker asked its node by these calls and by no other: each event of its log was answered so, in this order, and what its feed
-- handed out led to one call each, but for what has no event, and for one thing at most where an allocation failed. Unread is just that
-- which has no event or was refused.
pub record Called {E : Type 0} (enters : EntersBy E) (tells : Bool) (w : Worker) (f : FramingImage) (why : Option WorkerFault)
    (s t : E) (handed handed' : List Told) (pairs pairs' : List (Event × Answer)) (unread unread' : ℕ) : Type 0 where
  pub calls : List Call
  pub told : List Told
  pub lost : List Told
  pub bare : ℕ
  pub led : LedBy enters s calls t
  pub log : pairs' ≡ pairs ++ answered_in calls
  pub fed : LedTo w f told (fed_in calls) bare
  pub told_is : tells ≡ true → handed' ≡ handed ++ told ++ lost
  pub few : length lost ≤ 1
  pub kept : why ≢ Some NoMemory → lost ≡ []
  pub counted : unread' ≡ unread + bare + refused_in calls
  pub stops : StopsBy calls why
