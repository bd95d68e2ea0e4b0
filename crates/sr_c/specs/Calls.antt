-- What a call at a handle comes to, by what the node behind it does.
use Rattle.std.specs.Prelude.{◌≡◌, ◌≢◌, ◌⊎◌, ℕ, List, length, take, Option, None, Some, OnErr}
use Rattle.std.specs.declared.result.Result.{Result}
use Rattle.std.specs.declared.result.Result.TheVariants.{Err}
use Rattle.sr_frame.specs.declared.ports.Port.{Port}
use Rattle.sr_frame.specs.declared.ports.Port.TheVariants.{H}
use Rattle.sr_forwarding.specs.declared.outlets.Outlets.{Outlets}
use Rattle.sr_forwarding.specs.Kinds.{carriage}
use Rattle.sr_node.specs.declared.event.Answer.{Answer}
use Rattle.sr_node.specs.declared.event.Event.TheVariants.{Send, Tick}
use Rattle.sr_node.specs.declared.fault.StepFault.{StepFault}
use Rattle.sr_node.specs.declared.fault.StepFault.TheVariants as fault
use Rattle.sr_node.specs.Arriving.{arrival_answer}
use Rattle.sr_node.specs.Images.{State}
use Rattle.sr_node.specs.Octets.{TakesOctets}
use Rattle.sr_node.specs.Steps.{TakesEvent}
use Rattle.sr_node.specs.Outboxes.{box_at}
use Rattle.sr_endpoint.specs.declared.endpoint.Endpoint.{Endpoint}
use Rattle.sr_endpoint.specs.declared.setup.Setup.{Setup}
use Rattle.sr_dup_table.specs.declared.fault.DupFault.{DupFault}
use Rattle.sr_endpoint.specs.AlarmLogs.{Looks, no_alarms}
use Rattle.sr_endpoint.specs.Counting.{after_arrival, after_reception, after_taken, no_traffic}
use Rattle.sr_endpoint.specs.Endpoints.{IsFirstOut, new_state, state_by}
use Rattle.sr_endpoint.specs.Snapshots.{JoinsSnapshot, RefusesSnapshot, TakesOver}
use Rattle.sr_c.specs.Codes.{argument, closed, snapshot_code, no_memory, opened, received_code, stepped_code, taken_over_code}

-- A call at a handle, of which it is told what it kept and what it keeps then. A closed handle stays closed and answers what a closed one
-- answers; an open one stays open, and its node goes from one to the other.
abbrev pub AtNode : Option Endpoint → Option Endpoint → Type 0 → (Endpoint → Endpoint → Type 0) → Type 0
AtNode None None Closed Does = Closed
AtNode None (Some f) Closed Does = ⊥
AtNode (Some e) None Closed Does = ⊥
AtNode (Some e) (Some f) Closed Does = Does e f

-- a handle is opened for a new node of a setup. An open one is refused; without a setup an argument is; else it is opened, or an allocation
-- failed
abbrev pub OpensAs : Option Setup → ℕ → Option Endpoint → Option Endpoint → Type 0
OpensAs setup code (Some e) new = (code ≡ opened) × (new ≡ Some e)
OpensAs None code None new = (code ≡ argument) × (new ≡ None)
OpensAs (Some setup) code None None = code ≡ no_memory
OpensAs (Some setup) code None (Some f) = (code ≡ 0) × (state_by f ≡ new_state setup) × (f.counters ≡ no_traffic) × (f.log ≡ no_alarms)

-- A handle is opened for a node that goes on with what a snapshot says. An open one is refused; without a setup an argument is; else it is
-- opened, or the snapshot is refused.
abbrev pub ResumesAs : Option Setup → List ℕ → ℕ → Option Endpoint → Option Endpoint → Type 0
ResumesAs setup octets code (Some e) new = (code ≡ opened) × (new ≡ Some e)
ResumesAs None octets code None new = (code ≡ argument) × (new ≡ None)
ResumesAs (Some setup) octets code None None =
    (fault : DupFault) × RefusesSnapshot (new_state setup) octets fault × (code ≡ snapshot_code fault)
ResumesAs (Some setup) octets code None (Some f) =
    (code ≡ 0) × JoinsSnapshot (new_state setup) octets (state_by f) × (f.counters ≡ no_traffic) × (f.log ≡ no_alarms)

-- a node takes over what a snapshot says, or refuses it and stays
abbrev pub AbsorbsAs : List ℕ → ℕ → Endpoint → Endpoint → Type 0
AbsorbsAs octets code e f =
    (outcome : Result (Unit {0}) DupFault)
    × TakesOver (state_by e) octets outcome (state_by f)
    × (code ≡ taken_over_code outcome)
    × (f.counters ≡ e.counters)
    × (f.log ≡ e.log)

-- a handle is closed; one that is closed already is refused
abbrev pub ClosesAs : ℕ → Option Endpoint → Option Endpoint → Type 0
ClosesAs code None new = (code ≡ closed) × (new ≡ None)
ClosesAs code (Some e) new = (code ≡ 0) × (new ≡ None)

-- octets come in at the port of a number
abbrev pub ReceivesAs : Option Port → List ℕ → ℕ → ℕ → Endpoint → Endpoint → Type 0
ReceivesAs None octets now code e f = (code ≡ argument) × (f ≡ e)
ReceivesAs (Some port) octets now code e f =
    (outcome : Result (Option Outlets) StepFault)
    × TakesOctets arrival_answer (carriage (state_by e).role.kind port) (state_by e) port octets now outcome (state_by f)
    × (code ≡ received_code outcome)
    × (f.counters ≡ after_reception e.counters port outcome)
    × (f.log ≡ e.log)

-- The host sends octets. What is answered, want of memory apart, is what the node answers; a fault changes nothing. (An allocation of the
-- library may fail before the node looks at the frame.)
abbrev pub SendsAs : List ℕ → ℕ → ℕ → Endpoint → Endpoint → Type 0
SendsAs octets now code e f =
    (outcome : Result Answer StepFault)
    × (outcome ≢ Err fault.NoMemory → TakesEvent (state_by e) (Send octets now) outcome (state_by f))
    × OnErr outcome (state_by f ≡ state_by e)
    × (code ≡ stepped_code outcome)
    × (f.counters ≡ after_arrival e.counters H outcome)
    × (f.log ≡ e.log)

-- time passes
abbrev pub PassesTimeAs : ℕ → ℕ → Endpoint → Endpoint → Type 0
PassesTimeAs now code e f =
    (outcome : Result Answer StepFault)
    × TakesEvent (state_by e) (Tick now) outcome (state_by f)
    × (code ≡ stepped_code outcome)
    × (f.counters ≡ e.counters)
    × Looks (state_by f).core.nodes.alarms e.log f.log

-- the first frame that waits at the port of a number is given out, as so many octets of a buffer; or none is, and nothing changes
abbrev pub GivesAs : Option Port → ℕ → List ℕ → Endpoint → Endpoint → Type 0
GivesAs None count buffer e f = (count ≡ 0) × (f ≡ e)
GivesAs (Some port) count buffer e f =
    (count ≢ 0 → IsFirstOut (state_by e) port (take count buffer) (state_by f) × (f.counters ≡ after_taken e.counters port))
    × (count ≡ 0 → (state_by f ≡ state_by e) × (f.counters ≡ e.counters))
    × (f.log ≡ e.log)

-- how many parcels wait at the port of a number
abbrev pub waiting_at : Option Port → State → ℕ
waiting_at None s = 0
waiting_at (Some port) s = length (box_at s.core.out port)

-- an entry is told so; or an allocation failed, and it stays
abbrev pub TellsOrNoMemory : {E : Type 0} → (ℕ → E → E → Type 0) → ℕ → E → E → Type 0
TellsOrNoMemory Tells code old new = Tells code old new ⊎ ((code ≡ no_memory) × (new ≡ old))
