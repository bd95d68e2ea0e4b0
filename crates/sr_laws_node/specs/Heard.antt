-- What a node hears in a run, and what it tells of it.
use Rattle.std.specs.Prelude.{◌≡◌, ℕ, not, ◌&&◌, List, [], ◌∷◌, ◌++◌, map, filter, option_to_list, is_some, Option, if◌then◌else◌}
use Rattle.sr_frame.specs.declared.fields.Mac.{Mac}
use Rattle.sr_frame.specs.declared.ports.Port.{Port}
use Rattle.sr_frame.specs.Addresses.{mac_eq}
use Rattle.sr_supervision.specs.declared.message.Supervision.{Supervision}
use Rattle.sr_forwarding.specs.declared.role_image.RoleImage.{RoleImage}
use Rattle.sr_forwarding.specs.RoleImages.{owned}
use Rattle.sr_forwarding.specs.Parcels.{ParcelImage}
use Rattle.sr_forwarding.specs.Headers.{header_of}
use Rattle.sr_node_table.specs.declared.node.Told.TheVariants.{Numbered}
use Rattle.sr_node_table.specs.Nodes.{Hearing, hearing_of, announcement}
use Rattle.sr_node_table.specs.Stating.{status_at, has_at}
use Rattle.sr_node_table.specs.Hearings.{is_heard, status_by, hearings_of}
use Rattle.sr_node_table.specs.Hearings as nodes
use Rattle.sr_node.specs.declared.event.Event.TheVariants as event
use Rattle.sr_node.specs.declared.event.Answer.TheVariants as answer
use Rattle.sr_node.specs.Images.{State, time_at}
use Rattle.sr_node.specs.Hearing.{SaysOf, is_network}
use Rattle.sr_laws_node.specs.Origins.{Origin}
use Rattle.sr_laws_node.specs.NodeRuns.{Turn, happened, swapped, RunFrom}

-- the source of a frame that comes in at A or B with a number is heard, unless the role owns it
abbrev pub of_source : RoleImage → Port → ParcelImage → ℕ → List Hearing
of_source r port p now =
    if is_network port && not (owned r (header_of p).src now)
    then map (λ seq. hearing_of (header_of p).src port (Numbered seq) now) (option_to_list p.seq)
    else []

-- the node of which such a frame speaks is heard too, unless it is this one
abbrev pub of_told : RoleImage → Port → ParcelImage → Option Supervision → ℕ → List Hearing
of_told r port p said now =
    if is_network port && is_some p.seq
    then map (λ s. announcement s port now) (filter (λ s. not (mac_eq s.mac r.mac)) (option_to_list said))
    else []

-- first the source is heard, and then the node of which the frame speaks; the latest stands first
abbrev pub after_frame : RoleImage → Port → ParcelImage → Option Supervision → ℕ → List nodes.Event → List nodes.Event
after_frame r port p said now before = map nodes.Hears (of_told r port p said now) ++ (map nodes.Hears (of_source r port p now) ++ before)

-- What happens to the table of nodes in a turn, after all that happened before, the latest first: hearings of a frame that is not
-- the node's own, and a prune as time passes.
abbrev pub Happens : Turn → List nodes.Event → List nodes.Event → Type 0
Happens (happened s (event.Arrive port p now) (answer.Passed outlets) n) before all =
    (said : Option Supervision) × SaysOf p said × (all ≡ after_frame s.role port p said (time_at s now) before)
Happens (happened s (event.Arrive port p now) answer.Own n) before all = all ≡ before
Happens (happened s (event.Arrive port p now) (answer.Sent number) n) before all = ⊥
Happens (happened s (event.Arrive port p now) (answer.Ticked sources nodes proxies life) n) before all = ⊥
Happens (happened s (event.Arrive port p now) (answer.Taken given) n) before all = ⊥
Happens (happened s (event.Send octets now) a n) before all = all ≡ before
Happens (happened s (event.Tick now) a n) before all = all ≡ nodes.Prunes (time_at s now) ∷ before
Happens (happened s (event.Take port) a n) before all = all ≡ before
Happens (swapped s r) before all = all ≡ before

-- what is heard in some turns
abbrev pub HappenIn : List Turn → List nodes.Event → Type 0
HappenIn [] all = all ≡ []
HappenIn (turn ∷ turns) all = (before : List nodes.Event) × HappenIn turns before × Happens turn before all

-- what the node tells of each address is what these hearings say of it
abbrev pub TellsOf : List nodes.Event → State → Type 0
TellsOf all t =
    (mac : Mac)
    → (status_at t.core.nodes mac t.core.time ≡ status_by (hearings_of mac all) mac t.core.time)
    × (has_at t.core.nodes mac t.core.time ≡ is_heard (hearings_of mac all) t.core.time)

-- in every run, the node tells of each address what its hearings in the run say
abbrev pub TellsWhatItHeard : Type 0
TellsWhatItHeard =
    (origin : Origin) (turns : List Turn) (t : State) → RunFrom origin turns t
    → (all : List nodes.Event) × HappenIn turns all × TellsOf all t

-- what happens to the table in some turns is one list
abbrev pub HappensOneWay : Type 0
HappensOneWay = (turns : List Turn) (all others : List nodes.Event) → HappenIn turns all → HappenIn turns others → all ≡ others
