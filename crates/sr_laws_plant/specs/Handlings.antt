-- What members do with numbered frames. Lists are newest first, so that what came before is the rest of the list.
use Rattle.std.specs.Prelude.{◌≡◌, ℕ, ◌+◌, ◌≤◌, Bool, true, false, ◌&&◌, ◌==◌, List, [], ◌∷◌, if◌then◌else◌}
use Rattle.sr_frame.specs.declared.ports.Port.{Port}
use Rattle.sr_frame.specs.declared.ports.Port.TheVariants.{H}
use Rattle.sr_laws_plant.specs.Limits.{first_number}
use Rattle.sr_laws_plant.specs.Lists.{One}
use Rattle.sr_laws_plant.specs.Ports.{is_at}
use Rattle.sr_laws_plant.specs.Frames.{Frame}

-- A member handles a numbered frame: it came in at a port, or the member itself numbered it, and then it comes from its host. The outlets
-- that want it, and those to which it went.
pub record Handling : Type 0 where
  pub node : ℕ
  pub inlet : Port
  pub frame : Frame
  pub time : ℕ
  pub wanted : Port → Bool
  pub went : Port → Bool

-- the member itself numbered the frame
abbrev pub is_sending : Handling → Bool
is_sending d = is_at H d.inlet

abbrev pub is_sending_of : ℕ → Handling → Bool
is_sending_of s d = is_sending d && (s == d.node)

-- how many frames a member has numbered
abbrev pub sent_count : ℕ → List Handling → ℕ
sent_count s [] = 0
sent_count s (d ∷ ds) = if is_sending_of s d then sent_count s ds + 1 else sent_count s ds

-- a member numbered this frame
abbrev pub IsSent : Frame → List Handling → Type 0
IsSent f ds = One (λ d. (is_sending d ≡ true) × (d.frame ≡ f)) ds

-- the frame takes the next number of its member
pub record IsSending (before : List Handling) (d : Handling) : Type 0 where
  pub own : d.frame.src ≡ d.node
  pub number : d.frame.number ≡ first_number + sent_count d.node before
  pub time : d.frame.time ≡ d.time

-- the frame was sent, and by another member
pub record IsArrival (before : List Handling) (d : Handling) : Type 0 where
  pub sent : IsSent d.frame before
  pub foreign : (d.node == d.frame.src) ≡ false

abbrev pub IsSendingOrArrival : Bool → List Handling → Handling → Type 0
IsSendingOrArrival true before d = IsSending before d
IsSendingOrArrival false before d = IsArrival before d

-- no time goes back
abbrev pub IsNotEarlier : List Handling → Handling → Type 0
IsNotEarlier [] d = Unit {0}
IsNotEarlier (e ∷ es) d = e.time ≤ d.time

-- each is a sending under the next number of its member, or an arrival of what another member had sent
abbrev pub AreConsistent : List Handling → Type 0
AreConsistent [] = Unit {0}
AreConsistent (d ∷ before) = AreConsistent before × IsNotEarlier before d × IsSendingOrArrival (is_sending d) before d
