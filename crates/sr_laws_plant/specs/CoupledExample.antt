-- Two examples that compute: a ring with two LANs, one of which is cut off, and two rings with a cut link. All premises of the laws hold of
-- them.
use Rattle.std.specs.Prelude.{◌≡◌, ℕ, false, List, [], ◌∷◌, Some}
use Rattle.sr_frame.specs.declared.ports.Port.{Port}
use Rattle.sr_frame.specs.declared.ports.Port.TheVariants.{H, A, B, C}
use Rattle.sr_laws_plant.specs.Limits.{first_number}
use Rattle.sr_laws_plant.specs.Ports.{is_side}
use Rattle.sr_laws_plant.specs.Frames.{one, Frame}
use Rattle.sr_laws_plant.specs.Handlings.{Handling}
use Rattle.sr_laws_plant.specs.OneNode.{handed}
use Rattle.sr_laws_plant.specs.Ledger.{Copy}
use Rattle.sr_laws_plant.specs.PlantEvents.{send, carry, drop, cut, Plant, IsQuiet, idle_turn, History, done_in}
use Rattle.sr_laws_plant.specs.Ideal.{IsIdeal}
use Rattle.sr_laws_plant.specs.Examples.{mac, no_one, mixed, lanes_noted, taken}
use Rattle.sr_laws_plant.specs.RingLans.{Shape, ring_lan_routes, RingLanPremises, HasWholeWay}
use Rattle.sr_laws_plant.specs.TwoRings.{TwoShape, two_rings_routes, TwoRingsPremises}
use Rattle.sr_laws_plant.specs.TwoRings as rings

-- members 0 and 1 are the boxes of LAN A and of LAN B, 2 is a doubly attached node of the ring, and 3 one of the LANs
abbrev pub small : Shape
small = record { ring = 3; lan = 1; box_a = 0; box_b = 1 }

-- the first frame of member 3, for member 2 alone
abbrev pub g : Frame
g = record { src = 3; number = first_number; dest = one 2; supervision = false; time = 0; octets = [] }

abbrev pub sent_across : Handling
sent_across = record { node = 3; inlet = H; frame = g; time = 0; wanted = is_side; went = is_side }

-- it comes in at a member, and goes to all outlets that want it
abbrev pub arrives : ℕ → Port → Handling
arrives k p = record { node = k; inlet = p; frame = g; time = 0; wanted = ring_lan_routes small k g p; went = ring_lan_routes small k g p }

abbrev pub copy_at : ℕ → Port → List ℕ → Copy
copy_at k p links = record { hop = record { to = record { node = k; port = p }; links = links }; frame = g }

-- The link of member 3 in LAN A is cut. Its frame comes over LAN B to box 1, which puts it into the ring both ways, and into no LAN; box 0
-- sends it on to member 2, which has it from box 1 already. The second copy to member 2 is lost.
abbrev pub coupled_events : History
coupled_events =
    (drop 0, record idle_turn { lost = copy_at 2 B (2 ∷ []) ∷ [] })
    ∷ (carry 0, taken (arrives 2 A) (copy_at 2 A (1 ∷ [])) [])
    ∷ (carry 0, taken (arrives 0 B) (copy_at 0 B (0 ∷ [])) [])
    ∷ (carry 0, taken (arrives 1 C) (copy_at 1 C (5 ∷ 6 ∷ [])) [])
    ∷ (send 3, record { did = Some sent_across; doubled = []; lost = copy_at 0 C (3 ∷ 4 ∷ []) ∷ []; came = [] })
    ∷ (cut 3, idle_turn)
    ∷ []

abbrev pub quiet_network : Plant
quiet_network = record { flight = []; cuts = 3 ∷ []; clock = 0 }

-- all premises hold, a way over LAN B is whole, and member 2 handed the frame up
abbrev pub handed_at : ℕ → List Frame
handed_at j = handed j (done_in coupled_events)

pub record CutLanLosesNothing : Type 0 where
  pub premises : RingLanPremises small mac no_one mixed lanes_noted coupled_events quiet_network
  pub quiet : IsQuiet quiet_network
  pub ideal : IsIdeal 2 g (done_in coupled_events)
  pub whole : HasWholeWay small coupled_events g 2
  pub one : handed_at 2 ≡ g ∷ []

-- members 0 and 1 are those of the left ring, 2 and 3 those of the right one; 0 and 2 are boxes that are joined
abbrev pub small_rings : TwoShape
small_rings = record { left = 2; right = 2; joins = (0, 2) ∷ [] }

-- the first frame of member 1, for member 3 alone
abbrev pub h : Frame
h = record { src = 1; number = first_number; dest = one 3; supervision = false; time = 0; octets = [] }

abbrev pub sent_over : Handling
sent_over = record { node = 1; inlet = H; frame = h; time = 0; wanted = is_side; went = is_side }

abbrev pub arrives_over : ℕ → Port → Handling
arrives_over k p = record {
  node = k;
  inlet = p;
  frame = h;
  time = 0;
  wanted = two_rings_routes small_rings k h p;
  went = two_rings_routes small_rings k h p;
}

abbrev pub copy_of : ℕ → Port → List ℕ → Copy
copy_of k p links = record { hop = record { to = record { node = k; port = p }; links = links }; frame = h }

-- Link 1 of the left ring is cut. The frame comes to box 0 by link 0, goes over the join to box 2, and round the right ring both ways; what
-- box 0 sends on round its own ring is lost, and so is the second copy to member 3.
abbrev pub joined_events : History
joined_events =
    (drop 0, record idle_turn { lost = copy_of 3 A (2 ∷ []) ∷ [] })
    ∷ (carry 0, taken (arrives_over 3 B) (copy_of 3 B (3 ∷ [])) [])
    ∷ (carry 0, taken (arrives_over 2 C) (copy_of 2 C (4 ∷ [])) [])
    ∷ (carry 0, taken (arrives_over 0 B) (copy_of 0 B (0 ∷ [])) (copy_of 1 B (1 ∷ []) ∷ []))
    ∷ (send 1, record { did = Some sent_over; doubled = []; lost = copy_of 0 A (1 ∷ []) ∷ []; came = [] })
    ∷ (cut 1, idle_turn)
    ∷ []

abbrev pub quiet_pair : Plant
quiet_pair = record { flight = []; cuts = 1 ∷ []; clock = 0 }

-- all premises hold, a way over the join is whole, and member 3 handed the frame up
abbrev pub handed_over : ℕ → List Frame
handed_over j = handed j (done_in joined_events)

pub record CutJoinedRingLosesNothing : Type 0 where
  pub premises : TwoRingsPremises small_rings mac no_one mixed lanes_noted joined_events quiet_pair
  pub quiet : IsQuiet quiet_pair
  pub ideal : IsIdeal 3 h (done_in joined_events)
  pub whole : rings.HasWholeWay small_rings joined_events h 3
  pub one : handed_over 3 ≡ h ∷ []
