-- Three examples that compute: a ring with a cut link, two LANs of which one loses a copy, and a ring in mode X. All premises of the laws
-- hold of them.
use Rattle.std.specs.Prelude.{if◌then◌else◌, ◌==◌, ◌≡◌, ℕ, Bool, true, false, ◌||◌, List, [], ◌∷◌, Some}
use Rattle.sr_frame.specs.declared.fields.Mac.{Mac}
use Rattle.sr_frame.specs.declared.ports.Port.{Port}
use Rattle.sr_frame.specs.declared.ports.Port.TheVariants.{H, A, B, C}
use Rattle.sr_dup_window.specs.declared.lane_sets.Lane.{Lane}
use Rattle.sr_dup_window.specs.declared.lane_sets.Lane.TheVariants as lane
use Rattle.sr_dup_window.specs.declared.lane_sets.Lanes.{Lanes}
use Rattle.sr_dup_window.specs.LaneSets.{lanes_where}
use Rattle.sr_laws_plant.specs.Limits.{first_number}
use Rattle.sr_laws_plant.specs.Ports.{is_at, is_side}
use Rattle.sr_laws_plant.specs.Frames.{group, Frame}
use Rattle.sr_laws_plant.specs.Handlings.{Handling}
use Rattle.sr_laws_plant.specs.OneNode.{Routes, WasPut, handed}
use Rattle.sr_laws_plant.specs.Ledger.{Copy, PlantTurn, IsOpen}
use Rattle.sr_laws_plant.specs.PlantEvents.{send, carry, drop, cut, Plant, IsQuiet, idle_turn, History, turns, done_in}
use Rattle.sr_laws_plant.specs.Ideal.{IsIdeal}
use Rattle.sr_laws_plant.specs.Rings.{ring, danh_routes}
use Rattle.sr_laws_plant.specs.TwinLans.{danp_routes}
use Rattle.sr_laws_plant.specs.RingLaws.{RingPremises, HasWholeArc}
use Rattle.sr_laws_plant.specs.LanLaws.{LanPremises, HasWholeCopy}
use Rattle.sr_laws_plant.specs.Widths.{Widths, all_narrow}
use Rattle.sr_dup_table.specs.Limits.{window, wide_window}

-- member k has the address 02:00:00:00:00:k
abbrev pub mac : ℕ → Mac
mac k = record { 0 = 2 ∷ 0 ∷ 0 ∷ 0 ∷ 0 ∷ k ∷ [] }

-- no member is in mode X
abbrev pub no_one : ℕ → Bool
no_one k = false

-- each member is in mode X
abbrev pub each_one : ℕ → Bool
each_one k = true

-- the lanes of the wanted outlets, and that of the port where it came in
abbrev pub is_noted : Handling → Lane → Bool
is_noted d lane.H = d.wanted H
is_noted d lane.A = d.wanted A
is_noted d lane.B = d.wanted B
is_noted d lane.C = d.wanted C || is_at C d.inlet
is_noted d lane.GotA = is_at A d.inlet
is_noted d lane.GotB = is_at B d.inlet

abbrev pub lanes_noted : Handling → Lanes
lanes_noted d = lanes_where (is_noted d)

-- the first frame of member 0, for all
abbrev pub f : Frame
f = record { src = 0; number = first_number; dest = group; supervision = false; time = 0; octets = [] }

abbrev pub sent : Handling
sent = record { node = 0; inlet = H; frame = f; time = 0; wanted = is_side; went = is_side }

-- it comes in at a member, and goes to all outlets that want it
abbrev pub first_copy : Routes → ℕ → Port → Handling
first_copy routes k p = record { node = k; inlet = p; frame = f; time = 0; wanted = routes k f p; went = routes k f p }

-- it comes in again, and goes to none
abbrev pub second_copy : Routes → ℕ → Port → Handling
second_copy routes k p = record { node = k; inlet = p; frame = f; time = 0; wanted = routes k f p; went = λ o. false }

abbrev pub copy_to : ℕ → Port → List ℕ → Copy
copy_to k p links = record { hop = record { to = record { node = k; port = p }; links = links }; frame = f }

-- a member takes the copy, and of what it puts out these are lost
abbrev pub taken : Handling → Copy → List Copy → PlantTurn
taken d c lost = record { did = Some d; doubled = []; lost = lost; came = c ∷ [] }

-- A ring of three: link 0 is cut, member 0 sends, and the frame goes backward to member 2 and on to member 1. What is put on link 0
-- is lost.
abbrev pub ring_events : History
ring_events =
    (carry 0, taken (first_copy danh_routes 1 B) (copy_to 1 B (1 ∷ [])) (copy_to 0 B (0 ∷ []) ∷ []))
    ∷ (carry 0, taken (first_copy danh_routes 2 B) (copy_to 2 B (2 ∷ [])) [])
    ∷ (send 0, record { did = Some sent; doubled = []; lost = copy_to 1 A (0 ∷ []) ∷ []; came = [] })
    ∷ (cut 0, idle_turn)
    ∷ []

-- it ends with nothing in flight
abbrev pub cut_ring : Plant
cut_ring = record { flight = []; cuts = 0 ∷ []; clock = 0 }

-- member 2 has a wide table, the others narrow ones
abbrev pub mixed : Widths
mixed = record { at = λ k. if k == 2 then wide_window else window; least = window; greatest = wide_window }

-- all premises hold; of the two arcs to member 1 one is whole, and the other is not; both members handed the frame up
pub record CutRingLosesNothing : Type 0 where
  pub premises : RingPremises 3 mac no_one mixed lanes_noted ring_events cut_ring
  pub quiet : IsQuiet cut_ring
  pub ideal : IsIdeal 1 f (done_in ring_events)
  pub whole : HasWholeArc 3 ring_events f 1
  pub lost : IsOpen (ring 3) f (turns ring_events) (record { node = 1; port = A }) → ⊥
  pub one : handed 1 (done_in ring_events) ≡ f ∷ []
  pub two : handed 2 (done_in ring_events) ≡ f ∷ []

-- Two LANs of three: member 0 sends; LAN A brings the frame to member 1 and loses it on the way to member 2; LAN B brings it to both, and
-- member 1 discards it.
abbrev pub lan_events : History
lan_events =
    (carry 0, taken (first_copy danp_routes 2 B) (copy_to 2 B (3 ∷ 5 ∷ [])) [])
    ∷ (carry 0, taken (second_copy danp_routes 1 B) (copy_to 1 B (3 ∷ 4 ∷ [])) [])
    ∷ (drop 0, record idle_turn { lost = copy_to 2 A (0 ∷ 2 ∷ []) ∷ [] })
    ∷ (carry 0, taken (first_copy danp_routes 1 A) (copy_to 1 A (0 ∷ 1 ∷ [])) [])
    ∷ (send 0, record { did = Some sent; doubled = []; lost = []; came = [] })
    ∷ []

abbrev pub quiet_lans : Plant
quiet_lans = record { flight = []; cuts = []; clock = 0 }

-- all premises hold, and both members handed the frame up, once each
pub record LostCopyLosesNothing : Type 0 where
  pub premises : LanPremises 3 mac no_one all_narrow lanes_noted lan_events quiet_lans
  pub quiet : IsQuiet quiet_lans
  pub ideal : IsIdeal 2 f (done_in lan_events)
  pub whole : HasWholeCopy 3 lan_events f 2
  pub one : handed 1 (done_in lan_events) ≡ f ∷ []
  pub two : handed 2 (done_in lan_events) ≡ f ∷ []

-- A ring of three in mode X: member 0 sends both ways, each of the others takes the copy of its side and sends it on to the other, and
-- there both copies stop.
abbrev pub mode_x_events : History
mode_x_events =
    (carry 0, taken (second_copy danh_routes 2 A) (copy_to 2 A (1 ∷ [])) [])
    ∷ (carry 0, taken (second_copy danh_routes 1 B) (copy_to 1 B (1 ∷ [])) [])
    ∷ (carry 0, taken (first_copy danh_routes 1 A) (copy_to 1 A (0 ∷ [])) [])
    ∷ (carry 0, taken (first_copy danh_routes 2 B) (copy_to 2 B (2 ∷ [])) [])
    ∷ (send 0, record { did = Some sent; doubled = []; lost = []; came = [] })
    ∷ []

abbrev pub quiet_ring : Plant
quiet_ring = record { flight = []; cuts = []; clock = 0 }

-- all premises hold; no second copy goes on to member 0, though it is wanted there and was never put out there; both members handed the
-- frame up, once each
pub record CopiesStopInModeX : Type 0 where
  pub premises : RingPremises 3 mac each_one all_narrow lanes_noted mode_x_events quiet_ring
  pub quiet : IsQuiet quiet_ring
  pub ideal : IsIdeal 1 f (done_in mode_x_events)
  pub whole : HasWholeArc 3 mode_x_events f 1
  pub wanted : danh_routes 2 f A B ≡ true
  pub unsent : WasPut 2 B f (done_in mode_x_events) → ⊥
  pub one : handed 1 (done_in mode_x_events) ≡ f ∷ []
  pub two : handed 2 (done_in mode_x_events) ≡ f ∷ []
