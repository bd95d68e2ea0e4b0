-- A ring with two boxes of one PRP network, one in each of its LANs, and doubly attached nodes of these LANs (IEC 62439-3 clauses 4 and 5).
use Rattle.std.specs.Prelude.{◌≡◌, ◌≢◌, ◌↔◌, ◌⊎◌, ℕ, zero, suc, ◌+◌, ◌*◌, ◌<◌, nat_lt, Bool, true, false, not, ◌&&◌, ◌||◌, ◌==◌}
use Rattle.std.specs.Prelude.{List, [], ◌∷◌, ◌++◌, if◌then◌else◌}
use Rattle.sr_frame.specs.declared.fields.Mac.{Mac}
use Rattle.sr_frame.specs.declared.ports.Port.{Port}
use Rattle.sr_frame.specs.declared.ports.Port.TheVariants.{H, A, B, C}
use Rattle.sr_dup_window.specs.declared.lane_sets.Lanes.{Lanes}
use Rattle.sr_laws_plant.specs.Lists.{Each}
use Rattle.sr_laws_plant.specs.Frames.{is_only, Frame}
use Rattle.sr_laws_plant.specs.Handlings.{Handling}
use Rattle.sr_laws_plant.specs.OneNode.{Routes, IsSound, IsRouted}
use Rattle.sr_laws_plant.specs.Ledger.{Hop, Net, made_in, lost_in}
use Rattle.sr_laws_plant.specs.PlantEvents.{Plant, IsQuiet, History, turns, done_in, PlantRun}
use Rattle.sr_laws_plant.specs.Ideal.{IsIdeal, IsHanded, AreIdeal, AreOnce}
use Rattle.sr_laws_plant.specs.RingParts.{Way, RingPart, IsWhole}
use Rattle.sr_laws_plant.specs.Rings.{ring, beyond, danh_routes}
use Rattle.sr_laws_plant.specs.TwinLans.{danp_routes, IsWholeInLans}
use Rattle.sr_laws_plant.specs.Ways.{interlink_of, box_routes}
use Rattle.sr_laws_plant.specs.Premises.{AreAddressed, AreWithinLimits}
use Rattle.sr_laws_plant.specs.Steadiness.{AllSteady}
use Rattle.sr_laws_plant.specs.Tables.{HaveTables}
use Rattle.sr_laws_plant.specs.Widths.{Widths, AreWidths}

-- Members 0 to ring - 1 are those of the ring, among them the boxes of LAN A and of LAN B; behind them so many doubly attached nodes.
pub record Shape : Type 0 where
  pub ring : ℕ
  pub lan : ℕ
  pub box_a : ℕ
  pub box_b : ℕ

-- the boxes are members of the ring
pub record IsShape (s : Shape) : Type 0 where
  pub a_inside : s.box_a < s.ring
  pub b_inside : s.box_b < s.ring

abbrev pub size : Shape → ℕ
size s = s.ring + s.lan

abbrev pub is_in_ring : Shape → ℕ → Bool
is_in_ring s k = nat_lt k s.ring

abbrev pub is_box : Shape → ℕ → Bool
is_box s k = k == s.box_a || k == s.box_b

-- the doubly attached nodes other than k, ascending
abbrev pub others : ℕ → ℕ → ℕ → List ℕ
others r zero k = []
others r (suc d) k = if r + d == k then others r d k else others r d k ++ (r + d) ∷ []

-- a copy to each of these at a port, on its sender's link and its receiver's
abbrev pub lan_copies : Port → ℕ → ℕ → List ℕ → List Hop
lan_copies p own first [] = []
lan_copies p own first (j ∷ js) =
    record { to = record { node = j; port = p }; links = own ∷ (first + j) ∷ [] } ∷ lan_copies p own first js

-- The links of the ring come first, as in a ring; then those of LAN A, of the doubly attached nodes in order and of its box; then those of
-- LAN B.
abbrev pub ring_lan : Shape → Net
ring_lan s k H = []
ring_lan s k A =
    if is_in_ring s k then ring s.ring k A
    else record { to = interlink_of s.box_a; links = k ∷ (s.ring + s.lan) ∷ [] } ∷ lan_copies A k 0 (others s.ring s.lan k)
ring_lan s k B =
    if is_in_ring s k then ring s.ring k B
    else record { to = interlink_of s.box_b; links = (s.lan + 1 + k) ∷ (s.ring + 2 * s.lan + 1) ∷ [] }
    ∷ lan_copies B (s.lan + 1 + k) (s.lan + 1) (others s.ring s.lan k)
ring_lan s k C =
    if k == s.box_a then lan_copies A (s.ring + s.lan) 0 (others s.ring s.lan k)
    else if k == s.box_b then lan_copies B (s.ring + 2 * s.lan + 1) (s.lan + 1) (others s.ring s.lan k)
    else []

-- a box does not put into its LAN what a node of the LANs numbered
abbrev pub lan_box_routes : Shape → ℕ → Frame → Port → Port → Bool
lan_box_routes s k f p H = box_routes k f p H
lan_box_routes s k f p A = box_routes k f p A
lan_box_routes s k f p B = box_routes k f p B
lan_box_routes s k f H C = true
lan_box_routes s k f A C = not (is_only k f.dest) && is_in_ring s f.src
lan_box_routes s k f B C = not (is_only k f.dest) && is_in_ring s f.src
lan_box_routes s k f C C = false

abbrev pub ring_lan_routes : Shape → Routes
ring_lan_routes s k f p o =
    if is_in_ring s k
    then (if is_box s k then lan_box_routes s k f p o else danh_routes k f p o)
    else danp_routes k f p o

-- the ring as a part of it
abbrev pub ring_of : Shape → RingPart
ring_of s = record { all = λ k. nat_lt k (size s); inside = is_in_ring s; beyond = beyond s.ring }

-- what happened to it
pub record RingLanRun (s : Shape) (es : History) (p : Plant) : Type 0 where
  pub shape : IsShape s
  pub run : PlantRun (ring_lan s) es p
  pub members : Each (λ d. d.node < size s) (done_in es)
  pub routed : Each (IsRouted (ring_lan_routes s)) (done_in es)
  pub sound : Each IsSound (done_in es)

-- all premises, as for a ring
pub record RingLanPremises (s : Shape) (mac : ℕ → Mac) (x : ℕ → Bool) (ws : Widths) (lanes : Handling → Lanes) (es : History)
    (p : Plant) : Type 0 where
  pub happened : RingLanRun s es p
  pub tables : HaveTables (size s) mac x ws lanes (ring_lan s) es p happened.run
  pub limits : AreWithinLimits ws (done_in es)

-- a box to which a LAN brings the frame: not all copies for it were lost
pub record IsBrought (s : Shape) (es : History) (f : Frame) (box : ℕ) : Type 0 where
  pub is : is_box s box ≡ true
  pub whole : lost_in (interlink_of box) f (turns es) ≢ made_in (ring_lan s) (interlink_of box) f (turns es)

abbrev pub HasArc : Shape → History → Frame → ℕ → ℕ → Type 0
HasArc s es f i j = (w : Way) × (m : ℕ) × IsWhole (ring_lan s) (ring_of s) f (turns es) w i m j

-- A way to j is whole: of the last part in the LANs not all copies for j were lost; or an arc from a source in the ring is whole; or a LAN
-- brings it to a box which is j, or from which an arc is whole.
abbrev pub HasWholeWay : Shape → History → Frame → ℕ → Type 0
HasWholeWay s es f j =
    ((is_in_ring s j ≡ false) × IsWholeInLans (ring_lan s) f (turns es) j)
    ⊎ (((is_in_ring s f.src ≡ true) × HasArc s es f f.src j)
    ⊎ ((box : ℕ) × IsBrought s es f box × ((box ≡ j) ⊎ HasArc s es f box j)))

abbrev pub LosesNothingOver : Shape → History → Type 0
LosesNothingOver s es = (f : Frame) (j : ℕ) → IsIdeal j f (done_in es) → HasWholeWay s es f j → IsHanded j f (done_in es)

-- where all that is ideal for j has a whole way, it is the ideal that j handed up
abbrev pub IsIdealOver : Shape → History → Type 0
IsIdealOver s es =
    (j : ℕ) → ((f : Frame) → IsIdeal j f (done_in es) → HasWholeWay s es f j) →
    (f : Frame) → IsHanded j f (done_in es) ↔ IsIdeal j f (done_in es)

-- no frame that a node of the LANs numbered is put into a LAN by a box
abbrev pub NoneGoesBack : Type 0
NoneGoesBack =
    (s : Shape) (es : History) (p : Plant) → RingLanRun s es p →
    Each (λ d. d.went C ≡ true → is_in_ring s d.frame.src ≡ true) (done_in es)

abbrev pub RingLanHandsUpTheIdeal : Type 0
RingLanHandsUpTheIdeal = (s : Shape) (es : History) (p : Plant) → RingLanRun s es p → AreIdeal es

abbrev pub RingLanIsSteady : Type 0
RingLanIsSteady =
    (s : Shape) (mac : ℕ → Mac) (ws : Widths) (es : History) (p : Plant) → RingLanRun s es p → AreAddressed mac (size s) → AreWidths ws →
    AreWithinLimits ws (done_in es) → AllSteady ws mac (done_in es)

-- in whichever modes
abbrev pub RingLanLosesNothing : Type 0
RingLanLosesNothing =
    (s : Shape) (mac : ℕ → Mac) (x : ℕ → Bool) (ws : Widths) (lanes : Handling → Lanes) (es : History) (p : Plant) →
    RingLanPremises s mac x ws lanes es p → AreOnce es × (IsQuiet p → LosesNothingOver s es × IsIdealOver s es)
