-- Rings joined by boxes, and two of them.
use Rattle.std.specs.Prelude.{◌≡◌, ◌↔◌, ℕ, ◌+◌, ◌-◌, ◌<◌, ◌≤◌, nat_lt, Bool, true, false, not, ◌&&◌, ◌||◌, ◌==◌}
use Rattle.std.specs.Prelude.{List, [], ◌∷◌, map, if◌then◌else◌}
use Rattle.sr_frame.specs.declared.fields.Mac.{Mac}
use Rattle.sr_frame.specs.declared.ports.Port.TheVariants.{H, A, B, C}
use Rattle.sr_dup_window.specs.declared.lane_sets.Lanes.{Lanes}
use Rattle.sr_laws_plant.specs.Lists.{One, Each}
use Rattle.sr_laws_plant.specs.Frames.{Frame}
use Rattle.sr_laws_plant.specs.Handlings.{Handling}
use Rattle.sr_laws_plant.specs.OneNode.{Routes, IsSound, IsRouted}
use Rattle.sr_laws_plant.specs.Ledger.{Hop, Net, PlantTurn, IsOpen}
use Rattle.sr_laws_plant.specs.PlantEvents.{Plant, IsQuiet, History, turns, done_in, PlantRun}
use Rattle.sr_laws_plant.specs.Ideal.{IsIdeal, IsHanded, AreIdeal, AreOnce}
use Rattle.sr_laws_plant.specs.RingParts.{Way, RingPart, IsWhole}
use Rattle.sr_laws_plant.specs.Rings.{ring, beyond, danh_routes}
use Rattle.sr_laws_plant.specs.Ways.{interlink_of, AreJoined, SendsOver, box_routes}
use Rattle.sr_laws_plant.specs.Premises.{AreWithinLimits}
use Rattle.sr_laws_plant.specs.Tables.{HaveTables}
use Rattle.sr_laws_plant.specs.Widths.{Widths}

-- one part of a way: an arc of so many links and one more to a member of the same ring, or an interlink to a box of another ring
pub data Part : Type 0 where
  round : (way : Way) (links to : ℕ) → Part
  over : (next : RingPart) (to : ℕ) → Part

-- an interlink that is open from box i to box k, of another ring
pub record LeadsOver (net : Net) (routes : Routes) (rings : List RingPart) (f : Frame) (ts : List PlantTurn) (i : ℕ) (next : RingPart)
    (k : ℕ) : Type 0 where
  pub joined : AreJoined net next i k
  pub inside : next.inside k ≡ true
  pub part : One (λ x. x ≡ next) rings
  pub box : SendsOver routes i
  pub other : SendsOver routes k
  pub link : IsOpen net f ts (interlink_of k)

-- A way is a chain of such parts, from i in a ring to j; it is whole where each part is. It may begin and end at a box.
abbrev pub IsWholeWay : Net → Routes → List RingPart → Frame → List PlantTurn → RingPart → ℕ → List Part → ℕ → Type 0
IsWholeWay net routes rings f ts r i [] j = i ≡ j
IsWholeWay net routes rings f ts r i (round w m k ∷ parts) j = IsWhole net r f ts w i m k × IsWholeWay net routes rings f ts r k parts j
IsWholeWay net routes rings f ts r i (over next k ∷ parts) j =
    LeadsOver net routes rings f ts i next k × IsWholeWay net routes rings f ts next k parts j

-- Members 0 to left - 1, and behind them those of the right ring; so many boxes of the left are joined with as many of the right.
pub record TwoShape : Type 0 where
  pub left : ℕ
  pub right : ℕ
  pub joins : List (ℕ × ℕ)

abbrev pub all_members : TwoShape → ℕ
all_members s = s.left + s.right

abbrev pub is_left : TwoShape → ℕ → Bool
is_left s k = nat_lt k s.left

abbrev pub is_right : TwoShape → ℕ → Bool
is_right s k = not (nat_lt k s.left) && nat_lt k (s.left + s.right)

-- a box
abbrev pub is_joined : List (ℕ × ℕ) → ℕ → Bool
is_joined [] k = false
is_joined (j ∷ js) k = (k == j.0 || k == j.1) || is_joined js k

-- the joins lead from the left to the right, and no box has two
abbrev pub AreJoins : TwoShape → List (ℕ × ℕ) → Type 0
AreJoins s [] = Unit {0}
AreJoins s (j ∷ js) =
    (j.0 < s.left) × (s.left ≤ j.1) × (j.1 < s.left + s.right) × (is_joined js j.0 ≡ false) × (is_joined js j.1 ≡ false) × AreJoins s js

-- over the interlink of a box, where it has one; links are numbered in the order of the joins
abbrev pub over_hops : ℕ → List (ℕ × ℕ) → ℕ → List Hop
over_hops link [] k = []
over_hops link (j ∷ js) k =
    if k == j.0 then record { to = interlink_of j.1; links = link ∷ [] } ∷ []
    else if k == j.1 then record { to = interlink_of j.0; links = link ∷ [] } ∷ []
    else over_hops (link + 1) js k

-- a hop of the right ring
abbrev pub shifted : ℕ → Hop → Hop
shifted n h = record { to = record { node = n + h.to.node; port = h.to.port }; links = map (λ l. n + l) h.links }

abbrev pub two_rings : TwoShape → Net
two_rings s k H = []
two_rings s k A = if is_left s k then ring s.left k A else map (shifted s.left) (ring s.right (k - s.left) A)
two_rings s k B = if is_left s k then ring s.left k B else map (shifted s.left) (ring s.right (k - s.left) B)
two_rings s k C = over_hops (s.left + s.right) s.joins k

abbrev pub two_rings_routes : TwoShape → Routes
two_rings_routes s k f p o = if is_joined s.joins k then box_routes k f p o else danh_routes k f p o

abbrev pub left_ring : TwoShape → RingPart
left_ring s = record { all = λ k. nat_lt k (all_members s); inside = is_left s; beyond = beyond s.left }

abbrev pub right_ring : TwoShape → RingPart
right_ring s = record { all = λ k. nat_lt k (all_members s); inside = is_right s; beyond = λ w k. s.left + beyond s.right w (k - s.left) }

abbrev pub rings_of : TwoShape → List RingPart
rings_of s = left_ring s ∷ right_ring s ∷ []

-- what happened to it
pub record TwoRingsRun (s : TwoShape) (es : History) (p : Plant) : Type 0 where
  pub joins : AreJoins s s.joins
  pub run : PlantRun (two_rings s) es p
  pub members : Each (λ d. d.node < all_members s) (done_in es)
  pub routed : Each (IsRouted (two_rings_routes s)) (done_in es)
  pub sound : Each IsSound (done_in es)

pub record TwoRingsPremises (s : TwoShape) (mac : ℕ → Mac) (x : ℕ → Bool) (ws : Widths) (lanes : Handling → Lanes) (es : History)
    (p : Plant) : Type 0 where
  pub happened : TwoRingsRun s es p
  pub tables : HaveTables (all_members s) mac x ws lanes (two_rings s) es p happened.run
  pub limits : AreWithinLimits ws (done_in es)

-- a way to j from its source is whole for a frame
abbrev pub HasWholeWay : TwoShape → History → Frame → ℕ → Type 0
HasWholeWay s es f j =
    (r : RingPart) × One (λ x. x ≡ r) (rings_of s) × (r.inside f.src ≡ true)
    × ((parts : List Part) × IsWholeWay (two_rings s) (two_rings_routes s) (rings_of s) f (turns es) r f.src parts j)

abbrev pub LosesNothingOverRings : TwoShape → History → Type 0
LosesNothingOverRings s es = (f : Frame) (j : ℕ) → IsIdeal j f (done_in es) → HasWholeWay s es f j → IsHanded j f (done_in es)

-- where all that is ideal for j has a whole way, it is the ideal that j handed up
abbrev pub IsIdealOverRings : TwoShape → History → Type 0
IsIdealOverRings s es =
    (j : ℕ) → ((f : Frame) → IsIdeal j f (done_in es) → HasWholeWay s es f j) →
    (f : Frame) → IsHanded j f (done_in es) ↔ IsIdeal j f (done_in es)

abbrev pub TwoRingsHandUpTheIdeal : Type 0
TwoRingsHandUpTheIdeal = (s : TwoShape) (es : History) (p : Plant) → TwoRingsRun s es p → AreIdeal es

-- in whichever modes
abbrev pub TwoRingsLoseNothing : Type 0
TwoRingsLoseNothing =
    (s : TwoShape) (mac : ℕ → Mac) (x : ℕ → Bool) (ws : Widths) (lanes : Handling → Lanes) (es : History) (p : Plant) →
    TwoRingsPremises s mac x ws lanes es p →
    AreOnce es × (IsQuiet p → LosesNothingOverRings s es × IsIdealOverRings s es)

-- each join leads over, both ways: so ways over it are whole where its link is open
abbrev pub JoinsLeadOver : Type 0
JoinsLeadOver =
    (s : TwoShape) (f : Frame) (ts : List PlantTurn) (a b : ℕ) → AreJoins s s.joins → One (λ j. j ≡ (a, b)) s.joins →
    (IsOpen (two_rings s) f ts (interlink_of b) → LeadsOver (two_rings s) (two_rings_routes s) (rings_of s) f ts a (right_ring s) b)
    × (IsOpen (two_rings s) f ts (interlink_of a) → LeadsOver (two_rings s) (two_rings_routes s) (rings_of s) f ts b (left_ring s) a)
