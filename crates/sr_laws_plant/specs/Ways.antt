-- Two boxes whose interlinks are joined, and ways over them.
use Rattle.std.specs.Prelude.{◌≡◌, ℕ, ◌⊎◌, Bool, true, false, not, ◌&&◌, List, [], ◌∷◌}
use Rattle.sr_frame.specs.declared.ports.Port.{Port}
use Rattle.sr_frame.specs.declared.ports.Port.TheVariants.{H, A, B, C}
use Rattle.sr_laws_plant.specs.Lists.{One}
use Rattle.sr_laws_plant.specs.Ports.{is_at, is_side}
use Rattle.sr_laws_plant.specs.Frames.{is_only, is_for, Frame}
use Rattle.sr_laws_plant.specs.Handlings.{Handling, IsSent}
use Rattle.sr_laws_plant.specs.OneNode.{Bars, Routes, CameIn}
use Rattle.sr_laws_plant.specs.Ledger.{Place, Net, PlantTurn, handlings, IsOpen}
use Rattle.sr_laws_plant.specs.RingParts.{Way, out_of, RingPart, SendsRound, IsWhole, IsBeside, Reaches, IsQuietRing}

-- the interlink of a box
abbrev pub interlink_of : ℕ → Place
interlink_of k = record { node = k; port = C }

-- the interlink of k leads to that of j, and nothing else leads to that of k than j
pub record AreJoined (net : Net) (r : RingPart) (k j : ℕ) : Type 0 where
  pub leads : One (λ h. h.to ≡ interlink_of j) (net k C)
  pub feeds : (u : ℕ) (o : Port) → r.all u ≡ true → One (λ h. h.to ≡ interlink_of k) (net u o) → (u ≡ j) × (o ≡ C)

-- a box lets over what is not for it alone, and sends it out at both sides where it comes over
pub record SendsOver (routes : Routes) (k : ℕ) : Type 0 where
  pub host : (f : Frame) → routes k f H C ≡ true
  pub over : (f : Frame) (p : Port) → is_side p ≡ true → is_only k f.dest ≡ false → routes k f p C ≡ true
  pub out : (f : Frame) (w : Way) → is_only k f.dest ≡ false → routes k f C (out_of w) ≡ true
  pub back : (f : Frame) (p : Port) → routes k f p C ≡ true → (p ≡ H) ⊎ (is_side p ≡ true)

-- up to the host what is for the box, and out at all other ports what is not for the box alone
abbrev pub from_link : ℕ → Frame → Port → Port → Bool
from_link k f inlet H = not f.supervision && is_for k f.dest
from_link k f inlet A = not (is_at A inlet) && not (is_only k f.dest)
from_link k f inlet B = not (is_at B inlet) && not (is_only k f.dest)
from_link k f inlet C = not (is_at C inlet) && not (is_only k f.dest)

-- the routes of a box between two rings
abbrev pub box_routes : ℕ → Frame → Port → Port → Bool
box_routes k f H o = not (is_at H o)
box_routes k f A o = from_link k f A o
box_routes k f B o = from_link k f B o
box_routes k f C o = from_link k f C o

-- one leg of a way: round a ring by so many links and one more to a box, and over to another box, which is in the next ring
pub record Leg : Type 0 where
  pub way : Way
  pub links : ℕ
  pub box : ℕ
  pub over : ℕ
  pub next : RingPart

-- a leg that is whole: its arc is, and its interlink is open
pub record IsLeg (net : Net) (routes : Routes) (rings : List RingPart) (f : Frame) (ts : List PlantTurn) (r : RingPart) (i : ℕ) (l : Leg) :
    Type 0 where
  pub whole : IsWhole net r f ts l.way i l.links l.box
  pub joined : AreJoined net l.next l.box l.over
  pub inside : l.next.inside l.over ≡ true
  pub part : One (λ x. x ≡ l.next) rings
  pub box : SendsOver routes l.box
  pub over : SendsOver routes l.over
  pub link : IsOpen net f ts (interlink_of l.over)

-- a way that is whole: legs, and an arc to its end
abbrev pub IsWay : Net → Routes → List RingPart → Frame → List PlantTurn → RingPart → ℕ → List Leg → Way → ℕ → ℕ → Type 0
IsWay net routes rings f ts r i [] w m j = IsWhole net r f ts w i m j
IsWay net routes rings f ts r i (l ∷ ls) w m j =
    IsLeg net routes rings f ts r i l × IsWay net routes rings f ts l.next l.over ls w m j

-- it reached the end, or the one member for which it is meant
abbrev pub IsThere : Routes → ℕ → Frame → List Handling → Type 0
IsThere routes j f ds =
    ((w : Way) × Reaches routes w j f ds)
    ⊎ ((k : ℕ) × (is_only k f.dest ≡ true) × ((p : Port) × (is_at H p ≡ false) × CameIn k p f ds))

-- From whichever member has a frame beside both its sides, over every way that is whole, through any number of rings.
abbrev pub WholeWaysBring : Type 0
WholeWaysBring =
    (net : Net) (routes : Routes) (bars : Bars) (rings : List RingPart) (ts : List PlantTurn) →
    ((r : RingPart) → One (λ x. x ≡ r) rings → IsQuietRing net routes bars r ts) →
    (f : Frame) → IsSent f (handlings ts) → is_only f.src f.dest ≡ false →
    (ls : List Leg) (r : RingPart) (i : ℕ) → One (λ x. x ≡ r) rings → r.inside i ≡ true →
    ((w : Way) → IsBeside w i f (handlings ts)) → (w : Way) (m j : ℕ) → IsWay net routes rings f ts r i ls w m j →
    IsThere routes j f (handlings ts)

-- the table of a box between rings lets frames round and over
abbrev pub BoxSends : Type 0
BoxSends = ((r : RingPart) → SendsRound box_routes r) × ((k : ℕ) → SendsOver box_routes k)
