-- A part of a plant that is a ring. Its members may have other links too.
use Rattle.std.specs.Prelude.{◌≡◌, ℕ, zero, suc, ◌⊎◌, Bool, true, false, List, []}
use Rattle.sr_frame.specs.declared.ports.Port.{Port}
use Rattle.sr_frame.specs.declared.ports.Port.TheVariants.{H, A, B, C}
use Rattle.sr_laws_plant.specs.Lists.{One, Each}
use Rattle.sr_laws_plant.specs.Ports.{is_side}
use Rattle.sr_laws_plant.specs.Frames.{is_only, Frame}
use Rattle.sr_laws_plant.specs.Handlings.{Handling, IsSent, AreConsistent}
use Rattle.sr_laws_plant.specs.OneNode.{Bars, Routes, CameIn, WasPut, IsExactAt, IsSound, IsRouted}
use Rattle.sr_laws_plant.specs.Ledger.{Place, Net, PlantTurn, handlings, IsOpen, LedgerRun}

-- two ways round: out of B and in at A of the next member, or out of A and in at B of the member before
pub data Way : Type 0 where
  onward backward : Way

abbrev pub out_of : Way → Port
out_of onward = B
out_of backward = A

abbrev pub in_to : Way → Port
in_to onward = A
in_to backward = B

-- the members of the whole plant, those of this ring, and each one's neighbours in it
pub record RingPart : Type 0 where
  pub all : ℕ → Bool
  pub inside : ℕ → Bool
  pub beyond : Way → ℕ → ℕ

-- where that comes in which a member puts out that way
abbrev pub place_beyond : RingPart → Way → ℕ → Place
place_beyond r w k = record { node = r.beyond w k; port = in_to w }

-- the plant joins neighbours so, and nothing else leads to their sides
pub record IsRingPart (net : Net) (r : RingPart) : Type 0 where
  pub closed : (w : Way) (k : ℕ) → r.inside k ≡ true → r.inside (r.beyond w k) ≡ true
  pub leads : (w : Way) (k : ℕ) → r.inside k ≡ true → One (λ h. h.to ≡ place_beyond r w k) (net k (out_of w))
  pub feeds : (w : Way) (i u : ℕ) (o : Port) → r.inside i ≡ true → r.all u ≡ true →
      One (λ h. h.to ≡ record { node = i; port = out_of w }) (net u o) → (u ≡ r.beyond w i) × (o ≡ in_to w)

-- A member sends its own frames out both ways, and what is not for it alone from side to side. What it puts out at a side came from its
-- host, from the other side, or from an interlink from which it goes out at both.
pub record SendsRound (routes : Routes) (r : RingPart) : Type 0 where
  pub out : (k : ℕ) (f : Frame) (w : Way) → r.inside k ≡ true → routes k f H (out_of w) ≡ true
  pub on : (k : ℕ) (f : Frame) (w : Way) → r.inside k ≡ true → is_only k f.dest ≡ false → routes k f (in_to w) (out_of w) ≡ true
  pub back : (k : ℕ) (f : Frame) (p : Port) (w : Way) → r.inside k ≡ true → routes k f p (in_to w) ≡ true →
      (p ≡ H) ⊎ ((p ≡ out_of w) ⊎ ((p ≡ C) × (routes k f C (out_of w) ≡ true)))

-- An arc is whole for a frame: from a member that way round, each of so many links, and one more, is open, and they end at j.
abbrev pub IsWhole : Net → RingPart → Frame → List PlantTurn → Way → ℕ → ℕ → ℕ → Type 0
IsWhole net r f ts w i zero j = IsOpen net f ts (place_beyond r w i) × (r.beyond w i ≡ j)
IsWhole net r f ts w i (suc m) j = IsOpen net f ts (place_beyond r w i) × IsWhole net r f ts w (r.beyond w i) m j

-- a member put the frame out that way, or it came in from there
abbrev pub IsBeside : Way → ℕ → Frame → List Handling → Type 0
IsBeside w i f ds = WasPut i (out_of w) f ds ⊎ CameIn i (out_of w) f ds

-- it came in at a side, or at an interlink from which it goes out at the sides
abbrev pub CameRound : Routes → Way → ℕ → Frame → List Handling → Type 0
CameRound routes w k f ds =
    ((p : Port) × (is_side p ≡ true) × CameIn k p f ds)
    ⊎ ((routes k f C (out_of w) ≡ true) × CameIn k C f ds)

-- it reached j, or, on the way, the one member for which it is meant
abbrev pub Reaches : Routes → Way → ℕ → Frame → List Handling → Type 0
Reaches routes w j f ds =
    ((j ≡ f.src) ⊎ CameRound routes w j f ds)
    ⊎ ((k : ℕ) × (is_only k f.dest ≡ true) × CameRound routes w k f ds)

-- a plant with nothing in flight whose members keep the law of one node, and of which this part is a ring
pub record IsQuietRing (net : Net) (routes : Routes) (bars : Bars) (r : RingPart) (ts : List PlantTurn) : Type 0 where
  pub part : IsRingPart net r
  pub sends : SendsRound routes r
  pub run : LedgerRun net ts []
  pub consistent : AreConsistent (handlings ts)
  pub members : Each (λ d. r.all d.node ≡ true) (handlings ts)
  pub routed : Each (IsRouted routes) (handlings ts)
  pub sound : Each IsSound (handlings ts)
  pub exact : (k : ℕ) → IsExactAt bars k (handlings ts)

-- In any plant, round any part of it that is a ring, from whichever member has the frame beside the first link: an arc that is whole brings
-- it to its end.
abbrev pub WholeArcsBring : Type 0
WholeArcsBring =
    (net : Net) (routes : Routes) (bars : Bars) (r : RingPart) (ts : List PlantTurn) → IsQuietRing net routes bars r ts →
    (f : Frame) → IsSent f (handlings ts) → (w : Way) (i m j : ℕ) → r.inside i ≡ true → IsBeside w i f (handlings ts) →
    IsWhole net r f ts w i m j → Reaches routes w j f (handlings ts)
