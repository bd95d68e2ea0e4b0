-- What a member keeps of the law of one node.
use Rattle.std.specs.Prelude.{◌≡◌, ℕ, Bool, true, false, not, ◌&&◌, ◌||◌, ◌==◌, List, [], ◌∷◌, if◌then◌else◌}
use Rattle.std.specs.List.{list_any}
use Rattle.sr_frame.specs.declared.ports.Port.{Port}
use Rattle.sr_frame.specs.declared.ports.Port.TheVariants.{H, A, B, C}
use Rattle.sr_laws_plant.specs.Lists.{One}
use Rattle.sr_laws_plant.specs.Ports.{is_at}
use Rattle.sr_laws_plant.specs.Frames.{Frame, same_pair}
use Rattle.sr_laws_plant.specs.Handlings.{Handling}

-- A table of routes: whether a frame that came in at the first port of a member is to go out at the second.
abbrev pub Routes : Type 0
Routes = ℕ → Frame → Port → Port → Bool

-- it is wanted where the table says so
abbrev pub IsRouted : Routes → Handling → Type 0
IsRouted routes d = (o : Port) → d.wanted o ≡ routes d.node d.frame d.inlet o

-- it went nowhere unwanted
abbrev pub IsSound : Handling → Type 0
IsSound d = (o : Port) → d.went o ≡ true → d.wanted o ≡ true

-- The ports of each member from which a frame that came in there does not go out later: a copy that comes by another port is not sent
-- back there.
abbrev pub Bars : Type 0
Bars = ℕ → Port → Bool

-- At the interlink always, and at the sides of members in mode X. (Mode X: IEC 62439-3 clause 5)
abbrev pub bars_of : (ℕ → Bool) → Bars
bars_of x k H = false
bars_of x k A = x k
bars_of x k B = x k
bars_of x k C = true

-- the frame was wanted at that outlet, or came in there and does not go back
abbrev pub claims : Bars → Port → Handling → Bool
claims bars o e = e.wanted o || (bars e.node o && is_at o e.inlet)

-- an earlier copy at this member
abbrev pub is_copy : Handling → Handling → Bool
is_copy d e = d.node == e.node && same_pair d.frame e.frame

-- some earlier copy claims that outlet
abbrev pub had : Bars → List Handling → Handling → Port → Bool
had bars before d o = list_any (λ e. is_copy d e && claims bars o e) before

-- It went to each outlet that wants it and that no earlier copy claims, and to no other.
abbrev pub IsExact : Bars → List Handling → Handling → Type 0
IsExact bars before d = (o : Port) → d.went o ≡ (d.wanted o && not (had bars before d o))

-- so did this member all the time: in a steady run each pair goes once to each outlet that wants it
abbrev pub IsExactAt : Bars → ℕ → List Handling → Type 0
IsExactAt bars k [] = Unit {0}
IsExactAt bars k (d ∷ before) = IsExactAt bars k before × (d.node ≡ k → IsExact bars before d)

-- all members keep the law of one node, whichever ports they bar but the host's
pub record AreExact (bars : Bars) (ds : List Handling) : Type 0 where
  pub host : (k : ℕ) → bars k H ≡ false
  pub exact : (k : ℕ) → IsExactAt bars k ds

-- the member put this frame out there
abbrev pub Puts : ℕ → Port → Frame → Handling → Type 0
Puts k o f d = (d.node ≡ k) × (d.frame ≡ f) × (d.went o ≡ true)

abbrev pub WasPut : ℕ → Port → Frame → List Handling → Type 0
WasPut k o f ds = One (Puts k o f) ds

-- this frame came in there
abbrev pub ComesIn : ℕ → Port → Frame → Handling → Type 0
ComesIn k p f d = (d.node ≡ k) × (d.inlet ≡ p) × (d.frame ≡ f)

abbrev pub CameIn : ℕ → Port → Frame → List Handling → Type 0
CameIn k p f ds = One (ComesIn k p f) ds

-- what a member handed up to its host
abbrev pub handed : ℕ → List Handling → List Frame
handed j [] = []
handed j (d ∷ ds) = if j == d.node && d.went H then d.frame ∷ handed j ds else handed j ds
