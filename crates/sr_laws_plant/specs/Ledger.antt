-- The ledger of copies in flight. It knows no event: what is made, lost and comes in at each turn, and that nothing else happens to a copy.
use Rattle.std.specs.Prelude.{◌≡◌, ◌≢◌, ℕ, ◌+◌, ◌⊎◌, Bool, true, ◌&&◌, ◌==◌, List, [], ◌∷◌, ◌++◌, map}
use Rattle.std.specs.Prelude.{Option, option_to_list, if◌then◌else◌}
use Rattle.sr_frame.specs.declared.ports.Port.{Port}
use Rattle.sr_frame.specs.declared.ports.Port.TheVariants.{A, B, C}
use Rattle.sr_laws_plant.specs.Lists.{One, Each, how_many}
use Rattle.sr_laws_plant.specs.Ports.{is_at}
use Rattle.sr_laws_plant.specs.Frames.{Frame, same_pair}
use Rattle.sr_laws_plant.specs.Handlings.{Handling, is_sending}

-- where a copy comes in
pub record Place : Type 0 where
  pub node : ℕ
  pub port : Port

abbrev pub same_place : Place → Place → Bool
same_place p q = p.node == q.node && is_at p.port q.port

-- one step through the plant: where it leads, and the links that it is on
pub record Hop : Type 0 where
  pub to : Place
  pub links : List ℕ

pub record Copy : Type 0 where
  pub hop : Hop
  pub frame : Frame

-- the plant's shape: where that goes which a member puts out at an outlet
abbrev pub Net : Type 0
Net = ℕ → Port → List Hop

-- a copy for each place to which the outlet leads
abbrev pub copies_put : Net → Handling → Port → List Copy
copies_put net d o = if d.went o then map (λ h. record { hop = h; frame = d.frame }) (net d.node o) else []

-- the copies of what went out
abbrev pub spread : Net → Handling → List Copy
spread net d = copies_put net d A ++ (copies_put net d B ++ copies_put net d C)

abbrev pub spread_all : Net → List Handling → List Copy
spread_all net [] = []
spread_all net (d ∷ ds) = spread net d ++ spread_all net ds

-- A turn of the plant: what a member did, the copies that were doubled, those that were lost, and those that came to their member.
pub record PlantTurn : Type 0 where
  pub did : Option Handling
  pub doubled : List Copy
  pub lost : List Copy
  pub came : List Copy

-- all copies that a turn made
abbrev pub made : Net → PlantTurn → List Copy
made net t = spread_all net (option_to_list t.did) ++ t.doubled

-- all that members did
abbrev pub handlings : List PlantTurn → List Handling
handlings [] = []
handlings (t ∷ ts) = option_to_list t.did ++ handlings ts

-- a copy of this frame for this place
abbrev pub counts : Place → Frame → Copy → Bool
counts q f c = same_place q c.hop.to && same_pair f c.frame

abbrev pub count : Place → Frame → List Copy → ℕ
count q f cs = how_many (counts q f) cs

-- how many of them were made, were lost, and came in
abbrev pub made_in : Net → Place → Frame → List PlantTurn → ℕ
made_in net q f [] = 0
made_in net q f (t ∷ ts) = count q f (made net t) + made_in net q f ts

abbrev pub lost_in : Place → Frame → List PlantTurn → ℕ
lost_in q f [] = 0
lost_in q f (t ∷ ts) = count q f t.lost + lost_in q f ts

abbrev pub came_in : Place → Frame → List PlantTurn → ℕ
came_in q f [] = 0
came_in q f (t ∷ ts) = count q f t.came + came_in q f ts

-- A link is open for a frame in the direction of this place: no copy was ever put on it so, or not all copies were lost, those of a
-- repeat among them. (Choice of this project.)
abbrev pub IsOpen : Net → Frame → List PlantTurn → Place → Type 0
IsOpen net f ts q = (made_in net q f ts ≡ 0) ⊎ (lost_in q f ts ≢ made_in net q f ts)

-- the copy's frame is handled where the copy came in
abbrev pub IsArrivalOf : Handling → Copy → Type 0
IsArrivalOf d c = (d.node ≡ c.hop.to.node) × (d.inlet ≡ c.hop.to.port) × (d.frame ≡ c.frame)

-- a copy that came to its own source is at its end; another member handles it
abbrev pub IsTakenBy : List Handling → Copy → Type 0
IsTakenBy ds c = ((c.hop.to.node == c.frame.src) ≡ true) ⊎ One (λ d. IsArrivalOf d c) ds

-- what comes in at a member was in flight to it
abbrev pub CameFrom : List Copy → Handling → Type 0
CameFrom flight d = (is_sending d ≡ true) ⊎ One (IsArrivalOf d) flight

-- each of these is one of those
abbrev pub Within : List Copy → List Copy → Type 0
Within cs xs = Each (λ c. One (λ x. x ≡ c) xs) cs

-- The turn leads from these copies in flight to those: what was in flight or was made is in flight, or lost, or came in.
pub record Balances (net : Net) (flight : List Copy) (t : PlantTurn) (after : List Copy) : Type 0 where
  pub balance : (q : Place) (f : Frame) →
      count q f flight + count q f (made net t) ≡ count q f after + count q f t.lost + count q f t.came
  pub taken : Each (IsTakenBy (option_to_list t.did)) t.came
  pub from : Each (CameFrom flight) (option_to_list t.did)
  pub doubles : Within t.doubled flight
  pub stays : Within after (flight ++ made net t)

-- the turns lead from a plant with nothing in flight to these copies
abbrev pub LedgerRun : Net → List PlantTurn → List Copy → Type 0
LedgerRun net [] flight = flight ≡ []
LedgerRun net (t ∷ before) flight = (u : List Copy) × LedgerRun net before u × Balances net u t flight
