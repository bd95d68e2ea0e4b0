-- The two LANs of a PRP network (IEC 62439-3 clause 4).
use Rattle.std.specs.Prelude.{◌≢◌, ℕ, zero, suc, ◌+◌, Bool, false, not, ◌&&◌, ◌==◌, List, [], ◌∷◌, ◌++◌, if◌then◌else◌}
use Rattle.sr_frame.specs.declared.ports.Port.{Port}
use Rattle.sr_frame.specs.declared.ports.Port.TheVariants.{H, A, B, C}
use Rattle.sr_laws_plant.specs.Ports.{is_side}
use Rattle.sr_laws_plant.specs.Frames.{is_for, Frame}
use Rattle.sr_laws_plant.specs.Ledger.{Place, Hop, Net, PlantTurn, made_in, lost_in}

-- the members below n other than k, ascending
abbrev pub other_members : ℕ → ℕ → List ℕ
other_members zero k = []
other_members (suc n) k = if n == k then other_members n k else other_members n k ++ n ∷ []

-- a copy to each of these at the same port, on its sender's link of that LAN and on its receiver's
abbrev pub lan_hops : Port → ℕ → ℕ → List ℕ → List Hop
lan_hops p first k [] = []
lan_hops p first k (j ∷ js) =
    record { to = record { node = j; port = p }; links = (first + k) ∷ (first + j) ∷ [] } ∷ lan_hops p first k js

-- link i is that of member i in LAN A, n + i that in LAN B
abbrev pub twin_lans : ℕ → Net
twin_lans n k H = []
twin_lans n k A = lan_hops A 0 k (other_members n k)
twin_lans n k B = lan_hops B n k (other_members n k)
twin_lans n k C = []

-- what comes in from a LAN goes up to the host where it is for the member, supervision apart
abbrev pub from_lan : ℕ → Frame → Port → Bool
from_lan k f H = not f.supervision && is_for k f.dest
from_lan k f A = false
from_lan k f B = false
from_lan k f C = false

-- the routes of a doubly attached node of two LANs
abbrev pub danp_routes : ℕ → Frame → Port → Port → Bool
danp_routes k f H o = is_side o
danp_routes k f A o = from_lan k f o
danp_routes k f B o = from_lan k f o
danp_routes k f C o = false

abbrev pub in_lan_a : ℕ → Place
in_lan_a j = record { node = j; port = A }

abbrev pub in_lan_b : ℕ → Place
in_lan_b j = record { node = j; port = B }

-- a frame is whole for j: not all copies made for j, in both LANs, were lost
abbrev pub IsWholeInLans : Net → Frame → List PlantTurn → ℕ → Type 0
IsWholeInLans net f ts j =
    lost_in (in_lan_a j) f ts + lost_in (in_lan_b j) f ts ≢ made_in net (in_lan_a j) f ts + made_in net (in_lan_b j) f ts
