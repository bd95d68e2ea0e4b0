-- A ring of an HSR network (IEC 62439-3 clause 5).
use Rattle.std.specs.Prelude.{ℕ, nat_lt, ◌+◌, ◌-◌, Bool, false, not, ◌&&◌, ◌||◌, ◌==◌, [], ◌∷◌, if◌then◌else◌}
use Rattle.sr_frame.specs.declared.ports.Port.{Port}
use Rattle.sr_frame.specs.declared.ports.Port.TheVariants.{H, A, B, C}
use Rattle.sr_laws_plant.specs.Ports.{is_at, is_side}
use Rattle.sr_laws_plant.specs.Frames.{is_only, is_for, Frame}
use Rattle.sr_laws_plant.specs.Ledger.{Net}
use Rattle.sr_laws_plant.specs.RingParts.{Way, onward, backward, RingPart}

-- the neighbour that way, of n members
abbrev pub beyond : ℕ → Way → ℕ → ℕ
beyond n onward k = if k + 1 == n then 0 else k + 1
beyond n backward k = if k == 0 then n - 1 else k - 1

-- link i joins B of member i with A of the next, the last with member 0
abbrev pub ring : ℕ → Net
ring n k H = []
ring n k A = record { to = record { node = beyond n backward k; port = B }; links = beyond n backward k ∷ [] } ∷ []
ring n k B = record { to = record { node = beyond n onward k; port = A }; links = k ∷ [] } ∷ []
ring n k C = []

-- what comes in at one side goes up to the host where it is for the member, supervision apart, and on to the other side where it is not for
-- the member alone
abbrev pub from_side : ℕ → Frame → Port → Port → Bool
from_side k f other H = not f.supervision && is_for k f.dest
from_side k f other A = is_at other A && (f.supervision || not (is_only k f.dest))
from_side k f other B = is_at other B && (f.supervision || not (is_only k f.dest))
from_side k f other C = false

-- the routes of a doubly attached node of a ring
abbrev pub danh_routes : ℕ → Frame → Port → Port → Bool
danh_routes k f H o = is_side o
danh_routes k f A o = from_side k f B o
danh_routes k f B o = from_side k f A o
danh_routes k f C o = false

-- the ring as a part of itself
abbrev pub ring_part : ℕ → RingPart
ring_part n = record { all = λ k. nat_lt k n; inside = λ k. nat_lt k n; beyond = beyond n }
