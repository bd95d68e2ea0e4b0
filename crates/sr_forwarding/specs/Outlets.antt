-- Sets of outlets.
use Rattle.std.specs.Prelude.{◌+◌, ◌==◌, ◌||◌, filter, ℕ, Bool, List, [], ◌∷◌, if◌then◌else◌}
use Rattle.std.specs.List.{list_any}
use Rattle.std.specs.Int.RustNames.{bit_and}
use Rattle.sr_frame.specs.declared.ports.Port.{Port}
use Rattle.sr_frame.specs.declared.ports.Port.TheVariants.{H, A, B, C}
use Rattle.sr_forwarding.specs.declared.outlets.Outlets.{Outlets}

-- the bit of a port
abbrev pub bit_of : Port → ℕ
bit_of H = 1
bit_of A = 2
bit_of B = 4
bit_of C = 8

-- whether two ports are one
abbrev pub port_eq : Port → Port → Bool
port_eq p q = bit_of p == bit_of q

-- whether the set has the port
abbrev pub has : Outlets → Port → Bool
has o p = bit_and o.0 (bit_of p) == bit_of p

-- a bit where a test holds
abbrev pub bit_if : Bool → ℕ → ℕ
bit_if test bit = if test then bit else 0

-- the set of the ports for which a test holds
abbrev pub outlets_where : (Port → Bool) → Outlets
outlets_where test = record { 0 = bit_if (test H) 1 + bit_if (test A) 2 + bit_if (test B) 4 + bit_if (test C) 8 }

-- the set of these ports
abbrev pub to : List Port → Outlets
to ports = outlets_where (λ p. list_any (port_eq p) ports)

-- the set has no port
abbrev pub is_nowhere : Outlets → Bool
is_nowhere o = o.0 == 0

-- the ports of either set
abbrev pub either : Outlets → Outlets → Outlets
either o u = outlets_where (λ p. has o p || has u p)

abbrev pub all_ports : List Port
all_ports = H ∷ A ∷ B ∷ C ∷ []

-- the ports of the set, in the order H, A, B, C
abbrev pub listed : Outlets → List Port
listed o = filter (has o) all_ports

-- the other ring port than the inlet, where that is one
abbrev pub ring : Port → List Port
ring H = []
ring A = B ∷ []
ring B = A ∷ []
ring C = []
