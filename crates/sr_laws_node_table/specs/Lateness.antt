-- Which port of an address is late, by what was heard and when.
use Rattle.std.specs.Prelude.{ℕ, ◌-◌, Bool, true, false, not, ◌&&◌, nat_lt, nat_le, List, [], ◌∷◌}
use Rattle.std.specs.List.{list_any}
use Rattle.sr_frame.specs.declared.fields.Mac.{Mac}
use Rattle.sr_frame.specs.declared.ports.Port.{Port}
use Rattle.sr_frame.specs.declared.ports.Port.TheVariants.{A, B}
use Rattle.sr_node_table.specs.Limits.{heard_lately, most_behind}
use Rattle.sr_node_table.specs.Nodes.{Hearing}
use Rattle.sr_node_table.specs.Hearings.{is_a, Event, Hears, Prunes}
use Rattle.sr_laws_node_table.specs.Kept.{kept_of}

-- a hearing at this ring port
abbrev pub is_heard_at : Port → Hearing → Bool
is_heard_at A h = is_a h.port
is_heard_at B h = not (is_a h.port)
is_heard_at port h = false

-- a port that can be late
abbrev pub is_ring_port : Port → Bool
is_ring_port A = true
is_ring_port B = true
is_ring_port port = false

-- A port of an address is late where the address was heard less than 4500 ms ago, and not at this port in the 3000 ms up to its latest
-- hearing. These are the hearings of that address.
abbrev pub is_late : Port → List Hearing → ℕ → Bool
is_late port [] now = false
is_late port (h ∷ hs) now =
    is_ring_port port
    && nat_lt (now - h.time) heard_lately
    && not (list_any (λ x. is_heard_at port x && nat_le (h.time - x.time) most_behind) (h ∷ hs))

-- a port of an address was late at the latest prune
abbrev pub was_late_at_prune : Port → Mac → List Event → Bool
was_late_at_prune port mac [] = false
was_late_at_prune port mac (Hears h ∷ events) = was_late_at_prune port mac events
was_late_at_prune port mac (Prunes now ∷ events) = is_late port (kept_of mac events) now

-- a port of an address is late now, and was not late at the latest prune
abbrev pub is_newly_late : Port → Mac → ℕ → List Event → Bool
is_newly_late port mac now events = is_late port (kept_of mac events) now && not (was_late_at_prune port mac events)
