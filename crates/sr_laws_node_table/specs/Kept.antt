-- Which hearings are kept, and which addresses are live, by what was heard and when. Lists of hearings and of events have the latest first.
use Rattle.std.specs.Prelude.{ℕ, Bool, not, ◌&&◌, nat_lt, List, [], ◌∷◌, ◌++◌, length, filter, if◌then◌else◌}
use Rattle.sr_frame.specs.Addresses.{mac_eq}
use Rattle.sr_frame.specs.declared.fields.Mac.{Mac}
use Rattle.sr_node_table.specs.Limits.{most_nodes}
use Rattle.sr_node_table.specs.Nodes.{Hearing}
use Rattle.sr_node_table.specs.Hearings.{is_heard, Event, Hears, Prunes}

-- the hearings of one address
abbrev pub of_address : Mac → List Hearing → List Hearing
of_address mac hs = filter (λ h. mac_eq h.mac mac) hs

-- an address is live at a time: some hearing of it is less than 60000 ms old
abbrev pub is_live_by : List Hearing → ℕ → Mac → Bool
is_live_by hs now mac = is_heard (of_address mac hs) now

-- the addresses of hearings, each once, in the order of the latest hearing of each, the oldest first
abbrev pub addresses : List Hearing → List Mac
addresses [] = []
addresses (h ∷ hs) = filter (λ mac. not (mac_eq h.mac mac)) (addresses hs) ++ h.mac ∷ []

-- the other addresses that are live
abbrev pub others_live : List Hearing → ℕ → Mac → List Mac
others_live hs now mac = filter (λ other. is_live_by hs now other && not (mac_eq mac other)) (addresses hs)

-- a hearing finds room, unless 1024 other addresses are live
abbrev pub finds_room : List Hearing → Hearing → Bool
finds_room hs h = nat_lt (length (others_live hs h.time h.mac)) most_nodes

-- the kept hearings with one more: it is kept where it finds room among them
abbrev pub kept_with : Hearing → List Hearing → List Hearing
kept_with h hs = if finds_room hs h then h ∷ hs else hs

-- the hearings of a run that are kept
abbrev pub kept_in : List Event → List Hearing
kept_in [] = []
kept_in (Hears h ∷ events) = kept_with h (kept_in events)
kept_in (Prunes now ∷ events) = kept_in events

-- the kept hearings of one address
abbrev pub kept_of : Mac → List Event → List Hearing
kept_of mac events = of_address mac (kept_in events)
