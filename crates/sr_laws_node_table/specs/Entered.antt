-- Which addresses have an entry, forgotten or not, and in which order, by what was heard and when.
use Rattle.std.specs.Prelude.{ℕ, Bool, true, not, ◌&&◌, nat_le, List, [], ◌∷◌, length, filter, if◌then◌else◌}
use Rattle.sr_frame.specs.declared.fields.Mac.{Mac}
use Rattle.sr_node_table.specs.Limits.{most_nodes}
use Rattle.sr_node_table.specs.Nodes.{Hearing}
use Rattle.sr_node_table.specs.Hearings.{Event, Hears, Prunes, time_of}
use Rattle.sr_laws_node_table.specs.Kept.{is_live_by, addresses, finds_room, kept_in}

-- An address has an entry where it was live when forgotten addresses were last removed, or was heard since.
abbrev pub has_entry : List Hearing → ℕ → Mac → Bool
has_entry hs removal mac = is_live_by hs removal mac

-- 1024 addresses have an entry
abbrev pub is_filled : List Hearing → ℕ → Bool
is_filled hs removal = nat_le most_nodes (length (filter (has_entry hs removal) (addresses hs)))

-- a hearing makes an entry: it is kept, and its address has none
abbrev pub makes_entry : Hearing → List Hearing → ℕ → Bool
makes_entry h hs removal = finds_room hs h && not (has_entry hs removal h.mac)

-- forgotten addresses are removed by a prune, and by a hearing that makes an entry where 1024 others have one
abbrev pub removes : Event → List Hearing → ℕ → Bool
removes (Prunes now) hs removal = true
removes (Hears h) hs removal = makes_entry h hs removal && is_filled hs removal

-- the time of the last removal after an event
abbrev pub removal_after : Event → List Hearing → ℕ → ℕ
removal_after e hs removal = if removes e hs removal then time_of e else removal

-- the time of the last removal, 0 where there was none
abbrev pub removal_in : List Event → ℕ
removal_in [] = 0
removal_in (e ∷ events) = removal_after e (kept_in events) (removal_in events)

-- the hearings that made an entry, with one more event
abbrev pub makers_with : Event → List Hearing → ℕ → List Hearing → List Hearing
makers_with (Prunes now) hs removal makers = makers
makers_with (Hears h) hs removal makers = if makes_entry h hs removal then h ∷ makers else makers

-- the hearings of a run that made an entry
abbrev pub makers_in : List Event → List Hearing
makers_in [] = []
makers_in (e ∷ events) = makers_with e (kept_in events) (removal_in events) (makers_in events)

-- whether an address has an entry after events
abbrev pub has_entry_in : List Event → Mac → Bool
has_entry_in events mac = has_entry (kept_in events) (removal_in events) mac

-- the addresses that have an entry, in the order in which their entries were made
abbrev pub entered : List Event → List Mac
entered events = filter (has_entry_in events) (addresses (makers_in events))

-- the live addresses, in the order in which their entries were made
abbrev pub live_in : List Event → ℕ → List Mac
live_in events now = filter (is_live_by (kept_in events) now) (entered events)
