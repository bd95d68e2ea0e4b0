-- What is told of a node.
use Rattle.std.specs.Prelude.{ℕ, ◌-◌, Bool, min, List, Option, None, Some, is_some, if◌then◌else◌}
use Rattle.std.specs.List.{filter_map}
use Rattle.std.specs.Map.{lookup}
use Rattle.sr_frame.specs.Addresses.{mac_eq}
use Rattle.sr_frame.specs.declared.fields.Mac.{Mac}
use Rattle.sr_slots.specs.Calls.{passing}
use Rattle.sr_node_table.specs.declared.node.Announced.{Announced}
use Rattle.sr_node_table.specs.declared.node.Node.{Node}
use Rattle.sr_node_table.specs.declared.status.Status.{Status}
use Rattle.sr_node_table.specs.Limits.{greatest_age}
use Rattle.sr_node_table.specs.Nodes.{Entry, Table, is_live}

-- how long ago a time was; what was never heard has the greatest age
abbrev pub age_of : Option ℕ → ℕ → ℕ
age_of None now = greatest_age
age_of (Some time) now = min (now - time) greatest_age

abbrev pub redbox_of : Option Announced → Option Mac
redbox_of None = None
redbox_of (Some announced) = announced.redbox

-- port A is the first interface, B the second
abbrev pub status_of : Mac → Node → ℕ → Status
status_of mac node now =
    record {
      addr = mac;
      if1_age = age_of node.a.time now;
      if2_age = age_of node.b.time now;
      if1_seq = node.a.seq;
      if2_seq = node.b.seq;
      if1_ifindex = 1;
      if2_ifindex = 2;
      redbox = redbox_of node.announced;
    }

-- what the table has of an address that is not forgotten
abbrev pub live_entry : Table → Mac → ℕ → Option Entry
live_entry t mac now = passing (is_live now) (lookup (mac_eq mac) t.entries)

abbrev pub status_if : Option Entry → Mac → ℕ → Option Status
status_if None mac now = None
status_if (Some e) mac now = Some (status_of mac e.value now)

abbrev pub status_at : Table → Mac → ℕ → Option Status
status_at t mac now = status_if (live_entry t mac now) mac now

abbrev pub has_at : Table → Mac → ℕ → Bool
has_at t mac now = is_some (live_entry t mac now)

-- the address of a node that is not forgotten
abbrev pub live_mac : ℕ → Mac × Entry → Option Mac
live_mac now e = if is_live now e.1 then Some e.0 else None

abbrev pub listed_at : Table → ℕ → List Mac
listed_at t now = filter_map (live_mac now) t.entries
