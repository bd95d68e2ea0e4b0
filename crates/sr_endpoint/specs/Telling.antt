-- What a node tells of others, by their places in its lists.
use Rattle.std.specs.Prelude.{ℕ, List, [], ◌∷◌, Option, None, Some, slice_get}
use Rattle.std.specs.List.{flat_map}
use Rattle.sr_frame.specs.declared.fields.Mac.{Mac}
use Rattle.sr_node_table.specs.declared.status.Status.{Status}
use Rattle.sr_node_table.specs.Stating.{listed_at, status_at}
use Rattle.sr_node.specs.Images.{Image}

-- what is told of an address, if there is one
abbrev pub status_if_listed : Image → Option Mac → Option Status
status_if_listed i None = None
status_if_listed i (Some mac) = status_at i.nodes mac i.time

-- what is told of the node at this place among those that are not forgotten, in the order of first hearing
abbrev pub status_listed : Image → ℕ → Option Status
status_listed i index = status_if_listed i (slice_get (listed_at i.nodes i.time) index)

-- one or none
abbrev pub if_told : Option Status → List Status
if_told None = []
if_told (Some status) = status ∷ []

-- what is told of all that are not forgotten, in the order of first hearing
abbrev pub all_statuses : Image → List Status
all_statuses i = flat_map (λ mac. if_told (status_at i.nodes mac i.time)) (listed_at i.nodes i.time)
