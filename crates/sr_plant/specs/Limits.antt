-- The limits of a plant (choices of this project).
use Rattle.std.specs.Prelude.{ℕ}

-- the fewest and the most nodes of a ring, and of two LANs
abbrev pub fewest_nodes : ℕ
fewest_nodes = 2

abbrev pub most_nodes : ℕ
most_nodes = 16

-- the fewest nodes of a ring with the two boxes of a network's LANs, and the most doubly attached nodes of these LANs
abbrev pub fewest_with_boxes : ℕ
fewest_with_boxes = 3

abbrev pub most_in_lans : ℕ
most_in_lans = 14

-- the most nodes of a plant: those of two rings
abbrev pub most_members : ℕ
most_members = 32
