-- The times and limits of a table of nodes. All are choices of this project.
use Rattle.std.specs.Prelude.{ℕ}

-- how long a silent node is remembered, in milliseconds
abbrev pub forget_time : ℕ
forget_time = 60000

-- how many nodes are kept
abbrev pub most_nodes : ℕ
most_nodes = 1024

-- a port can be late only where the node was heard less than this ago
abbrev pub heard_lately : ℕ
heard_lately = 4500

-- a port is late where it is more than this behind the other
abbrev pub most_behind : ℕ
most_behind = 3000

-- the age of what was never heard, and the greatest age
abbrev pub greatest_age : ℕ
greatest_age = 2147483647

-- how many alarms are kept
abbrev pub most_alarms : ℕ
most_alarms = 64
