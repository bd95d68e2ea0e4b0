-- Where a ring is cut: between two sources, one on each side of the cut.
use Rattle.std.specs.Prelude.{ℤ, int_lt, Bool, false, List, Option, None, Some, fold, if◌then◌else◌}
use Rattle.sr_frame.specs.declared.fields.Mac.{Mac}
use Rattle.sr_audit.specs.declared.row.Row.{Row}
use Rattle.sr_audit.specs.declared.side.Side.{Side}
use Rattle.sr_audit.specs.declared.side.Side.TheVariants.{A, B}
use Rattle.sr_audit.specs.Skewing.{mean_of}
use Rattle.sr_audit.specs.Stretches.{same_side}
use Rattle.sr_verdict.specs.declared.heard.Heard.{Heard}
use Rattle.sr_verdict.specs.declared.heard.When.{When}
use Rattle.sr_verdict.specs.declared.place.Neighbour.{Neighbour}
use Rattle.sr_verdict.specs.declared.place.Place.{Place}
use Rattle.sr_verdict.specs.Heards.{row_when}

-- a source at its place in the ring, by how much later its copies came by B than by A: the later, the nearer it stands to port A
abbrev pub neighbour_by : Mac → Option ℤ → Option Neighbour
neighbour_by mac None = None
neighbour_by mac (Some skew) = Some (record { mac = mac; skew = skew })

abbrev pub neighbour_of : Heard → Option Neighbour
neighbour_of h = neighbour_by h.mac (mean_of h.figures.skews)

-- of two sources that one side alone brings, the one that stands farther from its port is nearer to the cut
abbrev pub is_nearer : Side → Neighbour → Neighbour → Bool
is_nearer A n m = int_lt n.skew m.skew
is_nearer B n m = int_lt m.skew n.skew

-- the nearest one so far, with one more
abbrev pub nearer_of : Side → Option Neighbour → Neighbour → Neighbour
nearer_of side None n = n
nearer_of side (Some m) n = if is_nearer side n m then n else m

abbrev pub with_neighbour : Side → Option Neighbour → Option Neighbour → Option Neighbour
with_neighbour side m None = m
with_neighbour side m (Some n) = Some (nearer_of side m n)

-- a source is brought by a side alone where its row is of that side
abbrev pub is_row_by : Side → Option Row → Bool
is_row_by side None = false
is_row_by side (Some row) = same_side row.side side

abbrev pub next_with : When → Side → Option Neighbour → Heard → Option Neighbour
next_with when side m h = if is_row_by side (row_when when h) then with_neighbour side m (neighbour_of h) else m

-- the source next to the cut among those that a side alone brings
abbrev pub next_to_cut : When → Side → List Heard → Option Neighbour
next_to_cut when side hs = fold (next_with when side) None hs

abbrev pub cut_place : When → List Heard → Place
cut_place when hs = record { at_a = next_to_cut when A hs; at_b = next_to_cut when B hs }
