-- Which wires join the nodes of a network.
use Rattle.std.specs.Prelude.{◌≡◌, ◌<◌, ℕ, ◌+◌, ◌-◌, List, [], Vec, length, map, slice_index_or, All}
use Rattle.sr_lines.specs.declared.ends.Ends.{Ends}
use Rattle.sr_lines.specs.Names.{end_wires, all_wires}
use Rattle.sr_lines.specs.Pairs.{WirePair, AreLinked}
use Rattle.sr_threaded.specs.Judged.{behind}

-- the wires of a node of a ring, at A and at B
pub record RingWires : Type 0 where
  pub a : WirePair
  pub b : WirePair

-- in a ring, B of each node is joined to A of the next, and B of the last to A of the first
abbrev pub IsRing : List RingWires → Type 0
IsRing nodes = (i : ℕ) (w : RingWires) → i < length nodes
    → AreLinked (slice_index_or nodes i w).b (slice_index_or nodes (behind i (length nodes)) w).a

-- in a LAN each node has wires to each other one, in the order of the nodes: those of an earlier one for a later one are joined to
-- those of the later one for the earlier one
pub record IsLan (nodes : List (List WirePair)) : Type 0 where
  pub others : (i : ℕ) (ws : List WirePair) → i < length nodes → length (slice_index_or nodes i ws) + 1 ≡ length nodes
  pub joined : (i j : ℕ) (ws : List WirePair) (w : WirePair) → i < j → j < length nodes
      → AreLinked (slice_index_or (slice_index_or nodes i ws) (j - 1) w) (slice_index_or (slice_index_or nodes j ws) i w)

-- the wires of these ends
abbrev pub ring_wires_of : Ends × Ends → RingWires
ring_wires_of e = record { a = end_wires e.0; b = end_wires e.1 }

abbrev pub ring_wires : List (Ends × Ends) → List RingWires
ring_wires es = map (λ e. ring_wires_of e) es

abbrev pub lan_wires : {Z : Type 0} → List (Vec Ends Z) → List (List WirePair)
lan_wires rows = map (λ r. all_wires r.items) rows

-- nothing was sent or taken there yet
pub record IsUnused (e : Ends) : Type 0 where
  pub sent : e.send.frames ≡ []
  pub taken : e.take.frames ≡ []

pub record AreUnused (e : Ends × Ends) : Type 0 where
  pub at_a : IsUnused e.0
  pub at_b : IsUnused e.1

abbrev pub AllUnused : List (Ends × Ends) → Type 0
AllUnused es = (i : ℕ) (e : Ends × Ends) → i < length es → AreUnused (slice_index_or es i e)

-- so of all ends of each node of a LAN
abbrev pub AreAllUnused : {Z : Type 0} → List (Vec Ends Z) → Type 0
AreAllUnused rows = All (λ r. All (λ e. IsUnused e) r.items) rows
