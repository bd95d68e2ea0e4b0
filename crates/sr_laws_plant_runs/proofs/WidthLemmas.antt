-- The widths of a plant's tables are widths, and lie between the least and the greatest.
use Rattle.std.proofs.Common.{◌≡◌, inl, inr, ℕ, zero, suc, ◌≤◌, min, true, List, [], ◌∷◌, map, Some, slice_get, refl, sym, ap, arith}
use Rattle.std.proofs.lemmas.Bool.{true≢false}
use Rattle.sr_dup_window.specs.Bins.{IsWidth}
use Rattle.sr_node.specs.StartLemmas.{has_width}
use Rattle.sr_node.specs.Starts.{Start, begun_as, width_of}
use Rattle.sr_laws_plant.specs.Widths.{AreWidths}
use Rattle.sr_plant.specs.declared.topology.Topology.{Topology}
use Rattle.sr_plant.specs.declared.topology.Topology.TheVariants.{Ring, TwinLan, RingLan, TwoRings}
use Rattle.sr_plant.specs.Building.{is_plant}
use Rattle.sr_plant.specs.Topologies.{IsJoinedAs}
use Rattle.sr_plant.proofs.BuildingLemmas.{opening_in_order}
use Rattle.sr_laws_plant_runs.specs.TableWidths.{least_width, greatest_width, width_at, widths_of}

lesser : (a b : ℕ) → IsWidth a → IsWidth b → IsWidth (min a b)
lesser a b (inl x) (inl y) = inl (omega (arith, x, y))
lesser a b (inl x) (inr y) = inl (omega (arith, x, y))
lesser a b (inr x) (inl y) = inl (omega (arith, x, y))
lesser a b (inr x) (inr y) = inr (omega (arith, x, y))

least_is_width : (starts : List Start) → IsWidth (least_width starts)
least_is_width [] = inr refl
least_is_width (r ∷ starts) = lesser (width_of r) (least_width starts) (has_width r) (least_is_width starts)

each_is_width : (other : ℕ) (starts : List Start) (k : ℕ) → IsWidth other → IsWidth (width_at other starts k)
each_is_width other [] k is = is
each_is_width other (r ∷ starts) zero is = has_width r
each_is_width other (r ∷ starts) (suc k) is = each_is_width other starts k is

below_each : (low other : ℕ) (starts : List Start) (k : ℕ) → low ≤ other → low ≤ least_width starts → low ≤ width_at other starts k
below_each low other [] k le all = le
below_each low other (r ∷ starts) zero le all = omega (arith, all)
below_each low other (r ∷ starts) (suc k) le all = below_each low other starts k le (omega (arith, all))

above_each : (high other : ℕ) (starts : List Start) (k : ℕ) → other ≤ high → greatest_width starts ≤ high → width_at other starts k ≤ high
above_each high other [] k le all = le
above_each high other (r ∷ starts) zero le all = omega (arith, all)
above_each high other (r ∷ starts) (suc k) le all = above_each high other starts k le (omega (arith, all))

-- a plant has nodes
pub are_widths : (t : Topology) (starts : List Start) → is_plant t (map begun_as starts) ≡ true → AreWidths (widths_of starts)
are_widths t [] is = absurd (no_nodes t is (opening_in_order t [] is).joined)
  where
    no_nodes : (t : Topology) → is_plant t [] ≡ true → IsJoinedAs t 0 → ⊥
    no_nodes Ring is joined = true≢false (sym is)
    no_nodes TwinLan is joined = true≢false (sym is)
    no_nodes (RingLan s) is joined = let sum = joined.sum in let inside = joined.a_inside in omega (arith, sum, inside)
    no_nodes (TwoRings s) is joined = let sum = joined.sum in let left = joined.joins.0 in omega (arith, sum, left)
are_widths t (r ∷ starts) is =
    let least = least_width (r ∷ starts) in
    let greatest = greatest_width (r ∷ starts) in
    let between : least ≤ greatest = omega arith in
    record {
      width = λ k. each_is_width least (r ∷ starts) k (least_is_width (r ∷ starts));
      least = λ k. below_each least least (r ∷ starts) k (omega arith) (omega arith);
      greatest = λ k. above_each greatest least (r ∷ starts) k between (omega arith);
    }

-- a node's own is that of its start
pub width_got : (other : ℕ) (starts : List Start) (k : ℕ) (start : Start) → slice_get starts k ≡ Some start → width_at other starts k ≡ width_of start
width_got other [] k start at = absurd cc
width_got other (r ∷ starts) zero start at = let same : r ≡ start = cc in ap width_of same
width_got other (r ∷ starts) (suc k) start at = width_got other starts k start at

-- each is 1024 or 2048
pub at_least : (starts : List Start) → 1024 ≤ least_width starts
at_least [] = omega arith
at_least (r ∷ starts) =
    let rest = at_least starts in
    elim (has_width r) [
      | inl is ↦ omega (arith, is, rest)
      | inr is ↦ omega (arith, is, rest)
    ]

pub at_most : (starts : List Start) → greatest_width starts ≤ 2048
at_most [] = omega arith
at_most (r ∷ starts) =
    let rest = at_most starts in
    elim (has_width r) [
      | inl is ↦ omega (arith, is, rest)
      | inr is ↦ omega (arith, is, rest)
    ]
