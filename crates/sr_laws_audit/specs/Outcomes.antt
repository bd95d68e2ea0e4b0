-- What became of each number of the stretches of a source, from the least to the greatest of each.
use Rattle.std.specs.Prelude.{
  ◌≡◌,
  ℕ,
  zero,
  suc,
  ◌+◌,
  ◌-◌,
  Bool,
  true,
  false,
  List,
  [],
  ◌∷◌,
  length,
  ℤ,
  pos,
  ◌+ℤ◌,
  count_by,
  sum_by,
}
use Rattle.sr_audit.specs.declared.arrival.Arrival.{Arrival}
use Rattle.sr_audit.specs.declared.side.Side.TheVariants.{A, B}
use Rattle.sr_audit.specs.declared.span.Spans.{Spans}
use Rattle.sr_audit.specs.Edges.{first_time, is_beyond, edges_of}
use Rattle.sr_audit.specs.Extents.{bottom_number, length_of, neither_of, jumps_of, restarts_of}
use Rattle.sr_audit.specs.Stretches.{Placed, came, stretches}
use Rattle.sr_audit.specs.Tallies.{tally_of}

-- its frame came by both sides; by one alone, while the capture of the other side ran, or while it did not; or by none
pub data Outcome : Type 0 where
  Paired : Outcome
  OnlyA : Outcome
  OnlyB : Outcome
  EdgeA : Outcome
  EdgeB : Outcome
  Neither : Outcome

abbrev pub same_outcome : Outcome → Outcome → Bool
same_outcome Paired Paired = true
same_outcome OnlyA OnlyA = true
same_outcome OnlyB OnlyB = true
same_outcome EdgeA EdgeA = true
same_outcome EdgeB EdgeB = true
same_outcome Neither Neither = true
same_outcome o other = false

-- that of a number of which copies came by A or not, and by B, where the first one came beyond the capture of A or not, and of B
abbrev pub outcome_if : Bool → Bool → Bool → Bool → Outcome
outcome_if true true beyond_a beyond_b = Paired
outcome_if true false beyond_a true = EdgeA
outcome_if true false beyond_a false = OnlyA
outcome_if false true true beyond_b = EdgeB
outcome_if false true false beyond_b = OnlyB
outcome_if false false beyond_a beyond_b = Neither

abbrev pub outcome_of : Spans → List Placed → ℤ → Outcome
outcome_of spans s n =
    outcome_if (came A n s) (came B n s) (is_beyond spans A (first_time n s)) (is_beyond spans B (first_time n s))

-- so many numbers from a least one on, the greatest first
abbrev pub numbers_from : ℤ → ℕ → List ℤ
numbers_from least zero = []
numbers_from least (suc k) = (least +ℤ pos k) ∷ numbers_from least k

-- all numbers of a stretch, and how many of them have an outcome
abbrev pub stretch_numbers : List Placed → List ℤ
stretch_numbers s = numbers_from (bottom_number s) (length_of s)

abbrev pub numbers_with : Spans → Outcome → List Placed → ℕ
numbers_with spans o s = count_by (λ n. same_outcome o (outcome_of spans s n)) (stretch_numbers s)

-- each figure of these arrivals is how many numbers have its outcome
pub record TellsEachNumber (spans : Spans) (xs : List Arrival) : Type 0 where
  pub pairs : (tally_of (stretches xs)).pairs ≡ sum_by (numbers_with spans Paired) (stretches xs)
  pub only_a : (tally_of (stretches xs)).alone.a - (edges_of spans (stretches xs)).a ≡ sum_by (numbers_with spans OnlyA) (stretches xs)
  pub only_b : (tally_of (stretches xs)).alone.b - (edges_of spans (stretches xs)).b ≡ sum_by (numbers_with spans OnlyB) (stretches xs)
  pub edge_a : (edges_of spans (stretches xs)).a ≡ sum_by (numbers_with spans EdgeA) (stretches xs)
  pub edge_b : (edges_of spans (stretches xs)).b ≡ sum_by (numbers_with spans EdgeB) (stretches xs)
  pub neither : sum_by neither_of (stretches xs) ≡ sum_by (numbers_with spans Neither) (stretches xs)

abbrev pub EachNumberIsTold : Type 0
EachNumberIsTold = (spans : Spans) (xs : List Arrival) → TellsEachNumber spans xs

-- what lies between two stretches is in no figure of numbers; but each stretch behind the first one is a jump or a restart
abbrev pub EachBreakIsTold : Type 0
EachBreakIsTold = (x : Arrival) (xs : List Arrival) → length (stretches (x ∷ xs)) ≡ 1 + jumps_of (x ∷ xs) + restarts_of (x ∷ xs)
