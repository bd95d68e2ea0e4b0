-- What a listing lists of a source, of all its arrivals together: each number of its stretches once, by its outcome.
use Rattle.std.specs.Prelude.{
  ◌≡◌,
  ℕ,
  ◌+◌,
  ◌-◌,
  ◌^◌,
  ◌<◌,
  Bool,
  true,
  false,
  not,
  ◌&&◌,
  List,
  [],
  ◌∷◌,
  ◌++◌,
  length,
  ℤ,
  int_lt,
  count_by,
  sum_by,
  if◌then◌else◌,
}
use Rattle.std.specs.List.{list_any}
use Rattle.std.specs.Map.{lookup, keys_of}
use Rattle.std.specs.Ordering.{int_eq}
use Rattle.sr_frame.specs.declared.fields.Mac.{Mac}
use Rattle.sr_frame.specs.Addresses.{mac_eq}
use Rattle.sr_sequence.specs.Numbers.{wire}
use Rattle.sr_audit.specs.declared.listing.Copied.{Copied}
use Rattle.sr_audit.specs.declared.listing.Listed.{Listed}
use Rattle.sr_audit.specs.declared.listing.Listed.TheVariants.{Lost, Pair, Neither as OfNone}
use Rattle.sr_audit.specs.declared.pending.Pending.{Pending}
use Rattle.sr_audit.specs.declared.side.Side.{Side}
use Rattle.sr_audit.specs.declared.side.Side.TheVariants.{A, B}
use Rattle.sr_audit.specs.declared.span.Spans.{Spans}
use Rattle.sr_audit.specs.Edges.{edges_of}
use Rattle.sr_audit.specs.Extents.{bottom_number, neither_of}
use Rattle.sr_audit.specs.Pendings.{arrivals_from, is_listed_at, heard_with, KeepsSources, ListsCopy, ListsLast}
use Rattle.sr_audit.specs.Stretches.{Placed, same_side, came, top_number, stretches}
use Rattle.sr_audit.specs.Tallies.{tally_of}
use Rattle.sr_laws_audit.specs.Outcomes.{Outcome, Paired, OnlyA, OnlyB, EdgeA, EdgeB, Neither, outcome_of, stretch_numbers}

-- when the first copy of a frame of a stretch came at a side
abbrev pub first_time_at : Side → ℤ → List Placed → ℕ
first_time_at side n [] = 0
first_time_at side n (y ∷ before) =
    if (int_eq n y.number && same_side side y.side) && not (came side n before) then y.time else first_time_at side n before

-- the packet of that copy, by the copies of the source up to the newest of the stretch
abbrev pub first_packet_at : Side → ℤ → List Placed → List Copied → ℕ
first_packet_at side n [] copies = 0
first_packet_at side n (y ∷ before) [] = 0
first_packet_at side n (y ∷ before) (x ∷ copies) =
    if (int_eq n y.number && same_side side y.side) && not (came side n before) then x.packet else first_packet_at side n before copies

-- that copy
abbrev pub first_copy_at : Mac → Side → ℤ → List Placed → List Copied → Copied
first_copy_at src side n s copies = record {
  src = src;
  arrival = record { side = side; seq = record { 0 = wire n }; time = first_time_at side n s };
  packet = first_packet_at side n s copies;
}

-- a number lies between the least and the greatest of a stretch
abbrev pub is_in_stretch : ℤ → List Placed → Bool
is_in_stretch n [] = false
is_in_stretch n (y ∷ before) = not (int_lt n (bottom_number (y ∷ before))) && not (int_lt (top_number (y ∷ before)) n)

-- when a number came to lie there
abbrev pub reach_time : ℤ → List Placed → ℕ
reach_time n [] = 0
reach_time n (y ∷ before) = if is_in_stretch n before then reach_time n before else y.time

-- the line of a number of a stretch, by its outcome: a frame that came by both sides, by one alone while the capture of the other side ran,
-- or by none; one at the edge of a capture has no line
abbrev pub line_as : Outcome → Mac → ℤ → List Placed → List Copied → List Listed
line_as Paired src n s copies = Pair (first_copy_at src A n s copies) (first_time_at B n s) ∷ []
line_as OnlyA src n s copies = Lost (first_copy_at src A n s copies) ∷ []
line_as OnlyB src n s copies = Lost (first_copy_at src B n s copies) ∷ []
line_as EdgeA src n s copies = []
line_as EdgeB src n s copies = []
line_as Neither src n s copies = OfNone src (record { 0 = wire n }) (reach_time n s) ∷ []

abbrev pub number_line : Spans → Mac → List Placed → List Copied → ℤ → List Listed
number_line spans src s copies n = line_as (outcome_of spans s n) src n s copies

abbrev pub number_lines : Spans → Mac → List Placed → List Copied → List ℤ → List Listed
number_lines spans src s copies [] = []
number_lines spans src s copies (n ∷ ns) = number_line spans src s copies n ++ number_lines spans src s copies ns

-- the copies that came before a stretch
abbrev pub before_stretch : List Placed → List Copied → List Copied
before_stretch [] copies = copies
before_stretch (y ∷ s) [] = []
before_stretch (y ∷ s) (x ∷ copies) = before_stretch s copies

-- the lines of all numbers of these stretches of a source, whose copies these are, newest first
abbrev pub all_lines : Spans → Mac → List (List Placed) → List Copied → List Listed
all_lines spans src [] copies = []
all_lines spans src (s ∷ before) copies =
    number_lines spans src s copies (stretch_numbers s) ++ all_lines spans src before (before_stretch s copies)

-- the copies of one source, and what is listed of it
abbrev pub copies_from : Mac → List Copied → List Copied
copies_from m [] = []
copies_from m (x ∷ before) = if mac_eq m x.src then x ∷ copies_from m before else copies_from m before

abbrev pub line_source : Listed → Mac
line_source (Lost copy) = copy.src
line_source (Pair copy time) = copy.src
line_source (OfNone src seq time) = src

abbrev pub lines_from : Mac → List Listed → List Listed
lines_from m [] = []
lines_from m (l ∷ lines) = if mac_eq m (line_source l) then l ∷ lines_from m lines else lines_from m lines

-- the sources of copies in the order of first hearing, up to the 1024th
abbrev pub heard : List Copied → List Mac
heard [] = []
heard (x ∷ before) = heard_with x.src (heard before)

-- how many of them were heard before one
abbrev pub heard_before : Mac → List Mac → ℕ
heard_before m [] = 0
heard_before m (k ∷ sources) = if mac_eq m k then 0 else 1 + heard_before m sources

-- a source is listed: it is one of the 512 from the first one on
abbrev pub is_listed : ℕ → Mac → List Copied → Bool
is_listed first m copies = list_any (mac_eq m) (heard copies) && is_listed_at first (heard_before m (heard copies))

-- what is to be listed of a source
abbrev pub wanted_lines : Spans → ℕ → Mac → List Copied → List Listed
wanted_lines spans first m copies =
    if is_listed first m copies then all_lines spans m (stretches (arrivals_from m copies)) (copies_from m copies) else []

-- a call of `Listing::note` that was not refused: what its contract says of what was pending, what is, and the lines before and after; a
-- number has 16 bits
pub record NotesCopy (spans : Spans) (first : ℕ) (x : Copied) (old new : List (Mac × Pending)) (before after : List Listed) : Type 0 where
  pub fits : x.arrival.seq.0 < 2 ^ 16
  pub lists : (xs : List Copied) → length xs + 1 < 2 ^ 64 → KeepsSources first xs old → KeepsSources first (x ∷ xs) new
  pub listed : (xs : List Copied) → KeepsSources first xs old →
      ListsCopy spans (arrivals_from x.src xs) x (lookup (mac_eq x.src) old) (lookup (mac_eq x.src) new) before after
  pub order : keys_of new ≡ heard_with x.src (keys_of old)
  pub others : (m : Mac) → mac_eq m x.src ≡ false → lookup (mac_eq m) new ≡ lookup (mac_eq m) old

-- a call of `Listing::finish` that was not refused, for a source of a listing of which none was finished before
pub record FinishesSource (spans : Spans) (first : ℕ) (src : Mac) (sources : List (Mac × Pending)) (before after : List Listed) : Type 0
  where
    pub listed : (xs : List Copied) → KeepsSources first xs sources →
        ListsLast spans src (arrivals_from src xs) (lookup (mac_eq src) sources) before after

-- a call appends these lines to some list
pub record AppendsLines (call : List Listed → List Listed → Type 0) (lines : List Listed) : Type 0 where
  pub before : List Listed
  pub after : call before (before ++ lines)

-- a new listing took these copies, newest first, each by a call; what is pending then, and all lines so far
abbrev pub ListingRun : Spans → ℕ → List Copied → List (Mac × Pending) → List Listed → Type 0
ListingRun spans first [] sources lines = (sources ≡ []) × (lines ≡ [])
ListingRun spans first (x ∷ copies) sources lines =
    (old : List (Mac × Pending)) × (so_far : List Listed) × (now : List Listed) × ListingRun spans first copies old so_far
    × AppendsLines (NotesCopy spans first x old sources) now × (lines ≡ so_far ++ now)

-- some lines are others in another order: of whatever lines there are as many
abbrev pub AreSameLines : List Listed → List Listed → Type 0
AreSameLines lines others = (test : Listed → Bool) → count_by test lines ≡ count_by test others

-- the lines of all calls for a source, and those of its end, are the lines of its numbers, each once
abbrev pub ListsEachOnce : Type 0
ListsEachOnce = (spans : Spans) (first : ℕ) (copies : List Copied) (sources : List (Mac × Pending)) (lines last : List Listed)
    (m : Mac) → length copies < 2 ^ 64 → ListingRun spans first copies sources lines →
    AppendsLines (FinishesSource spans first m sources) last →
    AreSameLines (lines_from m (lines ++ last)) (wanted_lines spans first m copies)

-- tests of lines
abbrev pub is_lost_at : Side → Listed → Bool
is_lost_at side (Lost copy) = same_side side copy.arrival.side
is_lost_at side (Pair copy time) = false
is_lost_at side (OfNone src seq time) = false

abbrev pub is_pair : Listed → Bool
is_pair (Lost copy) = false
is_pair (Pair copy time) = true
is_pair (OfNone src seq time) = false

abbrev pub is_of_none : Listed → Bool
is_of_none (Lost copy) = false
is_of_none (Pair copy time) = false
is_of_none (OfNone src seq time) = true

-- there are as many lines of each kind as the figures of a source say
pub record AreAsMany (spans : Spans) (ss : List (List Placed)) (lines : List Listed) : Type 0 where
  pub pairs : count_by is_pair lines ≡ (tally_of ss).pairs
  pub only_a : count_by (is_lost_at A) lines ≡ (tally_of ss).alone.a - (edges_of spans ss).a
  pub only_b : count_by (is_lost_at B) lines ≡ (tally_of ss).alone.b - (edges_of spans ss).b
  pub neither : count_by is_of_none lines ≡ sum_by neither_of ss

-- so it is of a source that is listed, behind the same calls
abbrev pub ListsAsFiguresSay : Type 0
ListsAsFiguresSay = (spans : Spans) (first : ℕ) (copies : List Copied) (sources : List (Mac × Pending)) (lines last : List Listed)
    (m : Mac) → length copies < 2 ^ 64 → is_listed first m copies ≡ true → ListingRun spans first copies sources lines →
    AppendsLines (FinishesSource spans first m sources) last →
    AreAsMany spans (stretches (arrivals_from m copies)) (lines_from m (lines ++ last))
