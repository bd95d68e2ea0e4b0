-- What is kept of how far the numbers of stretches reach, and how one arrival changes it.
use Rattle.std.specs.Prelude.{
  ◌≡◌,
  ℕ,
  ◌-◌,
  ◌*◌,
  min,
  max,
  ◌≤◌,
  nat_lt,
  Bool,
  false,
  not,
  ◌&&◌,
  List,
  length,
  Option,
  None,
  Some,
  ℤ,
  pos,
  ◌-ℤ◌,
  int_lt,
  sum_by,
}
use Rattle.sr_sequence.specs.declared.Distance.TheVariants.{Behind, Ahead}
use Rattle.sr_audit.specs.declared.arrival.Arrival.{Arrival}
use Rattle.sr_audit.specs.declared.extent.Extent.{Extent}
use Rattle.sr_audit.specs.declared.extent.Tops.{Tops}
use Rattle.sr_audit.specs.declared.look.Look.{Look}
use Rattle.sr_audit.specs.declared.look.Step.{Step}
use Rattle.sr_audit.specs.declared.look.Step.TheVariants.{First, Restart, Jump, On}
use Rattle.sr_audit.specs.declared.side.Side.{Side}
use Rattle.sr_audit.specs.declared.side.Side.TheVariants.{A, B}
use Rattle.sr_audit.specs.declared.tally.Came.{Came}
use Rattle.sr_audit.specs.Counting.{more_at, came_before_at}
use Rattle.sr_audit.specs.Extents.{bottom_number, length_of, has_greater, order, jumps_of, restarts_of}
use Rattle.sr_audit.specs.Limits.{kept_numbers}
use Rattle.sr_audit.specs.Shown.{bounded_sum}
use Rattle.sr_audit.specs.Stretches.{Placed, top_number, current, stretches}

-- the greatest number of a side, so far below the greatest of all, once that is some steps higher
abbrev pub sunk : ℕ → Option ℕ → Option ℕ
sunk steps None = None
sunk steps (Some below) = Some (bounded_sum below steps)

-- the greatest number of a side, once a copy came there, so many steps below the greatest of all
abbrev pub lifted : ℕ → Option ℕ → Option ℕ
lifted steps None = Some steps
lifted steps (Some below) = Some (min below steps)

-- a greater number came there than one so many steps below the greatest of all
abbrev pub is_under : ℕ → Option ℕ → Bool
is_under steps None = false
is_under steps (Some below) = nat_lt below steps

-- those of both sides
abbrev pub tops_begun : Side → Tops
tops_begun A = record { a = Some 0; b = None }
tops_begun B = record { a = None; b = Some 0 }

abbrev pub tops_sunk : ℕ → Tops → Tops
tops_sunk steps tops = record { a = sunk steps tops.a; b = sunk steps tops.b }

abbrev pub tops_lifted : Side → ℕ → Tops → Tops
tops_lifted A steps tops = record { a = lifted steps tops.a; b = tops.b }
tops_lifted B steps tops = record { a = tops.a; b = lifted steps tops.b }

abbrev pub top_at : Side → Tops → Option ℕ
top_at A tops = tops.a
top_at B tops = tops.b

-- what is kept with an arrival that begins a stretch
abbrev pub extent_begun : Side → Extent → Extent
extent_begun side e = record {
  depth = 0;
  tops = tops_begun side;
  lengths = bounded_sum e.lengths 1;
  order = e.order;
  jumps = e.jumps;
  restarts = e.restarts;
}

-- with one whose number lies ahead
abbrev pub extent_ahead : Side → ℕ → Extent → Extent
extent_ahead side steps e = record {
  depth = bounded_sum e.depth steps;
  tops = tops_lifted side 0 (tops_sunk steps e.tops);
  lengths = bounded_sum e.lengths steps;
  order = e.order;
  jumps = e.jumps;
  restarts = e.restarts;
}

-- with one whose number is the greatest or lies behind it
abbrev pub extent_behind : Side → ℕ → Bool → Extent → Extent
extent_behind side steps is_first e = record {
  depth = max e.depth steps;
  tops = tops_lifted side steps e.tops;
  lengths = bounded_sum e.lengths (steps - e.depth);
  order = more_at e.order side (is_first && is_under steps (top_at side e.tops));
  jumps = e.jumps;
  restarts = e.restarts;
}

abbrev pub extent_restarted : Side → Extent → Extent
extent_restarted side e = record {
  depth = 0;
  tops = tops_begun side;
  lengths = bounded_sum e.lengths 1;
  order = e.order;
  jumps = e.jumps;
  restarts = bounded_sum e.restarts 1;
}

abbrev pub extent_jumped : Side → Extent → Extent
extent_jumped side e = record {
  depth = 0;
  tops = tops_begun side;
  lengths = bounded_sum e.lengths 1;
  order = e.order;
  jumps = bounded_sum e.jumps 1;
  restarts = e.restarts;
}

abbrev pub extent_by : Side → Came → Step → Extent → Extent
extent_by side came First e = extent_begun side e
extent_by side came Restart e = extent_restarted side e
extent_by side came Jump e = extent_jumped side e
extent_by side came (On (Ahead steps)) e = extent_ahead side steps e
extent_by side came (On (Behind steps)) e = extent_behind side steps (not (came_before_at came side)) e

-- with an arrival at a side, by what it is to the stretch before it
abbrev pub extent_with : Side → Look → Extent → Extent
extent_with side look e = extent_by side look.came look.step e

-- where the greatest number of a side lies: below the greatest of all, and no deeper than the least
abbrev pub KeepsTop : Side → List Placed → ℕ → Option ℕ → Type 0
KeepsTop side s depth None = (n : ℤ) → has_greater side n s ≡ false
KeepsTop side s depth (Some below) = (below ≤ depth) × ((n : ℤ) → has_greater side n s ≡ int_lt n (top_number s -ℤ pos below))

pub record KeepsReach (ss : List (List Placed)) (e : Extent) : Type 0 where
  pub depth : bottom_number (current ss) ≡ top_number (current ss) -ℤ pos e.depth
  pub top_a : KeepsTop A (current ss) e.depth e.tops.a
  pub top_b : KeepsTop B (current ss) e.depth e.tops.b
  pub lengths : e.lengths ≡ sum_by length_of ss
  pub few : sum_by length_of ss ≤ kept_numbers * sum_by length ss
  pub order_a : e.order.a ≡ sum_by (order A) ss
  pub order_b : e.order.b ≡ sum_by (order B) ss

-- what is kept says of these arrivals of a source how far its stretches reach, and how they begin
pub record KeepsExtent (xs : List Arrival) (e : Extent) : Type 0 where
  pub reach : KeepsReach (stretches xs) e
  pub jumps : e.jumps ≡ jumps_of xs
  pub restarts : e.restarts ≡ restarts_of xs
