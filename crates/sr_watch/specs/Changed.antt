-- How counts change from line to line, and what these changes are together.
use Rattle.std.specs.Prelude.{◌≡◌, ℕ, ◌^◌, ◌≤◌, List, [], ◌∷◌, ℤ, pos, ◌+ℤ◌, ◌-ℤ◌, unsigned_abs}
use Rattle.std.specs.Int.{w128, saturate_signed}
use Rattle.sr_audit.specs.declared.tally.Sides.{Sides}
use Rattle.sr_watch.specs.declared.counts.Changes.{Changes}
use Rattle.sr_watch.specs.declared.counts.Counts.{Counts}
use Rattle.sr_watch.specs.declared.counts.SideChanges.{SideChanges}
use Rattle.sr_watch.specs.declared.report.SourceLine.{SourceLine}

-- what was not told of a count, and of the counts of both LANs
abbrev pub change : ℕ → ℕ → ℤ
change told all = pos all -ℤ pos told

abbrev pub side_changes : Sides → Sides → SideChanges
side_changes told all = record { a = change told.a all.a; b = change told.b all.b }

-- what was not told
abbrev pub changes_between : Counts → Counts → Changes
changes_between told all = record {
  rx = side_changes told.rx all.rx;
  both = change told.both all.both;
  lost = side_changes told.lost all.lost;
  late = side_changes told.late all.late;
  repeats = side_changes told.repeats all.repeats;
  order = side_changes told.order all.order;
  neither = change told.neither all.neither;
  jumps = change told.jumps all.jumps;
  restarts = change told.restarts all.restarts;
  pairs = change told.skews.count all.skews.count;
  skew_sum = saturate_signed w128 (all.skews.sum -ℤ told.skews.sum);
}

-- two changes together
abbrev pub side_plus : SideChanges → SideChanges → SideChanges
side_plus x y = record { a = x.a +ℤ y.a; b = x.b +ℤ y.b }

abbrev pub plus : Changes → Changes → Changes
plus x y = record {
  rx = side_plus x.rx y.rx;
  both = x.both +ℤ y.both;
  lost = side_plus x.lost y.lost;
  late = side_plus x.late y.late;
  repeats = side_plus x.repeats y.repeats;
  order = side_plus x.order y.order;
  neither = x.neither +ℤ y.neither;
  jumps = x.jumps +ℤ y.jumps;
  restarts = x.restarts +ℤ y.restarts;
  pairs = x.pairs +ℤ y.pairs;
  skew_sum = x.skew_sum +ℤ y.skew_sum;
}

-- counts as a change from nothing
abbrev pub side_whole : Sides → SideChanges
side_whole s = record { a = pos s.a; b = pos s.b }

abbrev pub as_changes : Counts → Changes
as_changes c = record {
  rx = side_whole c.rx;
  both = pos c.both;
  lost = side_whole c.lost;
  late = side_whole c.late;
  repeats = side_whole c.repeats;
  order = side_whole c.order;
  neither = pos c.neither;
  jumps = pos c.jumps;
  restarts = pos c.restarts;
  pairs = pos c.skews.count;
  skew_sum = c.skews.sum;
}

-- nothing was counted
abbrev pub none_counted : Counts
none_counted = record {
  rx = record { a = 0; b = 0 };
  both = 0;
  lost = record { a = 0; b = 0 };
  late = record { a = 0; b = 0 };
  repeats = record { a = 0; b = 0 };
  order = record { a = 0; b = 0 };
  neither = 0;
  jumps = 0;
  restarts = 0;
  skews = record { count = 0; least = pos 0; greatest = pos 0; sum = pos 0; classes = 0 ∷ 0 ∷ 0 ∷ 0 ∷ 0 ∷ 0 ∷ 0 ∷ [] };
}

-- what the lines of a source tell together, newest first
abbrev pub sum_of : List SourceLine → Changes
sum_of [] = as_changes none_counted
sum_of (line ∷ before) = plus line.interval (sum_of before)

-- what the newest line of a source told in all
abbrev pub total_of : List SourceLine → Counts
total_of [] = none_counted
total_of (line ∷ before) = line.total

-- a sum of skews is so small that it differs from another such one by less than 128 bits hold
abbrev pub IsSmall : Counts → Type 0
IsSmall c = unsigned_abs c.skews.sum ≤ 2 ^ 120

-- these lines told so much
pub record HasTold (lines : List SourceLine) (told : Counts) : Type 0 where
  pub sums : sum_of lines ≡ as_changes told
  pub small : IsSmall told
