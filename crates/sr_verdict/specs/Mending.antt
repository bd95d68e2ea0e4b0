-- When a ring was cut and mended again: at a time at which several sources were heard by one side alone.
use Rattle.std.specs.Prelude.{ℕ, nat_lt, nat_le, Bool, ◌&&◌, List, Option, None, Some, is_some, fold, if◌then◌else◌}
use Rattle.sr_audit.specs.declared.row.Row.{Row}
use Rattle.sr_audit.specs.Shown.{bounded_sum}
use Rattle.sr_capture_audit.specs.declared.network.Network.{Network}
use Rattle.sr_capture_audit.specs.declared.network.Network.TheVariants.{Prp, Hsr}
use Rattle.sr_verdict.specs.declared.heard.Heard.{Heard}
use Rattle.sr_verdict.specs.declared.heard.When.TheVariants.{At}
use Rattle.sr_verdict.specs.Heards.{closed_in, row_when}

-- how many sources were heard by one side alone at a time
abbrev pub one_more_where : Bool → ℕ → ℕ
one_more_where holds n = if holds then bounded_sum n 1 else n

abbrev pub sided_with : ℕ → ℕ → Heard → ℕ
sided_with time n h = one_more_where (is_some (row_when (At time) h)) n

abbrev pub sided_at : ℕ → List Heard → ℕ
sided_at time hs = fold (sided_with time) 0 hs

-- how many were at any time
abbrev pub ever_with : ℕ → Heard → ℕ
ever_with n h = one_more_where (is_some (closed_in h)) n

abbrev pub ever_sided : List Heard → ℕ
ever_sided hs = fold ever_with 0 hs

-- of two times the one at which more sources were, and of equal ones the first
abbrev pub fuller : List Heard → Option ℕ → ℕ → ℕ
fuller hs None time = time
fuller hs (Some best) time = if nat_lt (sided_at best hs) (sided_at time hs) then time else best

abbrev pub fuller_by : List Heard → Option ℕ → Option Row → Option ℕ
fuller_by hs best None = best
fuller_by hs best (Some row) = Some (fuller hs best row.since)

abbrev pub fuller_with : List Heard → Option ℕ → Heard → Option ℕ
fuller_with hs best h = fuller_by hs best (closed_in h)

-- of the times at which rows began the one at which the most sources were
abbrev pub fullest : List Heard → Option ℕ
fullest hs = fold (fuller_with hs) None hs

-- a ring was cut where at least two sources were at once, and at least half of those that ever were (choice of this project): frames in a
-- row of one source alone, or of each at another time, were lost in another way
abbrev pub tells_of_cut : ℕ → ℕ → Bool
tells_of_cut at_once ever = nat_le 2 at_once && nat_le ever (bounded_sum at_once at_once)

abbrev pub mended_by : List Heard → Option ℕ → Option ℕ
mended_by hs None = None
mended_by hs (Some time) = if tells_of_cut (sided_at time hs) (ever_sided hs) then Some time else None

-- when a ring was cut that was mended, at one time of it
abbrev pub cut_time : Network → List Heard → Option ℕ
cut_time Prp hs = None
cut_time Hsr hs = mended_by hs (fullest hs)
