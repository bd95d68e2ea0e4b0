-- What holds of joins: order and grouping don't matter, and records stand for the numbers of both.
use Rattle.std.specs.Prelude.{◌≡◌, ℕ, max, Option, None, Some, ℤ}
use Rattle.std.specs.Map.{lookup}
use Rattle.sr_frame.specs.declared.fields.Mac.{Mac}
use Rattle.sr_frame.specs.Addresses.{mac_eq}
use Rattle.sr_sequence.specs.Numbers.{wire}
use Rattle.sr_dup_window.specs.Records.{IsWhole}
use Rattle.sr_dup_window.specs.Families.{Family, IsClose, StandsFor, join, greater}
use Rattle.sr_dup_window.specs.Bins.{IsWidth}
use Rattle.sr_dup_table.specs.Sources.{Remembered, Sources, IsTable, live_at}
use Rattle.sr_dup_table.specs.Same.{AreSame}
use Rattle.sr_dup_table.specs.Joins.{IsJoin, first_apart}

-- the sources of a table: distinct and few, and each record is that of w numbers
abbrev pub IsSound : ℕ → Sources → Type 0
IsSound w s = IsTable s × ((src : Mac) (h : Remembered) → lookup (mac_eq src) s ≡ Some h → IsWhole w h.seen)

-- what `merge` leaves at a time: the join of those that are live
abbrev pub MergesTo : ℕ → ℕ → Sources → Sources → Sources → Type 0
MergesTo w now one other both = IsJoin w (live_at now one) (live_at now other) both

-- three records of which the greatest numbers are close, pair by pair
abbrev pub AreClose : Option Remembered → Option Remembered → Option Remembered → Type 0
AreClose (Some a) (Some b) (Some c) = (m n k : ℤ) × (wire m ≡ a.seen.reference) × (wire n ≡ b.seen.reference) × (wire k ≡ c.seen.reference)
    × IsClose m n × IsClose n k × IsClose m k
AreClose (Some a) (Some b) None = Unit {0}
AreClose (Some a) None c = Unit {0}
AreClose None b c = Unit {0}

-- merging in either order gives the same, where it is not refused
abbrev pub MergeCommutes : Type 0
MergeCommutes = (w : ℕ) → IsWidth w → (now : ℕ) (one other both turned : Sources) → IsSound w one → IsSound w other
    → first_apart (live_at now one) (live_at now other) ≡ None → MergesTo w now one other both → MergesTo w now other one turned →
    AreSame both turned

-- merging a table with itself leaves what is live
abbrev pub MergeIsIdempotent : Type 0
MergeIsIdempotent = (w : ℕ) → IsWidth w → (now : ℕ) (one both : Sources) → IsSound w one
    → MergesTo w now one one both → AreSame both (live_at now one)

-- merging in either grouping gives the same, where of each address the three records' greatest numbers are close
abbrev pub MergeAssociates : Type 0
MergeAssociates = (w : ℕ) → IsWidth w → (now : ℕ) (one other third first second left right : Sources)
    → IsSound w one → IsSound w other → IsSound w third → IsTable first → IsTable second
    → ((src : Mac) → AreClose (lookup (mac_eq src) (live_at now one)) (lookup (mac_eq src) (live_at now other))
    (lookup (mac_eq src) (live_at now third)))
    → MergesTo w now one other first → MergesTo w now first third left
    → MergesTo w now other third second → MergesTo w now one second right → AreSame left right

-- a record stands for a family, which was heard at a time
abbrev pub Stands : ℕ → Option Remembered → Family → ℤ → ℕ → Type 0
Stands w None f m time = ⊥
Stands w (Some h) f m time = StandsFor w h.seen f m × (h.time ≡ time)

-- where both have a record of an address, its new one stands for the join of what they stand for, at the later time
abbrev pub MergeStands : Type 0
MergeStands = (w : ℕ) → IsWidth w → (now : ℕ) (one other both : Sources) (src : Mac) (f g : Family) (m n : ℤ) (time late : ℕ)
    → Stands w (lookup (mac_eq src) (live_at now one)) f m time → Stands w (lookup (mac_eq src) (live_at now other)) g n late → IsClose m n
    → MergesTo w now one other both → Stands w (lookup (mac_eq src) both) (join f g) (greater m n) (max time late)
