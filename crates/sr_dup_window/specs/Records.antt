-- What holds of every record, and of those that are merged.
use Rattle.std.specs.Prelude.{◌≡◌, ◌≢◌, ◌↔◌, ℕ, ◌*◌, ◌<◌, false, length, slice_index_or, ℤ, pos, ◌-ℤ◌}
use Rattle.sr_sequence.specs.Numbers.{wire}
use Rattle.sr_sequence.specs.Places.{steps}
use Rattle.sr_dup_window.specs.declared.lane_sets.Lane.{Lane}
use Rattle.sr_dup_window.specs.declared.record.Record.{Record}
use Rattle.sr_dup_window.specs.LaneSets.{none, known, is_empty}
use Rattle.sr_dup_window.specs.Windows.{Window, window_of, window_merged, has_of}
use Rattle.sr_dup_window.specs.Families.{Family, IsGreatest, IsClose, StandsFor}

-- w numbers, the newest by its 16 bits and noted on some lane, each with a set of lanes and no other bits
pub record IsWhole (w : ℕ) (r : Window) : Type 0 where
  pub count : length r.marks ≡ w
  pub carried : r.reference < 65536
  pub some : is_empty (slice_index_or r.marks 0 none) ≡ false
  pub plain : (k : ℕ) → k < w → known (slice_index_or r.marks k none) ≡ slice_index_or r.marks k none

-- every record shows such a window
abbrev pub WindowsAreWhole : ℕ → Type 0
WindowsAreWhole N = (r : Record N) → IsWhole (64 * N) (window_of r)

-- records that show the same are equal values
abbrev pub WindowsTell : ℕ → Type 0
WindowsTell N = (a b : Record N) → window_of a ≡ window_of b → a ≡ b

-- every record stands for some family
abbrev pub EachStands : ℕ → Type 0
EachStands N = (r : Record N) → (f : Family) × (m : ℤ) × StandsFor (64 * N) (window_of r) f m

-- A record stands for a family exactly where its reference is the family's greatest number modulo 65536, and `has` is true, of the W
-- numbers up to that, exactly on the lanes that have the number.
abbrev pub StandsByHas : ℕ → Type 0
StandsByHas N =
    (r : Record N) (f : Family) (m : ℤ)
    → StandsFor (64 * N) (window_of r) f m
    ↔ (IsGreatest f m
    × ((window_of r).reference ≡ wire m)
    × ((lane : Lane) (k : ℕ) → k < 64 * N → has_of (64 * N) (window_of r) lane (wire (m -ℤ pos k)) ≡ f lane (m -ℤ pos k)))

-- a record is equal to another exactly where one family serves both
abbrev pub EqualWhereOneServes : ℕ → Type 0
EqualWhereOneServes N =
    (a b : Record N) → (a ≡ b) ↔ ((f : Family) × (m : ℤ) × StandsFor (64 * N) (window_of a) f m × StandsFor (64 * N) (window_of b) f m)

-- merging in either order gives one record, where it is not refused
abbrev pub MergeCommutes : ℕ → Type 0
MergeCommutes N =
    (a b c d : Record N) → steps (window_of a).reference (window_of b).reference ≢ 32768 →
    window_of c ≡ window_merged (64 * N) (window_of a) (window_of b) → window_of d ≡ window_merged (64 * N) (window_of b) (window_of a) →
    c ≡ d

-- merging a record with itself leaves it
abbrev pub MergeIsIdempotent : ℕ → Type 0
MergeIsIdempotent N = (a b : Record N) → window_of b ≡ window_merged (64 * N) (window_of a) (window_of a) → b ≡ a

-- merging in either grouping gives one record, where the three greatest numbers are close, pair by pair
abbrev pub MergeAssociates : ℕ → Type 0
MergeAssociates N =
    (a b c d e : Record N) (m n k : ℤ) → wire m ≡ (window_of a).reference → wire n ≡ (window_of b).reference →
    wire k ≡ (window_of c).reference → IsClose m n → IsClose n k → IsClose m k →
    window_of d ≡ window_merged (64 * N) (window_merged (64 * N) (window_of a) (window_of b)) (window_of c) →
    window_of e ≡ window_merged (64 * N) (window_of a) (window_merged (64 * N) (window_of b) (window_of c)) → d ≡ e
