-- What holds of snapshots.
use Rattle.std.specs.Prelude.{◌≡◌, ℕ, List}
use Rattle.sr_dup_table.specs.declared.width.Width.{Width}
use Rattle.sr_dup_table.specs.Widths.{numbers_in}
use Rattle.sr_dup_table.specs.Sources.{Sources}
use Rattle.sr_dup_table.specs.Same.{AreSame}
use Rattle.sr_dup_snapshots.specs.Snapshots.{IsSnapshot}
use Rattle.sr_dup_snapshots.specs.Reading.{IsReadAs}

-- tables of one width that are the same have one snapshot
abbrev pub SnapshotsAreUnique : Type 0
SnapshotsAreUnique =
    (width : Width) (octets others : List ℕ) (s t : Sources) → IsSnapshot (numbers_in width) octets s
    → IsSnapshot (numbers_in width) others t → AreSame s t → octets ≡ others

-- one text is the snapshot of no two tables that differ, in their width or in what they know
abbrev pub SnapshotsTell : Type 0
SnapshotsTell =
    (v w : Width) (octets : List ℕ) (s t : Sources) → IsSnapshot (numbers_in v) octets s → IsSnapshot (numbers_in w) octets t
    → (v ≡ w) × AreSame s t

-- what is read of one text at one width is the same, however it is read
abbrev pub ReadingsAreOne : Type 0
ReadingsAreOne =
    (width : Width) (octets : List ℕ) (s t : Sources) → IsReadAs (numbers_in width) octets s
    → IsReadAs (numbers_in width) octets t → AreSame s t
