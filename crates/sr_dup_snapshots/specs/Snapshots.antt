-- A snapshot of a table that remembers w numbers of a source: the octets `53 52 44 57` and the version, the number of sources, and the
-- sources in ascending order of their addresses. Version 1 is that of a narrow table, version 2 that of a wide one.
use Rattle.std.specs.Prelude.{◌≡◌, ◌<◌, ◌≤◌, ◌^◌, ℕ, ◌+◌, ◌*◌, ◌/◌, Bool, if◌then◌else◌, nat_eq}
use Rattle.std.specs.Prelude.{List, [], ◌∷◌, ◌++◌, length, map, slice_index_or}
use Rattle.std.specs.List.{flat_map, range_with_len, AllByRecursion}
use Rattle.std.specs.List.Sorted.{IsStrictlySortedBy}
use Rattle.std.specs.Map.{keys_of}
use Rattle.std.specs.Cmp.Lexicographic.{slice_cmp}
use Rattle.std.specs.Ordering.{nat_cmp}
use Rattle.std.specs.declared.cmp.Ordering.{Ordering}
use Rattle.std.specs.Int.{w16, w64, to_be_bytes}
use Rattle.sr_frame.specs.declared.fields.Mac.{Mac}
use Rattle.sr_dup_window.specs.declared.lane_sets.Lane.{Lane}
use Rattle.sr_dup_window.specs.declared.lane_sets.Lane.TheVariants.{H, A, B, C, GotA, GotB}
use Rattle.sr_dup_window.specs.declared.lane_sets.Lanes.{Lanes}
use Rattle.sr_dup_window.specs.LaneSets.{flag, has, none}
use Rattle.sr_dup_window.specs.Windows.{Window}
use Rattle.sr_dup_window.specs.Records.{IsWhole}
use Rattle.sr_dup_table.specs.Limits.{window, most_sources}
use Rattle.sr_dup_table.specs.Sources.{Remembered, Sources}
use Rattle.sr_dup_table.specs.Same.{AreSame}

-- whether the number at a distance before the greatest one is noted on a lane
abbrev pub is_noted : List Lanes → Lane → ℕ → Bool
is_noted marks lane back = has (slice_index_or marks back none) lane

-- eight tests as an octet, the first as its lowest bit
abbrev pub octet_of : (ℕ → Bool) → ℕ
octet_of test =
    flag (test 0) + 2 * flag (test 1) + 4 * flag (test 2) + 8 * flag (test 3)
    + 16 * flag (test 4) + 32 * flag (test 5) + 64 * flag (test 6) + 128 * flag (test 7)

-- octet i of a lane: of the numbers 8 i to 8 i + 7 before the greatest one, which are noted
abbrev pub lane_octet : List Lanes → Lane → ℕ → ℕ
lane_octet marks lane i = octet_of (λ j. is_noted marks lane (8 * i + j))

-- how many octets a lane has, a bit for each number
abbrev pub lane_len : ℕ → ℕ
lane_len w = w / 8

-- the octets of a lane
unfoldable pub lane_octets : ℕ → List Lanes → Lane → List ℕ
lane_octets w marks lane = map (lane_octet marks lane) (range_with_len 0 (lane_len w))

-- a record: the 16 bits of its greatest number, and the six lanes in order
abbrev pub record_octets : ℕ → Window → List ℕ
record_octets w r =
    to_be_bytes w16 r.reference ++ lane_octets w r.marks H ++ lane_octets w r.marks A ++ lane_octets w r.marks B
    ++ lane_octets w r.marks C ++ lane_octets w r.marks GotA ++ lane_octets w r.marks GotB

-- a source: its address, when it was last heard, and its record
abbrev pub source_octets : ℕ → Mac × Remembered → List ℕ
source_octets w e = e.0.0 ++ to_be_bytes w64 e.1.time ++ record_octets w e.1.seen

-- how many octets a source has: address, time, greatest number and six lanes
abbrev pub source_len : ℕ → ℕ
source_len w = 16 + 6 * lane_len w

-- the version of a narrow table's snapshot, and of a wide one's
abbrev pub version_of : ℕ → ℕ
version_of w = if nat_eq w window then 1 else 2

-- `SRDW`, and the version
abbrev pub head : ℕ → List ℕ
head w = 0x53 ∷ 0x52 ∷ 0x44 ∷ 0x57 ∷ version_of w ∷ []

-- the octets of sources
abbrev pub spelling : ℕ → Sources → List ℕ
spelling w s = head w ++ to_be_bytes w16 (length s) ++ flat_map (source_octets w) s

-- addresses in the order of their octets, the first one greatest
abbrev pub mac_order : Mac → Mac → Ordering
mac_order x y = slice_cmp nat_cmp x.0 y.0

-- what stands in a table: an address of six octets, a time of 64 bits, and a record of w numbers, the greatest noted on some lane
pub record IsSource (w : ℕ) (e : Mac × Remembered) : Type 0 where
  pub address : length e.0.0 ≡ 6
  pub time : e.1.time < 2 ^ 64
  pub whole : IsWhole w e.1.seen

-- the octets are those of the same sources in strictly ascending order of address, at most 1024 of them
pub record IsSnapshot (w : ℕ) (octets : List ℕ) (s : Sources) : Type 0 where
  pub ordered : Sources
  pub same : AreSame s ordered
  pub ascending : IsStrictlySortedBy mac_order (keys_of ordered)
  pub few : length ordered ≤ most_sources
  pub each : AllByRecursion (IsSource w) ordered
  pub spelled : octets ≡ spelling w ordered
