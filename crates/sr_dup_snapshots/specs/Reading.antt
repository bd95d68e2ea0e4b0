-- What octets spell, read part by part, where w numbers of each source are spelled.
use Rattle.std.specs.Prelude.{◌≡◌, ◌≤◌, ℕ, zero, suc, ◌+◌, ◌*◌, ◌/◌, ◌%◌, ◌==◌, Bool, true, ◌&&◌, not, Option, None, Some}
use Rattle.std.specs.Prelude.{List, [], ◌∷◌, ◌++◌, length, map, take, drop, slice_index_or, ◌⊎◌, if◌then◌else◌, nat_eq}
use Rattle.std.specs.List.{range_with_len}
use Rattle.std.specs.Int.{w16, w64, to_be_bytes, from_be_bytes, bit_at}
use Rattle.std.specs.Ordering.{is_lt}
use Rattle.sr_frame.specs.declared.fields.Mac.{Mac}
use Rattle.sr_dup_window.specs.declared.lane_sets.Lane.{Lane}
use Rattle.sr_dup_window.specs.declared.lane_sets.Lanes.{Lanes}
use Rattle.sr_dup_window.specs.LaneSets.{index_of, lanes_where, is_empty, none}
use Rattle.sr_dup_window.specs.Windows.{Window, no_marks}
use Rattle.sr_dup_table.specs.Limits.{window, wide_window, most_sources}
use Rattle.sr_dup_table.specs.Sources.{Remembered, Sources}
use Rattle.sr_dup_snapshots.specs.Snapshots.{mac_order, lane_len, source_len, head, IsSnapshot}

-- whether the number at a distance before the greatest one is noted on a lane, by the octets of the six lanes
abbrev pub is_set : ℕ → List ℕ → ℕ → Lane → Bool
is_set w lanes back lane = bit_at (slice_index_or lanes (index_of lane * lane_len w + back / 8) 0) (back % 8) == 1

-- the lanes on which it is noted
abbrev pub lanes_noted : ℕ → List ℕ → ℕ → Lanes
lanes_noted w lanes back = lanes_where (is_set w lanes back)

-- the lanes of all w numbers
unfoldable pub marks_in : ℕ → List ℕ → List Lanes
marks_in w lanes = map (lanes_noted w lanes) (range_with_len 0 w)

-- a source: its address, when it was last heard, the 16 bits of its greatest number, and the lanes
abbrev pub time_in : List ℕ → ℕ
time_in source = from_be_bytes w64 (take 8 (drop 6 source))

abbrev pub reference_in : List ℕ → ℕ
reference_in source = from_be_bytes w16 (take 2 (drop 8 (drop 6 source)))

abbrev pub lanes_in : List ℕ → List ℕ
lanes_in source = drop 2 (drop 8 (drop 6 source))

abbrev pub window_in : ℕ → ℕ → List ℕ → Window
window_in w reference lanes = record { reference = reference; marks = marks_in w lanes }

abbrev pub source_in : ℕ → List ℕ → Mac × Remembered
source_in w source =
    (record { 0 = take 6 source }, record { seen = window_in w (reference_in source) (lanes_in source); time = time_in source })

-- so many sources, one behind the other
unfoldable pub sources_in : ℕ → ℕ → List ℕ → Sources
sources_in w zero octets = []
sources_in w (suc count) octets = source_in w (take (source_len w) octets) ∷ sources_in w count (drop (source_len w) octets)

-- whether an address comes after the last one
abbrev pub is_after : Option Mac → Mac → Bool
is_after None src = true
is_after (Some last) src = is_lt (mac_order last src)

-- whether a source can follow: its address comes after the last one, and it has its greatest number on some lane
abbrev pub follows : Option Mac → Mac × Remembered → Bool
follows last e = is_after last e.0 && not (is_empty (slice_index_or e.1.seen.marks 0 none))

-- whether sources stand in order behind an address
unfoldable pub are_in_order : Option Mac → Sources → Bool
are_in_order last [] = true
are_in_order last (e ∷ s) = follows last e && are_in_order (Some e.0) s

-- a text with the right head, number and length: the octets of so many sources stand behind its head
pub record IsText (w : ℕ) (octets : List ℕ) (count : ℕ) (sources : List ℕ) : Type 0 where
  pub spelled : octets ≡ head w ++ to_be_bytes w16 count ++ sources
  pub size : length sources ≡ source_len w * count
  pub few : count ≤ most_sources

-- the marks of a record at another width: those of its w greatest numbers, where numbers that it does not have are noted on no lane
abbrev pub marks_cut : ℕ → List Lanes → List Lanes
marks_cut w marks = take w (marks ++ no_marks w)

abbrev pub window_cut : ℕ → Window → Window
window_cut w r = record { reference = r.reference; marks = marks_cut w r.marks }

-- sources at another width
abbrev pub source_cut : ℕ → Mac × Remembered → Mac × Remembered
source_cut w e = (e.0, record { seen = window_cut w e.1.seen; time = e.1.time })

abbrev pub recut : ℕ → Sources → Sources
recut w s = map (source_cut w) s

-- the width that a table of this one does not have
abbrev pub other : ℕ → ℕ
other w = if nat_eq w window then wide_window else window

-- what is read of octets at a width: the sources of which they are the snapshot; or, where they are one of the other width, those
-- sources recut to this one
abbrev pub IsReadAs : ℕ → List ℕ → Sources → Type 0
IsReadAs w octets s = IsSnapshot w octets s ⊎ ((written : Sources) × IsSnapshot (other w) octets written × (s ≡ recut w written))
