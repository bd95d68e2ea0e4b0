-- The frames that a recorder saw, and those that both did.
use Rattle.std.specs.Prelude.{
  ◌≡◌,
  ℕ,
  zero,
  suc,
  ◌-◌,
  ◌^◌,
  ◌%◌,
  ◌<◌,
  not,
  nat_eq,
  nat_lt,
  Bool,
  true,
  false,
  ◌&&◌,
  List,
  [],
  ◌∷◌,
  ◌++◌,
  length,
  Option,
  None,
  Some,
  ℤ,
  pos,
  ◌-ℤ◌,
  slice_index_or,
  option_to_list,
  if◌then◌else◌,
}
use Rattle.sr_clocks.specs.declared.pair.Pair.{Pair}
use Rattle.sr_clocks.specs.declared.sightings.Sighting.{Sighting}
use Rattle.sr_clocks.specs.declared.sightings.Kept.{Kept}
use Rattle.sr_clocks.specs.declared.sightings.Sightings.{Sightings}

-- the pair of a frame of these times by the first and the second clock, if they are less than 2^63 ns apart
abbrev pub times_paired : ℕ → ℕ → Option Pair
times_paired first second =
    if nat_lt (first - second) (2 ^ 63) && nat_lt (second - first) (2 ^ 63)
    then Some (record { time = second; ahead = pos second -ℤ pos first }) else None

-- what a bin keeps with a sighting more: the least key, the time of its first sighting, and whether that is the only one
abbrev pub bin_with : Option Kept → ℕ → ℕ → Kept
bin_with None key time = record { key = key; time = time; is_single = true }
bin_with (Some k) key time =
    if nat_lt k.key key then k
    else if nat_eq k.key key then record k { is_single = false }
    else record { key = key; time = time; is_single = true }

-- what a bin keeps of sightings, newest first
abbrev pub bin_of_all : ℕ → List Sighting → Option Kept
bin_of_all bin [] = None
bin_of_all bin (x ∷ before) =
    if nat_eq (x.bin % 4096) bin then Some (bin_with (bin_of_all bin before) x.key x.time) else bin_of_all bin before

-- a key that is no less than this one changes what a bin keeps, or may do so
abbrev pub may_change : Option Kept → ℕ → Bool
may_change None least = true
may_change (Some k) least = not (nat_lt k.key least)

pub record Keeps (xs : List Sighting) (s : Sightings) : Type 0 where
  pub size : length s.bins.items ≡ 4096
  pub each : (bin : ℕ) → bin < 4096 → slice_index_or s.bins.items bin None ≡ bin_of_all bin xs

-- what bins keep is the same frame, which each recorder saw once
abbrev pub is_shared : Kept → Kept → Bool
is_shared k l = nat_eq k.key l.key && (k.is_single && l.is_single)

-- its pair
abbrev pub paired : Option Kept → Option Kept → Option Pair
paired None l = None
paired (Some k) None = None
paired (Some k) (Some l) = if is_shared k l then times_paired k.time l.time else None

-- those of the first bins, in order
abbrev pub pairs_below : ℕ → List Sighting → List Sighting → List Pair
pairs_below zero xs ys = []
pairs_below (suc n) xs ys = pairs_below n xs ys ++ option_to_list (paired (bin_of_all n xs) (bin_of_all n ys))

-- how many bins there are
unfoldable pub bin_count : ℕ
bin_count = 4096

-- the frames that both recorders saw once, and kept
abbrev pub pairs_in : List Sighting → List Sighting → List Pair
pairs_in xs ys = pairs_below bin_count xs ys
