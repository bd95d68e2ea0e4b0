-- The pairs of the first bins.
use Rattle.std.proofs.Common.{◌≡◌, ℕ, ◌+◌, ◌++◌, List, refl, ap, add-one, option_to_list}
use Rattle.sr_clocks.specs.declared.sightings.Sighting.{Sighting}
use Rattle.sr_clocks.specs.Seen.{bin_of_all, paired, pairs_below, pairs_in, bin_count}

-- those of one bin more
pub pairs_one_more : (n : ℕ) (xs ys : List Sighting) → pairs_below (n + 1) xs ys ≡ pairs_below n xs ys ++ option_to_list (paired (bin_of_all n xs) (bin_of_all n ys))
pairs_one_more n xs ys = rw add-one refl

is_all : (n : ℕ) → n ≡ 4096 → n ≡ bin_count
unfolding bin_count
is_all n all = all

-- those of all bins
pub pairs_of_all : (n : ℕ) (xs ys : List Sighting) → n ≡ 4096 → pairs_below n xs ys ≡ pairs_in xs ys
pairs_of_all n xs ys all = ap (λ k. pairs_below k xs ys) (is_all n all)
