-- Rows of six words.
use Rattle.std.proofs.Common.{◌≡◌, ℕ, Bool, true, false, cond, eqb, ◌||◌, ◌&&◌, not, List, [], ◌∷◌, refl, sym, ap, ◌∙◌}
use Rattle.std.proofs.Math.Bool.{or_comm}
use Rattle.std.proofs.lemmas.Nat.Bits.{bit_at-zero}
use Rattle.std.specs.Int.{bit_at}
use Rattle.sr_dup_window.specs.declared.lane_sets.Lane.{Lane}
use Rattle.sr_dup_window.specs.declared.lane_sets.Lane.TheVariants.{H, A, B, C, GotA, GotB}
use Rattle.sr_dup_window.specs.declared.lane_sets.Lanes.{Lanes}
use Rattle.sr_dup_window.specs.LaneSets.{has, lanes_where, none, union}
use Rattle.sr_dup_window.specs.LaneLemmas.{has-lanes_where, lanes_where-same}
use Rattle.sr_dup_window.specs.Bins.{has_bit, lanes_in}

-- a row of six words has the lanes for which a test holds
pub six_words : (h a b c got_a got_b bit : ℕ) (test : Lane → Bool) → eqb (bit_at h bit) 1 ≡ test H → eqb (bit_at a bit) 1 ≡ test A → eqb (bit_at b bit) 1 ≡ test B → eqb (bit_at c bit) 1 ≡ test C → eqb (bit_at got_a bit) 1 ≡ test GotA → eqb (bit_at got_b bit) 1 ≡ test GotB → lanes_in (h ∷ a ∷ b ∷ c ∷ got_a ∷ got_b ∷ []) bit ≡ lanes_where test
six_words h a b c got_a got_b bit test at_h at_a at_b at_c at_got_a at_got_b =
    lanes_where-same (has_bit (h ∷ a ∷ b ∷ c ∷ got_a ∷ got_b ∷ []) bit) test each
  where
    each : (lane : Lane) → has_bit (h ∷ a ∷ b ∷ c ∷ got_a ∷ got_b ∷ []) bit lane ≡ test lane
    each H = at_h
    each A = at_a
    each B = at_b
    each C = at_c
    each GotA = at_got_a
    each GotB = at_got_b

-- a mark adds the asked lanes at its bit
pub marked_lanes : (row : List ℕ) (bit b : ℕ) (lanes : Lanes) → lanes_where (λ lane. (eqb b bit && has lanes lane) || has_bit row b lane) ≡ cond (eqb b bit) (union (lanes_in row b) lanes) (lanes_in row b)
marked_lanes row bit b lanes = by_case (eqb b bit)
  where
    by_case : (t : Bool) → lanes_where (λ lane. (t && has lanes lane) || has_bit row b lane) ≡ cond t (union (lanes_in row b) lanes) (lanes_in row b)
    by_case true = lanes_where-same (λ lane. has lanes lane || has_bit row b lane) (λ lane. has (lanes_in row b) lane || has lanes lane)
        (λ lane. or_comm (has lanes lane) (has_bit row b lane) ∙ ap (λ x. x || has lanes lane) (sym (has-lanes_where (has_bit row b) lane)))
    by_case false = refl

-- a mask keeps all lanes of a bit or none
pub kept_lanes : (row : List ℕ) (t : Bool) (b : ℕ) → lanes_where (λ lane. t && has_bit row b lane) ≡ cond t (lanes_in row b) none
kept_lanes row true b = refl
kept_lanes row false b = refl

-- the lanes of two rows together
pub united_lanes : (row other : List ℕ) (b : ℕ) → lanes_where (λ lane. has_bit row b lane || has_bit other b lane) ≡ union (lanes_in row b) (lanes_in other b)
united_lanes row other b =
    lanes_where-same (λ lane. has_bit row b lane || has_bit other b lane) (λ lane. has (lanes_in row b) lane || has (lanes_in other b) lane)
    (λ lane. ap (λ x. x || has_bit other b lane) (sym (has-lanes_where (has_bit row b) lane)) ∙ ap (λ x. has (lanes_in row b) lane || x) (sym (has-lanes_where (has_bit other b) lane)))

-- words of no bits have no lane
pub zero_lanes : (b : ℕ) → lanes_in (0 ∷ 0 ∷ 0 ∷ 0 ∷ 0 ∷ 0 ∷ []) b ≡ none
zero_lanes b =
    let no : eqb (bit_at 0 b) 1 ≡ false = ap (λ n. eqb n 1) (bit_at-zero b) in
    six_words 0 0 0 0 0 0 b (λ lane. false) no no no no no no

pub no_row_lanes : (b : ℕ) → lanes_in [] b ≡ none
no_row_lanes b =
    let no : eqb (bit_at 0 b) 1 ≡ false = ap (λ n. eqb n 1) (bit_at-zero b) in
    lanes_where-same (has_bit [] b) (λ lane. false) (λ lane. no)

-- a bit that is cleared and set again has just the lanes that it is set on
pub put_lanes : (old mid new : List ℕ) (bit b : ℕ) (lanes : Lanes) (t : Bool) → t ≡ not (eqb b bit) → lanes_in mid b ≡ cond t (lanes_in old b) none
    → lanes_in new b ≡ cond (eqb b bit) (union (lanes_in mid b) lanes) (lanes_in mid b) → lanes_in new b ≡ cond (eqb b bit) (union none lanes) (lanes_in old b)
put_lanes old mid new bit b lanes t is kept marked =
    marked ∙ ap (λ x. cond (eqb b bit) (union x lanes) x) (kept ∙ ap (λ u. cond u (lanes_in old b) none) is) ∙ either (eqb b bit)
  where
    either : (u : Bool) → cond u (union (cond (not u) (lanes_in old b) none) lanes) (cond (not u) (lanes_in old b) none) ≡ cond u (union none lanes) (lanes_in old b)
    either true = refl
    either false = refl

-- the bits that a mask of those before and those behind has are kept
pub cleared_lanes : (row new : List ℕ) (b : ℕ) (t u : Bool) → t ≡ not u → lanes_in new b ≡ cond t (lanes_in row b) none → lanes_in new b ≡ cond u none (lanes_in row b)
cleared_lanes row new b t u is kept = kept ∙ ap (λ x. cond x (lanes_in row b) none) is ∙ turned u
  where
    turned : (u : Bool) → cond (not u) (lanes_in row b) none ≡ cond u none (lanes_in row b)
    turned true = refl
    turned false = refl
