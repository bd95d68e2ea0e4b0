-- The copies that a node puts out, and places of lists.
use Rattle.std.proofs.Common.{replicate, ◌≡◌, ◌⊎◌, inl, inr, ℕ, zero, suc, ◌+◌, ◌&&◌, Bool, true, false, List, [], ◌∷◌, map, Some, slice_get, slice_set, slice_index_or, refl, sym, ap}
use Rattle.std.proofs.Common.{◌==◌, ◌∙◌, arith}
use Rattle.std.proofs.lemmas.Bool.{ne_eqb, eq-eqb, true≢false}
use Rattle.sr_frame.specs.declared.ports.Port.{Port}
use Rattle.sr_frame.specs.declared.ports.Port.TheVariants.{H, A, B, C}
use Rattle.sr_dup_window.specs.declared.lane_sets.Lanes.{Lanes}
use Rattle.sr_dup_window.specs.LaneSets as lanes
use Rattle.sr_forwarding.specs.declared.outlets.Outlets.{Outlets}
use Rattle.sr_forwarding.specs.Outlets.{has, bit_if, outlets_where}
use Rattle.sr_forwarding.specs.Parcels.{ParcelImage}
use Rattle.sr_node.specs.Outboxes.{boxes_empty}
use Rattle.sr_node.specs.Copies.{copy_if, put_at, with_copy}
use Rattle.sr_node.specs.declared.mode.Mode.{Mode}
use Rattle.sr_node.specs.Lanes.{is_clear, lane_at, outlets_on}
use Rattle.sr_laws_plant.specs.Lists.{Each}
use Rattle.sr_laws_plant.specs.ListLemmas.{each_append}
use Rattle.sr_laws_plant.specs.Ledger.{Hop}
use Rattle.sr_plant.specs.declared.topology.Topology.{Topology}
use Rattle.sr_plant.specs.Topologies.{net_of, IsJoinedAs}
use Rattle.sr_plant.specs.Copies.{Copy}
use Rattle.sr_plant.specs.Puts.{copy_over, copies_put, all_put, put_out}
use Rattle.sr_laws_plant_runs.proofs.WireLemmas.{IsWire, wires}

-- the four tests are the four lowest bits
abbrev HasBits : Bool → Bool → Bool → Bool → Outlets → Type 0
HasBits a b c d o = (has o H ≡ a) × (has o A ≡ b) × (has o B ≡ c) × (has o C ≡ d)

bits : (a b c d : Bool) → HasBits a b c d (record { 0 = bit_if a 1 + bit_if b 2 + bit_if c 4 + bit_if d 8 })
bits true true true true = (refl, refl, refl, refl)
bits true true true false = (refl, refl, refl, refl)
bits true true false true = (refl, refl, refl, refl)
bits true true false false = (refl, refl, refl, refl)
bits true false true true = (refl, refl, refl, refl)
bits true false true false = (refl, refl, refl, refl)
bits true false false true = (refl, refl, refl, refl)
bits true false false false = (refl, refl, refl, refl)
bits false true true true = (refl, refl, refl, refl)
bits false true true false = (refl, refl, refl, refl)
bits false true false true = (refl, refl, refl, refl)
bits false true false false = (refl, refl, refl, refl)
bits false false true true = (refl, refl, refl, refl)
bits false false true false = (refl, refl, refl, refl)
bits false false false true = (refl, refl, refl, refl)
bits false false false false = (refl, refl, refl, refl)

has_where : (test : Port → Bool) (o : Port) → has (outlets_where test) o ≡ test o
has_where test H = (bits (test H) (test A) (test B) (test C)).0
has_where test A = (bits (test H) (test A) (test B) (test C)).1
has_where test B = (bits (test H) (test A) (test B) (test C)).2
has_where test C = (bits (test H) (test A) (test B) (test C)).3

-- at each outlet, a frame goes where it is wanted and new
pub has_on : (m : Mode) (fresh : Lanes) (wanted : Outlets) (o : Port) → has (outlets_on m fresh wanted) o ≡ (has wanted o && (lanes.has fresh (lane_at o) && is_clear m fresh o))
has_on m fresh wanted o = has_where (λ q. has wanted q && (lanes.has fresh (lane_at q) && is_clear m fresh q)) o

-- what holds of a parcel over each wire from an outlet of a node, holds of each copy of it
module _ (t : Topology) (n : ℕ) (joined : IsJoinedAs t n) (k : ℕ) (Q : Copy → Type 0) (p : ParcelImage) (outlets : Outlets)
    (each : (o : Port) (h : Hop) → IsWire t k o h → has outlets o ≡ true → Q (copy_over k o p h)) where
  over_hops : (o : Port) (hs : List Hop) → has outlets o ≡ true → Each (IsWire t k o) hs → Each Q (map (copy_over k o p) hs)
  over_hops o [] out wired = tt
  over_hops o (h ∷ hs) out wired = (each o h wired.0 out, over_hops o hs out wired.1)

  at_outlet : (o : Port) (b : Bool) → has outlets o ≡ b → Each Q (all_put t n k o (with_copy [] (copy_if b p)))
  at_outlet o true out = each_append Q (copies_put t n k o p) [] (over_hops o (net_of t n k o) out (wires t n joined k o)) tt
  at_outlet o false out = tt

  pub put_each : Each Q (put_out t n k (put_at boxes_empty outlets p))
  put_each =
      each_append Q (all_put t n k A (with_copy [] (copy_if (has outlets A) p))) _ (at_outlet A (has outlets A) refl)
      (each_append Q (all_put t n k B (with_copy [] (copy_if (has outlets B) p))) _ (at_outlet B (has outlets B) refl) (at_outlet C (has outlets C) refl))

-- one place of a list was set
pub record IsSetThere {X : Type 0} (xs : List X) (i k : ℕ) (x y : X) : Type 0 where
  pub place : k ≡ i
  pub same : x ≡ y
  pub old : X
  pub was : slice_get xs i ≡ Some old

pub or_got : {X : Type 0} (xs : List X) (i : ℕ) (x d : X) → slice_get xs i ≡ Some x → slice_index_or xs i d ≡ x
or_got [] i x d at = absurd cc
or_got (y ∷ ys) zero x d at = cc
or_got (y ∷ ys) (suc i) x d at = or_got ys i x d at

pub got_once : {X : Type 0} (xs : List X) (i : ℕ) (x y : X) → slice_get xs i ≡ Some x → slice_get xs i ≡ Some y → x ≡ y
got_once xs i x y a b = cc

-- it is the place that was set, or another
abbrev pub IsOther : {X : Type 0} → List X → ℕ → ℕ → X → Type 0
IsOther xs i k x = ((k == i) ≡ false) × (slice_get xs k ≡ Some x)

pub where_set : {X : Type 0} (xs : List X) (i k : ℕ) (y x : X) → slice_get (slice_set xs i y) k ≡ Some x → IsSetThere xs i k x y ⊎ IsOther xs i k x
where_set [] i k y x at = absurd cc
where_set (z ∷ zs) zero zero y x at = let e : y ≡ x = cc in inl (record { place = refl; same = sym e; old = z; was = refl })
where_set (z ∷ zs) zero (suc k) y x at = inr (ne_eqb (suc k) zero (λ e. absurd (omega (arith, e))), at)
where_set (z ∷ zs) (suc i) zero y x at = inr (ne_eqb zero (suc i) (λ e. absurd (omega (arith, e))), at)
where_set (z ∷ zs) (suc i) (suc k) y x at = elim (where_set zs i k y x at) [
  | inl s ↦ inl (record { place = ap suc s.place; same = s.same; old = s.old; was = s.was })
  | inr o ↦ inr (next_ne o.0, o.1)
]
  where
    next_ne : (k == i) ≡ false → (suc k == suc i) ≡ false
    next_ne e = ne_eqb (suc k) (suc i) (λ f. true≢false (sym (eq-eqb k i (omega (arith, f))) ∙ e))

pub got_replicate : {X : Type 0} (n j : ℕ) (x y : X) → slice_get (replicate n x) j ≡ Some y → y ≡ x
got_replicate zero j x y at = absurd cc
got_replicate (suc n) zero x y at = cc
got_replicate (suc n) (suc j) x y at = got_replicate n j x y at
