-- The copies over the hops from an outlet.
use Rattle.std.proofs.Common.{◌≡◌, ℕ, suc, ◌<◌, Bool, not, List, [], ◌++◌, map, Option, ap, ◌∙◌, refl, sym, append_assoc}
use Rattle.std.specs.Option.{option_to_list}
use Rattle.std.proofs.lemmas.List.{map-append, append-nil}
use Rattle.std.proofs.lemmas.List.Elements.{filter-append}
use Rattle.sr_frame.specs.declared.ports.Port.{Port}
use Rattle.sr_forwarding.specs.Parcels.{ParcelImage}
use Rattle.sr_laws_plant.specs.Ledger.{Hop}
use Rattle.sr_plant.specs.declared.topology.Topology.{Topology}
use Rattle.sr_plant.specs.Topologies.{IsJoinedAs}
use Rattle.sr_plant.specs.Copies.{Copy, is_stopped}
use Rattle.sr_plant.specs.Puts.{copy_over, copies_put, those_passing, hop_to, hops_below}
use Rattle.sr_plant.proofs.HopLemmas.{hops_all}

passing_more : (cut : List Bool) (k : ℕ) (o : Port) (p : ParcelImage) (before : List Hop) (more : Option Hop) →
    those_passing cut (map (copy_over k o p) (before ++ option_to_list more))
    ≡ those_passing cut (map (copy_over k o p) before) ++ those_passing cut (map (copy_over k o p) (option_to_list more))
passing_more cut k o p before more =
    ap (those_passing cut) (map-append (copy_over k o p) before (option_to_list more))
    ∙ filter-append (λ c. not (is_stopped cut c)) (map (copy_over k o p) before) (map (copy_over k o p) (option_to_list more))

-- the copies to one node more
pub put_more : (cut : List Bool) (k : ℕ) (o : Port) (p : ParcelImage) (to : ℕ → Option Hop) (i j : ℕ) (base so_far new : List Copy) → j ≡ suc i →
    so_far ≡ base ++ those_passing cut (map (copy_over k o p) (hops_below to i)) →
    new ≡ so_far ++ those_passing cut (map (copy_over k o p) (option_to_list (to i))) →
    new ≡ base ++ those_passing cut (map (copy_over k o p) (hops_below to j))
put_more cut k o p to i j base so_far new next before one =
    rw (next, passing_more cut k o p (hops_below to i) (to i))
    (one ∙ (ap (λ (cs : List Copy). cs ++ those_passing cut (map (copy_over k o p) (option_to_list (to i)))) before
    ∙ append_assoc base (those_passing cut (map (copy_over k o p) (hops_below to i))) (those_passing cut (map (copy_over k o p) (option_to_list (to i))))))

-- no copies so far
pub put_none : (cut : List Bool) (k : ℕ) (o : Port) (p : ParcelImage) (to : ℕ → Option Hop) (i : ℕ) (base : List Copy) → hops_below to i ≡ [] →
    base ≡ base ++ those_passing cut (map (copy_over k o p) (hops_below to i))
put_none cut k o p to i base none = rw none (sym (append-nil base))

-- the copies to all
pub put_to_all : (t : Topology) (n k : ℕ) (o : Port) (cut : List Bool) (p : ParcelImage) (i : ℕ) (base new : List Copy) → k < n → IsJoinedAs t n →
    hops_below (hop_to t n k o) i ≡ hops_below (hop_to t n k o) n →
    new ≡ base ++ those_passing cut (map (copy_over k o p) (hops_below (hop_to t n k o) i)) →
    new ≡ base ++ those_passing cut (copies_put t n k o p)
put_to_all t n k o cut p i base new within joined all so_far =
    so_far ∙ rw (all, hops_all t n k o within joined) refl
