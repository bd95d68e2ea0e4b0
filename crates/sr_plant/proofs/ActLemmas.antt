-- A plant after one of its nodes acted.
use Rattle.std.proofs.Common.{◌≡◌, ℕ, zero, suc, ◌<◌, Bool, not, List, [], ◌∷◌, ◌++◌, length, map, get_or, slice_get, slice_set, slice_index_or, Some, refl, sym, ap, ◌∙◌, append_assoc, subst, arith}
use Rattle.std.proofs.Math.Seq.{map-set_same}
use Rattle.std.proofs.lemmas.List.{map-set, length-map}
use Rattle.std.specs.Option.{option_to_list}
use Rattle.std.proofs.lemmas.List.Elements.{filter-append}
use Rattle.sr_frame.specs.declared.ports.Port.TheVariants.{A, B, C}
use Rattle.sr_forwarding.specs.Parcels.{ParcelImage}
use Rattle.sr_node.specs.Images.{State}
use Rattle.sr_laws_plant.specs.Lists.{Each}
use Rattle.sr_plant.specs.declared.topology.Topology.{Topology}
use Rattle.sr_plant.specs.declared.node_step.Given.{Given}
use Rattle.sr_plant.specs.Copies.{Copy, is_stopped}
use Rattle.sr_plant.specs.Topologies.{IsJoinedAs}
use Rattle.sr_plant.specs.Puts.{all_put, put_out, those_passing}
use Rattle.sr_plant.specs.Plants.{Plant, TrafficValue, plant_of}
use Rattle.sr_plant.specs.Steps.{emptied, acted}
use Rattle.sr_plant.specs.Given.{GivesOut}

-- what holds of each holds of the one at a place
pub each_at : {N X : Type 0} (P : X → Type 0) (f : N → X) (ns : List N) (i : ℕ) (n : N) → n ≡ get_or ns i n → i < length ns → Each P (map f ns) → P (f n)
each_at P f [] i n here within each = absurd (omega arith)
each_at P f (m ∷ ms) zero n here within each = rw here each.0
each_at P f (m ∷ ms) (suc i) n here within each = each_at P f ms i n here (omega arith) each.1

-- the one at a place
pub at_map : {N X : Type 0} (f : N → X) (ns : List N) (i : ℕ) (n : N) → n ≡ get_or ns i n → i < length ns → slice_get (map f ns) i ≡ Some (f n)
at_map f [] i n here within = absurd (omega arith)
at_map f (m ∷ ms) zero n here within = ap (λ x. Some (f x)) (sym here)
at_map f (m ∷ ms) (suc i) n here within = at_map f ms i n here (omega arith)

pub or_map : {N X : Type 0} (f : N → X) (ns : List N) (i : ℕ) (n : N) (d : X) → n ≡ get_or ns i n → i < length ns → slice_index_or (map f ns) i d ≡ f n
or_map f [] i n d here within = absurd (omega arith)
or_map f (m ∷ ms) zero n d here within = ap f (sym here)
or_map f (m ∷ ms) (suc i) n d here within = or_map f ms i n d here (omega arith)

-- as many nodes as are counted are joined
pub joined_for : {N X : Type 0} (f : N → X) (ns : List N) (t : Topology) (count : ℕ) → IsJoinedAs t (length (map f ns)) → count ≡ length ns → IsJoinedAs t count
joined_for f ns t count joined counted = subst (IsJoinedAs t) (length-map ns f ∙ sym counted) joined

-- where a node and what its host was handed are put back as they were, nothing but the traffic changes
pub put_back : {N H : Type 0} (f : N → State) (items : H → List ParcelImage) (ns : List N) (hs : List H) (t : Topology) (traffic : TrafficValue)
    (flight : List Copy) (cut : List Bool) (clock i : ℕ) (n m : N) (old new : H) →
    f m ≡ f n → n ≡ get_or ns i n → items new ≡ items old → old ≡ get_or hs i old →
    traffic.flight.copies ≡ flight → traffic.cut ≡ cut → traffic.clock ≡ clock →
    plant_of t (map f (slice_set ns i m)) traffic (map items (slice_set hs i new))
    ≡ record { topology = t; nodes = map f ns; flight = flight; cut = cut; clock = clock; handed = map items hs }
put_back f items ns hs t traffic flight cut clock i n m old new state here handed there copies cuts now =
    rw (map-set_same f ns i m n (state ∙ ap f here), map-set_same items hs i new old (handed ∙ ap items there), copies, cuts, now) refl

-- what is put out at A, then at B, and then at C
put_in_turn : (t : Topology) (n k : ℕ) (cut : List Bool) (u : State) (flight : List Copy) →
    ((flight ++ those_passing cut (all_put t n k A u.core.out.a)) ++ those_passing cut (all_put t n k B u.core.out.b))
    ++ those_passing cut (all_put t n k C u.core.out.c)
    ≡ flight ++ those_passing cut (put_out t n k u.core.out)
put_in_turn t n k cut u flight =
    let passes = λ (x : Copy). not (is_stopped cut x) in
    let a = all_put t n k A u.core.out.a in
    let b = all_put t n k B u.core.out.b in
    let c = all_put t n k C u.core.out.c in
    let both : those_passing cut (b ++ c) ≡ those_passing cut b ++ those_passing cut c = filter-append passes b c in
    let all : those_passing cut (a ++ (b ++ c)) ≡ those_passing cut a ++ those_passing cut (b ++ c) = filter-append passes a (b ++ c) in
    rw (all, both)
    (append_assoc (flight ++ those_passing cut a) (those_passing cut b) (those_passing cut c)
    ∙ append_assoc flight (those_passing cut a) (those_passing cut b ++ those_passing cut c))

acted_is : (s : Plant) (i now : ℕ) (u : State) (given : Given) (nodes : List State) (flight : List Copy) (cut : List Bool) (clock : ℕ) (handed : List (List ParcelImage)) →
    nodes ≡ slice_set s.nodes i (emptied u) →
    flight ≡ ((s.flight ++ those_passing s.cut (all_put s.topology (length s.nodes) i A (option_to_list given.a)))
    ++ those_passing s.cut (all_put s.topology (length s.nodes) i B (option_to_list given.b)))
    ++ those_passing s.cut (all_put s.topology (length s.nodes) i C (option_to_list given.c)) →
    option_to_list given.a ≡ u.core.out.a → option_to_list given.b ≡ u.core.out.b → option_to_list given.c ≡ u.core.out.c →
    cut ≡ s.cut → clock ≡ now → handed ≡ slice_set s.handed i (slice_index_or s.handed i [] ++ u.core.out.h) →
    record { topology = s.topology; nodes = nodes; flight = flight; cut = cut; clock = clock; handed = handed } ≡ acted s i u now
acted_is s i now u given nodes flight cut clock handed n f a b c cuts t h =
    let whole = (rw (a, b, c) at f) ∙ put_in_turn s.topology (length s.nodes) i s.cut u s.flight in
    rw (n, whole, cuts, t, h) refl

-- Among nodes, and lists of what their hosts were handed, those at one place are set: the node gave out all that waited in it.
pub node_acted : {N H : Type 0} (f : N → State) (items : H → List ParcelImage) (ns : List N) (hs : List H) (s : Plant) (i now : ℕ) (u : State) (given : Given)
    (n : N) (old new : H) (traffic : TrafficValue) →
    s.nodes ≡ map f ns → s.handed ≡ map items hs → length s.handed ≡ length s.nodes → i < length ns → old ≡ get_or hs i old →
    GivesOut u given (items old) (items new) (f n) →
    traffic.flight.copies ≡ ((s.flight ++ those_passing s.cut (all_put s.topology (length s.nodes) i A (option_to_list given.a)))
    ++ those_passing s.cut (all_put s.topology (length s.nodes) i B (option_to_list given.b)))
    ++ those_passing s.cut (all_put s.topology (length s.nodes) i C (option_to_list given.c)) →
    traffic.cut ≡ s.cut → traffic.clock ≡ now →
    plant_of s.topology (map f (slice_set ns i n)) traffic (map items (slice_set hs i new)) ≡ acted s i u now
node_acted f items ns hs s i now u given n old new traffic nodes handed hosts within here gives copies cut clock =
    let inside : i < length hs =
    omega (arith, within, hosts, ap length nodes, ap length handed, length-map ns f, length-map hs items) in
    let host = ap (λ (q : List (List ParcelImage)). slice_index_or q i []) handed ∙ or_map items hs i old [] here inside in
    acted_is s i now u given _ _ _ _ _
    (map-set f ns i n ∙ ap (λ (q : List State). slice_set q i (f n)) (sym nodes) ∙ ap (λ (x : State). slice_set s.nodes i x) gives.rest)
    copies
    gives.a
    gives.b
    gives.c
    cut
    clock
    (map-set items hs i new ∙ ap (λ (q : List (List ParcelImage)). slice_set q i (items new)) (sym handed)
    ∙ ap (λ (q : List ParcelImage). slice_set s.handed i q) (gives.up ∙ ap (λ (q : List ParcelImage). q ++ u.core.out.h) (sym host)))
