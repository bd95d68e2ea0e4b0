-- How a node of a report ran, in whichever network.
use Rattle.std.proofs.Common.{◌≡◌, ℕ, zero, suc, ◌<◌, ◌≤◌, ◌⊎◌, List, [], ◌∷◌, ◌++◌, map, length, get_or, inl, inr, None, Some, slice_get, refl, sym, ap, ◌∙◌, subst, arith, below_more, length-append}
use Rattle.std.proofs.lemmas.List.{length-map, get_or-map, get_or_append_left, get_or_push}
use Rattle.std.proofs.lemmas.Option.{get_or_from_slice_get, slice_get_cases, slice_get_within}
use Rattle.sr_forwarding.specs.PortFramings.{carried_as}
use Rattle.sr_lines.specs.Pairs.{WirePair}
use Rattle.sr_node.specs.States.{state_of}
use Rattle.sr_ports.specs.declared.settling.Settlement.{Settlement}
use Rattle.sr_ports.specs.declared.settling.Settlement.TheVariants as settlement
use Rattle.sr_ports.specs.declared.worker.Worker.TheVariants as who
use Rattle.sr_threaded.specs.declared.judging.Judgement.{Judgement}
use Rattle.sr_threaded.specs.declared.kit.NodeEnd.{NodeEnd}
use Rattle.sr_threaded.specs.Joined.{RingWires}
use Rattle.sr_threaded.specs.Judged.{settlement_of}
use Rattle.sr_threaded.specs.Ran.{LineStart, NodeStart, NodeRan, RanInRing, RanInLans, host_start, ring_starts, lan_starts, start_with}
use Rattle.sr_threaded_script.specs.declared.host.Host.{Host}
use Rattle.sr_threaded_script.specs.declared.setup.ThreadedNet.{ThreadedNet}
use Rattle.sr_threaded_script.specs.declared.setup.ThreadedNet.TheVariants as net
use Rattle.sr_threaded_script.specs.declared.setup.ThreadedSetup.{ThreadedSetup}
use Rattle.sr_threaded_script.specs.Beginnings.{Beginning, beginning_of, role_image, starting_node, starting_nodes}
use Rattle.sr_threaded_script.specs.Networks.{Kit, RanIn}
use Rattle.sr_threaded_script.specs.Sent.{own_frames}
use Rattle.sr_workers.specs.declared.feed.Feed.{Ghosts}
use Rattle.sr_laws_threaded.proofs.Lists.{some_of}

-- what a node of a kit begins with at three workers, the last of them the host's
abbrev pub started : (feed : Ghosts Host) → ℕ → Kit → LineStart feed.Name → LineStart feed.Name → NodeStart feed.Name
started feed rounds kit first second =
    start_with (state_of role_image kit.node) (first ∷ second ∷ host_start feed (carried_as kit.host) rounds kit.feed ∷ [])

-- it ran and ended so, and its wires were judged
pub record RanFrom (feed : Ghosts Host) (rounds : ℕ) (kit : Kit) (e : NodeEnd Host feed) : Type 0 where
  pub own : Settlement
  pub judgement : Judgement
  pub first : LineStart feed.Name
  pub second : LineStart feed.Name
  pub at_a : first.begun.worker ≡ who.A
  pub at_b : second.begun.worker ≡ who.B
  pub ran : NodeRan feed (started feed rounds kit first second) own e
  pub settlement : e.settlement ≡ settlement_of own judgement

abbrev ring_begins : (feed : Ghosts Host) → ℕ → Kit → RingWires → NodeStart feed.Name
ring_begins feed rounds k = ring_starts feed (state_of role_image k.node) (carried_as k.a) (carried_as k.b) (carried_as k.host) rounds k.feed

abbrev lan_begins : (feed : Ghosts Host) → ℕ → Kit → List WirePair → List WirePair → NodeStart feed.Name
lan_begins feed rounds k = lan_starts feed (state_of role_image k.node) (carried_as k.a) (carried_as k.b) (carried_as k.host) rounds k.feed

-- the element at a place, once a function went over the list
mapped : {X Y : Type 0} (f : X → Y) (xs : List X) (i : ℕ) (x : X) → slice_get xs i ≡ Some x → get_or (map f xs) i (f x) ≡ f x
mapped f xs i x at = get_or-map f xs i x (f x) (slice_get_within xs i x at) ∙ ap f (get_or_from_slice_get xs i x x at)

in_ring : (feed : Ghosts Host) (rounds : ℕ) (kits : List Kit) (ends : List (NodeEnd Host feed)) (i : ℕ) (k : Kit) (e : NodeEnd Host feed)
    → RanInRing feed (map (ring_begins feed rounds) kits) ends → slice_get kits i ≡ Some k → slice_get ends i ≡ Some e → RanFrom feed rounds k e
in_ring feed rounds kits ends i k e ran kit_at end_at =
    let below = slice_get_within ends i e end_at in
    let w = some_of ran.wires i (omega (arith, below, ran.count)) in
    let ended = ran.each i (ring_begins feed rounds k) w e below in
    let wires = get_or ran.wires i w in
    let begins = ap (λ g. g wires) (mapped (ring_begins feed rounds) kits i k kit_at) in
    let is = get_or_from_slice_get ends i e e end_at in
    let begun = (ring_begins feed rounds k wires).lines in
    record {
      own = ended.own;
      judgement = ended.judgement;
      first = get_or begun 0 (host_start feed (carried_as k.host) rounds k.feed);
      second = get_or begun 1 (host_start feed (carried_as k.host) rounds k.feed);
      at_a = refl;
      at_b = refl;
      ran = subst (λ s. NodeRan feed s ended.own e) begins
          (subst (λ x. NodeRan feed (get_or (map (ring_begins feed rounds) kits) i (ring_begins feed rounds k) wires) ended.own x) is ended.ran);
      settlement = ap (λ x. x.settlement) (sym is) ∙ ended.settlement;
    }

in_lans : (feed : Ghosts Host) (rounds : ℕ) (kits : List Kit) (ends : List (NodeEnd Host feed)) (i : ℕ) (k : Kit) (e : NodeEnd Host feed)
    → RanInLans feed (map (lan_begins feed rounds) kits) ends → slice_get kits i ≡ Some k → slice_get ends i ≡ Some e → RanFrom feed rounds k e
in_lans feed rounds kits ends i k e ran kit_at end_at =
    let below = slice_get_within ends i e end_at in
    let ended = ran.each i (lan_begins feed rounds k) [] e below in
    let a = get_or ran.a i [] in
    let b = get_or ran.b i [] in
    let begins = ap (λ g. g a b) (mapped (lan_begins feed rounds) kits i k kit_at) in
    let is = get_or_from_slice_get ends i e e end_at in
    let begun = (lan_begins feed rounds k a b).lines in
    record {
      own = ended.own;
      judgement = ended.judgement;
      first = get_or begun 0 (host_start feed (carried_as k.host) rounds k.feed);
      second = get_or begun 1 (host_start feed (carried_as k.host) rounds k.feed);
      at_a = refl;
      at_b = refl;
      ran = subst (λ s. NodeRan feed s ended.own e) begins
          (subst (λ x. NodeRan feed (get_or (map (lan_begins feed rounds) kits) i (lan_begins feed rounds k) a b) ended.own x) is ended.ran);
      settlement = ap (λ x. x.settlement) (sym is) ∙ ended.settlement;
    }

pub ran_from : (feed : Ghosts Host) (n : ThreadedNet) (rounds : ℕ) (kits : List Kit) (ends : List (NodeEnd Host feed)) (i : ℕ) (k : Kit)
    (e : NodeEnd Host feed) → RanIn feed n rounds kits ends → slice_get kits i ≡ Some k → slice_get ends i ≡ Some e → RanFrom feed rounds k e
ran_from feed net.Ring rounds kits ends i k e ran kit_at end_at = in_ring feed rounds kits ends i k e ran kit_at end_at
ran_from feed net.TwinLan rounds kits ends i k e ran kit_at end_at = in_lans feed rounds kits ends i k e ran kit_at end_at

-- a node that is settled is so by its own history
pub settles_itself : (own : Settlement) (j : Judgement) → settlement_of own j ≡ settlement.Settled → own ≡ settlement.Settled
settles_itself settlement.Settled j is = refl
settles_itself (settlement.Disagrees w) j is = absurd cc
settles_itself (settlement.Torn n) j is = absurd cc

-- the nodes that begin are numbered from 0 on
how_many : (setup : ThreadedSetup) (sent : List (ℕ × List ℕ)) (n : ℕ) → length (starting_nodes setup sent n) ≡ n
how_many setup sent zero = refl
how_many setup sent (suc n) =
    omega (arith, length-append (starting_nodes setup sent n) (starting_node setup n (own_frames n sent) ∷ []), how_many setup sent n)

starting_at : (setup : ThreadedSetup) (sent : List (ℕ × List ℕ)) (n i : ℕ) (d : Beginning) → i < n
    → get_or (starting_nodes setup sent n) i d ≡ starting_node setup i (own_frames i sent)
starting_at setup sent zero i d below = absurd (omega (arith, below))
starting_at setup sent (suc n) i d below =
    let all = starting_nodes setup sent n in
    let one = starting_node setup n (own_frames n sent) in
    below_more (λ m. get_or (all ++ one ∷ []) m d ≡ starting_node setup m (own_frames m sent)) n
    (λ m lt. get_or_append_left all (one ∷ []) d m (omega (arith, lt, how_many setup sent n)) ∙ starting_at setup sent n m d lt)
    (get_or_push all one d n (how_many setup sent n)) i (omega (arith, below))

-- the kit of a node of a network, and how it begins
pub record KitAt (setup : ThreadedSetup) (sent : List (ℕ × List ℕ)) (kits : List Kit) (i : ℕ) : Type 0 where
  pub kit : Kit
  pub at : slice_get kits i ≡ Some kit
  pub begins : beginning_of kit ≡ starting_node setup i (own_frames i sent)

kit_among : (setup : ThreadedSetup) (sent : List (ℕ × List ℕ)) (kits : List Kit) (n i : ℕ)
    → map beginning_of kits ≡ starting_nodes setup sent n → i < n → length kits ≡ n
    → ((k : Kit) × (i < length kits) × (slice_get kits i ≡ Some k) × (get_or kits i k ≡ k)) ⊎ ((length kits ≤ i) × (slice_get kits i ≡ None))
    → KitAt setup sent kits i
kit_among setup sent kits n i new below long (inl there) = record {
  kit = there.0;
  at = there.2;
  begins = ap beginning_of (sym there.3) ∙ sym (get_or-map beginning_of kits i there.0 (beginning_of there.0) there.1)
      ∙ ap (λ bs. get_or bs i (beginning_of there.0)) new ∙ starting_at setup sent n i (beginning_of there.0) below;
}
kit_among setup sent kits n i new below long (inr past) = absurd (omega (arith, below, long, past.0))

pub kit_at : (setup : ThreadedSetup) (sent : List (ℕ × List ℕ)) (kits : List Kit) (n i : ℕ)
    → map beginning_of kits ≡ starting_nodes setup sent n → i < n → KitAt setup sent kits i
kit_at setup sent kits n i new below =
    kit_among setup sent kits n i new below (sym (length-map kits beginning_of) ∙ ap length new ∙ how_many setup sent n) (slice_get_cases kits i).1
