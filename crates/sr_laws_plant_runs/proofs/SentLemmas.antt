-- What is in flight and what was handed up is what nodes sent.
use Rattle.std.proofs.Common.{◌≡◌, ◌⊎◌, inl, inr, ℕ, zero, suc, ◌≤◌, ◌&&◌, ◌||◌, not, Bool, true, false, List, [], ◌∷◌, ◌++◌, map, length, take, drop, Some, slice_get, slice_set, slice_index_or, refl, sym, ap, ◌∙◌, subst, arith}
use Rattle.std.specs.List.{filter, remove}
use Rattle.std.proofs.lemmas.Bool.{and_parts, cases_Bool, true≢false}
use Rattle.std.proofs.lemmas.List.{length-set}
use Rattle.std.proofs.lemmas.Bool.Decides.{nat_tests}
use Rattle.sr_frame.specs.Addresses.{mac_eq}
use Rattle.sr_frame.specs.AddressLemmas.{mac_same, mac_refl}
use Rattle.sr_frame.specs.Frame.{least_len, padded}
use Rattle.sr_frame.specs.declared.fields.Mac.{Mac}
use Rattle.sr_frame.specs.declared.ports.Port.{Port}
use Rattle.sr_frame.specs.declared.ports.Port.TheVariants.{H}
use Rattle.sr_sequence.specs.declared.Seq.{Seq}
use Rattle.sr_dup_window.specs.LaneSets as lanes
use Rattle.sr_forwarding.specs.Decoding.{IsRead}
use Rattle.sr_forwarding.specs.Encoding.{IsWritten}
use Rattle.sr_forwarding.specs.Headers.{header_of}
use Rattle.sr_forwarding.specs.Octets.{dst_in, src_in, is_supervision}
use Rattle.sr_forwarding.specs.Outlets.{has}
use Rattle.sr_forwarding.specs.Parcels.{ParcelImage, plain_of, plain_parcel}
use Rattle.sr_forwarding.specs.RoleImages.{is_group}
use Rattle.sr_node.specs.Copies.{copy_if, put_at, with_copy}
use Rattle.sr_forwarding.specs.declared.kind.RoleKind.{RoleKind}
use Rattle.sr_node.specs.Outboxes.{boxes_empty}
use Rattle.sr_node.specs.Images.{State, time_at}
use Rattle.sr_node.specs.Starts.{Start, begun_as}
use Rattle.sr_node.specs.Lanes.{is_clear, lane_at, outlets_on}
use Rattle.sr_node.specs.Arriving.{header_at, wanted_at}
use Rattle.sr_laws_plant.specs.Lists.{One, Each}
use Rattle.sr_laws_plant.specs.ListLemmas.{each_append, each_map}
use Rattle.sr_laws_plant.specs.Frames.{group, Frame}
use Rattle.sr_laws_plant.specs.Ports.{is_at}
use Rattle.sr_plant.specs.declared.topology.Topology.{Topology}
use Rattle.sr_plant.specs.declared.topology.Topology.TheVariants.{Ring, TwinLan, RingLan, TwoRings}
use Rattle.sr_plant.specs.declared.event.PlantEvent.{PlantEvent}
use Rattle.sr_plant.specs.declared.event.PlantEvent.TheVariants.{Send, Carry, Drop, Repeat, Cut, Mend, Tick}
use Rattle.sr_plant.specs.Building.{is_plant, opening}
use Rattle.sr_plant.specs.Copies.{Copy, is_on, is_stopped}
use Rattle.sr_plant.specs.Plants.{Plant, IsEmptied}
use Rattle.sr_plant.specs.Puts.{put_out, those_passing}
use Rattle.sr_plant.specs.Steps.{emptied, acted, without, Comes, IsLost, PlantStep}
use Rattle.sr_plant.specs.Topologies.{framing_of, kind_of, IsJoinedAs}
use Rattle.sr_plant.proofs.OrderLemmas.{each_got, each_filter, each_take, each_drop}
use Rattle.sr_plant.proofs.BuildingLemmas.{opening_in_order}
use Rattle.sr_laws_plant_runs.specs.PlantRuns.{Turn, PlantRun, HaveAddresses}
use Rattle.sr_laws_plant_runs.specs.Sent.{IsSendOf, IsSentByOther, HaveAddressesIn, HandsUpWhatOthersSent}
use Rattle.sr_laws_plant_runs.specs.Histories.{HaveOwnAddresses, is_outlet}
use Rattle.sr_laws_box.specs.Crossings.{IsFrameWith}
use Rattle.sr_laws_box.proofs.CrossingLemmas.{padded_once}
use Rattle.sr_laws_plant_runs.proofs.ArrivingLemmas.{life_is_roomy}
use Rattle.sr_laws_plant_runs.proofs.FrameLemmas.{supervised_group}
use Rattle.sr_laws_plant_runs.proofs.WireLemmas.{not_host, IsNetworked, networked, carried}
use Rattle.sr_laws_plant_runs.proofs.ReadingLemmas.{IsCarried, not_plain, new_carried, passed_on}
use Rattle.sr_laws_plant_runs.proofs.PaddingLemmas.{padded_dst, padded_src, padded_supervision, life_shows}
use Rattle.sr_laws_plant_runs.proofs.RouteLemmas.{IsPathFor, IsToGroup, to_group, wants_up}
use Rattle.sr_laws_plant_runs.proofs.NodeLemmas.{IsSame, PutsOut, IsIdle, Ticks, TakesIn, life_frame, host_sends, sent_is_fit, node_ticks, node_takes}
use Rattle.sr_laws_plant_runs.proofs.CopyLemmas.{has_on, put_each, IsSetThere, IsOther, where_set, or_got, got_once, got_replicate}

-- node k as it is between events: as its role was, and emptied
pub record IsMember (t : Topology) (starts : List Start) (k : ℕ) (n : State) : Type 0 where
  pub role : Start
  pub there : slice_get starts k ≡ Some role
  pub kind : n.role.kind ≡ kind_of t k
  pub mac : n.role.mac ≡ role.role.mac
  pub empty : IsEmptied n

-- a frame that a node put out: its host sent it, or it is a life check
abbrev IsOut : ℕ → List ℕ → Seq → List Turn → Type 0
IsOut node frame seq turns =
    (One (IsSendOf node frame seq) turns × (least_len frame ≤ length frame)) ⊎ (is_supervision (padded frame) ≡ true)

-- any frame of a node: paths tell of the node alone
abbrev any_of : ℕ → Frame
any_of node = record { src = node; number = 0; dest = group; supervision = false; time = 0; octets = [] }

-- a copy in flight is one of a frame that a node put out, whatever octets it goes as
record Flies (t : Topology) (starts : List Start) (turns : List Turn) (c : Copy) : Type 0 where
  node : ℕ
  frame : List ℕ
  seq : Seq
  role : Start
  there : slice_get starts node ≡ Some role
  source : src_in (padded frame) ≡ role.role.mac
  origin : IsOut node frame seq turns
  full : padded (padded frame) ≡ padded frame
  port : is_outlet c.hop.to.port (kind_of t c.hop.to.node) ≡ true
  carried : IsCarried t (framing_of t c.from c.outlet) (framing_of t c.hop.to.node c.hop.to.port) c.hop.to.node c.parcel (padded frame) seq (any_of node)

record IsGoing (t : Topology) (starts : List Start) (turns : List Turn) (s : Plant) : Type 0 where
  topology : s.topology ≡ t
  joined : IsJoinedAs t (length s.nodes)
  nodes : (k : ℕ) (n : State) → slice_get s.nodes k ≡ Some n → IsMember t starts k n
  flight : Each (Flies t starts turns) s.flight
  handed : (j : ℕ) (role : Start) (ps : List ParcelImage) → slice_get starts j ≡ Some role → slice_get s.handed j ≡ Some ps →
      Each (IsSentByOther j role.role.mac turns) ps

-- as turns come on
flies_on : (t : Topology) (starts : List Start) (turn : Turn) (turns : List Turn) (c : Copy) → Flies t starts turns c → Flies t starts (turn ∷ turns) c
flies_on t starts turn turns c f = record {
  node = f.node;
  frame = f.frame;
  seq = f.seq;
  role = f.role;
  there = f.there;
  source = f.source;
  origin = elim f.origin [
    | inl sent ↦ inl (inr sent.0, sent.1)
    | inr life ↦ inr life
  ];
  full = f.full;
  port = f.port;
  carried = f.carried;
}

sent_on : (j : ℕ) (mac : Mac) (turn : Turn) (turns : List Turn) (p : ParcelImage) → IsSentByOther j mac turns p → IsSentByOther j mac (turn ∷ turns) p
sent_on j mac turn turns p f = record {
  node = f.node;
  frame = f.frame;
  seq = f.seq;
  other = f.other;
  sent = inr f.sent;
  for = f.for;
  host = f.host;
  plain = f.plain;
  number = f.number;
}

going_on : (t : Topology) (starts : List Start) (turn : Turn) (turns : List Turn) (s : Plant) → IsGoing t starts turns s → IsGoing t starts (turn ∷ turns) s
going_on t starts turn turns s g = record {
  topology = g.topology;
  joined = g.joined;
  nodes = g.nodes;
  flight = each_map (Flies t starts turns) (Flies t starts (turn ∷ turns)) (λ c f. flies_on t starts turn turns c f) s.flight g.flight;
  handed = λ j role ps at up. each_map (IsSentByOther j role.role.mac turns) (IsSentByOther j role.role.mac (turn ∷ turns)) (λ p f. sent_on j role.role.mac turn turns p f) ps (g.handed j role ps at up);
}

-- with other copies in flight
flying : (t : Topology) (starts : List Start) (turns : List Turn) (s : Plant) (flight : List Copy) (cut : List Bool) → IsGoing t starts turns s → Each (Flies t starts turns) flight → IsGoing t starts turns (record s { flight = flight; cut = cut })
flying t starts turns s flight cut g each = record { topology = g.topology; joined = g.joined; nodes = g.nodes; flight = each; handed = g.handed }

without_going : (t : Topology) (starts : List Start) (turns : List Turn) (s : Plant) (place : ℕ) → IsGoing t starts turns s → IsGoing t starts turns (without s place)
without_going t starts turns s place g =
    flying t starts turns s (remove s.flight place) s.cut g
    (each_append (Flies t starts turns) (take place s.flight) (drop (suc place) s.flight) (each_take (Flies t starts turns) s.flight place g.flight) (each_drop (Flies t starts turns) s.flight (suc place) g.flight))

-- a node acted
acted_going : (t : Topology) (starts : List Start) (turns : List Turn) (s : Plant) (i now : ℕ) (before u : State) → IsGoing t starts turns s →
    slice_get s.nodes i ≡ Some before → IsSame before now u →
    Each (Flies t starts turns) (put_out s.topology (length s.nodes) i u.core.out) →
    ((role : Start) → slice_get starts i ≡ Some role → Each (IsSentByOther i role.role.mac turns) u.core.out.h) →
    (clock : ℕ) → IsGoing t starts turns (acted s i u clock)
acted_going t starts turns s i now before u g there same put up clock = record {
  topology = g.topology;
  joined = subst (λ n. IsJoinedAs t n) (sym (length-set s.nodes i (emptied u))) g.joined;
  nodes = λ k n at. node k n (where_set s.nodes i k (emptied u) n at);
  flight = each_append (Flies t starts turns) s.flight (those_passing s.cut (put_out s.topology (length s.nodes) i u.core.out)) g.flight
      (each_filter (Flies t starts turns) (λ c. not (is_stopped s.cut c)) (put_out s.topology (length s.nodes) i u.core.out) put);
  handed = λ j role ps at to. host j role ps at (where_set s.handed i j (slice_index_or s.handed i [] ++ u.core.out.h) ps to);
}
  where
    was : IsMember t starts i before
    was = g.nodes i before there

    now_is : IsMember t starts i (emptied u)
    now_is = record { role = was.role; there = was.there; kind = same.kind ∙ was.kind; mac = same.mac ∙ was.mac; empty = refl }

    node : (k : ℕ) (n : State) → IsSetThere s.nodes i k n (emptied u) ⊎ IsOther s.nodes i k n → IsMember t starts k n
    node k n (inl set) = subst (λ m. IsMember t starts k m) (sym set.same) (subst (λ m. IsMember t starts m (emptied u)) (sym set.place) now_is)
    node k n (inr old) = g.nodes k n old.1

    host : (j : ℕ) (role : Start) (ps : List ParcelImage) → slice_get starts j ≡ Some role →
        IsSetThere s.handed i j ps (slice_index_or s.handed i [] ++ u.core.out.h) ⊎ IsOther s.handed i j ps → Each (IsSentByOther j role.role.mac turns) ps
    host j role ps at (inl set) =
        let at_i : slice_get starts i ≡ Some role = subst (λ m. slice_get starts m ≡ Some role) set.place at in
        let is : ps ≡ set.old ++ u.core.out.h = set.same ∙ ap (λ x. x ++ u.core.out.h) (or_got s.handed i set.old [] set.was) in
        subst (λ m. Each (IsSentByOther m role.role.mac turns) ps) (sym set.place)
        (subst (λ x. Each (IsSentByOther i role.role.mac turns) x) (sym is) (each_append (IsSentByOther i role.role.mac turns) set.old u.core.out.h (g.handed i role set.old at_i set.was) (up role at_i)))
    host j role ps at (inr old) = g.handed j role ps at old.1

-- what goes out at each outlet
put_flies : (t : Topology) (starts : List Start) (turns : List Turn) (s : Plant) → s.topology ≡ t → IsJoinedAs t (length s.nodes) → (i : ℕ) (before u : State) (frame : List ℕ) → PutsOut before frame u →
    (role : Start) → slice_get starts i ≡ Some role → src_in (padded frame) ≡ role.role.mac → least_len frame ≤ length frame → IsOut i frame before.core.next turns →
    Each (Flies t starts turns) (put_out s.topology (length s.nodes) i u.core.out) × (u.core.out.h ≡ [])
put_flies t starts turns s is joined i before u frame puts role there source least origin = (
  subst (λ o. Each (Flies t starts turns) (put_out s.topology (length s.nodes) i o)) (sym puts.out)
      (subst (λ x. Each (Flies t starts turns) (put_out x (length s.nodes) i (put_at boxes_empty puts.outlets (plain_parcel frame (Some before.core.next))))) (sym is)
      (put_each t (length s.nodes) joined i (Flies t starts turns) (plain_parcel frame (Some before.core.next)) puts.outlets
      (λ o h wire out. record {
        node = i;
        frame = frame;
        seq = before.core.next;
        role = role;
        there = there;
        source = source;
        origin = origin;
        full = padded_once frame least;
        port = wire.port;
        carried = new_carried t (length s.nodes) joined i o h wire frame before.core.next (any_of i) refl;
      }))),
  ap (λ o. o.h) puts.out ∙ ap (λ b. with_copy [] (copy_if b (plain_parcel frame (Some before.core.next)))) (puts.each H),
)

none_flies : (t : Topology) (starts : List Start) (turns : List Turn) (s : Plant) (i : ℕ) (before u : State) → IsIdle before u →
    Each (Flies t starts turns) (put_out s.topology (length s.nodes) i u.core.out) × (u.core.out.h ≡ [])
none_flies t starts turns s i before u idle = (
  subst (λ o. Each (Flies t starts turns) (put_out s.topology (length s.nodes) i o)) (sym idle.out) tt,
  ap (λ o. o.h) idle.out,
)

nothing_up : (i : ℕ) (starts : List Start) (turns : List Turn) (u : State) → u.core.out.h ≡ [] → (role : Start) → slice_get starts i ≡ Some role → Each (IsSentByOther i role.role.mac turns) u.core.out.h
nothing_up i starts turns u none role at = subst (λ x. Each (IsSentByOther i role.role.mac turns) x) (sym none) tt

-- a host sends
send_going : (t : Topology) (starts : List Start) (turns : List Turn) (s v : Plant) (i : ℕ) (frame : List ℕ) → IsGoing t starts turns s → PlantStep s (Send i frame) v →
    IsGoing t starts (record { before = s; event = Send i frame } ∷ turns) v
send_going t starts turns s v i frame g acts =
    let turn : Turn = record { before = s; event = Send i frame } in
    let was = g.nodes i acts.before acts.there in
    let now = time_at acts.before s.clock in
    let fit = sent_is_fit acts.before frame now acts.fits in
    let least : least_len frame ≤ length frame = grind (arith, nat_tests, fit.least) in
    let sends = host_sends acts.before frame now acts.answer acts.after (subst IsNetworked (sym was.kind) (networked t i)) was.empty acts.step in
    let source : src_in (padded frame) ≡ was.role.role.mac = padded_src frame least ∙ mac_same (src_in frame) acts.before.role.mac fit.own ∙ was.mac in
    let sent : IsSendOf i frame acts.before.core.next turn = record { sender = acts.before; event = refl; there = acts.there; number = refl } in
    let put = put_flies t starts (turn ∷ turns) s g.topology g.joined i acts.before acts.after frame sends.puts was.role was.there source least (inl (inl sent, least)) in
    subst (λ p. IsGoing t starts (turn ∷ turns) p) (sym acts.plant)
    (acted_going t starts (turn ∷ turns) s i now acts.before acts.after (going_on t starts turn turns s g) acts.there sends.same put.0 (nothing_up i starts (turn ∷ turns) acts.after put.1) s.clock)

-- time passes at a node
tick_going : (t : Topology) (starts : List Start) (turns : List Turn) (s v : Plant) (i at : ℕ) → HaveAddresses starts → IsGoing t starts turns s → PlantStep s (Tick i at) v →
    IsGoing t starts (record { before = s; event = Tick i at } ∷ turns) v
tick_going t starts turns s v i at six g acts =
    subst (λ p. IsGoing t starts (turn ∷ turns) p) (sym acts.plant)
    (acted_going t starts (turn ∷ turns) s i now acts.before acts.after (going_on t starts turn turns s g) acts.there ticks.same put.0 (nothing_up i starts (turn ∷ turns) acts.after put.1) at)
  where
    turn : Turn
    turn = record { before = s; event = Tick i at }

    now : ℕ
    now = time_at acts.before at

    was : IsMember t starts i acts.before
    was = g.nodes i acts.before acts.there

    ticks : Ticks acts.before now acts.after
    ticks = node_ticks acts.before now acts.answer acts.after (subst IsNetworked (sym was.kind) (networked t i)) was.empty acts.step

    long : length acts.before.role.mac.0 ≡ 6
    long = ap (λ m. length m.0) was.mac ∙ (each_got (λ r. length r.role.mac.0 ≡ 6) starts i was.role six was.there).1

    life : (is_supervision (padded (life_frame acts.before)) ≡ true) × (src_in (padded (life_frame acts.before)) ≡ acts.before.role.mac)
    life = life_shows acts.before.role.kind acts.before.role.mac.0 acts.before.core.next_life long

    put : Each (Flies t starts (turn ∷ turns)) (put_out s.topology (length s.nodes) i acts.after.core.out) × (acts.after.core.out.h ≡ [])
    put = elim ticks.puts [
      | inl puts ↦ put_flies t starts (turn ∷ turns) s g.topology g.joined i acts.before acts.after (life_frame acts.before) puts.1 was.role was.there (life.1 ∙ was.mac) (life_is_roomy acts.before.role.kind acts.before.role.mac acts.before.core.next_life long).least (inr life.0)
      | inr idle ↦ none_flies t starts (turn ∷ turns) s i acts.before acts.after idle.1
    ]

-- at a RedBox supervision is for no node alone
not_alone : (starts : List Start) → HaveOwnAddresses starts → (k : ℕ) (role : Start) → slice_get starts k ≡ Some role → (mac : Mac) → mac ≡ role.role.mac → (plain : List ℕ) → is_supervision plain ≡ true → mac_eq (dst_in plain) mac ≡ false
not_alone starts own k role there mac same plain sup = elim (cases_Bool (mac_eq (dst_in plain) mac)) [
  | inr other ↦ other
  | inl is ↦
      let single : is_group role.role.mac ≡ false = (each_got (λ r. (length r.role.mac.0 ≡ 6) × (is_group r.role.mac ≡ false)) starts k role own there).1.1 in
      absurd (true≢false (sym (supervised_group plain sup) ∙ ap is_group (mac_same (dst_in plain) mac is ∙ same) ∙ single))
]

is_to_group : (t : Topology) (starts : List Start) → HaveAddressesIn t starts → (k : ℕ) (s : State) → IsMember t starts k s → (p : ParcelImage) (now : ℕ) → IsToGroup (kind_of t k) s.role (header_at s p now)
is_to_group Ring starts own k s was p now = tt
is_to_group TwinLan starts own k s was p now = tt
is_to_group (RingLan x) starts own k s was p now = to_group (kind_of (RingLan x) k) s.role (header_at s p now) (λ sup. not_alone starts own k was.role was.there s.role.mac was.mac (plain_of p) sup)
is_to_group (TwoRings x) starts own k s was p now = to_group (kind_of (TwoRings x) k) s.role (header_at s p now) (λ sup. not_alone starts own k was.role was.there s.role.mac was.mac (plain_of p) sup)

have_six : (t : Topology) (starts : List Start) → HaveAddressesIn t starts → HaveAddresses starts
have_six Ring starts own = own
have_six TwinLan starts own = own
have_six (RingLan s) starts own = each_map (λ r. (length r.role.mac.0 ≡ 6) × (is_group r.role.mac ≡ false)) (λ r. length r.role.mac.0 ≡ 6) (λ r x. x.0) starts own
have_six (TwoRings s) starts own = each_map (λ r. (length r.role.mac.0 ≡ 6) × (is_group r.role.mac ≡ false)) (λ r. length r.role.mac.0 ≡ 6) (λ r x. x.0) starts own

-- what a node takes in and hands up was sent by the host of another to it or to a group
goes_up : (t : Topology) (starts : List Start) → HaveAddressesIn t starts → (turns : List Turn) (c : Copy) (s : State) (port : Port) (p : ParcelImage) (j now : ℕ) (f : Flies t starts turns c) → (was : IsMember t starts j s) → is_at H port ≡ false →
    (plain_of p ≡ padded f.frame) × (p.seq ≡ Some f.seq) → mac_eq (header_of p).src s.role.mac ≡ false → has (wanted_at s port p now) H ≡ true → IsSentByOther j was.role.role.mac turns p
goes_up t starts own turns c s port p j now f was outside says foreign up =
    let wanted = wants_up s.role (header_at s p now) port now (kind_of t j) was.kind (networked t j) outside foreign (is_to_group t starts own j s was p now) up in
    elim f.origin [
      | inl sent ↦ record {
        node = f.node;
        frame = f.frame;
        seq = f.seq;
        other = λ same. (let one = got_once starts j f.role was.role (subst (λ m. slice_get starts m ≡ Some f.role) same f.there) was.there in
            let src : src_in (plain_of p) ≡ s.role.mac = ap src_in says.0 ∙ f.source ∙ ap (λ r. r.role.mac) one ∙ sym was.mac in
            let yes : mac_eq (header_of p).src s.role.mac ≡ true = ap (λ m. mac_eq m s.role.mac) src ∙ mac_refl s.role.mac in
            absurd cc);
        sent = sent.0;
        for = ap (λ d. is_meant d) (sym (padded_dst f.frame sent.1) ∙ sym (ap dst_in says.0)) ∙ ap (λ m. mac_eq (dst_in (plain_of p)) m || is_group (dst_in (plain_of p))) (sym was.mac) ∙ wanted.1;
        host = sym (padded_supervision f.frame sent.1) ∙ sym (ap is_supervision says.0) ∙ wanted.0;
        plain = says.0;
        number = says.1;
      }
      | inr life ↦ (let no : is_supervision (plain_of p) ≡ true = ap is_supervision says.0 ∙ life in absurd cc)
    ]
  where
    is_meant : Mac → Bool
    is_meant d = mac_eq d was.role.role.mac || is_group d

-- a copy is taken
comes_going : (t : Topology) (starts : List Start) → HaveAddressesIn t starts → (turns : List Turn) (s v : Plant) (place : ℕ) (c : Copy) → IsGoing t starts turns s → slice_get s.flight place ≡ Some c → Comes s place c v → IsGoing t starts turns v
comes_going t starts own turns s v place c g at comes =
    subst (λ p. IsGoing t starts turns p) (sym comes.plant)
    (acted_going t starts turns (without s place) c.hop.to.node now comes.before comes.after (without_going t starts turns s place g) comes.there act.0 act.1 act.2 s.clock)
  where
    now : ℕ
    now = time_at comes.before s.clock

    port : Port
    port = c.hop.to.port

    p : ParcelImage
    p = comes.taken.0

    f : Flies t starts turns c
    f = (each_got (Flies t starts turns) s.flight place c g.flight at).1

    was : IsMember t starts c.hop.to.node comes.before
    was = g.nodes c.hop.to.node comes.before comes.there

    read : IsRead (framing_of t c.hop.to.node port) comes.octets p
    read = subst (λ x. IsRead (framing_of x c.hop.to.node port) comes.octets p) g.topology comes.taken.1

    with_path : IsFrameWith (padded f.frame) f.seq f.carried.path p
    with_path = f.carried.reads comes.octets p (subst (λ x. IsWritten (framing_of x c.from c.outlet) c.parcel.form c.parcel comes.octets) g.topology comes.written) read

    says : (plain_of p ≡ padded f.frame) × (p.seq ≡ Some f.seq)
    says = (with_path.plain_is, with_path.seq_is)

    told : IsPathFor t c.hop.to.node p.path (any_of f.node)
    told = subst (λ path. IsPathFor t c.hop.to.node path (any_of f.node)) (sym with_path.path_is) f.carried.tells

    full : padded (plain_of p) ≡ plain_of p
    full = ap padded says.0 ∙ f.full ∙ sym says.0

    Act : Type 0
    Act = IsSame comes.before now comes.after × Each (Flies t starts turns) (put_out s.topology (length s.nodes) c.hop.to.node comes.after.core.out)
        × ((role : Start) → slice_get starts c.hop.to.node ≡ Some role → Each (IsSentByOther c.hop.to.node role.role.mac turns) comes.after.core.out.h)

    taking : TakesIn comes.before port p f.seq now comes.after → Act
    taking takes =
        let wanted = wanted_at comes.before port p now in
        let outlets = outlets_on comes.before.core.mode takes.fresh wanted in (
          takes.same,
          subst (λ o. Each (Flies t starts turns) (put_out s.topology (length s.nodes) c.hop.to.node o)) (sym takes.out)
              (subst (λ x. Each (Flies t starts turns) (put_out x (length s.nodes) c.hop.to.node (put_at boxes_empty outlets p))) (sym g.topology)
              (put_each t (length s.nodes) g.joined c.hop.to.node (Flies t starts turns) p outlets
              (λ o h wire out. (let there = (and_parts (has wanted o) (lanes.has takes.fresh (lane_at o) && is_clear comes.before.core.mode takes.fresh o) (sym (has_on comes.before.core.mode takes.fresh wanted o) ∙ out)).0 in record {
                node = f.node;
                frame = f.frame;
                seq = f.seq;
                role = f.role;
                there = f.there;
                source = f.source;
                origin = f.origin;
                full = f.full;
                port = wire.port;
                carried = subst (λ x. IsCarried t (framing_of t c.hop.to.node o) (framing_of t h.to.node h.to.port) h.to.node p x f.seq (any_of f.node)) says.0
                    (passed_on t c.hop.to.node port o h wire f.port comes.before.role (header_at comes.before p now) now was.kind there comes.octets p f.seq (any_of f.node) read says.1 full told);
              })))),
          λ role there. subst (λ o. Each (IsSentByOther c.hop.to.node role.role.mac turns) o.h) (sym takes.out) (up takes role there (has outlets H) refl),
        )
      where
        up : (takes : TakesIn comes.before port p f.seq now comes.after) (role : Start) → slice_get starts c.hop.to.node ≡ Some role → (b : Bool) → has (outlets_on comes.before.core.mode takes.fresh (wanted_at comes.before port p now)) H ≡ b → Each (IsSentByOther c.hop.to.node role.role.mac turns) (with_copy [] (copy_if (has (outlets_on comes.before.core.mode takes.fresh (wanted_at comes.before port p now)) H) p))
        up takes role there false e = subst (λ b. Each (IsSentByOther c.hop.to.node role.role.mac turns) (with_copy [] (copy_if b p))) (sym e) tt
        up takes role there true e =
            let wanted = (and_parts (has (wanted_at comes.before port p now) H) (lanes.has takes.fresh (lane_at H) && is_clear comes.before.core.mode takes.fresh H) (sym (has_on comes.before.core.mode takes.fresh (wanted_at comes.before port p now) H) ∙ e)).0 in
            let same = got_once starts c.hop.to.node was.role role was.there there in
            let sent = goes_up t starts own turns c comes.before port p c.hop.to.node now f was (not_host port (kind_of t c.hop.to.node) f.port) says takes.other wanted in
            subst (λ b. Each (IsSentByOther c.hop.to.node role.role.mac turns) (with_copy [] (copy_if b p))) (sym e) (subst (λ r. IsSentByOther c.hop.to.node r.role.mac turns p) same sent, tt)

    act : Act
    act = elim (node_takes comes.before port p f.seq now comes.answer comes.after was.empty (not_plain (framing_of t c.hop.to.node port) comes.octets p f.seq (carried (kind_of t c.hop.to.node) port (networked t c.hop.to.node) f.port) read says.1) says.1 comes.taken.3) [
      | inl back ↦ (let none = none_flies t starts turns s c.hop.to.node comes.before comes.after back.idle in (back.same, none.0, nothing_up c.hop.to.node starts turns comes.after none.1))
      | inr takes ↦ taking takes
    ]

step_going : (t : Topology) (starts : List Start) (turns : List Turn) (s v : Plant) (e : PlantEvent) → HaveAddressesIn t starts → IsGoing t starts turns s → PlantStep s e v → IsGoing t starts (record { before = s; event = e } ∷ turns) v
step_going t starts turns s v (Send i frame) six g step = send_going t starts turns s v i frame g step
step_going t starts turns s v (Tick i now) own g step = tick_going t starts turns s v i now (have_six t starts own) g step
step_going t starts turns s v (Carry place) own g step = going_on t starts (record { before = s; event = Carry place }) turns v (taken step.2)
  where
    taken : Comes s place step.0 v ⊎ (IsLost s step.0 × (v ≡ without s place)) → IsGoing t starts turns v
    taken (inl comes) = comes_going t starts own turns s v place step.0 g step.1 comes
    taken (inr lost) = subst (λ p. IsGoing t starts turns p) (sym lost.1) (without_going t starts turns s place g)
step_going t starts turns s v (Drop place) six g step =
    going_on t starts (record { before = s; event = Drop place }) turns v (subst (λ p. IsGoing t starts turns p) (sym step) (without_going t starts turns s place g))
step_going t starts turns s v (Repeat place) six g step =
    let c = step.1.0 in
    let more = each_append (Flies t starts turns) s.flight (c ∷ []) g.flight ((each_got (Flies t starts turns) s.flight place c g.flight step.1.1).1, tt) in
    going_on t starts (record { before = s; event = Repeat place }) turns v
    (subst (λ p. IsGoing t starts turns p) (sym step.2) (flying t starts turns s step.0 s.cut g (subst (λ x. Each (Flies t starts turns) x) (sym step.1.2) more)))
step_going t starts turns s v (Cut link) six g step =
    going_on t starts (record { before = s; event = Cut link }) turns v
    (subst (λ p. IsGoing t starts turns p) (sym step) (flying t starts turns s (filter (λ c. not (is_on link c)) s.flight) (slice_set s.cut link true) g (each_filter (Flies t starts turns) (λ c. not (is_on link c)) s.flight g.flight)))
step_going t starts turns s v (Mend link) six g step =
    going_on t starts (record { before = s; event = Mend link }) turns v
    (subst (λ p. IsGoing t starts turns p) (sym step) (flying t starts turns s s.flight (slice_set s.cut link false) g g.flight))

-- a new plant
begun_member : (t : Topology) (starts : List Start) (k : ℕ) (n : State) (kind : RoleKind) → slice_get (map begun_as starts) k ≡ Some n → n.role.kind ≡ kind → (role : Start) × (slice_get starts k ≡ Some role) × (n.role.mac ≡ role.role.mac) × IsEmptied n
begun_member t [] k n kind at is = absurd cc
begun_member t (r ∷ rs) zero n kind at is =
    let same : begun_as r ≡ n = cc in
    (r, refl, ap (λ m. m.role.mac) (sym same), subst IsEmptied same refl)
begun_member t (r ∷ rs) (suc k) n kind at is = begun_member t rs k n kind at is

opening_going : (t : Topology) (starts : List Start) → is_plant t (map begun_as starts) ≡ true → IsGoing t starts [] (opening t (map begun_as starts))
opening_going t starts is = record {
  topology = refl;
  joined = (opening_in_order t (map begun_as starts) is).joined;
  nodes = λ k n at. (let kind = (opening_in_order t (map begun_as starts) is).kinds k n at in
      let m = begun_member t starts k n (kind_of t k) at kind in
      record { role = m.0; there = m.1; kind = kind; mac = m.2; empty = m.3 });
  flight = tt;
  handed = λ j role ps at up. subst (λ x. Each (IsSentByOther j role.role.mac []) x) (sym (got_replicate (length (map begun_as starts)) j [] ps up)) tt;
}

run_going : (t : Topology) (starts : List Start) (turns : List Turn) (s : Plant) → HaveAddressesIn t starts → PlantRun t starts turns s → IsGoing t starts turns s
run_going t starts [] s six run = subst (λ p. IsGoing t starts [] p) (sym run.1) (opening_going t starts run.0)
run_going t starts (turn ∷ before) s six run = step_going t starts before turn.before s turn.event six (run_going t starts before turn.before six run.0) run.2

pub only_what_others_sent : HandsUpWhatOthersSent
only_what_others_sent t starts turns s j role ps run six at up = (run_going t starts turns s six run).handed j role ps at up
