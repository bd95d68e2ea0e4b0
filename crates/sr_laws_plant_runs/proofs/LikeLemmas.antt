-- A plant beside its history: each copy in flight shows its frame, and each node has the number that comes next.
use Rattle.std.proofs.Common.{◌≡◌, ◌⊎◌, inl, inr, ℕ, ◌+◌, ◌%◌, ◌<◌, ◌≤◌, ◌==◌, not, Bool, true, false, List, [], ◌∷◌, ◌++◌, map, length, Some, slice_get, slice_index_or, refl, sym, ap, ◌∙◌, subst, arith, if◌then◌else◌}
use Rattle.std.specs.List.{list_any}
use Rattle.std.proofs.lemmas.List.{append-nil, length-set}
use Rattle.sr_frame.specs.Frame.{padded}
use Rattle.sr_frame.specs.declared.ports.Port.{Port}
use Rattle.sr_frame.specs.declared.ports.Port.TheVariants.{A, B, C}
use Rattle.sr_sequence.specs.declared.Seq.{Seq}
use Rattle.sr_forwarding.specs.declared.outlets.Outlets.{Outlets}
use Rattle.sr_forwarding.specs.Outlets.{has}
use Rattle.sr_forwarding.specs.Parcels.{ParcelImage}
use Rattle.sr_node.specs.Copies.{copy_if, put_at, with_copy}
use Rattle.sr_node.specs.Images.{State}
use Rattle.sr_node.specs.Starts.{Start}
use Rattle.sr_node.specs.Outboxes.{boxes_empty}
use Rattle.sr_laws_plant.specs.Frames.{Frame}
use Rattle.sr_laws_plant.specs.Handlings.{Handling, sent_count}
use Rattle.sr_laws_plant.specs.Ledger.{Hop, spread}
use Rattle.sr_laws_plant.specs.Ledger as ledger
use Rattle.sr_laws_plant.specs.Limits.{first_number}
use Rattle.sr_laws_plant.specs.Lists.{Each}
use Rattle.sr_laws_plant.specs.OneNode.{handed}
use Rattle.sr_laws_plant.specs.PlantEvents as law
use Rattle.sr_plant.specs.declared.topology.Topology.{Topology}
use Rattle.sr_plant.specs.Copies.{Copy, is_stopped}
use Rattle.sr_plant.specs.Plants.{Plant, IsEmptied}
use Rattle.sr_plant.specs.Puts.{copy_over, copies_put, all_put, put_out, those_passing}
use Rattle.sr_plant.specs.Steps.{emptied, acted}
use Rattle.sr_plant.specs.Topologies.{framing_of, kind_of, net_of, IsJoinedAs}
use Rattle.sr_laws_plant_runs.specs.Histories.{mac_at, mode_at, Shows, ParcelShows, Zip, oldest_first, is_outlet}
use Rattle.sr_laws_plant_runs.specs.TableWidths.{width_at}
use Rattle.sr_laws_plant_runs.proofs.ReadingLemmas.{IsCarried}
use Rattle.sr_laws_plant_runs.proofs.WireLemmas.{IsWire, wires}
use Rattle.sr_laws_plant_runs.proofs.ArrivingLemmas.{Arrives, IsRoomy}
use Rattle.sr_laws_plant_runs.proofs.NodeLemmas.{IsSame}
use Rattle.sr_laws_plant_runs.proofs.CopyLemmas.{IsSetThere, IsOther, where_set, or_got}
use Rattle.sr_laws_plant_runs.proofs.ZipLemmas.{zip_append, zip_filter, SameCuts, stopped_same}

-- node k between events
pub record IsNode (t : Topology) (starts : List Start) (clock : ℕ) (ds : List Handling) (k : ℕ) (m : State) : Type 0 where
  pub within : k < length starts
  pub kind : m.role.kind ≡ kind_of t k
  pub mac : m.role.mac ≡ mac_at starts k
  pub mode : m.core.mode ≡ mode_at starts k
  pub width : (other : ℕ) → m.core.width ≡ width_at other starts k
  pub empty : IsEmptied m
  pub time : m.core.time ≤ clock
  pub next : m.core.next.0 ≡ (first_number + sent_count k ds) % 65536

-- a copy in flight shows its frame, whatever octets it goes as
pub record FliesAs (t : Topology) (starts : List Start) (c : Copy) (g : ledger.Copy) : Type 0 where
  pub plain : List ℕ
  pub seq : Seq
  pub shows : Shows starts plain seq g.frame
  pub number : c.parcel.seq ≡ Some seq
  pub hop : c.hop ≡ g.hop
  pub full : padded plain ≡ plain
  pub roomy : IsRoomy plain
  pub port : is_outlet c.hop.to.port (kind_of t c.hop.to.node) ≡ true
  pub carried : IsCarried t (framing_of t c.from c.outlet) (framing_of t c.hop.to.node c.hop.to.port) c.hop.to.node c.parcel plain seq g.frame
  pub arrives : Arrives (framing_of t c.from c.outlet) (framing_of t c.hop.to.node c.hop.to.port) c.parcel

pub record Like (t : Topology) (starts : List Start) (s : Plant) (p : law.Plant) (ds : List Handling) : Type 0 where
  pub topology : s.topology ≡ t
  pub size : length s.nodes ≡ length starts
  pub nodes : (k : ℕ) (m : State) → slice_get s.nodes k ≡ Some m → IsNode t starts s.clock ds k m
  pub flight : Zip (FliesAs t starts) s.flight p.flight
  pub cuts : SameCuts s.cut p.cuts
  pub clock : s.clock ≡ p.clock
  pub up : (j : ℕ) (ps : List ParcelImage) → slice_get s.handed j ≡ Some ps → Zip (ParcelShows starts) ps (oldest_first (handed j ds))

-- with other copies in flight and other links cut
pub like_flying : (t : Topology) (starts : List Start) (s : Plant) (p : law.Plant) (ds : List Handling) (flight : List Copy) (cut : List Bool) (ghosts : List ledger.Copy) (cuts : List ℕ) →
    Like t starts s p ds → Zip (FliesAs t starts) flight ghosts → SameCuts cut cuts → Like t starts (record s { flight = flight; cut = cut }) (record { flight = ghosts; cuts = cuts; clock = p.clock }) ds
like_flying t starts s p ds flight cut ghosts cuts like zip same =
    record { topology = like.topology; size = like.size; nodes = like.nodes; flight = zip; cuts = same; clock = like.clock; up = like.up }

-- what is lost on cut links is the same
pub passing_same : (t : Topology) (starts : List Start) (cut : List Bool) (cuts : List ℕ) → SameCuts cut cuts → (cs : List Copy) (gs : List ledger.Copy) → Zip (FliesAs t starts) cs gs →
    Zip (FliesAs t starts) (those_passing cut cs) (law.those_passing cuts gs)
passing_same t starts cut cuts same cs gs zip =
    zip_filter (FliesAs t starts) (λ c. not (is_stopped cut c)) (λ g. not (law.is_stopped cuts g)) one cs gs zip
  where
    one : (c : Copy) (g : ledger.Copy) → FliesAs t starts c g → not (is_stopped cut c) ≡ not (law.is_stopped cuts g)
    one c g f =
        let a : is_stopped cut c ≡ list_any (λ link. list_any (λ l. l == link) c.hop.links) cuts = stopped_same cut cuts same c.hop.links in
        let b : list_any (λ link. list_any (λ l. l == link) c.hop.links) cuts ≡ law.is_stopped cuts g = ap (λ (h : Hop). list_any (λ link. list_any (λ l. l == link) h.links) cuts) f.hop in
        ap not (a ∙ b)

-- what a node puts out, and what its history puts out
module _ (t : Topology) (starts : List Start) (n : ℕ) (joined : IsJoinedAs t n) (k : ℕ) (p : ParcelImage) (f : Frame) (outlets : Outlets)
    (each : (o : Port) (h : Hop) → IsWire t k o h → has outlets o ≡ true → FliesAs t starts (copy_over k o p h) (record { hop = h; frame = f })) where
  over_hops : (o : Port) (hs : List Hop) → has outlets o ≡ true → Each (IsWire t k o) hs → Zip (FliesAs t starts) (map (copy_over k o p) hs) (map (λ h. record { hop = h; frame = f }) hs)
  over_hops o [] out wired = tt
  over_hops o (h ∷ hs) out wired = (each o h wired.0 out, over_hops o hs out wired.1)

  at_outlet : (o : Port) (b : Bool) → has outlets o ≡ b → Zip (FliesAs t starts) (all_put t n k o (with_copy [] (copy_if b p))) (if b then map (λ h. record { hop = h; frame = f }) (net_of t n k o) else [])
  at_outlet o true out = subst (λ cs. Zip (FliesAs t starts) cs (map (λ h. record { hop = h; frame = f }) (net_of t n k o))) (sym (append-nil (copies_put t n k o p))) (over_hops o (net_of t n k o) out (wires t n joined k o))
  at_outlet o false out = tt

  pub zip_put : (time : ℕ) (inlet : Port) (wanted : Port → Bool) →
      Zip (FliesAs t starts) (put_out t n k (put_at boxes_empty outlets p)) (spread (net_of t n) (record { node = k; inlet = inlet; frame = f; time = time; wanted = wanted; went = λ o. has outlets o }))
  zip_put time inlet wanted =
      zip_append (FliesAs t starts) (all_put t n k A (with_copy [] (copy_if (has outlets A) p))) _ _ _ (at_outlet A (has outlets A) refl)
      (zip_append (FliesAs t starts) (all_put t n k B (with_copy [] (copy_if (has outlets B) p))) _ _ _ (at_outlet B (has outlets B) refl) (at_outlet C (has outlets C) refl))

-- what a node that acted did, by its history
pub record Acted (t : Topology) (starts : List Start) (s : Plant) (i clock : ℕ) (before u : State) (ds es : List Handling) (ghosts : List ledger.Copy) : Type 0 where
  pub there : slice_get s.nodes i ≡ Some before
  pub same : IsSame before clock u
  pub later : s.clock ≤ clock
  pub put : Zip (FliesAs t starts) (put_out t (length starts) i u.core.out) ghosts
  pub next : u.core.next.0 ≡ (first_number + sent_count i es) % 65536
  pub counts : (k : ℕ) → (k == i) ≡ false → sent_count k es ≡ sent_count k ds
  pub up : (ps : List ParcelImage) → Zip (ParcelShows starts) ps (oldest_first (handed i ds)) → Zip (ParcelShows starts) (ps ++ u.core.out.h) (oldest_first (handed i es))
  pub others : (j : ℕ) → (j == i) ≡ false → handed j es ≡ handed j ds

pub like_acted : (t : Topology) (starts : List Start) (s : Plant) (p : law.Plant) (i clock : ℕ) (before u : State) (ds es : List Handling) (ghosts : List ledger.Copy) →
    Like t starts s p ds → Acted t starts s i clock before u ds es ghosts → (time : ℕ) → clock ≡ time →
    Like t starts (acted s i u clock) (record { flight = p.flight ++ law.those_passing p.cuts ghosts; cuts = p.cuts; clock = time }) es
like_acted t starts s p i clock before u ds es ghosts like a time at = record {
  topology = like.topology;
  size = length-set s.nodes i (emptied u) ∙ like.size;
  nodes = λ k m there. node k m (where_set s.nodes i k (emptied u) m there);
  flight = zip_append (FliesAs t starts) s.flight p.flight _ (law.those_passing p.cuts ghosts) like.flight
      (passing_same t starts s.cut p.cuts like.cuts (put_out s.topology (length s.nodes) i u.core.out) ghosts put);
  cuts = like.cuts;
  clock = at;
  up = λ j ps there. host j ps (where_set s.handed i j (slice_index_or s.handed i [] ++ u.core.out.h) ps there);
}
  where
    was : IsNode t starts s.clock ds i before
    was = like.nodes i before a.there

    put : Zip (FliesAs t starts) (put_out s.topology (length s.nodes) i u.core.out) ghosts
    put = subst (λ x. Zip (FliesAs t starts) (put_out x (length s.nodes) i u.core.out) ghosts) (sym like.topology)
        (subst (λ n. Zip (FliesAs t starts) (put_out t n i u.core.out) ghosts) (sym like.size) a.put)

    now_is : IsNode t starts clock es i (emptied u)
    now_is = record {
      within = was.within;
      kind = a.same.kind ∙ was.kind;
      mac = a.same.mac ∙ was.mac;
      mode = a.same.mode ∙ was.mode;
      width = λ other. a.same.width ∙ was.width other;
      empty = refl;
      time = (let e = a.same.time in omega (arith, e));
      next = a.next;
    }

    older : (k : ℕ) (m : State) → (k == i) ≡ false → slice_get s.nodes k ≡ Some m → IsNode t starts clock es k m
    older k m other there =
        let old = like.nodes k m there in
        record {
          within = old.within;
          kind = old.kind;
          mac = old.mac;
          mode = old.mode;
          width = old.width;
          empty = old.empty;
          time = (let e = old.time in let l = a.later in omega (arith, e, l));
          next = old.next ∙ ap (λ c. (first_number + c) % 65536) (sym (a.counts k other));
        }

    node : (k : ℕ) (m : State) → IsSetThere s.nodes i k m (emptied u) ⊎ IsOther s.nodes i k m → IsNode t starts clock es k m
    node k m (inl set) = subst (λ x. IsNode t starts clock es k x) (sym set.same) (subst (λ x. IsNode t starts clock es x (emptied u)) (sym set.place) now_is)
    node k m (inr old) = older k m old.0 old.1

    host : (j : ℕ) (ps : List ParcelImage) → IsSetThere s.handed i j ps (slice_index_or s.handed i [] ++ u.core.out.h) ⊎ IsOther s.handed i j ps → Zip (ParcelShows starts) ps (oldest_first (handed j es))
    host j ps (inl set) =
        let is : ps ≡ set.old ++ u.core.out.h = set.same ∙ ap (λ x. x ++ u.core.out.h) (or_got s.handed i set.old [] set.was) in
        subst (λ x. Zip (ParcelShows starts) ps (oldest_first (handed x es))) (sym set.place)
        (subst (λ x. Zip (ParcelShows starts) x (oldest_first (handed i es))) (sym is) (a.up set.old (like.up i set.old set.was)))
    host j ps (inr old) = subst (λ x. Zip (ParcelShows starts) ps (oldest_first x)) (sym (a.others j old.0)) (like.up j ps old.1)
