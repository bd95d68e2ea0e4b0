-- What nodes did, of what their workers and their wires tell.
use Rattle.std.proofs.Common.{◌≡◌, ℕ, zero, suc, ◌<◌, true, false, List, [], ◌∷◌, length, map, vec_len, get_or, Option, Result, Ok, Err, IfOk, sym, ap, ◌∙◌, subst, arith}
use Rattle.std.proofs.lemmas.List.{get_or-map, length-map}
use Rattle.sr_forwarding.specs.Parcels.{ParcelImage}
use Rattle.sr_forwarding.specs.Framings.{FramingImage}
use Rattle.sr_lines.specs.declared.cable.Cable.{Cable}
use Rattle.sr_lines.specs.declared.ends.Ends.{Ends}
use Rattle.sr_lines.specs.declared.lan.Lan.{Lan as ALan}
use Rattle.sr_lines.specs.declared.line.Line.{Line}
use Rattle.sr_lines.specs.declared.line.Line.TheVariants.{Host, Ring, Lan}
use Rattle.sr_lines.specs.Handed.{tells_of, handed_of, asked_of, given_of, losses_of, ended_of, failed_of, frames_of, asked_by, lost_by, failed_by, lost_in, failed_in}
use Rattle.sr_lines.specs.Names.{OfRing, OfLan, line_name, end_wires, all_wires}
use Rattle.sr_lines.specs.Pairs.{WirePair}
use Rattle.sr_node.specs.Images.{State}
use Rattle.sr_ports.specs.declared.log.Log.{Log}
use Rattle.sr_ports.specs.declared.settling.Settlement.{Settlement}
use Rattle.sr_ports.specs.declared.worker.Worker.{Worker}
use Rattle.sr_ports.specs.declared.worker.Worker.TheVariants as who
use Rattle.sr_ports.specs.Stamps.{Stamp}
use Rattle.sr_workers.specs.declared.fault.WorkerFault.{WorkerFault}
use Rattle.sr_workers.specs.declared.feed.Feed.{Ghosts}
use Rattle.sr_workers.specs.declared.kit.Kit.{Kit}
use Rattle.sr_workers.specs.declared.kit.WorkerEnd.{WorkerEnd}
use Rattle.sr_workers.specs.Worked.{Worked, EndedAs, worker_begun}
use Rattle.sr_threaded.specs.declared.kit.LineEnd.{LineEnd}
use Rattle.sr_threaded.specs.declared.kit.NodeEnd.{NodeEnd}
use Rattle.sr_threaded.specs.Joined.{RingWires, IsRing, IsLan, IsUnused, AreUnused, AllUnused, ring_wires_of, ring_wires}
use Rattle.sr_threaded.specs.Ran.{NodeStart, start_with, IsSettlementFrom, line_start, ring_start, lan_start, ring_starts, lan_starts, starts_at, LineRan, NodeRan, AllRan, ArePartsOf, WiredInRing, WiredInLans}

-- what stands at a place within
at : {A : Type 0} (xs : List A) (i : ℕ) → i < length xs → A
at [] i low = absurd (omega (arith, low))
at (x ∷ xs) zero low = x
at (x ∷ xs) (suc i) low = at xs i (omega (arith, low))

-- what holds where a call succeeded
pub ok_of : {A E : Type 0} (P : A → Type 0) (r : Result A E) (a : A) → r ≡ Ok a → IfOk r P → P a
ok_of P r a is holds = subst (λ x. IfOk x P) is holds

-- what follows there of four facts, and of two
pub if_four : {A E : Type 0} (O P Q R S : A → Type 0) (r : Result A E) → IfOk r O → IfOk r P → IfOk r Q → IfOk r R → ((a : A) → O a → P a → Q a → R a → S a) → IfOk r S
if_four O P Q R S (Ok a) o p q r f = f a o p q r
if_four O P Q R S (Err e) o p q r f = tt

pub if_both : {A E : Type 0} (P Q S : A → Type 0) (r : Result A E) → IfOk r P → IfOk r Q → ((a : A) → P a → Q a → S a) → IfOk r S
if_both P Q S (Ok a) p q f = f a p q
if_both P Q S (Err e) p q f = tt

module _ {F : Type 0} (feed : Ghosts F) where
  -- a worker ended as it says, and these are the parts of its end
  pub line_ran : (f : FramingImage) (turns : ℕ) (old new : Stamp) (line : Line F) (whole : WorkerEnd (Line F)) (log : Log) (e : LineEnd F)
      → EndedAs (line_name feed.name) (tells_of feed.tells) (handed_of feed.handed) (asked_of feed.asked) (given_of feed.given) (losses_of feed.losses) (failed_of feed.failed) (ended_of feed.ended) f turns old line new whole
      → ArePartsOf whole log e → LineRan feed (line_start feed old.worker f turns old.count line) log e
  line_ran f turns old new line whole log e was parts =
      let s = line_start feed old.worker f turns old.count line in
      let P : Log × Line F × ℕ × Option WorkerFault × Option ParcelImage → Type 0 = λ x.
      Worked s.begun (record {
        count = new.count;
        pairs = x.0.pairs.items;
        handed = handed_of feed.handed x.1;
        asked = asked_of feed.asked x.1;
        given = given_of feed.given x.1;
        losses = losses_of feed.losses x.1;
        failed = failed_of feed.failed x.1;
        ended = ended_of feed.ended x.1;
        unread = x.2;
        fault = x.3;
        held = x.4;
      }) in
      record {
        own = ap (λ l. l.worker) parts.log_is ∙ was.log;
        line = ap (λ l. line_name feed.name l) parts.line_is ∙ was.feed_name;
        count = new.count;
        worked = subst P (λ k. (sym parts.log_is k, sym parts.line_is k, sym parts.unread_is k, sym parts.fault_is k, sym parts.held_is k)) was.worked;
      }

  -- each of so many workers ended as it says
  abbrev pub AllEnded : {G : Type 0} → (G → FramingImage) → ℕ → ℕ → List (Kit Stamp (Line F) G) → List (Stamp × WorkerEnd (Line F)) → Type 0
  AllEnded meaning turns count kits dones =
      (i : ℕ) (k : Kit Stamp (Line F) _) (d : Stamp × WorkerEnd (Line F)) → i < count
      → EndedAs (line_name feed.name) (tells_of feed.tells) (handed_of feed.handed) (asked_of feed.asked) (given_of feed.given) (losses_of feed.losses) (failed_of feed.failed) (ended_of feed.ended) (meaning (get_or kits i k).framing) turns (get_or kits i k).pass (get_or kits i k).feed (get_or dones i d).0 (get_or dones i d).1

  -- these are the parts of the ends of so many workers
  abbrev pub AllParts : ℕ → List (Stamp × WorkerEnd (Line F)) → NodeEnd F feed → Type 0
  AllParts count dones e =
      (i : ℕ) (d : Stamp × WorkerEnd (Line F)) (l : Log) (x : LineEnd F) → i < count → ArePartsOf (get_or dones i d).1 (get_or e.logs.items i l) (get_or e.ends.items i x)

  -- the workers of a node ended as they say, and these are the parts of their ends
  pub node_ran : {G : Type 0} (node : State) (meaning : G → FramingImage) (turns n m : ℕ) (kits : List (Kit Stamp (Line F) G)) (dones : List (Stamp × WorkerEnd (Line F))) (own : Settlement) (e : NodeEnd F feed)
      → n ≡ length kits → m ≡ length dones → m ≡ n
      → AllEnded meaning turns n kits dones → vec_len e.logs ≡ m → vec_len e.ends ≡ m → AllParts m dones e
      → IsSettlementFrom node e.segment e.logs.items own
      → NodeRan feed (start_with node (map (λ k. line_start feed k.pass.worker (meaning k.framing) turns k.pass.count k.feed) kits)) own e
  node_ran node meaning turns n m kits dones own e many most same ended logs ends parts settles =
      let start = λ (k : Kit Stamp (Line F) _). line_start feed k.pass.worker (meaning k.framing) turns k.pass.count k.feed in
      let count : length (map start kits) ≡ length kits = length-map kits start in
      record {
        logs = logs ∙ same ∙ many ∙ sym count;
        ends = ends ∙ same ∙ many ∙ sym count;
        each = λ i s l x low.
            let below : i < length kits = subst (λ y. i < y) count low in
            let first : i < n = subst (λ y. i < y) (sym many) below in
            let second : i < m = subst (λ y. i < y) (sym same) first in
            let within : i < length dones = subst (λ y. i < y) most second in
            let k = at kits i below in
            let d = at dones i within in
            let whole = get_or kits i k in
            let ran = line_ran (meaning whole.framing) turns whole.pass (get_or dones i d).0 whole.feed (get_or dones i d).1 (get_or e.logs.items i l) (get_or e.ends.items i x) (ended i k d first) (parts i d l x second) in
            subst (λ y. LineRan feed y (get_or e.logs.items i l) (get_or e.ends.items i x)) (sym (get_or-map start kits i k s below)) ran;
        settles = settles;
      }

  -- each node's run succeeded, and its workers did as they began
  pub all_ran : {W E : Type 0} (starts : W → NodeStart feed.Name) (jobs : List W) (outcomes : List (Result (NodeEnd F feed) E)) (ends : List (NodeEnd F feed))
      → length outcomes ≡ length jobs → outcomes ≡ map (λ x. Ok x) ends
      → ((i : ℕ) (d : Result (NodeEnd F feed) E) → i < length jobs → (job : W) × ((w : W) → get_or jobs i w ≡ job) × IfOk (get_or outcomes i d) (λ e. NodeRan feed (starts job) e.settlement e))
      → AllRan feed (map starts jobs) ends
  all_ran starts jobs outcomes ends same are each =
      let count : length ends ≡ length jobs = sym (length-map ends (λ x. Ok x)) ∙ sym (ap length are) ∙ same in
      let rows : length (map starts jobs) ≡ length jobs = length-map jobs starts in
      record {
        count = count ∙ sym rows;
        each = λ i s e low.
            let below : i < length jobs = subst (λ n. i < n) rows low in
            let within : i < length ends = subst (λ n. i < n) (sym count) below in
            let ran = each i (Ok e) below in
            let ok : get_or outcomes i (Ok e) ≡ Ok (get_or ends i e) = ap (λ l. get_or l i (Ok e)) are ∙ get_or-map (λ x. Ok x) ends i e (Ok e) within in
            let node : NodeRan feed (starts ran.0) (get_or ends i e).settlement (get_or ends i e) = subst (λ r. IfOk r (λ x. NodeRan feed (starts ran.0) x.settlement x)) ok ran.2 in
            subst (λ y. NodeRan feed y (get_or ends i e).settlement (get_or ends i e)) (sym (get_or-map starts jobs i ran.0 s below ∙ ap starts (ran.1 ran.0))) node;
      }

  line_at_ring : (w : Worker) (f : FramingImage) (turns : ℕ) (c : Cable) (e : Ends) → c.ends ≡ e → IsUnused e → asked_by c ≡ 0 → lost_by c ≡ 0 → failed_by c ≡ 0
      → line_start feed w f turns 0 (Ring c) ≡ ring_start feed w f turns (end_wires e)
  line_at_ring w f turns c e is new asked lost failed =
      let taken : c.ends.take.frames ≡ [] = ap (λ y. y.take.frames) is ∙ new.taken in
      let sent : c.ends.send.frames ≡ [] = ap (λ y. y.send.frames) is ∙ new.sent in
      λ k. record {
        line = OfRing (end_wires (is k));
        begun = worker_begun w f turns 0 true (frames_of (taken k)) (asked k) (sent k) (lost k) (failed k);
      }

  line_at_lan : (w : Worker) (f : FramingImage) (turns : ℕ) (l : ALan) (es : List Ends) → l.ends.items ≡ es → lost_in l ≡ 0 → failed_in l ≡ 0
      → line_start feed w f turns 0 (Lan l) ≡ lan_start feed w f turns (all_wires es)
  line_at_lan w f turns l es is lost failed =
      λ k. record { line = OfLan (all_wires (is k)); begun = worker_begun w f turns 0 false [] 0 [] (lost k) (failed k) }

  -- a node at new wires of a ring, and at those of two LANs
  pub starts_in_ring : (node : State) (a b host : FramingImage) (turns : ℕ) (f : F) (ca cb : Cable) (e : Ends × Ends)
      → ca.ends ≡ e.0 → asked_by ca ≡ 0 → lost_by ca ≡ 0 → failed_by ca ≡ 0
      → cb.ends ≡ e.1 → asked_by cb ≡ 0 → lost_by cb ≡ 0 → failed_by cb ≡ 0
      → AreUnused e → starts_at feed node a b host turns (Ring ca) (Ring cb) (Host f) ≡ ring_starts feed node a b host turns f (ring_wires_of e)
  starts_in_ring node a b host turns f ca cb e is asked lost failed is' asked' lost' failed' new =
      let first = line_at_ring who.A a turns ca e.0 is new.at_a asked lost failed in
      let second = line_at_ring who.B b turns cb e.1 is' new.at_b asked' lost' failed' in
      λ k. start_with node (first k ∷ second k ∷ line_start feed who.Host host turns 0 (Host f) ∷ [])

  pub starts_in_lans : (node : State) (a b host : FramingImage) (turns : ℕ) (f : F) (la lb : ALan) (ea eb : List Ends)
      → la.ends.items ≡ ea → lost_in la ≡ 0 → failed_in la ≡ 0 → lb.ends.items ≡ eb → lost_in lb ≡ 0 → failed_in lb ≡ 0
      → starts_at feed node a b host turns (Lan la) (Lan lb) (Host f) ≡ lan_starts feed node a b host turns f (all_wires ea) (all_wires eb)
  starts_in_lans node a b host turns f la lb ea eb is lost failed is' lost' failed' =
      let first = line_at_lan who.A a turns la ea is lost failed in
      let second = line_at_lan who.B b turns lb eb is' lost' failed' in
      λ k. start_with node (first k ∷ second k ∷ line_start feed who.Host host turns 0 (Host f) ∷ [])

-- nodes were put at the wires of a ring, and at those of two LANs
pub wired_in_ring : {K W S : Type 0} (begins : K → RingWires → S) (starts : W → S) (kits : List K) (es : List (Ends × Ends)) (ws : List W)
    → length es ≡ length kits → length ws ≡ length kits → IsRing (ring_wires es) → AllUnused es
    → ((i : ℕ) (k : K) (e : Ends × Ends) (w : W) → i < length kits → AreUnused (get_or es i e) → starts (get_or ws i w) ≡ begins (get_or kits i k) (ring_wires_of (get_or es i e)))
    → WiredInRing (map begins kits) (map starts ws)
wired_in_ring begins starts kits es ws same same' ring new each =
    let count : length (ring_wires es) ≡ length es = length-map es (λ e. ring_wires_of e) in
    let rows : length (map starts ws) ≡ length ws = length-map ws starts in
    record {
      wires = ring_wires es;
      count = count ∙ same ∙ sym same' ∙ sym rows;
      ring = ring;
      each = λ i b w s low.
          let there : i < length ws = subst (λ n. i < n) rows low in
          let below : i < length kits = subst (λ n. i < n) same' there in
          let within : i < length es = subst (λ n. i < n) (sym same) below in
          let k = at kits i below in
          let e = at es i within in
          let x = at ws i there in
          let first = get_or-map begins kits i k b below in
          let second = get_or-map (λ y. ring_wires_of y) es i e w within in
          get_or-map starts ws i x s there ∙ each i k e x below (new i e within) ∙ sym (λ j. first j (second j));
    }

pub wired_in_lans : {K W T S : Type 0} (begins : K → List WirePair → List WirePair → S) (starts : W → S) (a b : T → List WirePair) (kits : List K) (ts : List T) (ws : List W)
    → length ts ≡ length kits → length ws ≡ length kits → IsLan (map a ts) → IsLan (map b ts)
    → ((i : ℕ) (k : K) (t : T) (w : W) → i < length kits → starts (get_or ws i w) ≡ begins (get_or kits i k) (a (get_or ts i t)) (b (get_or ts i t)))
    → WiredInLans (map begins kits) (map starts ws)
wired_in_lans begins starts a b kits ts ws same same' lan_a lan_b each =
    let rows : length (map starts ws) ≡ length ws = length-map ws starts in
    record {
      a = map a ts;
      b = map b ts;
      count_a = length-map ts a ∙ same ∙ sym same' ∙ sym rows;
      count_b = length-map ts b ∙ same ∙ sym same' ∙ sym rows;
      lan_a = lan_a;
      lan_b = lan_b;
      each = λ i f w s low.
          let there : i < length ws = subst (λ n. i < n) rows low in
          let below : i < length kits = subst (λ n. i < n) same' there in
          let within : i < length ts = subst (λ n. i < n) (sym same) below in
          let k = at kits i below in
          let t = at ts i within in
          let x = at ws i there in
          let first = get_or-map begins kits i k f below in
          let second = get_or-map a ts i t w within in
          let third = get_or-map b ts i t w within in
          get_or-map starts ws i x s there ∙ each i k t x below ∙ sym (λ j. first j (second j) (third j));
    }
