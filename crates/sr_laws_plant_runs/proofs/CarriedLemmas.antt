-- Copies that are carried, and each event, told by its history.
use Rattle.std.proofs.Common.{◌≡◌, ◌⊎◌, inl, inr, ℕ, ◌+◌, ◌%◌, ◌<◌, ◌==◌, ◌&&◌, not, nat_lt, Bool, true, false, List, [], ◌∷◌, ◌++◌, length, None, Some, slice_get, slice_set, pos, refl, sym, ap, ◌∙◌, subst, arith}
use Rattle.std.specs.List.{filter, remove, list_any}
use Rattle.std.proofs.lemmas.Bool.{and_parts, eq-eqb, true≢false}
use Rattle.std.proofs.lemmas.Bool.Decides.{nat_tests}
use Rattle.std.proofs.lemmas.List.{append-nil}
use Rattle.sr_frame.specs.Addresses.{mac_eq}
use Rattle.sr_frame.specs.Frame.{padded}
use Rattle.sr_frame.specs.declared.fields.Mac.{Mac}
use Rattle.sr_frame.specs.declared.ports.Port.{Port}
use Rattle.sr_frame.specs.declared.ports.Port.TheVariants.{H, A, B, C}
use Rattle.sr_sequence.specs.Numbers.{wire}
use Rattle.sr_dup_window.specs.LaneSets.{has as lane_has}
use Rattle.sr_dup_table.specs.Sources.{arrive_answer, after_arrive}
use Rattle.sr_forwarding.specs.declared.outlets.Outlets.{Outlets}
use Rattle.sr_forwarding.specs.Decoding.{IsRead}
use Rattle.sr_forwarding.specs.Encoding.{IsWritten, padded_plain}
use Rattle.sr_forwarding.specs.Headers.{header_of}
use Rattle.sr_forwarding.specs.Octets.{dst_in, src_in, is_supervision}
use Rattle.sr_forwarding.specs.Outlets.{has}
use Rattle.sr_forwarding.specs.Parcels.{ParcelImage, plain_of}
use Rattle.sr_forwarding.specs.RoleImages.{is_group}
use Rattle.sr_node.specs.Arriving.{is_plain, header_at, wanted_at}
use Rattle.sr_node.specs.Copies.{copy_if, with_copy}
use Rattle.sr_node.specs.Images.{time_at}
use Rattle.sr_node.specs.Starts.{Start, is_x}
use Rattle.sr_node.specs.Lanes.{is_clear, lanes_noted, outlets_on}
use Rattle.sr_node.specs.Lanes as node
use Rattle.sr_laws_plant.specs.Handlings.{Handling, is_sending}
use Rattle.sr_laws_plant.specs.Ledger.{Hop, spread}
use Rattle.sr_laws_plant.specs.Limits.{first_number}
use Rattle.sr_laws_plant.specs.OneNode.{IsRouted, IsSound, handed}
use Rattle.sr_laws_plant.specs.PlantEvents.{idle_turn, Sends, Moves}
use Rattle.sr_laws_plant.specs.PlantEvents as law
use Rattle.sr_laws_plant.specs.Ports.{lane_at}
use Rattle.sr_laws_plant.specs.Steadiness.{is_arrival_at}
use Rattle.sr_laws_plant.specs.Tables.{Notes, TableStep}
use Rattle.sr_plant.specs.declared.topology.Topology.{Topology}
use Rattle.sr_plant.specs.declared.event.PlantEvent.{PlantEvent}
use Rattle.sr_plant.specs.declared.event.PlantEvent.TheVariants.{Send, Carry, Drop, Repeat, Cut, Mend, Tick}
use Rattle.sr_plant.specs.declared.fault.PlantFault.{PlantFault}
use Rattle.sr_plant.specs.declared.fault.PlantFault.TheVariants.{NoSuchNode, NoSuchCopy}
use Rattle.sr_plant.specs.Copies.{Copy, is_on}
use Rattle.sr_plant.specs.Plants.{Plant}
use Rattle.sr_plant.specs.Puts.{put_out}
use Rattle.sr_plant.specs.Steps.{emptied, without, Comes, PlantStep, plant_refusal, lacks}
use Rattle.sr_plant.specs.Topologies.{framing_of, kind_of, net_of}
use Rattle.sr_laws_plant_runs.specs.TableWidths.{least_width, widths_of}
use Rattle.sr_laws_plant_runs.specs.Histories.{waits_at, in_mode_x, mac_at, Shows, ParcelShows, Zip, oldest_first}
use Rattle.sr_laws_box.specs.Crossings.{IsFrameWith}
use Rattle.sr_laws_box.specs.Members.{IsShown}
use Rattle.sr_laws_plant_runs.proofs.WireLemmas.{not_host, networked, carried}
use Rattle.sr_laws_plant_runs.proofs.ReadingLemmas.{IsCarried, not_plain, passed_on}
use Rattle.sr_laws_plant_runs.proofs.ArrivingLemmas.{IsRoomy, passed_arrives}
use Rattle.sr_laws_plant_runs.proofs.RouteLemmas.{law_routes, IsPathFor, wants_by_law}
use Rattle.sr_laws_plant_runs.proofs.NodeLemmas.{IsBack, TakesIn, node_takes}
use Rattle.sr_laws_plant_runs.proofs.CopyLemmas.{has_on}
use Rattle.sr_laws_plant_runs.proofs.ZipLemmas.{zip_append, zip_filter, IsBeside, zip_at, turned, cut_same, mend_same}
use Rattle.sr_laws_plant_runs.proofs.FrameLemmas.{none_alone, supervised_group, count_arrival, handed_none, handed_other, handed_here}
use Rattle.sr_laws_plant_runs.proofs.TableLemmas.{asked_of, are_asked, clear_is, table_at, by_table, lanes_of, noted_somewhere}
use Rattle.sr_laws_plant_runs.proofs.LikeLemmas.{IsNode, FliesAs, Like, like_flying, Acted, like_acted, zip_put}
use Rattle.sr_laws_plant_runs.proofs.HistoryLemmas.{IsMadeOf, StepTold, waits_put, waits_none, got_ghost, later_is, got_within, idle_like, send_told, tick_told, still_told, taken_out, gone_told}

-- a copy is taken by its receiver
module _ (t : Topology) (starts : List Start) (own : IsMadeOf t starts) (ds : List Handling) (s v : Plant) (p : law.Plant) (place : ℕ) (c : Copy)
    (like : Like t starts s p ds) (at : slice_get s.flight place ≡ Some c) (comes : Comes s place c v) where
  abbrev step : PlantStep s (Carry place) v
  step = (c, at, inl comes)

  pub here : IsBeside (FliesAs t starts) s.flight place c p.flight
  here = zip_at (FliesAs t starts) s.flight place c p.flight like.flight at

  pub fly : FliesAs t starts c here.here
  fly = here.related

  abbrev k : ℕ
  k = c.hop.to.node

  abbrev port : Port
  port = c.hop.to.port

  abbrev q : ParcelImage
  q = comes.taken.0

  was : IsNode t starts s.clock ds k comes.before
  was = like.nodes k comes.before comes.there

  pub now : time_at comes.before s.clock ≡ s.clock
  now = later_is comes.before.core.time s.clock was.time

  read : IsRead (framing_of t k port) comes.octets q
  read = subst (λ x. IsRead (framing_of x k port) comes.octets q) like.topology comes.taken.1

  with_path : IsFrameWith fly.plain fly.seq fly.carried.path q
  with_path = fly.carried.reads comes.octets q (subst (λ x. IsWritten (framing_of x c.from c.outlet) c.parcel.form c.parcel comes.octets) like.topology comes.written) read

  pub says : (plain_of q ≡ fly.plain) × (q.seq ≡ Some fly.seq)
  says = (with_path.plain_is, with_path.seq_is)

  -- the path tells where it was numbered
  told : IsPathFor t k q.path here.here.frame
  told = subst (λ path. IsPathFor t k path here.here.frame) (sym with_path.path_is) fly.carried.tells

  full : padded (plain_of q) ≡ plain_of q
  full = ap padded says.0 ∙ fly.full ∙ sym says.0

  roomy : IsRoomy (padded_plain q)
  roomy = subst IsRoomy (sym (ap padded says.0 ∙ fly.full)) fly.roomy

  pub no_plain : is_plain q.form ≡ false
  no_plain = not_plain (framing_of t k port) comes.octets q fly.seq (carried (kind_of t k) port (networked t k) fly.port) read says.1

  abbrev left : Plant
  left = without s place

  left_like : Like t starts left (record { flight = here.before ++ here.behind; cuts = p.cuts; clock = p.clock }) ds
  left_like = like_flying t starts s p ds (remove s.flight place) s.cut (here.before ++ here.behind) p.cuts like here.rest like.cuts

  -- whether it is the node's own
  pub own_is : mac_eq (header_of q).src comes.before.role.mac ≡ (k == here.here.frame.src)
  own_is =
      ap (λ m. mac_eq m comes.before.role.mac) (ap src_in says.0 ∙ fly.shows.source)
      ∙ ap (λ m. mac_eq (mac_at starts here.here.frame.src) m) was.mac
      ∙ own.apart.apart here.here.frame.src k fly.shows.member was.within
      ∙ turned here.here.frame.src k

  back_told : IsBack comes.before q s.clock comes.after → StepTold t starts ds s p (Carry place) v step
  back_told back = record {
    turn = record idle_turn { came = here.here ∷ [] };
    after = record { flight = here.before ++ here.behind; cuts = p.cuts; clock = p.clock };
    moves = (
      here.here,
      here.before ++ here.behind,
      taken_out t starts s p ds place c like here,
      inr (inl (record { own = subst (λ (h : Hop). (h.to.node == here.here.frame.src) ≡ true) fly.hop (sym own_is ∙ back.own); says = refl; after = refl })),
    );
    like = subst (λ x. Like t starts x (record { flight = here.before ++ here.behind; cuts = p.cuts; clock = p.clock }) ds) (sym comes.plant)
        (idle_like t starts ds left (record { flight = here.before ++ here.behind; cuts = p.cuts; clock = p.clock }) k s.clock comes.before comes.after left_like comes.there back.same back.idle (omega arith) p.clock like.clock);
    pins = (here.here, got_ghost t starts s p place c here, (refl, (λ o. ap (λ b. waits_at b o) back.idle.out ∙ waits_none o), tt));
    due = tt;
    good = tt;
    tables = subst (λ (x : Plant). (j : ℕ) → TableStep (mac_at starts) (in_mode_x starts) (widths_of starts) lanes_of j p.clock None (table_at s.nodes j) (table_at x.nodes j)) (sym comes.plant)
        (by_table s.nodes k comes.before (emptied comes.after) (λ j a b. TableStep (mac_at starts) (in_mode_x starts) (widths_of starts) lanes_of j p.clock None a b) comes.there (inl (tt, back.sources)) (λ j other. inl (tt, refl)));
  }

  module _ (takes : TakesIn comes.before port q fly.seq s.clock comes.after) where
    abbrev wanted : Outlets
    wanted = wanted_at comes.before port q s.clock

    abbrev outlets : Outlets
    outlets = outlets_on comes.before.core.mode takes.fresh (wanted_at comes.before port q s.clock)

    abbrev d : Handling
    d = record { node = c.hop.to.node; inlet = c.hop.to.port; frame = here.here.frame; time = p.clock; wanted = λ o. has (wanted_at comes.before port q s.clock) o; went = λ o. has (outlets_on comes.before.core.mode takes.fresh (wanted_at comes.before port q s.clock)) o }

    pub wanted_there : (o : Port) → has (outlets_on comes.before.core.mode takes.fresh (wanted_at comes.before port q s.clock)) o ≡ true → has (wanted_at comes.before port q s.clock) o ≡ true
    wanted_there o out = (and_parts (has (wanted_at comes.before port q s.clock) o) (lane_has takes.fresh (node.lane_at o) && is_clear comes.before.core.mode takes.fresh o) (sym (has_on comes.before.core.mode takes.fresh (wanted_at comes.before port q s.clock) o) ∙ out)).0

    outside : is_sending d ≡ false
    outside = not_host c.hop.to.port (kind_of t c.hop.to.node) fly.port

    shown : ParcelShows starts q here.here.frame
    shown = (fly.seq, says.1, subst (λ x. Shows starts x fly.seq here.here.frame) (sym says.0) fly.shows)

    did : Acted t starts left k s.clock comes.before comes.after ds (d ∷ ds) (spread (net_of t (length starts)) d)
    did = record {
      there = comes.there;
      same = takes.same;
      later = omega arith;
      put = subst (λ o. Zip (FliesAs t starts) (put_out t (length starts) k o) (spread (net_of t (length starts)) d)) (sym takes.out)
          (zip_put t starts (length starts) own.joined k q here.here.frame (outlets_on comes.before.core.mode takes.fresh (wanted_at comes.before port q s.clock))
          (λ o h wire out. record {
            plain = fly.plain;
            seq = fly.seq;
            shows = fly.shows;
            number = says.1;
            hop = refl;
            full = fly.full;
            roomy = fly.roomy;
            port = wire.port;
            carried = subst (λ x. IsCarried t (framing_of t k o) (framing_of t h.to.node h.to.port) h.to.node q x fly.seq here.here.frame) says.0
                (passed_on t k port o h wire fly.port comes.before.role (header_at comes.before q s.clock) s.clock was.kind (wanted_there o out) comes.octets q fly.seq here.here.frame read says.1 full told);
            arrives = passed_arrives t k port o h wire fly.port comes.before.role (header_at comes.before q s.clock) s.clock was.kind (wanted_there o out) comes.octets q fly.seq read says.1 roomy;
          }) p.clock c.hop.to.port (λ o. has (wanted_at comes.before port q s.clock) o));
      next = ap (λ x. x.0) takes.next ∙ was.next ∙ ap (λ n. (first_number + n) % 65536) (sym (count_arrival k d ds outside));
      counts = λ j other. count_arrival j d ds outside;
      up = λ ps zip. subst (λ o. Zip (ParcelShows starts) (ps ++ o.h) (oldest_first (handed k (d ∷ ds)))) (sym takes.out) (up_too ps zip (has outlets H) refl);
      others = λ j other. handed_other j d ds other;
    }
      where
        up_too : (ps : List ParcelImage) → Zip (ParcelShows starts) ps (oldest_first (handed k ds)) → (b : Bool) → has outlets H ≡ b → Zip (ParcelShows starts) (ps ++ with_copy [] (copy_if (has outlets H) q)) (oldest_first (handed k (d ∷ ds)))
        up_too ps zip true e =
            subst (λ b. Zip (ParcelShows starts) (ps ++ with_copy [] (copy_if b q)) (oldest_first (handed k (d ∷ ds)))) (sym e)
            (subst (λ fs. Zip (ParcelShows starts) (ps ++ q ∷ []) (oldest_first fs)) (sym (handed_here d ds e)) (zip_append (ParcelShows starts) ps (oldest_first (handed k ds)) (q ∷ []) (here.here.frame ∷ []) zip (shown, tt)))
        up_too ps zip false e =
            subst (λ b. Zip (ParcelShows starts) (ps ++ with_copy [] (copy_if b q)) (oldest_first (handed k (d ∷ ds)))) (sym e)
            (subst (λ x. Zip (ParcelShows starts) x (oldest_first (handed k (d ∷ ds)))) (sym (append-nil ps)) (subst (λ fs. Zip (ParcelShows starts) ps (oldest_first fs)) (sym (handed_none k d ds e)) zip))

    same_lane : (o : Port) → lane_has takes.fresh (node.lane_at o) ≡ lane_has takes.fresh (lane_at o)
    same_lane H = refl
    same_lane A = refl
    same_lane B = refl
    same_lane C = refl

    in_mode : in_mode_x starts k ≡ is_x comes.before.core.mode
    in_mode = ap is_x (sym was.mode)

    sources_at : (w : ℕ) → comes.before.core.width ≡ w → (src : Mac) (time : ℕ) → (header_of q).src ≡ src → s.clock ≡ time → (number : ℕ) → fly.seq.0 ≡ number →
        (arrive_answer w comes.before.core.sources src number (asked_of comes.before.core.mode d) time ≡ Some takes.fresh) × (comes.after.core.sources ≡ after_arrive w comes.before.core.sources src number (lanes_of d) time)
    sources_at w at src time a b number e = (
      sym (ap (λ m. arrive_answer m comes.before.core.sources (header_of q).src fly.seq.0 (asked_of comes.before.core.mode d) s.clock) at
          ∙ ap (λ m. arrive_answer w comes.before.core.sources m fly.seq.0 (asked_of comes.before.core.mode d) s.clock) a
          ∙ ap (λ m. arrive_answer w comes.before.core.sources src fly.seq.0 (asked_of comes.before.core.mode d) m) b
          ∙ ap (λ m. arrive_answer w comes.before.core.sources src m (asked_of comes.before.core.mode d) time) e) ∙ takes.answer,
      takes.sources ∙ ap (λ m. after_arrive m comes.before.core.sources (header_of q).src fly.seq.0 (lanes_of d) s.clock) at
          ∙ ap (λ m. after_arrive w comes.before.core.sources m fly.seq.0 (lanes_of d) s.clock) a
          ∙ ap (λ m. after_arrive w comes.before.core.sources src fly.seq.0 (lanes_of d) m) b
          ∙ ap (λ m. after_arrive w comes.before.core.sources src m (lanes_of d) time) e,
    )

    notes : Notes (mac_at starts) (in_mode_x starts) (widths_of starts) lanes_of k p.clock (Some d) comes.before.core.sources (emptied comes.after).core.sources
    notes =
        let table = sources_at ((widths_of starts).at k) (was.width (least_width starts)) (mac_at starts here.here.frame.src) p.clock (ap src_in says.0 ∙ fly.shows.source) like.clock (wire (pos here.here.frame.number)) fly.shows.number in
        record {
          handling = d;
          asked = asked_of comes.before.core.mode d;
          fresh = takes.fresh;
          did_it = refl;
          here = rw outside (eq-eqb k k refl);
          time = refl;
          some = noted_somewhere d outside;
          asks = are_asked comes.before.core.mode (in_mode_x starts) d outside in_mode;
          answer = table.0;
          after = table.1;
          goes = λ o. has_on comes.before.core.mode takes.fresh (wanted_at comes.before port q s.clock) o
              ∙ ap (λ b. has (wanted_at comes.before port q s.clock) o && (b && is_clear comes.before.core.mode takes.fresh o)) (same_lane o)
              ∙ ap (λ b. has (wanted_at comes.before port q s.clock) o && (lane_has takes.fresh (lane_at o) && b)) (clear_is comes.before.core.mode (in_mode_x starts) d takes.fresh o in_mode);
        }

    shows : IsShown port k comes.before.role (header_at comes.before q s.clock) here.here.frame
    shows beyond = record {
      other = takes.other;
      supervision = ap is_supervision says.0 ∙ fly.shows.supervision;
      alone = ap (λ x. mac_eq (dst_in x) comes.before.role.mac) says.0 ∙ ap (λ m. mac_eq (dst_in fly.plain) m) was.mac ∙ fly.shows.alone k was.within;
      all = ap (λ x. is_group (dst_in x)) says.0 ∙ fly.shows.all;
      group = λ sup. none_alone k here.here.frame.dest (sym fly.shows.all ∙ supervised_group fly.plain (fly.shows.supervision ∙ sup));
    }

    pub routed : IsRouted (law_routes t) d
    routed o = wants_by_law t (length starts) own.joined k comes.before.role (header_at comes.before q s.clock) here.here.frame port s.clock was.kind shows told o

    sound : IsSound d
    sound o went = wanted_there o went

    takes_told : StepTold t starts ds s p (Carry place) v step
    takes_told = record {
      turn = record { did = Some d; doubled = []; lost = law.those_stopped p.cuts (spread (net_of t (length starts)) d); came = here.here ∷ [] };
      after = record { flight = (here.before ++ here.behind) ++ law.those_passing p.cuts (spread (net_of t (length starts)) d); cuts = p.cuts; clock = p.clock };
      moves = (
        here.here,
        here.before ++ here.behind,
        taken_out t starts s p ds place c like here,
        inr (inr (
          d,
          record {
            foreign = sym own_is ∙ takes.other;
            inlet = outside;
            node = ap (λ (h : Hop). h.to.node) fly.hop;
            port = ap (λ (h : Hop). h.to.port) fly.hop;
            frame = refl;
            time = refl;
            says = refl;
            after = refl;
          },
        )),
      );
      like = subst (λ x. Like t starts x (record { flight = (here.before ++ here.behind) ++ law.those_passing p.cuts (spread (net_of t (length starts)) d); cuts = p.cuts; clock = p.clock }) (d ∷ ds)) (sym comes.plant)
          (like_acted t starts left (record { flight = here.before ++ here.behind; cuts = p.cuts; clock = p.clock }) k s.clock comes.before comes.after ds (d ∷ ds) (spread (net_of t (length starts)) d) left_like did p.clock like.clock);
      pins = (here.here, got_ghost t starts s p place c here, (refl, (λ o. sym (ap (λ b. waits_at b o) takes.out ∙ waits_put (outlets_on comes.before.core.mode takes.fresh (wanted_at comes.before port q s.clock)) q o)), λ o. refl));
      due = tt;
      good = (record { member = was.within; source = fly.shows.member; routed = routed; sound = sound; out = λ sends. absurd (true≢false (sym sends ∙ outside)) }, tt);
      tables = subst (λ (x : Plant). (j : ℕ) → TableStep (mac_at starts) (in_mode_x starts) (widths_of starts) lanes_of j p.clock (Some d) (table_at s.nodes j) (table_at x.nodes j)) (sym comes.plant)
          (by_table s.nodes k comes.before (emptied comes.after) (λ j a b. TableStep (mac_at starts) (in_mode_x starts) (widths_of starts) lanes_of j p.clock (Some d) a b) comes.there (inr (inr notes)) (λ j other. inl ((away j other, tt), refl)));
    }
      where
        away : (j : ℕ) → (j == k) ≡ false → is_arrival_at j d ≡ false
        away j other = rw outside other

  pub comes_told : StepTold t starts ds s p (Carry place) v step
  comes_told = elim (subst (λ m. IsBack comes.before q m comes.after ⊎ TakesIn comes.before port q fly.seq m comes.after) now (node_takes comes.before port q fly.seq (time_at comes.before s.clock) comes.answer comes.after was.empty no_plain says.1 comes.taken.3)) [
    | inl back ↦ back_told back
    | inr takes ↦ takes_told takes
  ]

-- a number below a count
is_there : (place count : ℕ) (fault : PlantFault) → lacks place count fault ≡ None → place < count
is_there place count fault none = by (nat_lt place count) refl
  where
    by : (b : Bool) → nat_lt place count ≡ b → place < count
    by true e = grind (arith, nat_tests, e)
    by false e = let no = rw e at none in absurd cc

-- any event
pub step_told : (t : Topology) (starts : List Start) → IsMadeOf t starts → (ds : List Handling) (s v : Plant) (p : law.Plant) (e : PlantEvent) → Like t starts s p ds → plant_refusal s e ≡ None → (step : PlantStep s e v) → StepTold t starts ds s p e v step
step_told t starts own ds s v p (Send i frame) like none step = send_told t starts own ds s v p i frame like step
step_told t starts own ds s v p (Tick i at) like none step = tick_told t starts own ds s v p i at like none step
step_told t starts own ds s v p (Carry place) like none (c, at, inl comes) = comes_told t starts own ds s v p place c like at comes
step_told t starts own ds s v p (Carry place) like none (c, at, inr lost) =
    gone_told t starts ds s v p place c (Carry place) like at lost.1 (c, at, inr lost) (λ g there. (g, there, refl)) tt (λ g rest turn after out refuses. (g, rest, out, inl refuses))
step_told t starts own ds s v p (Drop place) like none step =
    let one = got_within s.flight place (is_there place (length s.flight) NoSuchCopy none) in
    gone_told t starts ds s v p place one.0 (Drop place) like one.1 step step (λ g there. tt) tt (λ g rest turn after out refuses. (g, rest, out, refuses))
step_told t starts own ds s v p (Repeat place) like none step =
    let c = step.1.0 in
    let b = zip_at (FliesAs t starts) s.flight place c p.flight like.flight step.1.1 in
    let zip = zip_append (FliesAs t starts) s.flight p.flight (c ∷ []) (b.here ∷ []) like.flight (b.related, tt) in
    still_told t starts ds s v p (Repeat place) (record idle_turn { doubled = b.here ∷ [] }) step.0 s.cut (p.flight ++ b.here ∷ []) p.cuts like step.2
    (subst (λ x. Zip (FliesAs t starts) x (p.flight ++ b.here ∷ [])) (sym step.1.2) zip) like.cuts refl step tt tt (b.here, b.before ++ b.behind, taken_out t starts s p ds place c like b, refl, refl)
step_told t starts own ds s v p (Cut link) like none step =
    still_told t starts ds s v p (Cut link) (record idle_turn { lost = filter (law.is_on link) p.flight }) (filter (λ c. not (is_on link c)) s.flight) (slice_set s.cut link true) (filter (λ g. not (law.is_on link g)) p.flight) (link ∷ p.cuts) like step
    (zip_filter (FliesAs t starts) (λ c. not (is_on link c)) (λ g. not (law.is_on link g)) (λ c g f. ap (λ (h : Hop). not (list_any (λ l. l == link) h.links)) f.hop) s.flight p.flight like.flight)
    (cut_same s.cut p.cuts link like.cuts (is_there link (length s.cut) NoSuchNode none)) refl step tt tt (refl, refl)
step_told t starts own ds s v p (Mend link) like none step =
    still_told t starts ds s v p (Mend link) idle_turn s.flight (slice_set s.cut link false) p.flight (filter (λ l. not (l == link)) p.cuts) like step like.flight
    (mend_same s.cut p.cuts link like.cuts (is_there link (length s.cut) NoSuchNode none)) refl step tt tt (refl, refl)
