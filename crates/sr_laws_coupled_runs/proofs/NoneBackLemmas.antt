-- What a RedBox puts into a LAN was numbered in the ring.
use Rattle.std.proofs.Common.{◌≡◌, ◌⊎◌, inl, inr, ℕ, ◌==◌, not, ◌||◌, nat_lt, Bool, true, false, List, [], ◌∷◌, length, Some, slice_get, refl, sym, ap, ◌∙◌, subst}
use Rattle.std.proofs.lemmas.Bool.{cases_Bool, and_parts, ltb-true, true≢false}
use Rattle.sr_frame.specs.AddressLemmas.{mac_same}
use Rattle.sr_frame.specs.declared.ports.Port.{Port}
use Rattle.sr_frame.specs.declared.ports.Port.TheVariants.{H, A, B, C}
use Rattle.sr_sequence.specs.declared.Seq.{Seq}
use Rattle.sr_forwarding.specs.Octets.{src_in}
use Rattle.sr_forwarding.specs.Outlets.{has}
use Rattle.sr_forwarding.specs.Parcels.{ParcelImage, plain_of, plain_parcel}
use Rattle.sr_node.specs.Copies.{copy_if, with_copy}
use Rattle.sr_node.specs.Images.{State, time_at}
use Rattle.sr_node.specs.Lanes.{outlets_on}
use Rattle.sr_node.specs.Arriving.{wanted_at}
use Rattle.sr_node.specs.Starts.{Start}
use Rattle.sr_laws_plant.specs.Frames.{is_only, Frame}
use Rattle.sr_laws_plant.specs.Lists.{Each}
use Rattle.sr_laws_plant.specs.PlantEvents.{done_in}
use Rattle.sr_laws_plant.specs.Ports.{is_at}
use Rattle.sr_laws_plant.specs.Rings.{danh_routes}
use Rattle.sr_laws_plant.specs.TwinLans.{danp_routes}
use Rattle.sr_laws_plant.specs.RingLans.{is_in_ring, lan_box_routes}
use Rattle.sr_plant.specs.declared.shapes.RingLanShape.{RingLanShape}
use Rattle.sr_plant.specs.declared.topology.Topology.TheVariants.{RingLan}
use Rattle.sr_plant.specs.declared.event.PlantEvent.{PlantEvent}
use Rattle.sr_plant.specs.declared.event.PlantEvent.TheVariants.{Send, Carry, Drop, Repeat, Cut, Mend, Tick}
use Rattle.sr_plant.specs.Copies.{Copy}
use Rattle.sr_plant.specs.Plants.{Plant}
use Rattle.sr_plant.specs.Steps.{Comes, PlantStep}
use Rattle.sr_plant.specs.Topologies.{kind_of, lan_shape}
use Rattle.sr_laws_plant_runs.specs.Histories.{mac_at, is_outlet, HaveOwnAddresses}
use Rattle.sr_laws_plant_runs.specs.PlantRuns.{Turn, PlantRun}
use Rattle.sr_laws_plant_runs.proofs.ArrivingLemmas.{life_is_roomy}
use Rattle.sr_laws_plant_runs.proofs.CarriedLemmas.{here, fly, says, now, no_plain, wanted_there, routed}
use Rattle.sr_laws_plant_runs.proofs.HistoryLemmas.{IsMadeOf}
use Rattle.sr_laws_plant_runs.proofs.HistoryRunLemmas.{RunTold, run_told, made, made_of}
use Rattle.sr_laws_plant_runs.proofs.LikeLemmas.{IsNode}
use Rattle.sr_laws_plant_runs.proofs.NodeLemmas.{PutsOut, IsBack, TakesIn, life_frame, host_sends, sent_is_fit, node_ticks, node_takes}
use Rattle.sr_laws_plant_runs.proofs.PaddingLemmas.{padded_src, life_shows}
use Rattle.sr_laws_plant_runs.proofs.RouteLemmas.{law_routes}
use Rattle.sr_laws_plant_runs.proofs.WireLemmas.{IsNetworked, networked, not_host}
use Rattle.sr_laws_coupled_runs.specs.NoneBack.{put_over, IsOfRing, NoneGoesBackInto}

-- only nodes of the ring have an interlink
in_ring : (s : RingLanShape) (k : ℕ) → is_outlet C (kind_of (RingLan s) k) ≡ true → nat_lt k s.ring ≡ true
in_ring s k out = elim (cases_Bool (nat_lt k s.ring)) [
  | inl inside ↦ inside
  | inr away ↦ (let none : false ≡ true = rw away at out in absurd (true≢false (sym none)))
]

-- a frame that goes over was numbered in the ring
over_is_ring : (s : RingLanShape) (k : ℕ) (f : Frame) (port : Port) → is_at H port ≡ false → law_routes (RingLan s) k f port C ≡ true → is_in_ring (lan_shape s) f.src ≡ true
over_is_ring s k f port outside wants = elim (cases_Bool (nat_lt k s.ring)) [
  | inr away ↦ (let none : danp_routes k f port C ≡ true = rw away at wants in absurd (no_lan port none))
  | inl inside ↦ elim (cases_Bool (k == s.box_a || k == s.box_b)) [
    | inl box ↦ at_box port outside (rw (inside, box) at wants)
    | inr other ↦ absurd (no_ring port (rw (inside, other) at wants))
  ]
]
  where
    no_lan : (port : Port) → danp_routes k f port C ≡ true → ⊥
    no_lan H e = true≢false (sym e)
    no_lan A e = true≢false (sym e)
    no_lan B e = true≢false (sym e)
    no_lan C e = true≢false (sym e)

    no_ring : (port : Port) → danh_routes k f port C ≡ true → ⊥
    no_ring H e = true≢false (sym e)
    no_ring A e = true≢false (sym e)
    no_ring B e = true≢false (sym e)
    no_ring C e = true≢false (sym e)

    at_box : (port : Port) → is_at H port ≡ false → lan_box_routes (lan_shape s) k f port C ≡ true → is_in_ring (lan_shape s) f.src ≡ true
    at_box H outside e = absurd (true≢false outside)
    at_box A outside e = (and_parts (not (is_only k f.dest)) (is_in_ring (lan_shape s) f.src) e).1
    at_box B outside e = (and_parts (not (is_only k f.dest)) (is_in_ring (lan_shape s) f.src) e).1
    at_box C outside e = absurd (true≢false (sym e))

-- of the one parcel that is put out, if any
each_over : (s : RingLanShape) (starts : List Start) (p : ParcelImage) (b : Bool) → (b ≡ true → IsOfRing s starts p) → Each (IsOfRing s starts) (with_copy [] (copy_if b p))
each_over s starts p true is = (is refl, tt)
each_over s starts p false is = tt

-- what a node numbered
new_over : (s : RingLanShape) (starts : List Start) (i : ℕ) (before u : State) (frame : List ℕ) → PutsOut before frame u → before.role.kind ≡ kind_of (RingLan s) i → src_in frame ≡ mac_at starts i → Each (IsOfRing s starts) u.core.out.c
new_over s starts i before u frame puts kind source =
    subst (λ o. Each (IsOfRing s starts) o.c) (sym puts.out)
    (each_over s starts (plain_parcel frame (Some before.core.next)) (has puts.outlets C)
    (λ out. (i, ltb-true i s.ring (in_ring s i (subst (λ kind. is_outlet C kind ≡ true) kind (sym (puts.each C) ∙ out))), source)))

module _ (s : RingLanShape) (starts : List Start) (own : HaveOwnAddresses starts) (before : List Turn) (w : Plant) (goes : PlantRun (RingLan s) starts before w) where
  r : RunTold (RingLan s) starts before w goes
  r = run_told (RingLan s) starts own before w goes

  is_made : IsMadeOf (RingLan s) starts
  is_made = made_of (RingLan s) starts (made (RingLan s) starts before w goes) own

  taken_over : (v : Plant) (place : ℕ) (c : Copy) → slice_get w.flight place ≡ Some c → (comes : Comes w place c v) → Each (IsOfRing s starts) comes.after.core.out.c
  taken_over v place c at comes =
      elim (subst (λ m. IsBack comes.before comes.taken.0 m comes.after ⊎ TakesIn comes.before c.hop.to.port comes.taken.0 seq m comes.after) at_now
      (node_takes comes.before c.hop.to.port comes.taken.0 seq (time_at comes.before w.clock) comes.answer comes.after was.empty (no_plain (RingLan s) starts is_made (done_in r.history) w v r.plant place c r.like at comes) said.1 comes.taken.3)) [
        | inl back ↦ subst (λ o. Each (IsOfRing s starts) o.c) (sym back.idle.out) tt
        | inr takes ↦ subst (λ o. Each (IsOfRing s starts) o.c) (sym takes.out)
            (each_over s starts comes.taken.0 (has (outlets_on comes.before.core.mode takes.fresh (wanted_at comes.before c.hop.to.port comes.taken.0 w.clock)) C) (λ out. of_ring takes out))
      ]
    where
      was : IsNode (RingLan s) starts w.clock (done_in r.history) c.hop.to.node comes.before
      was = r.like.nodes c.hop.to.node comes.before comes.there

      seq : Seq
      seq = (fly (RingLan s) starts is_made (done_in r.history) w v r.plant place c r.like at comes).seq

      at_now : time_at comes.before w.clock ≡ w.clock
      at_now = now (RingLan s) starts is_made (done_in r.history) w v r.plant place c r.like at comes

      said : (plain_of comes.taken.0 ≡ (fly (RingLan s) starts is_made (done_in r.history) w v r.plant place c r.like at comes).plain) × (comes.taken.0.seq ≡ Some seq)
      said = says (RingLan s) starts is_made (done_in r.history) w v r.plant place c r.like at comes

      of_ring : (takes : TakesIn comes.before c.hop.to.port comes.taken.0 seq w.clock comes.after) → has (outlets_on comes.before.core.mode takes.fresh (wanted_at comes.before c.hop.to.port comes.taken.0 w.clock)) C ≡ true → IsOfRing s starts comes.taken.0
      of_ring takes out =
          let f = fly (RingLan s) starts is_made (done_in r.history) w v r.plant place c r.like at comes in
          let wants = sym (routed (RingLan s) starts is_made (done_in r.history) w v r.plant place c r.like at comes takes C)
          ∙ wanted_there (RingLan s) starts is_made (done_in r.history) w v r.plant place c r.like at comes takes C out in
          let inside = over_is_ring s c.hop.to.node (here (RingLan s) starts is_made (done_in r.history) w v r.plant place c r.like at comes).here.frame c.hop.to.port (not_host c.hop.to.port (kind_of (RingLan s) c.hop.to.node) f.port) wants in
          (_, ltb-true _ s.ring inside, ap src_in said.0 ∙ f.shows.source)

  pub step_over : (v : Plant) (e : PlantEvent) (step : PlantStep w e v) → Each (IsOfRing s starts) (put_over w e v step)
  step_over v (Send i frame) acts =
      let was = r.like.nodes i acts.before acts.there in
      let fit = sent_is_fit acts.before frame (time_at acts.before w.clock) acts.fits in
      let sends = host_sends acts.before frame (time_at acts.before w.clock) acts.answer acts.after (subst IsNetworked (sym was.kind) (networked (RingLan s) i)) was.empty acts.step in
      new_over s starts i acts.before acts.after frame sends.puts was.kind (mac_same (src_in frame) acts.before.role.mac fit.own ∙ was.mac)
  step_over v (Tick i at) acts =
      let was = r.like.nodes i acts.before acts.there in
      let six : length acts.before.role.mac.0 ≡ 6 = ap (λ m. length m.0) was.mac ∙ is_made.six i was.within in
      let ticks = node_ticks acts.before (time_at acts.before at) acts.answer acts.after (subst IsNetworked (sym was.kind) (networked (RingLan s) i)) was.empty acts.step in
      let life = life_shows acts.before.role.kind acts.before.role.mac.0 acts.before.core.next_life six in
      let least = (life_is_roomy acts.before.role.kind acts.before.role.mac acts.before.core.next_life six).least in
      elim ticks.puts [
        | inl puts ↦ new_over s starts i acts.before acts.after (life_frame acts.before) puts.1 was.kind (sym (padded_src (life_frame acts.before) least) ∙ life.1 ∙ was.mac)
        | inr idle ↦ subst (λ o. Each (IsOfRing s starts) o.c) (sym idle.1.out) tt
      ]
  step_over v (Carry place) (c, at, inl comes) = taken_over v place c at comes
  step_over v (Carry place) (c, at, inr lost) = tt
  step_over v (Drop place) step = tt
  step_over v (Repeat place) step = tt
  step_over v (Cut link) step = tt
  step_over v (Mend link) step = tt

pub none_goes_back_into : NoneGoesBackInto
none_goes_back_into s starts [] v run own = tt
none_goes_back_into s starts (turn ∷ before) v run own =
    (none_goes_back_into s starts before turn.before run.0 own, step_over s starts own before turn.before run.0 v turn.event run.2)
