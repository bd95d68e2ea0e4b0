-- In a plant of nodes that began new, no copy that is carried is refused.
use Rattle.std.proofs.Common.{◌≡◌, inl, inr, ℕ, ◌<◌, ◌≤◌, ◌&&◌, not, nat_lt, Bool, true, false, List, [], ◌∷◌, map, length, Option, None, Some, slice_get, refl, sym, ap, ◌∙◌, subst, arith, if◌then◌else◌}
use Rattle.std.specs.Option.{option_map}
use Rattle.std.proofs.lemmas.Bool.{true≢false}
use Rattle.std.proofs.lemmas.List.{length-map}
use Rattle.sr_frame.specs.declared.fields.Mac.{Mac}
use Rattle.sr_frame.specs.declared.ports.Port.{Port}
use Rattle.sr_frame.specs.declared.ports.Port.TheVariants.{H, A, B, C}
use Rattle.sr_sequence.specs.declared.Seq.{Seq}
use Rattle.sr_dup_window.specs.declared.lane_sets.Lanes.{Lanes}
use Rattle.sr_dup_table.specs.Sources.{Sources, arrive_answer}
use Rattle.sr_forwarding.specs.declared.form.Form.{Form}
use Rattle.sr_forwarding.specs.declared.outlets.Outlets.{Outlets}
use Rattle.sr_forwarding.specs.declared.kind.RoleKind.{RoleKind}
use Rattle.sr_forwarding.specs.Limits.{longest_plain}
use Rattle.sr_forwarding.specs.Decoding.{IsRead, IsUnread}
use Rattle.sr_forwarding.specs.Encoding.{IsWritten, write_fault}
use Rattle.sr_forwarding.specs.Headers.{header_of}
use Rattle.sr_forwarding.specs.Parcels.{ParcelImage}
use Rattle.sr_node.specs.declared.fault.StepFault.{StepFault}
use Rattle.sr_node.specs.declared.mode.Mode.{Mode}
use Rattle.sr_forwarding.specs.Kinds.{takes_unnumbered}
use Rattle.sr_node.specs.Arriving.{is_plain, is_too_long, is_untagged, is_own, wanted_at, going_on, goes, full_fault, outlets_fault, arrive_refusal}
use Rattle.sr_node.specs.Faults.{or_no_memory}
use Rattle.sr_node.specs.Images.{State, time_at}
use Rattle.sr_node.specs.Starts.{Start, begun_as}
use Rattle.sr_node.specs.Lanes.{lanes_asked, outlets_on, new_outlets}
use Rattle.sr_node.specs.Outboxes.{Outboxes, first_full}
use Rattle.sr_laws_plant.specs.ListLemmas.{each_map}
use Rattle.sr_laws_plant.specs.PlantEvents.{done_in}
use Rattle.sr_laws_plant.specs.Ports.{is_at}
use Rattle.sr_plant.specs.declared.topology.Topology.{Topology}
use Rattle.sr_plant.specs.declared.event.PlantEvent.{PlantEvent}
use Rattle.sr_plant.specs.declared.event.PlantEvent.TheVariants.{Send, Carry, Drop, Repeat, Cut, Mend, Tick}
use Rattle.sr_plant.specs.Building.{is_plant}
use Rattle.sr_plant.proofs.BuildingLemmas.{opening_in_order}
use Rattle.sr_plant.specs.Copies.{Copy}
use Rattle.sr_plant.specs.Plants.{Plant}
use Rattle.sr_plant.specs.Steps.{is_loss, IsRefused, IsLost}
use Rattle.sr_plant.specs.Topologies.{framing_of, kind_of, net_of}
use Rattle.sr_laws_plant_runs.specs.PlantRuns.{Turn, PlantRun}
use Rattle.sr_laws_plant_runs.specs.Histories.{mac_at, in_mode_x, HaveOwnAddresses}
use Rattle.sr_laws_plant_runs.specs.TableWidths.{widths_of}
use Rattle.sr_laws_plant_runs.specs.Unbroken.{RefusesNothing, IsUnrefused}
use Rattle.sr_laws_plant_runs.proofs.FullLemmas.{HasMembers, have_members, answers}
use Rattle.sr_laws_plant_runs.proofs.HistoryLemmas.{IsGood}
use Rattle.sr_laws_plant_runs.proofs.HistoryRunLemmas.{RunTold, run_told, made}
use Rattle.sr_laws_plant_runs.proofs.LikeLemmas.{IsNode, FliesAs}
use Rattle.sr_laws_plant_runs.proofs.ReadingLemmas.{not_plain}
use Rattle.sr_laws_plant_runs.proofs.WireLemmas.{not_host, networked, carried}
use Rattle.sr_laws_plant_runs.proofs.TableLemmas.{table_at, table_got, lanes_of}
use Rattle.sr_laws_plant_runs.proofs.ZipLemmas.{zip_at}

-- what has a number is taken at each port of the network
tagged_enough : (kind : RoleKind) (port : Port) (f : Form) → is_at H port ≡ false → is_plain f ≡ false → is_untagged kind port f ≡ false
tagged_enough kind H f outside tagged = absurd (true≢false outside)
tagged_enough kind A f outside tagged = ap (λ b. b && not (takes_unnumbered kind)) tagged
tagged_enough kind B f outside tagged = ap (λ b. b && not (takes_unnumbered kind)) tagged
tagged_enough kind C f outside tagged = refl

short_enough : (port : Port) (q : ParcelImage) → is_plain q.form ≡ false → is_too_long port q ≡ false
short_enough H q tagged = refl
short_enough A q tagged = refl
short_enough B q tagged = refl
short_enough C q tagged = ap (λ b. b && nat_lt longest_plain (length q.octets)) tagged

-- the table of the node always answers
abbrev Answers : ℕ → Sources → Type 0
Answers w s = (src : Mac) (seq : ℕ) (lanes : Lanes) (now : ℕ) → arrive_answer w s src seq lanes now ≡ None → ⊥

goes_somewhere : (m : Mode) (w : ℕ) (s : Sources) (port : Port) (src : Mac) (number : Option Seq) (wanted : Outlets) (now : ℕ) → Answers w s → new_outlets m w s port src number wanted now ≡ None → ⊥
goes_somewhere m w s port src None wanted now all none = absurd cc
goes_somewhere m w s port src (Some seq) wanted now all none = by (arrive_answer w s src seq.0 (lanes_asked m port wanted) now) refl none
  where
    by : (x : Option Lanes) → arrive_answer w s src seq.0 (lanes_asked m port wanted) now ≡ x → option_map (λ fresh. outlets_on m fresh wanted) x ≡ None → ⊥
    by None e n = all src seq.0 (lanes_asked m port wanted) now e
    by (Some x) e n = absurd cc

full_is_no_loss : (o : Option Port) → is_loss (or_no_memory (full_fault o)) ≡ false
full_is_no_loss None = refl
full_is_no_loss (Some port) = refl

outlets_lose_nothing : (boxes : Outboxes) (x : Option Outlets) → (x ≡ None → ⊥) → is_loss (or_no_memory (outlets_fault boxes x)) ≡ false
outlets_lose_nothing boxes None some = absurd (some refl)
outlets_lose_nothing boxes (Some o) some = full_is_no_loss (first_full boxes o)

takes_all : (s : State) (port : Port) (q : ParcelImage) (now : ℕ) → is_at H port ≡ false → is_plain q.form ≡ false → Answers s.core.width s.core.sources → is_loss (or_no_memory (arrive_refusal s port q now)) ≡ false
takes_all s port q now outside tagged all = rw (short_enough port q tagged, tagged_enough s.role.kind port q.form outside tagged) (by (is_own s q))
  where
    by : (own : Bool) → is_loss (or_no_memory (if own then None else outlets_fault s.core.out (goes s port q now))) ≡ false
    by true = refl
    by false = outlets_lose_nothing s.core.out (goes s port q now)
        (λ none. goes_somewhere s.core.mode s.core.width s.core.sources port (header_of (going_on s port q)).src (going_on s port q).seq (wanted_at s port (going_on s port q) now) now all none)

-- so no copy is lost where it comes in
small_enough : (t : Topology) (starts : List Start) → is_plant t (map begun_as starts) ≡ true → length starts ≤ 32
small_enough t starts is =
    let size = (opening_in_order t (map begun_as starts) is).size in
    let same = length-map starts begun_as in
    omega (arith, size, same)

pub never_lost : (t : Topology) (starts : List Start) (turns : List Turn) (s : Plant) (run : PlantRun t starts turns s) → HaveOwnAddresses starts → (place : ℕ) (c : Copy) → slice_get s.flight place ≡ Some c → IsLost s c → ⊥
never_lost t starts turns s run own place c at lost = elim lost [
  | inl refused ↦ absurd (by_node refused.0 refused.1 refused.2)
  | inr unwritten ↦ absurd (fly.arrives.goes unwritten.0 (subst (λ x. write_fault (framing_of x c.from c.outlet) c.parcel ≡ Some unwritten.0) told.like.topology unwritten.1))
]
  where
    told : RunTold t starts turns s run
    told = run_told t starts own turns s run

    fly : FliesAs t starts c (zip_at (FliesAs t starts) s.flight place c told.plant.flight told.like.flight at).here
    fly = (zip_at (FliesAs t starts) s.flight place c told.plant.flight told.like.flight at).related

    by_node : (fault : StepFault) → is_loss fault ≡ true → IsRefused s c fault → ⊥
    by_node fault loss r = elim r.refused [
      | inl unread ↦ absurd (fly.arrives.comes r.octets unread.0 (subst (λ x. IsWritten (framing_of x c.from c.outlet) c.parcel.form c.parcel r.octets) told.like.topology r.written) (subst (λ x. IsUnread (framing_of x c.hop.to.node c.hop.to.port) r.octets unread.0) told.like.topology unread.1))
      | inr not_taken ↦ (let read = subst (λ x. IsRead (framing_of x c.hop.to.node c.hop.to.port) r.octets not_taken.0) told.like.topology not_taken.1 in
          let says = fly.carried.reads r.octets not_taken.0 (subst (λ x. IsWritten (framing_of x c.from c.outlet) c.parcel.form c.parcel r.octets) told.like.topology r.written) read in
          let tagged = not_plain (framing_of t c.hop.to.node c.hop.to.port) r.octets not_taken.0 fly.seq (carried (kind_of t c.hop.to.node) c.hop.to.port (networked t c.hop.to.node) fly.port) read says.seq_is in
          absurd (true≢false (sym loss ∙ ap is_loss not_taken.2 ∙ takes_all r.before c.hop.to.port not_taken.0 (time_at r.before s.clock) (not_host c.hop.to.port (kind_of t c.hop.to.node) fly.port) tagged all)))
    ]
      where
        was : IsNode t starts s.clock (done_in told.history) c.hop.to.node r.before
        was = told.like.nodes c.hop.to.node r.before r.there

        table : HasMembers (mac_at starts) (length starts) r.before.core.sources
        table = subst (HasMembers (mac_at starts) (length starts)) (table_got s.nodes c.hop.to.node r.before r.there)
            (have_members (mac_at starts) (length starts) (in_mode_x starts) (widths_of starts) lanes_of c.hop.to.node (net_of t (length starts)) told.history told.plant told.run (table_at s.nodes c.hop.to.node) (told.tables c.hop.to.node)
            (each_map (IsGood t starts) (λ d. d.frame.src < length starts) (λ d g. g.source) (done_in told.history) told.good))

        all : Answers r.before.core.width r.before.core.sources
        all = answers (mac_at starts) (length starts) (small_enough t starts (made t starts turns s run)) r.before.core.width r.before.core.sources table

pub unrefused : (t : Topology) (starts : List Start) (turns : List Turn) (s : Plant) → PlantRun t starts turns s → HaveOwnAddresses starts → IsUnrefused turns
unrefused t starts [] s run own = tt
unrefused t starts (turn ∷ before) s run own = (by turn.event, unrefused t starts before turn.before run.0 own)
  where
    by : (e : PlantEvent) → RefusesNothing turn.before e
    by (Send i frame) = tt
    by (Carry place) = λ c at lost. never_lost t starts before turn.before run.0 own place c at lost
    by (Drop place) = tt
    by (Repeat place) = tt
    by (Cut link) = tt
    by (Mend link) = tt
    by (Tick i now) = tt
