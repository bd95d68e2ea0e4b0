-- What a script does is a run, step by step along the answers to its lines.
use Rattle.std.proofs.Common.{◌≡◌, ℕ, zero, suc, ◌+◌, true, List, [], ◌∷◌, ◌++◌, length, map, replicate, Option, None, Some, inl, inr, refl, sym, ap, subst, ◌∙◌}
use Rattle.std.proofs.lemmas.List.{append-nil, append_assoc, length-replicate, map-append}
use Rattle.sr_forwarding.specs.Parcels.{ParcelImage}
use Rattle.sr_forwarding.specs.RoleImages.{role_of}
use Rattle.sr_node.specs.declared.mode.Settings.{Settings}
use Rattle.sr_node.specs.Starts.{Start, begun_as}
use Rattle.sr_node.specs.Images.{State}
use Rattle.sr_session.specs.Runs.{Replies}
use Rattle.sr_plant.specs.declared.topology.Topology.{Topology}
use Rattle.sr_plant.specs.declared.event.PlantEvent.{PlantEvent}
use Rattle.sr_plant.specs.declared.event.PlantEvent.TheVariants as event
use Rattle.sr_plant.specs.declared.fault.PlantFault.{PlantFault}
use Rattle.sr_plant.specs.Building.{is_plant, opening}
use Rattle.sr_plant.specs.Plants.{Plant}
use Rattle.sr_plant.specs.Topologies.{kind_of}
use Rattle.sr_laws_plant_runs.specs.PlantRuns.{Turn}
use Rattle.sr_laws_plant_runs.specs.Taken.{taken_away, joined_up, TakenRun, TakenRunsAreRuns}
use Rattle.sr_plant_script.specs.declared.command.Command.{Command}
use Rattle.sr_plant_script.specs.declared.command.Command.TheVariants.{Skip, Send, On, Tick, Flow}
use Rattle.sr_plant_script.specs.declared.command.Receiver.{Receiver}
use Rattle.sr_plant_script.specs.declared.setup.PlantSetup.{PlantSetup}
use Rattle.sr_plant_script.specs.Happenings.{event_on, IsTaken, IsOver, Happens, Carries, Flows}
use Rattle.sr_plant_script.specs.Members.{mac_of, new_node, new_nodes, start_of}
use Rattle.sr_plant_script.specs.Replies.{Sends, Obeys, Replied, plant_dialogue}
use Rattle.sr_plant_script.specs.Sendings.{sent_octets, send_refusal}
use Rattle.sr_plant_script.specs.Texts.{all_up_lines}
use Rattle.sr_laws_script.specs.PlantScripts.{
  starts_below,
  starts_of,
  Deed,
  took,
  told,
  done_by,
  done_by_send,
  done_by_carries,
  done_by_flow,
  done_at,
  done_at_line,
  done_in_script,
  turns_on,
  plant_after,
  ups_after,
  printed_for,
  PlantScriptsAreRuns,
}

abbrev Ups : Type 0
Ups = List (List ParcelImage)

-- where a script is: the turns so far, the plant after the last of them, and all that was handed up
record Where : Type 0 where
  turns : List Turn
  plant : Plant
  ups : Ups

abbrev on : Where → List Deed → Where
on w deeds = record { turns = turns_on w.turns deeds; plant = plant_after w.plant deeds; ups = ups_after w.ups deeds }

abbrev IsRunTo : Topology → List Start → Where → Type 0
IsRunTo t starts w = TakenRun t starts w.turns w.plant w.ups

-- from there these deeds lead on, of which this text tells, and leave this plant
record Leads (t : Topology) (starts : List Start) (w : Where) (deeds : List Deed) (text : List ℕ) (u : Plant) : Type 0 where
  run : IsRunTo t starts (on w deeds)
  left : u ≡ taken_away (on w deeds).plant
  printed : text ≡ printed_for deeds

turns_more : (turns : List Turn) (a b : List Deed) → turns_on turns (a ++ b) ≡ turns_on (turns_on turns a) b
turns_more turns [] b = refl
turns_more turns (took turn after ∷ a) b = turns_more (turn ∷ turns) a b
turns_more turns (told line ∷ a) b = turns_more turns a b

plant_more : (v : Plant) (a b : List Deed) → plant_after v (a ++ b) ≡ plant_after (plant_after v a) b
plant_more v [] b = refl
plant_more v (took turn after ∷ a) b = plant_more after a b
plant_more v (told line ∷ a) b = plant_more v a b

ups_more : (ups : Ups) (a b : List Deed) → ups_after ups (a ++ b) ≡ ups_after (ups_after ups a) b
ups_more ups [] b = refl
ups_more ups (took turn after ∷ a) b = ups_more (joined_up ups after.handed) a b
ups_more ups (told line ∷ a) b = ups_more ups a b

printed_more : (a b : List Deed) → printed_for (a ++ b) ≡ printed_for a ++ printed_for b
printed_more [] b = refl
printed_more (took turn after ∷ a) b =
    ap (λ (x : List ℕ). all_up_lines 0 after.handed ++ x) (printed_more a b) ∙ sym (append_assoc (all_up_lines 0 after.handed) (printed_for a) (printed_for b))
printed_more (told line ∷ a) b = ap (λ (x : List ℕ). line ++ x) (printed_more a b) ∙ sym (append_assoc line (printed_for a) (printed_for b))

on_more : (w : Where) (a b : List Deed) → on w (a ++ b) ≡ on (on w a) b
on_more w a b = λ j. record { turns = turns_more w.turns a b j; plant = plant_more w.plant a b j; ups = ups_more w.ups a b j }

-- nothing happens
stays : (t : Topology) (starts : List Start) (w : Where) (s : Plant) → IsRunTo t starts w → s ≡ taken_away w.plant → Leads t starts w [] [] s
stays t starts w s run at = record { run = run; left = at; printed = refl }

-- one behind the other
followed : (t : Topology) (starts : List Start) (w : Where) (a b : List Deed) (front last : List ℕ) (u v : Plant) → Leads t starts w a front u →
    Leads t starts (on w a) b last v → Leads t starts w (a ++ b) (front ++ last) v
followed t starts w a b front last u v first second = record {
  run = subst (IsRunTo t starts) (sym (on_more w a b)) second.run;
  left = second.left ∙ ap (λ (x : Where). taken_away x.plant) (sym (on_more w a b));
  printed = ap (λ (x : List ℕ). x ++ last) first.printed ∙ ap (λ (x : List ℕ). printed_for a ++ x) second.printed ∙ sym (printed_more a b);
}

-- a line is printed, and nothing else happens
tells : (t : Topology) (starts : List Start) (w : Where) (s : Plant) (line : List ℕ) → IsRunTo t starts w → s ≡ taken_away w.plant →
    Leads t starts w (told line ∷ []) line s
tells t starts w s line run at = record { run = run; left = at; printed = sym (append-nil line) }

-- the plant takes an event
takes_one : (t : Topology) (starts : List Start) (w : Where) (s : Plant) (e : PlantEvent) (text : List ℕ) (u : Plant) → IsRunTo t starts w →
    s ≡ taken_away w.plant → (taken : IsTaken s e text u) →
    Leads t starts w (took (record { before = s; event = e }) taken.after ∷ []) text u
takes_one t starts w s e text u run at taken = record {
  run = (w.plant, w.ups, run, at, taken.fits, taken.step, refl);
  left = taken.left;
  printed = taken.told ∙ sym (append-nil (all_up_lines 0 taken.after.handed));
}

happens_on : (t : Topology) (starts : List Start) (w : Where) (s : Plant) (number : ℕ) (e : PlantEvent) (text : List ℕ) (u : Plant) →
    IsRunTo t starts w → s ≡ taken_away w.plant → (h : Happens s number e text u) → Leads t starts w (done_by s number e text u h) text u
happens_on t starts w s number e text u run at (inl taken) = takes_one t starts w s e text u run at taken
happens_on t starts w s number e text u run at (inr (f, refuses, is_told)) =
    tells t starts w u text run (is_told.same ∙ at)

sends_on : (t : Topology) (starts : List Start) (w : Where) (s : Plant) (number node : ℕ) (receiver : Receiver) (octets : List ℕ)
    (fault : Option PlantFault) (text : List ℕ) (u : Plant) → IsRunTo t starts w → s ≡ taken_away w.plant →
    (h : Sends s number node receiver octets fault text u) → Leads t starts w (done_by_send s number node receiver octets fault text u h) text u
sends_on t starts w s number node receiver octets None text u run at h =
    happens_on t starts w s number (event.Send node (sent_octets node receiver octets)) text u run at h
sends_on t starts w s number node receiver octets (Some f) text u run at h = tells t starts w u text run (h.same ∙ at)

carries_on : (t : Topology) (starts : List Start) (w : Where) (s : Plant) (n : ℕ) (text : List ℕ) (u : Plant) → IsRunTo t starts w →
    s ≡ taken_away w.plant → (h : Carries s n text u) → Leads t starts w (done_by_carries s n text u h) text u
carries_on t starts w s zero text u run at (none, same) = record { run = run; left = same ∙ at; printed = none }
carries_on t starts w s (suc n) text u run at (v, front, last, carries, taken, parts) =
    let first = carries_on t starts w s n front v run at carries in
    let second = takes_one t starts (on w (done_by_carries s n front v carries)) v (event.Carry 0) last u first.run first.left taken in
    subst (λ (x : List ℕ). Leads t starts w (done_by_carries s n front v carries ++ took (record { before = v; event = event.Carry 0 }) taken.after ∷ []) x u) (sym parts)
    (followed t starts w (done_by_carries s n front v carries) (took (record { before = v; event = event.Carry 0 }) taken.after ∷ []) front last v u first second)

over_on : (t : Topology) (starts : List Start) (w : Where) (s : Plant) (number n : ℕ) (text : List ℕ) (u : Plant) → IsRunTo t starts w →
    s ≡ taken_away w.plant → IsOver s number n text u → Leads t starts w (told text ∷ []) text u
over_on t starts w s number n text u run at (inl (over, told_it, same)) = tells t starts w u text run (same ∙ at)
over_on t starts w s number n text u run at (inr (f, refuses, is_told)) = tells t starts w u text run (is_told.same ∙ at)

flows_on : (t : Topology) (starts : List Start) (w : Where) (s : Plant) (number : ℕ) (text : List ℕ) (u : Plant) → IsRunTo t starts w →
    s ≡ taken_away w.plant → (h : Flows s number text u) → Leads t starts w (done_by_flow s number text u h) text u
flows_on t starts w s number text u run at (n, v, ups, last, most, carries, over, parts) =
    let first = carries_on t starts w s n ups v run at carries in
    let second = over_on t starts (on w (done_by_carries s n ups v carries)) v number n last u first.run first.left over in
    subst (λ (x : List ℕ). Leads t starts w (done_by_carries s n ups v carries ++ told last ∷ []) x u) (sym parts)
    (followed t starts w (done_by_carries s n ups v carries) (told last ∷ []) ups last v u first second)

obeys_on : (t : Topology) (starts : List Start) (w : Where) (s : Plant) (number : ℕ) (command : Command) (octets text : List ℕ) (u : Plant) →
    IsRunTo t starts w → s ≡ taken_away w.plant → (h : Obeys s number command octets text u) →
    Leads t starts w (done_at s number command octets text u h) text u
obeys_on t starts w s number Skip octets text u run at (none, same) = record { run = run; left = same ∙ at; printed = none }
obeys_on t starts w s number (Send node receiver) octets text u run at h =
    sends_on t starts w s number node receiver octets (send_refusal (length s.nodes) node receiver (length octets)) text u run at h
obeys_on t starts w s number (On verb place) octets text u run at h = happens_on t starts w s number (event_on verb place) text u run at h
obeys_on t starts w s number (Tick node time) octets text u run at h = happens_on t starts w s number (event.Tick node time) text u run at h
obeys_on t starts w s number Flow octets text u run at h = flows_on t starts w s number text u run at h

replied_on : (t : Topology) (starts : List Start) (w : Where) (s : Plant) (number : ℕ) (line text : List ℕ) (u : Plant) → IsRunTo t starts w →
    s ≡ taken_away w.plant → (h : Replied s number line text u) → Leads t starts w (done_at_line s number line text u h) text u
replied_on t starts w s number line text u run at (command, octets, says, obeys) = obeys_on t starts w s number command octets text u run at obeys

lines_on : (t : Topology) (starts : List Start) (w : Where) (s : Plant) (number : ℕ) (lines : List (List ℕ)) (text : List ℕ) (u : Plant) →
    IsRunTo t starts w → s ≡ taken_away w.plant → (h : Replies plant_dialogue s number lines text u) →
    Leads t starts w (done_in_script s number lines text u h) text u
lines_on t starts w s number [] text u run at (none, same) = record { run = run; left = same ∙ at; printed = none }
lines_on t starts w s number (line ∷ lines) text u run at (front, v, last, place, replied, replies, parts) =
    let first = replied_on t starts w s number line front v run at replied in
    let second = lines_on t starts (on w (done_at_line s number line front v replied)) v (number + 1) lines last u first.run first.left replies in
    subst (λ (x : List ℕ). Leads t starts w (done_at_line s number line front v replied ++ done_in_script v (number + 1) lines last u replies) x u) (sym parts)
    (followed t starts w (done_at_line s number line front v replied) (done_in_script v (number + 1) lines last u replies) front last v u first second)

-- the plant begins with the nodes that begin so
begun_nodes : (t : Topology) (x : Settings) (n : ℕ) → map begun_as (starts_below t x n) ≡ new_nodes t x n
begun_nodes t x zero = refl
begun_nodes t x (suc n) =
    map-append begun_as (starts_below t x n) (record { role = role_of (kind_of t n) (mac_of n); settings = x } ∷ [])
    ∙ ap (λ (l : List State). l ++ new_node t x n ∷ []) (begun_nodes t x n)

abbrev where_it_begins : PlantSetup → Where
where_it_begins setup = record { turns = []; plant = start_of setup; ups = (start_of setup).handed }

begins : (setup : PlantSetup) → is_plant setup.topology (new_nodes setup.topology setup.settings setup.nodes) ≡ true →
    IsRunTo setup.topology (starts_of setup) (where_it_begins setup)
begins setup is =
    let nodes : map begun_as (starts_of setup) ≡ new_nodes setup.topology setup.settings setup.nodes =
    begun_nodes setup.topology setup.settings setup.nodes in (
      subst (λ (ns : List State). is_plant setup.topology ns ≡ true) (sym nodes) is,
      ap (opening setup.topology) (sym nodes),
      refl,
    )

-- with nothing to take away
bare : (setup : PlantSetup) → start_of setup ≡ taken_away (start_of setup)
bare setup =
    ap (λ (k : ℕ). record (start_of setup) { handed = replicate k [] })
    (sym (length-replicate (length (new_nodes setup.topology setup.settings setup.nodes)) []))

pub scripts_are_runs : ((setup : PlantSetup) → is_plant setup.topology (new_nodes setup.topology setup.settings setup.nodes) ≡ true) →
    TakenRunsAreRuns → PlantScriptsAreRuns
scripts_are_runs make runs setup lines text t replies =
    let deeds = done_in_script (start_of setup) 1 lines text t replies in
    let leads = lines_on setup.topology (starts_of setup) (where_it_begins setup) (start_of setup) 1 lines text t (begins setup (make setup)) (bare setup) replies in
    let kept = runs setup.topology (starts_of setup) (turns_on [] deeds) (plant_after (start_of setup) deeds) (ups_after (start_of setup).handed deeds) leads.run in
    record { taken = leads.run; left = leads.left; printed = leads.printed; turns = kept.0; same = kept.1; run = kept.2 }
