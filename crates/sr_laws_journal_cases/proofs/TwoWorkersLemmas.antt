-- The journals of two workers, worked out.
use Rattle.std.proofs.Common.{◌≡◌, ℕ, zero, suc, ◌+◌, ◌<◌, true, false, List, [], ◌∷◌, ◌++◌, None, Some, slice_get, refl, sym, ap, ◌∙◌, subst, arith}
use Rattle.std.specs.Option.{option_map_or}
use Rattle.std.specs.Prelude.{if◌then◌else◌}
use Rattle.sr_frame.specs.Frame.{spelling}
use Rattle.sr_frame.specs.declared.ports.Port.TheVariants.{H, A}
use Rattle.sr_supervision.specs.Supervised.{IsSupervision}
use Rattle.sr_supervision.specs.declared.message.Supervision.{Supervision}
use Rattle.sr_dup_table.specs.declared.width.Width.{Width}
use Rattle.sr_forwarding.specs.Octets.{is_supervision}
use Rattle.sr_forwarding.specs.OctetLemmas.{supervision_is}
use Rattle.sr_forwarding.specs.Outlets.{to}
use Rattle.sr_forwarding.specs.Parcels.{plain_of}
use Rattle.sr_node.specs.declared.mode.Mode.{Mode}
use Rattle.sr_node.specs.declared.mode.Mode.TheVariants as mode
use Rattle.sr_node.specs.declared.mode.Settings.{Settings}
use Rattle.sr_node.specs.Arriving.{going_on, passed}
use Rattle.sr_node.specs.Images.{State}
use Rattle.sr_node.specs.NodeImages.{image_state}
use Rattle.sr_node.specs.Outboxes.{boxes_left}
use Rattle.sr_node.specs.Sending.{sent, sent_parcel, send_outlets}
use Rattle.sr_node.specs.Starts.{begun_as}
use Rattle.sr_laws_node.specs.Brought.{went, parcels_of}
use Rattle.sr_laws_node.specs.NodeRuns.{Turn, happened, swapped}
use Rattle.sr_laws_node.specs.SteadyNodes.{IsSteady}
use Rattle.sr_ports.specs.declared.entry.Entry.{Entry}
use Rattle.sr_ports.specs.declared.log.Log.{Log}
use Rattle.sr_ports.specs.declared.segment.Segment.{Segment}
use Rattle.sr_ports.specs.declared.worker.Worker.{Worker}
use Rattle.sr_ports.specs.declared.worker.Worker.TheVariants as who
use Rattle.sr_ports.specs.Histories.{EnteredAs}
use Rattle.sr_ports.specs.Parts.{is_same_worker, part, logs_of, IsLogged, entries_in}
use Rattle.sr_ports.specs.Settling.{Follows, AreWhole}
use Rattle.sr_laws_ports.specs.Turns.{AreTurns, AreTurnsOfAll}
use Rattle.sr_workers.specs.Work.{AreOwn, parcels_in}
use Rattle.sr_laws_ports.specs.LogLaws.{pairs_in_first, written_by}
use Rattle.sr_laws_journal_cases.specs.TwoWorkers.{station_start, frame_from, frame_at_a, gone, coming, sending, taking_up, taking_out, brought_entries, taken_entries, sevens, AreLogsOfTwo, SettlesForTwo, JournalsMeetThePremises, IsSegmentOf, in_a_ring, SettlesInTwo, SegmentsMeetThePremises}

-- what came in says nothing of a node
says_nothing : (said : Supervision) → IsSupervision (plain_of frame_at_a) said → ⊥
says_nothing said is =
    let there : true ≡ is_supervision (spelling is.fields) = supervision_is is.fields true is.legal (λ _. is.addressed, λ _. refl) in
    let none : true ≡ false = there ∙ ap is_supervision (sym is.spelled) in
    absurd cc

-- the node from event to event
abbrev settings : Mode → Width → Settings
settings m w = record { mode = m; width = w }

abbrev begun : Mode → Width → State
begun m w = begun_as (station_start (settings m w))

abbrev with_frame : Mode → Width → State
with_frame m w = passed (begun m w) A (going_on (begun m w) A frame_at_a) (begun m w).core.next 0 (to (H ∷ [])) None

abbrev with_both : Mode → Width → State
with_both m w = record (with_frame m w) {
  core = sent (with_frame m w) (sent_parcel (with_frame m w) (frame_from 2 1)) (send_outlets (with_frame m w) (frame_from 2 1) 0) 0;
}

-- once the host's worker took out what came in, and once that of A took out what was sent
abbrev handed_up : State → State
handed_up s = record s { core = record s.core { out = boxes_left s.core.out H } }

abbrev handed_out : State → State
handed_out s = record s { core = record s.core { out = boxes_left s.core.out A } }

-- each is a step of the node
comes : (m : Mode) (w : Width) → EnteredAs (begun m w) coming.0 coming.1 (with_frame m w)
comes mode.H w = record { taken = refl; step = (refl, (None, says_nothing, refl, refl)) }
comes mode.X w = record { taken = refl; step = (refl, (None, says_nothing, refl, refl)) }

sends : (m : Mode) (w : Width) → EnteredAs (with_frame m w) sending.0 sending.1 (with_both m w)
sends m w = record { taken = refl; step = (refl, refl) }

takes_up : (m : Mode) (w : Width) → EnteredAs (with_both m w) taking_up.0 taking_up.1 (handed_up (with_both m w))
takes_up m w = record { taken = refl; step = (refl, refl) }

takes_out : (m : Mode) (w : Width) → EnteredAs (handed_up (with_both m w)) taking_out.0 taking_out.1 (handed_out (handed_up (with_both m w)))
takes_out m w = record { taken = refl; step = (refl, refl) }

-- its turns
abbrev brought_turns : Mode → Width → List Turn
brought_turns m w =
    happened (with_frame m w) sending.0 sending.1 (sevens 1) ∷ happened (begun m w) coming.0 coming.1 (sevens 0) ∷ []

abbrev turns : Mode → Width → List Turn
turns m w =
    happened (handed_up (with_both m w)) taking_out.0 taking_out.1 (sevens 3)
    ∷ happened (with_both m w) taking_up.0 taking_up.1 (sevens 2) ∷ brought_turns m w

steady : (m : Mode) (w : Width) → IsSteady (station_start (settings m w)) (turns m w)
steady m w = (((((tt, refl), tt), tt), tt), (tt, (tt, refl)))

goes_out : (m : Mode) (w : Width) → parcels_of (went A (turns m w)) ≡ gone ∷ []
goes_out mode.H w = refl
goes_out mode.X w = refl

-- whatever holds of the two logs by the names of their workers
abbrev logs_named : Worker → Log → Log → Worker → Worker → List Log
logs_named w a host v u = if is_same_worker w v then a ∷ (if is_same_worker w u then host ∷ [] else []) else if is_same_worker w u then host ∷ [] else []

of_two : (P : List Log → Type 0) (w : Worker) (a host : Log) → AreLogsOfTwo a host → P (logs_named w a host who.A who.Host) → P (logs_of w (a ∷ host ∷ []))
of_two P w a host are p =
    subst (λ v. P (logs_named w a host v host.worker)) (sym are.at_a.worker) (subst (λ u. P (logs_named w a host who.A u)) (sym are.at_host.worker) p)

settled : (w : Worker) (a host : Log) → AreLogsOfTwo a host → IsLogged (part w (brought_entries ++ taken_entries)) (logs_of w (a ∷ host ∷ []))
settled who.A a host are = of_two (λ ls. IsLogged (part who.A (brought_entries ++ taken_entries)) ls) who.A a host are (sym are.at_a.pairs_are)
settled who.B a host are = of_two (λ ls. IsLogged (part who.B (brought_entries ++ taken_entries)) ls) who.B a host are refl
settled who.C a host are = of_two (λ ls. IsLogged (part who.C (brought_entries ++ taken_entries)) ls) who.C a host are refl
settled who.Ager a host are = of_two (λ ls. IsLogged (part who.Ager (brought_entries ++ taken_entries)) ls) who.Ager a host are refl
settled who.Host a host are = of_two (λ ls. IsLogged (part who.Host (brought_entries ++ taken_entries)) ls) who.Host a host are (sym are.at_host.pairs_are)

own : (w : Worker) (a host : Log) → AreLogsOfTwo a host → AreOwn w (written_by w (a ∷ host ∷ []))
own who.A a host are =
    of_two (λ ls. AreOwn who.A (pairs_in_first ls)) who.A a host are (subst (λ ps. AreOwn who.A ps) (sym are.at_a.pairs_are) (tt, (tt, tt)))
own who.B a host are = of_two (λ ls. AreOwn who.B (pairs_in_first ls)) who.B a host are tt
own who.C a host are = of_two (λ ls. AreOwn who.C (pairs_in_first ls)) who.C a host are tt
own who.Ager a host are = of_two (λ ls. AreOwn who.Ager (pairs_in_first ls)) who.Ager a host are tt
own who.Host a host are =
    of_two (λ ls. AreOwn who.Host (pairs_in_first ls)) who.Host a host are (subst (λ ps. AreOwn who.Host ps) (sym are.at_host.pairs_are) (refl, (tt, tt)))

journal : (m : Mode) (w : Width) (a host : Log) → AreLogsOfTwo a host
    → SettlesForTwo (station_start (settings m w)) (a ∷ host ∷ []) (turns m w) (handed_out (handed_up (with_both m w)))
journal m w a host are = record {
  begins = refl;
  history = (with_frame m w, comes m w, (with_both m w, sends m w, (handed_up (with_both m w), takes_up m w, (handed_out (handed_up (with_both m w)), takes_out m w, (refl, refl)))));
  steady = steady m w;
  settled = λ v. settled v a host are;
  own = λ v. own v a host are;
  up = of_two (λ ls. parcels_in (pairs_in_first ls) ≡ frame_at_a ∷ []) who.Host a host are (ap parcels_in are.at_host.pairs_are);
  out = of_two (λ ls. parcels_in (pairs_in_first ls) ≡ gone ∷ []) who.A a host are (ap parcels_in are.at_a.pairs_are);
  went_up = refl;
  went_out = goes_out m w;
}

pub journals_meet_the_premises : JournalsMeetThePremises
journals_meet_the_premises s a host are = (turns s.mode s.width, handed_out (handed_up (with_both s.mode s.width)), journal s.mode s.width a host are)

-- with the role exchanged in between
abbrev swapped_both : Mode → Width → State
swapped_both m w = in_a_ring (with_both m w)

abbrev last : Mode → Width → State
last m w = handed_out (handed_up (swapped_both m w))

takes_up_then : (m : Mode) (w : Width) → EnteredAs (swapped_both m w) taking_up.0 taking_up.1 (handed_up (swapped_both m w))
takes_up_then m w = record { taken = refl; step = (refl, refl) }

takes_out_then : (m : Mode) (w : Width) → EnteredAs (handed_up (swapped_both m w)) taking_out.0 taking_out.1 (last m w)
takes_out_then m w = record { taken = refl; step = (refl, refl) }

abbrev turns_in_two : Mode → Width → List Turn
turns_in_two m w =
    happened (handed_up (swapped_both m w)) taking_out.0 taking_out.1 (sevens 4)
    ∷ happened (swapped_both m w) taking_up.0 taking_up.1 (sevens 3)
    ∷ swapped (with_both m w) (swapped_both m w).role ∷ brought_turns m w

steady_in_two : (m : Mode) (w : Width) → IsSteady (station_start (settings m w)) (turns_in_two m w)
steady_in_two m w = (((((tt, refl), tt), tt), tt), (tt, (tt, refl)))

goes_out_in_two : (m : Mode) (w : Width) → parcels_of (went A (turns_in_two m w)) ≡ gone ∷ []
goes_out_in_two mode.H w = refl
goes_out_in_two mode.X w = refl

-- the entries of segments that have these, and their places
first_of_two : (g h s t : Segment) → (i : ℕ) → i + 1 < 2 → slice_get (g ∷ h ∷ []) i ≡ Some s → slice_get (g ∷ h ∷ []) (i + 1) ≡ Some t → (g ≡ s) × (h ≡ t)
first_of_two g h s t zero below here there = (ap (λ o. option_map_or (λ x. x) o g) here, ap (λ o. option_map_or (λ x. x) o h) there)
first_of_two g h s t (suc i) below here there = absurd (omega (arith, below))

whole : (g h : Segment) → Follows (image_state g.closing) (image_state h.opening) → AreWhole (g ∷ h ∷ [])
whole g h follows i below s t here there =
    let are = first_of_two g h s t i below here there in
    subst (λ x. Follows (image_state x.closing) (image_state t.opening)) are.0 (subst (λ x. Follows (image_state g.closing) (image_state x.opening)) are.1 follows)

-- turns of segments that open, have entries and close as told
abbrev Told : Mode → Width → (opening closing next end : State) (es fs : List Entry) → Type 0
Told m w opening closing next end es fs =
    (middle : List Turn) × AreTurns sevens [] opening es closing middle
    × ((all : List Turn) × AreTurns sevens (swapped closing next.role ∷ middle) next fs end all × (turns_in_two m w ≡ all))

told : (m : Mode) (w : Width) → Told m w (begun m w) (with_both m w) (swapped_both m w) (last m w) brought_entries taken_entries
told m w = (
  brought_turns m w,
  (with_frame m w, comes m w, (with_both m w, sends m w, (refl, refl))),
  (turns_in_two m w, (handed_up (swapped_both m w), takes_up_then m w, (last m w, takes_out_then m w, (refl, refl))), refl),
)

history : (m : Mode) (w : Width) (g h : Segment) → IsSegmentOf (begun m w) brought_entries (with_both m w) g
    → IsSegmentOf (swapped_both m w) taken_entries (last m w) h → AreTurnsOfAll sevens g (h ∷ []) (turns_in_two m w)
history m w g h first second =
    subst (λ x. Told m w x (image_state g.closing) (image_state h.opening) (image_state h.closing) g.entries.items h.entries.items) (sym first.opens)
    (subst (λ x. Told m w (begun m w) x (image_state h.opening) (image_state h.closing) g.entries.items h.entries.items) (sym first.closes)
    (subst (λ x. Told m w (begun m w) (with_both m w) x (image_state h.closing) g.entries.items h.entries.items) (sym second.opens)
    (subst (λ x. Told m w (begun m w) (with_both m w) (swapped_both m w) x g.entries.items h.entries.items) (sym second.closes)
    (subst (λ x. Told m w (begun m w) (with_both m w) (swapped_both m w) (last m w) x h.entries.items) (sym first.entries_are)
    (subst (λ x. Told m w (begun m w) (with_both m w) (swapped_both m w) (last m w) brought_entries x) (sym second.entries_are) (told m w))))))

settled_in_two : (g h : Segment) (m : Mode) (w : Width) → IsSegmentOf (begun m w) brought_entries (with_both m w) g
    → IsSegmentOf (swapped_both m w) taken_entries (last m w) h → (a host : Log) → AreLogsOfTwo a host
    → (v : Worker) → IsLogged (part v (entries_in (g ∷ h ∷ []))) (logs_of v (a ∷ host ∷ []))
settled_in_two g h m w first second a host are v =
    subst (λ es. IsLogged (part v (es ++ (h.entries.items ++ []))) (logs_of v (a ∷ host ∷ []))) (sym first.entries_are)
    (subst (λ es. IsLogged (part v (brought_entries ++ (es ++ []))) (logs_of v (a ∷ host ∷ []))) (sym second.entries_are) (settled v a host are))

segments : (m : Mode) (w : Width) (a host : Log) (g h : Segment) → AreLogsOfTwo a host
    → IsSegmentOf (begun m w) brought_entries (with_both m w) g → IsSegmentOf (swapped_both m w) taken_entries (last m w) h
    → SettlesInTwo (station_start (settings m w)) (a ∷ host ∷ []) g h (turns_in_two m w)
segments m w a host g h are first second =
    let follows : Follows (image_state g.closing) (image_state h.opening) =
    subst (λ x. Follows x (image_state h.opening)) (sym first.closes)
    (subst (λ x. Follows (with_both m w) x) (sym second.opens) (record { core = refl; mac = refl })) in
    record {
      begins = first.opens;
      whole = whole g h follows;
      history = history m w g h first second;
      steady = steady_in_two m w;
      settled = (whole g h follows, λ v. settled_in_two g h m w first second a host are v);
      went_up = refl;
      went_out = goes_out_in_two m w;
    }

pub segments_meet_the_premises : SegmentsMeetThePremises
segments_meet_the_premises s = (
  with_both s.mode s.width,
  last s.mode s.width,
  (with_frame s.mode s.width, comes s.mode s.width, (with_both s.mode s.width, sends s.mode s.width, refl)),
  (handed_up (swapped_both s.mode s.width), takes_up_then s.mode s.width, (last s.mode s.width, takes_out_then s.mode s.width, refl)),
  λ a host g h are first second. (turns_in_two s.mode s.width, segments s.mode s.width a host g h are first second),
)
