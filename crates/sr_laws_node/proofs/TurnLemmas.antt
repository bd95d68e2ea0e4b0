-- What goes out at an outlet in a turn, and over a whole run.
use Rattle.std.proofs.Common.{◌≡◌, ◌⊎◌, inl, inr, ℕ, ◌+◌, ◌≤◌, Bool, true, false, ◌||◌, ◌&&◌, not, List, [], ◌∷◌, ◌++◌, filter, drop, Option, None, Some, option_to_list, ℤ, refl, sym, ap, ◌∙◌, subst, append_assoc, append-nil, arith, if◌then◌else◌}
use Rattle.std.specs.List.{list_any}
use Rattle.std.proofs.lemmas.List.{map-append}
use Rattle.std.proofs.lemmas.List.Folds.{list_any-append}
use Rattle.std.proofs.Math.Nat.{le-max_left}
use Rattle.sr_frame.specs.declared.fields.Mac.{Mac}
use Rattle.sr_frame.specs.declared.ports.Port.{Port}
use Rattle.sr_frame.specs.declared.ports.Port.TheVariants.{H, A, B, C}
use Rattle.sr_frame.specs.Addresses.{mac_eq}
use Rattle.sr_sequence.specs.declared.Seq.{Seq}
use Rattle.sr_dup_window.specs.declared.lane_sets.Lane.{Lane}
use Rattle.sr_dup_window.specs.declared.lane_sets.Lane.TheVariants as lane
use Rattle.sr_dup_window.specs.LaneSets as lanes
use Rattle.sr_dup_table.specs.Sources.{arrive_answer, after_arrive}
use Rattle.sr_dup_window.specs.Bins.{IsWidth}
use Rattle.sr_laws_dup.specs.TableRuns.{Arrival, Noting, TableTurn, TableRun, AreInOrder, AreSteady, notings_of, arrivals_of, latest, was_noted}
use Rattle.sr_laws_dup.specs.Starts.{stood, IsStart, EachPairIsNewAfterAStart, StartsAreSteady}
use Rattle.sr_laws_dup.specs.TableRuns as table
use Rattle.sr_forwarding.specs.declared.outlets.Outlets.{Outlets}
use Rattle.sr_forwarding.specs.Outlets.{has}
use Rattle.sr_forwarding.specs.Parcels.{ParcelImage}
use Rattle.sr_forwarding.specs.Headers.{header_of}
use Rattle.sr_node.specs.declared.event.Event.{Event}
use Rattle.sr_node.specs.declared.event.Event.TheVariants as event
use Rattle.sr_node.specs.declared.event.Answer.{Answer}
use Rattle.sr_node.specs.declared.event.Answer.TheVariants as answer
use Rattle.sr_node.specs.Limits.{first_number}
use Rattle.sr_node.specs.Images.{State, time_at}
use Rattle.sr_node.specs.Outboxes.{Outboxes, box_at, boxes_empty, first_of, boxes_left}
use Rattle.sr_node.specs.Copies.{copy_if, with_copy, put_at}
use Rattle.sr_node.specs.declared.mode.Mode.{Mode}
use Rattle.sr_node.specs.declared.mode.Mode.TheVariants as mode
use Rattle.sr_node.specs.Lanes.{lane_at, lanes_noted, is_asked, lanes_asked, is_clear, new_outlets}
use Rattle.sr_node.specs.LifeChecks.{is_due}
use Rattle.sr_node.specs.Arriving.{is_own, going_on, wanted_at}
use Rattle.sr_node.specs.Ticking.{after_tick}
use Rattle.sr_node.specs.Steps.{Step, refusal_of}
use Rattle.sr_laws_node.specs.Origins.{Origin, new, resumed, first_state, stands_before}
use Rattle.sr_laws_node.specs.NodeRuns.{Turn, happened, swapped, RunFrom}
use Rattle.sr_laws_node.specs.Brought.{Brought, arrival_brings, send_brings, life_brings, event_brings, brought, inlet_lane, keeps, bars, stood_bars, goes_at, goes_in, went_after, parcels_of, takes, event_takes, taken, is_at, given, number_if, whole_number, next_number}
use Rattle.sr_laws_node.specs.SteadyNodes.{IsCarried, IsNumbered, IsSteadyFrom, arrivals, event_arrives, arrival_if}
use Rattle.sr_laws_node.specs.NodeLaws.{EachTurn, EachOnce, before_of}
use Rattle.sr_laws_node.proofs.OriginLemmas.{first_top, first_pairs, first_width, first_out, begins_there, run_begins, has_tops, are_numbered, is_start, steady_of_all, stood_noted, stood_own, notings_behind}
use Rattle.sr_laws_node.proofs.OutletLemmas.{IsAnswered, answered, has-outlets_on, noted_at, asked_at, asked_somewhere}
use Rattle.sr_laws_node.proofs.NotingLemmas.{KeepAddress, KeepMode, copies_that, noted_copies, is_outward, came_there, outward_noted, came_noted, side_bars_a, side_bars_b, own_is_new, others_arrive, arrivals_are, notings}
use Rattle.sr_laws_node.proofs.RunLemmas.{Behind, behind, passed_by, IsKept, kept, keeps_address, keeps_mode, mode_kept, width_kept, carried_here, not_from_host}

-- what a copy adds to a queue
put_one : (box : List ParcelImage) (p : ParcelImage) (k : Bool) → with_copy box (copy_if k p) ≡ box ++ (if k then p ∷ [] else [])
put_one box p true = refl
put_one box p false = sym (append-nil box)

parcels_if : (k : Bool) (b : Brought) → (if k then b.parcel ∷ [] else []) ≡ parcels_of (if k then b ∷ [] else [])
parcels_if true b = refl
parcels_if false b = refl

-- a parcel goes last at the outlets where it goes
pub put_there : (o : Port) (out : Outboxes) (outlets : Outlets) (p : ParcelImage) → box_at (put_at out outlets p) o ≡ with_copy (box_at out o) (copy_if (has outlets o) p)
put_there H out outlets p = refl
put_there A out outlets p = refl
put_there B out outlets p = refl
put_there C out outlets p = refl

pub goes_out : (o : Port) (out : Outboxes) (outlets : Outlets) (b : Brought) (test : Brought → Bool) → has outlets o ≡ test b → box_at (put_at out outlets b.parcel) o ≡ box_at out o ++ parcels_of (filter test (b ∷ []))
goes_out o out outlets b test e =
    put_there o out outlets b.parcel
    ∙ ap (λ k. with_copy (box_at out o) (copy_if k b.parcel)) e
    ∙ put_one (box_at out o) b.parcel (test b)
    ∙ ap (λ ps. box_at out o ++ ps) (parcels_if (test b) b)

and_true : (b : Bool) → b ≡ (b && true)
and_true true = refl
and_true false = refl

and_again : (a x b : Bool) → (a && ((a || x) && b)) ≡ (a && b)
and_again true x b = refl
and_again false x b = refl

or_false : (b : Bool) → (b || false) ≡ b
or_false true = refl
or_false false = refl

or_last : (b : Bool) → (b || true) ≡ true
or_last true = refl
or_last false = refl

-- where it is wanted, new, and clear
at_free : (w asked old : Bool) → (w ≡ true → asked ≡ true) → (w && ((asked && not old) && true)) ≡ (w && not old)
at_free false asked old both = refl
at_free true asked true both = ap (λ c. (c && false) && true) (both refl)
at_free true asked false both = ap (λ c. (c && true) && true) (both refl)

at_kept : (w asked old came : Bool) → (w ≡ true → asked ≡ true) → (w && ((asked && not old) && not came)) ≡ (w && not (old || came))
at_kept false asked old came both = refl
at_kept true asked true came both = ap (λ c. (c && false) && not came) (both refl)
at_kept true asked false true both = ap (λ c. (c && true) && false) (both refl)
at_kept true asked false false both = ap (λ c. (c && true) && true) (both refl)

-- what stood and what was noted since, in the order of the definition
or_free : (l x : Bool) → ((l || false) || x) ≡ (x || l)
or_free true true = refl
or_free true false = refl
or_free false true = refl
or_free false false = refl

or_twice : (l x : Bool) → ((l || l) || x) ≡ (x || l)
or_twice true true = refl
or_twice true false = refl
or_twice false true = refl
or_twice false false = refl

or_kept : (l k x y : Bool) → ((l || k) || (x || y)) ≡ ((x || l) || (y || k))
or_kept true k true y = refl
or_kept true k false y = refl
or_kept false true true y = refl
or_kept false true false true = refl
or_kept false true false false = refl
or_kept false false true y = refl
or_kept false false false true = refl
or_kept false false false false = refl

-- the run of this node began so
record HasBegun (first : State) (top : Mac → ℤ) (before_all : List Noting) : Type 0 where
  pub start : IsStart first.core.width first.core.time top first.core.sources
  pub apart : (src : Mac) (n : ℤ) (l : Lane) → mac_eq src first.role.mac ≡ false → was_noted src n l (stood top first.core.sources) ≡ was_noted src n l before_all

-- in a steady run, an arrival goes out where it is wanted and nothing bars it
goes_where_new : EachPairIsNewAfterAStart → (first : State) (top : Mac → ℤ) (before_all : List Noting) → HasBegun first top before_all → (before : List Turn) (s : State) (port : Port) (src : Mac) (seq : Option Seq) (number : ℤ) (wanted outlets : Outlets) (now : ℕ) (m : Mode) (o : Port)
    → IsWidth first.core.width → is_at H port ≡ false → s.core.time ≤ now → IsCarried number seq → new_outlets m first.core.width s.core.sources port src seq wanted now ≡ Some outlets
    → Behind first before s → KeepAddress first.role.mac before → KeepMode m before → mac_eq src first.role.mac ≡ false
    → AreSteady first.core.width (arrival_if src (number_if seq number) now ++ (arrivals before ++ arrivals_of (stood top first.core.sources)))
    → has outlets o ≡ (has wanted o && not (list_any (λ n. stood_bars o m src n before_all || list_any (bars o src n) (brought before)) (option_to_list (number_if seq number))))
goes_where_new law first top before_all begun before s port src None number wanted outlets now m o width other le carried goes b keep mode_keep not_own steady =
    let same : wanted ≡ outlets = cc in
    ap (λ x. has x o) (sym same) ∙ and_true (has wanted o)
goes_where_new law first top before_all begun before s port src (Some seq) number wanted outlets now m o width other le carried goes b keep mode_keep not_own steady =
    ap (λ y. has y o) a.outlets ∙ has-outlets_on m a.fresh wanted o ∙ by m o refl mode_keep
    ∙ ap (λ z. has wanted o && not z) (sym (or_false (stood_bars o m src number before_all || list_any (bars o src number) (brought before))))
  where
    w : ℕ
    w = first.core.width

    began : List Noting
    began = stood top first.core.sources

    a : IsAnswered m w s.core.sources port src seq wanted now outlets
    a = answered m w s.core.sources port src seq wanted now outlets goes

    -- asked of any lane, the table answers by what was noted and by what stood before
    new_on : (l : Lane) → lanes.has a.fresh l ≡ (lanes.has (lanes_asked m port wanted) l && not (was_noted src number l (notings before) || was_noted src number l before_all))
    new_on l =
        let x : Noting = record { arrival = record { src = src; number = number; time = now }; lanes = lanes_asked m port wanted } in
        let more : List TableTurn = table.arrived x a.fresh ∷ b.took in
        let t = after_arrive w s.core.sources src (Rattle.sr_sequence.specs.Numbers.wire number) (lanes_asked m port wanted) now in
        let takes : table.Takes w s.core.sources (table.arrived x a.fresh) t = (
          asked_somewhere m port wanted other,
          subst (λ n. arrive_answer w s.core.sources src n (lanes_asked m port wanted) now ≡ Some a.fresh) carried a.answer,
          refl,
        ) in
        let whole : TableRun w first.core.sources more t = (s.core.sources, b.run, takes) in
        let order : AreInOrder first.core.time more = (b.order, omega (arith, b.last, le)) in
        let these : notings_of began b.took ≡ notings before ++ began = notings_behind began b.took ∙ ap (λ xs. xs ++ began) b.same in
        let all : arrivals_of (notings_of began more) ≡ x.arrival ∷ (arrivals before ++ arrivals_of began) =
        ap (λ xs. x.arrival ∷ arrivals_of xs) these
        ∙ ap (λ xs. x.arrival ∷ xs) (map-append (λ (y : Noting). y.arrival) (notings before) began ∙ ap (λ xs. xs ++ arrivals_of began) (arrivals_are before)) in
        let still : AreSteady w (arrivals_of (notings_of began more)) = subst (AreSteady w) (sym all) steady in
        law w width first.core.time top first.core.sources begun.start x a.fresh b.took t l whole (order, still)
        ∙ ap (λ xs. lanes.has (lanes_asked m port wanted) l && not (was_noted src number l xs)) these
        ∙ ap (λ y. lanes.has (lanes_asked m port wanted) l && not y)
        (list_any-append (λ (y : Noting). table.is_copy src number y.arrival && lanes.has y.lanes l) (notings before) began
        ∙ ap (λ y. was_noted src number l (notings before) || y) (begun.apart src number l not_own))

    outward : (o : Port) → lanes.has a.fresh (lane_at o)
        ≡ (lanes.has (lanes_asked m port wanted) (lane_at o) && not (list_any (copies_that (is_outward o) src number) (brought before) || was_noted src number (lane_at o) before_all))
    outward o = new_on (lane_at o) ∙ ap (λ y. lanes.has (lanes_asked m port wanted) (lane_at o) && not (y || was_noted src number (lane_at o) before_all))
        (noted_copies (lane_at o) (is_outward o) (outward_noted o) src number first.role.mac before keep not_own)

    came : (o : Port) → (o ≡ A) ⊎ (o ≡ B) → m ≡ mode.X → lanes.has a.fresh (inlet_lane o)
        ≡ not (list_any (copies_that (came_there o) src number) (brought before) || was_noted src number (inlet_lane o) before_all)
    came o side is = new_on (inlet_lane o)
        ∙ ap (λ y. y && not (was_noted src number (inlet_lane o) (notings before) || was_noted src number (inlet_lane o) before_all)) (in_x o side is)
        ∙ ap (λ y. not (y || was_noted src number (inlet_lane o) before_all)) (noted_copies (inlet_lane o) (came_there o) (came_noted o side) src number first.role.mac before keep not_own)
      where
        in_x : (o : Port) → (o ≡ A) ⊎ (o ≡ B) → m ≡ mode.X → lanes.has (lanes_asked m port wanted) (inlet_lane o) ≡ true
        in_x A side is = asked_at m port wanted lane.GotA ∙ ap (λ k. lanes.has (lanes_noted port wanted) lane.GotA || is_asked k lane.GotA) is ∙ or_last (lanes.has (lanes_noted port wanted) lane.GotA)
        in_x B side is = asked_at m port wanted lane.GotB ∙ ap (λ k. lanes.has (lanes_noted port wanted) lane.GotB || is_asked k lane.GotB) is ∙ or_last (lanes.has (lanes_noted port wanted) lane.GotB)
        in_x H (inl e) is = cc
        in_x H (inr e) is = cc
        in_x C (inl e) is = cc
        in_x C (inr e) is = cc

    asks : (o : Port) → has wanted o ≡ true → lanes.has (lanes_asked m port wanted) (lane_at o) ≡ true
    asks o is = asked_at m port wanted (lane_at o) ∙ ap (λ y. y || is_asked m (lane_at o)) (noted_at port wanted o ∙ ap (λ y. y || (is_at C o && is_at C port)) is)

    free : (o : Port) (all : Bool) → all ≡ (list_any (copies_that (is_outward o) src number) (brought before) || was_noted src number (lane_at o) before_all) →
        (has wanted o && (lanes.has a.fresh (lane_at o) && true)) ≡ (has wanted o && not all)
    free o all same =
        ap (λ y. has wanted o && (y && true)) (outward o)
        ∙ at_free (has wanted o) (lanes.has (lanes_asked m port wanted) (lane_at o))
        (list_any (copies_that (is_outward o) src number) (brought before) || was_noted src number (lane_at o) before_all) (asks o)
        ∙ ap (λ y. has wanted o && not y) (sym same)

    kept_back : (o : Port) → (side : (o ≡ A) ⊎ (o ≡ B)) → m ≡ mode.X → list_any (bars o src number) (brought before)
        ≡ (list_any (copies_that (is_outward o) src number) (brought before) || list_any (copies_that (came_there o) src number) (brought before)) →
        (has wanted o && (lanes.has a.fresh (lane_at o) && lanes.has a.fresh (inlet_lane o)))
        ≡ (has wanted o && not ((was_noted src number (lane_at o) before_all || was_noted src number (inlet_lane o) before_all) || list_any (bars o src number) (brought before)))
    kept_back o side is same =
        let out = list_any (copies_that (is_outward o) src number) (brought before) in
        let in_there = list_any (copies_that (came_there o) src number) (brought before) in
        let l = was_noted src number (lane_at o) before_all in
        let k = was_noted src number (inlet_lane o) before_all in
        ap (λ y. has wanted o && (y && lanes.has a.fresh (inlet_lane o))) (outward o)
        ∙ ap (λ y. has wanted o && ((lanes.has (lanes_asked m port wanted) (lane_at o) && not (out || l)) && y)) (came o side is)
        ∙ at_kept (has wanted o) (lanes.has (lanes_asked m port wanted) (lane_at o)) (out || l) (in_there || k) (asks o)
        ∙ ap (λ y. has wanted o && not y) (sym (ap (λ y. (l || k) || y) same ∙ or_kept l k out in_there))

    by : (k : Mode) (o : Port) → k ≡ m → KeepMode m before → (has wanted o && (lanes.has a.fresh (lane_at o) && is_clear k a.fresh o))
        ≡ (has wanted o && not (stood_bars o k src number before_all || list_any (bars o src number) (brought before)))
    by mode.H H is mk = free H (stood_bars H mode.H src number before_all || list_any (bars H src number) (brought before)) (or_free (was_noted src number lane.H before_all) (list_any (bars H src number) (brought before)))
    by mode.X H is mk = free H (stood_bars H mode.X src number before_all || list_any (bars H src number) (brought before)) (or_free (was_noted src number lane.H before_all) (list_any (bars H src number) (brought before)))
    by mode.H C is mk = free C (stood_bars C mode.H src number before_all || list_any (bars C src number) (brought before)) (or_twice (was_noted src number lane.C before_all) (list_any (bars C src number) (brought before)))
    by mode.X C is mk = free C (stood_bars C mode.X src number before_all || list_any (bars C src number) (brought before)) (or_twice (was_noted src number lane.C before_all) (list_any (bars C src number) (brought before)))
    by mode.H A is mk =
        let same = side_bars_a src number mode.H before (subst (λ k. KeepMode k before) (sym is) mk) ∙ or_false (list_any (copies_that (is_outward A) src number) (brought before)) in
        free A (stood_bars A mode.H src number before_all || list_any (bars A src number) (brought before))
        (ap (λ y. (was_noted src number lane.A before_all || false) || y) same ∙ or_free (was_noted src number lane.A before_all) (list_any (copies_that (is_outward A) src number) (brought before)))
    by mode.H B is mk =
        let same = side_bars_b src number mode.H before (subst (λ k. KeepMode k before) (sym is) mk) ∙ or_false (list_any (copies_that (is_outward B) src number) (brought before)) in
        free B (stood_bars B mode.H src number before_all || list_any (bars B src number) (brought before))
        (ap (λ y. (was_noted src number lane.B before_all || false) || y) same ∙ or_free (was_noted src number lane.B before_all) (list_any (copies_that (is_outward B) src number) (brought before)))
    by mode.X A is mk = kept_back A (inl refl) (sym is) (side_bars_a src number mode.X before (subst (λ k. KeepMode k before) (sym is) mk))
    by mode.X B is mk = kept_back B (inr refl) (sym is) (side_bars_b src number mode.X before (subst (λ k. KeepMode k before) (sym is) mk))

if_other : (own : Bool) (b : Brought) → own ≡ false → (if own then [] else b ∷ []) ≡ b ∷ []
if_other own b e = ap (λ k. if k then [] else b ∷ []) e

-- what is taken of a queue stood first in it
first_and_rest : (q : List ParcelImage) → option_to_list (first_of q) ++ drop 1 q ≡ q
first_and_rest [] = refl
first_and_rest (p ∷ ps) = refl

pub taken_there : (o port : Port) (out : Outboxes) (handed : Option ParcelImage) → handed ≡ first_of (box_at out port) → (if is_at o port then option_to_list handed else []) ++ box_at (boxes_left out port) o ≡ box_at out o
taken_there H H out handed e = ap (λ x. option_to_list x ++ drop 1 out.h) e ∙ first_and_rest out.h
taken_there A A out handed e = ap (λ x. option_to_list x ++ drop 1 out.a) e ∙ first_and_rest out.a
taken_there B B out handed e = ap (λ x. option_to_list x ++ drop 1 out.b) e ∙ first_and_rest out.b
taken_there C C out handed e = ap (λ x. option_to_list x ++ drop 1 out.c) e ∙ first_and_rest out.c
taken_there H A out handed e = refl
taken_there H B out handed e = refl
taken_there H C out handed e = refl
taken_there A H out handed e = refl
taken_there A B out handed e = refl
taken_there A C out handed e = refl
taken_there B H out handed e = refl
taken_there B A out handed e = refl
taken_there B C out handed e = refl
taken_there C H out handed e = refl
taken_there C A out handed e = refl
taken_there C B out handed e = refl

-- nothing that stood before bars a frame of this address
abbrev StandsFree : Mac → List Noting → Type 0
StandsFree mac before_all = (n : ℤ) (l : Lane) → was_noted mac n l before_all ≡ false

free_bars : (o : Port) (m : Mode) (mac : Mac) (n : ℤ) (before_all : List Noting) → StandsFree mac before_all → stood_bars o m mac n before_all ≡ false
free_bars o m mac n before_all none =
    ap (λ y. y || (keeps o m && was_noted mac n (inlet_lane o) before_all)) (none n (lane_at o))
    ∙ ap (λ y. keeps o m && y) (none n (inlet_lane o))
    ∙ and_false (keeps o m)
  where
    and_false : (b : Bool) → (b && false) ≡ false
    and_false true = refl
    and_false false = refl

-- the node's own frame goes to all outlets that want it
host_goes : (o : Port) (before_all : List Noting) (before : List Turn) (mac : Mac) (b : Brought) → StandsFree mac before_all → KeepAddress mac before → b.src ≡ mac → b.number ≡ Some (next_number before) → has b.wanted o ≡ goes_at o before_all (brought before) b
host_goes o before_all before mac b none keep src number =
    and_true (has b.wanted o)
    ∙ ap (λ z. has b.wanted o && not z)
    (sym (ap (λ k. list_any (λ n. stood_bars o b.mode b.src n before_all || list_any (bars o b.src n) (brought before)) (option_to_list k)) number
    ∙ or_false (stood_bars o b.mode b.src (next_number before) before_all || list_any (bars o b.src (next_number before)) (brought before))
    ∙ ap (λ m. stood_bars o b.mode m (next_number before) before_all || list_any (bars o m (next_number before)) (brought before)) src
    ∙ ap (λ y. y || list_any (bars o mac (next_number before)) (brought before)) (free_bars o b.mode mac (next_number before) before_all none)
    ∙ own_is_new o mac (first_number + given before) before keep (omega arith)))

ticked : (due : Bool) (o : Port) (before_all : List Noting) (before : List Turn) (s t : State) (now : ℕ) (mac : Mac) → is_due s.core.life_at now ≡ due → StandsFree mac before_all → KeepAddress mac before → s.role.mac ≡ mac → t.core ≡ after_tick s now
    → box_at t.core.out o ≡ box_at s.core.out o ++ parcels_of (filter (goes_at o before_all (brought before)) (if is_due s.core.life_at now then life_brings before s now ∷ [] else []))
ticked true o before_all before s t now mac e none keep same core =
    let b = life_brings before s now in
    let out : (after_tick s now).out ≡ put_at s.core.out b.wanted b.parcel = rw e refl in
    ap (λ c. box_at c.out o) core
    ∙ ap (λ x. box_at x o) out
    ∙ goes_out o s.core.out b.wanted b (goes_at o before_all (brought before)) (host_goes o before_all before mac b none keep same refl)
    ∙ ap (λ k. box_at s.core.out o ++ parcels_of (filter (goes_at o before_all (brought before)) (if k then b ∷ [] else []))) (sym e)
ticked false o before_all before s t now mac e none keep same core =
    let b = life_brings before s now in
    let out : (after_tick s now).out ≡ s.core.out = rw e refl in
    ap (λ c. box_at c.out o) core
    ∙ ap (λ x. box_at x o) out
    ∙ sym (append-nil (box_at s.core.out o))
    ∙ ap (λ k. box_at s.core.out o ++ parcels_of (filter (goes_at o before_all (brought before)) (if k then b ∷ [] else []))) (sym e)

-- one turn
turn_step : EachPairIsNewAfterAStart → (first : State) (top : Mac → ℤ) (before_all : List Noting) → HasBegun first top before_all → StandsFree first.role.mac before_all → (o : Port) (before : List Turn) (s t : State) (e : Event) (a : Answer) (n : ℤ) → IsWidth first.core.width → IsKept first.role.mac (given before) s → KeepAddress first.role.mac before → KeepMode first.core.mode before → s.core.mode ≡ first.core.mode → s.core.width ≡ first.core.width → Behind first before s
    → refusal_of s e ≡ None → IsNumbered n e → AreSteady first.core.width (event_arrives before s e n ++ (arrivals before ++ arrivals_of (stood top first.core.sources))) → Step s e a t
    → event_takes o e a ++ box_at t.core.out o ≡ box_at s.core.out o ++ parcels_of (filter (goes_at o before_all (brought before)) (event_brings before s e n))
turn_step law first top before_all begun none o before s t (event.Arrive port p now) answer.Own n width k keep mode_keep at_mode at_width b not_refused numbered steady step =
    let x = arrival_brings before s port p (time_at s now) n in
    ap (λ u. box_at u.core.out o) step.1
    ∙ sym (append-nil (box_at s.core.out o))
    ∙ ap (λ own. box_at s.core.out o ++ parcels_of (filter (goes_at o before_all (brought before)) (if own then [] else x ∷ []))) (sym step.0)
turn_step law first top before_all begun none o before s t (event.Arrive port p now) (answer.Passed outlets) n width k keep mode_keep at_mode at_width b not_refused numbered steady step =
    let at = time_at s now in
    let q = passed_by s port p at outlets t step.0 step.1 in
    let g = going_on s port p in
    let x = arrival_brings before s port p at n in
    let number = whole_number before port p n in
    let not_own : mac_eq (header_of g).src first.role.mac ≡ false = ap (λ m. mac_eq (header_of p).src m) (sym k.mac) ∙ step.0 in
    let w = first.core.width in
    let m = first.core.mode in
    let rest = arrivals before ++ arrivals_of (stood top first.core.sources) in
    let still : AreSteady w (arrival_if (header_of g).src (number_if g.seq number) at ++ rest) =
    subst (λ own. AreSteady w ((if own then [] else arrival_if (header_of g).src (number_if g.seq number) at) ++ rest)) step.0 steady in
    let goes : has q.outlets o ≡ goes_at o before_all (brought before) x =
    subst (λ k. has q.outlets o ≡ (has x.wanted o && not (list_any (λ n. stood_bars o k x.src n before_all || list_any (bars o x.src n) (brought before)) (option_to_list x.number)))) (sym at_mode)
    (goes_where_new law first top before_all begun before s port (header_of g).src g.seq number (wanted_at s port g at) q.outlets at m o width (not_from_host s port p at not_refused) (le-max_left s.core.time now)
    (carried_here before s port p n k.next numbered) (subst (λ x. new_outlets m x s.core.sources port (header_of g).src g.seq (wanted_at s port g at) at ≡ Some q.outlets) at_width
    (subst (λ x. new_outlets x s.core.width s.core.sources port (header_of g).src g.seq (wanted_at s port g at) at ≡ Some q.outlets) at_mode q.goes)) b keep mode_keep not_own still) in
    ap (λ u. box_at u.core.out o) q.after
    ∙ goes_out o s.core.out q.outlets x (goes_at o before_all (brought before)) goes
    ∙ ap (λ xs. box_at s.core.out o ++ parcels_of (filter (goes_at o before_all (brought before)) xs)) (sym (if_other (is_own s p) x step.0))
turn_step law first top before_all begun none o before s t (event.Arrive port p now) (answer.Sent number) n width k keep mode_keep at_mode at_width b not_refused numbered steady step = absurd step
turn_step law first top before_all begun none o before s t (event.Arrive port p now) (answer.Ticked sources nodes proxies life) n width k keep mode_keep at_mode at_width b not_refused numbered steady step = absurd step
turn_step law first top before_all begun none o before s t (event.Arrive port p now) (answer.Taken handed) n width k keep mode_keep at_mode at_width b not_refused numbered steady step = absurd step
turn_step law first top before_all begun none o before s t (event.Send octets now) answer.Own n width k keep mode_keep at_mode at_width b not_refused numbered steady step = absurd step
turn_step law first top before_all begun none o before s t (event.Send octets now) (answer.Passed outlets) n width k keep mode_keep at_mode at_width b not_refused numbered steady step = absurd step
turn_step law first top before_all begun none o before s t (event.Send octets now) (answer.Sent number) n width k keep mode_keep at_mode at_width b not_refused numbered steady step =
    let x = send_brings before s octets (time_at s now) in
    ap (λ u. box_at u.core.out o) step.1
    ∙ goes_out o s.core.out x.wanted x (goes_at o before_all (brought before)) (host_goes o before_all before first.role.mac x none keep k.mac refl)
turn_step law first top before_all begun none o before s t (event.Send octets now) (answer.Ticked sources nodes proxies life) n width k keep mode_keep at_mode at_width b not_refused numbered steady step = absurd step
turn_step law first top before_all begun none o before s t (event.Send octets now) (answer.Taken handed) n width k keep mode_keep at_mode at_width b not_refused numbered steady step = absurd step
turn_step law first top before_all begun none o before s t (event.Tick now) answer.Own n width k keep mode_keep at_mode at_width b not_refused numbered steady step = absurd step
turn_step law first top before_all begun none o before s t (event.Tick now) (answer.Passed outlets) n width k keep mode_keep at_mode at_width b not_refused numbered steady step = absurd step
turn_step law first top before_all begun none o before s t (event.Tick now) (answer.Sent number) n width k keep mode_keep at_mode at_width b not_refused numbered steady step = absurd step
turn_step law first top before_all begun none o before s t (event.Tick now) (answer.Ticked sources nodes proxies life) n width k keep mode_keep at_mode at_width b not_refused numbered steady step =
    ticked (is_due s.core.life_at (time_at s now)) o before_all before s t (time_at s now) first.role.mac refl none keep k.mac (ap (λ u. u.core) step.4)
turn_step law first top before_all begun none o before s t (event.Tick now) (answer.Taken handed) n width k keep mode_keep at_mode at_width b not_refused numbered steady step = absurd step
turn_step law first top before_all begun none o before s t (event.Take port) answer.Own n width k keep mode_keep at_mode at_width b not_refused numbered steady step = absurd step
turn_step law first top before_all begun none o before s t (event.Take port) (answer.Passed outlets) n width k keep mode_keep at_mode at_width b not_refused numbered steady step = absurd step
turn_step law first top before_all begun none o before s t (event.Take port) (answer.Sent number) n width k keep mode_keep at_mode at_width b not_refused numbered steady step = absurd step
turn_step law first top before_all begun none o before s t (event.Take port) (answer.Ticked sources nodes proxies life) n width k keep mode_keep at_mode at_width b not_refused numbered steady step = absurd step
turn_step law first top before_all begun none o before s t (event.Take port) (answer.Taken handed) n width k keep mode_keep at_mode at_width b not_refused numbered steady step =
    ap (λ u. event_takes o (event.Take port) (answer.Taken handed) ++ box_at u.core.out o) step.1
    ∙ taken_there o port s.core.out handed step.0
    ∙ sym (append-nil (box_at s.core.out o))

has_begun : (origin : Origin) (turns : List Turn) (t : State) → RunFrom origin turns t → IsSteadyFrom origin turns → HasBegun (first_state origin) (first_top origin) (stands_before origin)
has_begun origin turns t run steady =
    let b = run_begins origin turns t run in
    record { start = is_start origin b.0 b.1 (has_tops origin turns steady); apart = stood_noted origin }

-- a steady run is steady behind all that its table has
steady_there : StartsAreSteady → (origin : Origin) (turns : List Turn) (t : State) → RunFrom origin turns t → IsSteadyFrom origin turns → AreSteady (first_state origin).core.width (arrivals turns ++ arrivals_of (first_pairs origin))
steady_there law origin turns t run steady =
    let b = run_begins origin turns t run in
    steady_of_all law origin b.0 turns b.1 (others_arrive (first_state origin).role.mac turns (keeps_address origin turns t run)) steady

pub each_turn_lem : EachPairIsNewAfterAStart → StartsAreSteady → EachTurn
each_turn_lem law alone origin (happened s e a n) before t o run steady =
    let numbered = are_numbered origin (happened s e a n ∷ before) steady in
    let behind_all = subst (AreSteady (first_state origin).core.width) (append_assoc (event_arrives before s e n) (arrivals before) (arrivals_of (first_pairs origin)))
    (steady_there alone origin (happened s e a n ∷ before) t run steady) in
    turn_step law (first_state origin) (first_top origin) (stands_before origin) (has_begun origin (happened s e a n ∷ before) t run steady) (stood_own origin) o before s t e a n
    (first_width origin) (kept origin before s run.0) (keeps_address origin before s run.0) (keeps_mode origin before s run.0) (mode_kept origin before s run.0) (width_kept origin before s run.0)
    (behind origin before s run.0 numbered.0) run.1 numbered.1 behind_all run.2
each_turn_lem law alone origin (swapped s r) before t o run steady =
    ap (λ u. box_at u.core.out o) run.2 ∙ sym (append-nil (box_at s.core.out o))

-- a run was steady before its newest turn
steady_arrival : (w : ℕ) (src : Mac) (k : Option ℤ) (now : ℕ) (xs : List Arrival) → AreSteady w (arrival_if src k now ++ xs) → AreSteady w xs
steady_arrival w src None now xs steady = steady
steady_arrival w src (Some n) now xs steady = steady.0

steady_if : (w : ℕ) (own : Bool) (src : Mac) (k : Option ℤ) (now : ℕ) (xs : List Arrival) → AreSteady w ((if own then [] else arrival_if src k now) ++ xs) → AreSteady w xs
steady_if w true src k now xs steady = steady
steady_if w false src k now xs steady = steady_arrival w src k now xs steady

steady_event : (w : ℕ) (before : List Turn) (s : State) (e : Event) (n : ℤ) (xs : List Arrival) → AreSteady w (event_arrives before s e n ++ xs) → AreSteady w xs
steady_event w before s (event.Arrive port p now) n xs steady = steady_if w (is_own s p) (header_of p).src (number_if (going_on s port p).seq (whole_number before port p n)) (time_at s now) xs steady
steady_event w before s (event.Send octets now) n xs steady = steady
steady_event w before s (event.Tick now) n xs steady = steady
steady_event w before s (event.Take port) n xs steady = steady

pub steady_before : (origin : Origin) (turn : Turn) (before : List Turn) → IsSteadyFrom origin (turn ∷ before) → IsSteadyFrom origin before
steady_before (new start) (happened s e a n) before steady = (steady.0.0, steady_event (first_state (new start)).core.width before s e n (arrivals before) steady.1)
steady_before (resumed role mode width sources top) (happened s e a n) before steady =
    let origin : Origin = resumed role mode width sources top in
    let w = (first_state origin).core.width in
    let rest = arrivals_of (stands_before origin) in (
      steady.0,
      steady.1.0,
      steady_event w before s e n (arrivals before ++ rest) (subst (AreSteady w) (append_assoc (event_arrives before s e n) (arrivals before) rest) steady.2),
    )
steady_before (new start) (swapped s r) before steady = steady
steady_before (resumed role mode width sources top) (swapped s r) before steady = steady

run_before : (origin : Origin) (turn : Turn) (before : List Turn) (t : State) → RunFrom origin (turn ∷ before) t → RunFrom origin before (before_of turn)
run_before origin (happened s e a n) before t run = run.0
run_before origin (swapped s r) before t run = run.0

pub each_once_lem : EachPairIsNewAfterAStart → StartsAreSteady → EachOnce
each_once_lem law alone origin [] t o run steady = ap (λ u. box_at u.core.out o) (begins_there origin t run) ∙ ap (λ b. box_at b o) (first_out origin) ∙ none o
  where
    none : (o : Port) → box_at boxes_empty o ≡ []
    none H = refl
    none A = refl
    none B = refl
    none C = refl
each_once_lem law alone origin (turn ∷ before) t o run steady =
    let s = before_of turn in
    let goes = goes_in o (stands_before origin) before turn in
    append_assoc (taken o before) (takes o turn) (box_at t.core.out o)
    ∙ ap (λ xs. taken o before ++ xs) (each_turn_lem law alone origin turn before t o run steady)
    ∙ sym (append_assoc (taken o before) (box_at s.core.out o) (parcels_of goes))
    ∙ ap (λ xs. xs ++ parcels_of goes) (each_once_lem law alone origin before s o (run_before origin turn before t run) (steady_before origin turn before steady))
    ∙ sym (map-append (λ (b : Brought). b.parcel) (went_after (stands_before origin) o before) goes)
