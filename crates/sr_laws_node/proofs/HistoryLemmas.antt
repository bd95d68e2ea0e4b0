-- The table of a node that took over what others had noted, beside its history.
use Rattle.std.proofs.Common.{◌≡◌, ◌≢◌, ℕ, ◌≤◌, Bool, true, false, ◌||◌, ◌&&◌, not, is_some, List, [], ◌∷◌, ◌++◌, Option, None, Some, ℤ, refl, sym, ap, ◌∙◌, subst, arith, ◌⊎◌, inl, inr, if◌then◌else◌}
use Rattle.std.specs.List.{list_any}
use Rattle.std.specs.Map.{lookup}
use Rattle.std.proofs.Math.Nat.{le-max_left}
use Rattle.std.proofs.lemmas.List.Folds.{list_any-append}
use Rattle.sr_frame.specs.declared.fields.Mac.{Mac}
use Rattle.sr_frame.specs.declared.ports.Port.{Port}
use Rattle.sr_frame.specs.declared.ports.Port.TheVariants.{H, A, B, C}
use Rattle.sr_frame.specs.Addresses.{mac_eq}
use Rattle.sr_sequence.specs.declared.Seq.{Seq}
use Rattle.sr_sequence.specs.Numbers.{wire}
use Rattle.sr_dup_window.specs.declared.lane_sets.Lane.{Lane}
use Rattle.sr_dup_window.specs.declared.lane_sets.Lane.TheVariants as lane
use Rattle.sr_dup_window.specs.LaneSets as lanes
use Rattle.sr_dup_table.specs.Sources.{Remembered, is_recent, arrive_answer, after_arrive, live_at}
use Rattle.sr_dup_window.specs.Bins.{IsWidth}
use Rattle.sr_laws_dup.specs.TableRuns.{Noting}
use Rattle.sr_laws_dup.specs.TableRuns as table
use Rattle.sr_laws_dup.specs.Starts.{IsStart}
use Rattle.sr_laws_dup_joins.specs.Growths.{Growth, empty, started, arrived, aged, merged, Grew, newest, remembered, epoch, numbers, latest, AreInOrder, AreSteady}
use Rattle.sr_laws_dup_joins.specs.GrowthLaws.{Tells, TablesStand, AnswersByTheUnion}
use Rattle.sr_forwarding.specs.declared.outlets.Outlets.{Outlets}
use Rattle.sr_forwarding.specs.Outlets.{has, port_eq, listed}
use Rattle.sr_forwarding.specs.Parcels.{ParcelImage}
use Rattle.sr_forwarding.specs.Headers.{header_of}
use Rattle.sr_node.specs.declared.event.Event.{Event}
use Rattle.sr_node.specs.declared.event.Event.TheVariants as event
use Rattle.sr_node.specs.declared.event.Answer.{Answer}
use Rattle.sr_node.specs.declared.event.Answer.TheVariants as answer
use Rattle.sr_node.specs.Images.{State, time_at}
use Rattle.sr_node.specs.Starts.{width_of}
use Rattle.sr_node.specs.Resuming.{last_heard}
use Rattle.sr_dup_table.specs.Widths.{numbers_in}
use Rattle.sr_node.specs.StartLemmas.{has_width}
use Rattle.sr_node.specs.declared.mode.Mode.{Mode}
use Rattle.sr_node.specs.declared.mode.Mode.TheVariants as mode
use Rattle.sr_node.specs.Lanes.{lane_at, lanes_noted, is_asked, lanes_asked, is_clear, new_outlets, sources_after}
use Rattle.sr_node.specs.LifeChecks.{is_due}
use Rattle.sr_node.specs.Arriving.{going_on, wanted_at, goes, PassedTo}
use Rattle.sr_node.specs.Ticking.{after_tick}
use Rattle.sr_node.specs.Absorbing.{Absorbed, later_time}
use Rattle.sr_node.specs.Steps.{Step, refusal_of}
use Rattle.sr_laws_node.specs.NodeRuns.{happened, swapped}
use Rattle.sr_laws_node.specs.Brought.{is_at}
use Rattle.sr_laws_node.specs.SteadyNodes.{IsCarried}
use Rattle.sr_laws_node.specs.Origins.{Origin, new, resumed}
use Rattle.sr_laws_node.specs.Histories.{History, began, turned, absorbed, Reaches, noting_at, with_noting, after_event, table_of, IsNumbered, AreNumbered}
use Rattle.sr_laws_node.specs.HistoryLaws.{is_noted, is_turned_back, IsRemembered, GoesOnKnowing, GoesWhereNew, HoldsBackBoth}
use Rattle.sr_laws_node.proofs.OriginLemmas.{first_width, is_start}
use Rattle.sr_laws_node.proofs.OutletLemmas.{IsAnswered, answered, listed-has, has-outlets_on, noted_at, noted_somewhere, asked_at}
use Rattle.sr_laws_node.proofs.RunLemmas.{passed_by, not_from_host}

-- the table of a state, of its width, grew so, and no time went back
pub record Behind (g : Growth) (t : State) : Type 0 where
  pub width : IsWidth t.core.width
  pub grew : Grew t.core.width g t.core.sources
  pub order : AreInOrder g
  pub last : latest g ≤ t.core.time

-- what has grown before a step has grown behind it, whose width is the same
at_width : (g : Growth) (s t : State) → t.core.width ≡ s.core.width → Grew s.core.width g t.core.sources → Grew t.core.width g t.core.sources
at_width g s t wide grew = subst (λ w. Grew w g t.core.sources) (sym wide) grew

-- what leaves the table
stays : (g : Growth) (s t : State) → t.core.width ≡ s.core.width → t.core.sources ≡ s.core.sources → s.core.time ≤ t.core.time → Behind g s → Behind g t
stays g s t wide sources time b = record {
  width = subst IsWidth (sym wide) b.width;
  grew = at_width g s t wide (subst (λ x. Grew s.core.width g x) (sym sources) b.grew);
  order = b.order;
  last = omega (arith, b.last, time);
}

-- a frame with or without a number
noted-behind : (g : Growth) (s t : State) (port : Port) (p : ParcelImage) (k : Option Seq) (outlets : Outlets) (now : ℕ) (n : ℤ)
    → is_at H port ≡ false → s.core.time ≤ now → t.core.width ≡ s.core.width → IsCarried n k
    → new_outlets s.core.mode s.core.width s.core.sources port (header_of p).src k (wanted_at s port p now) now ≡ Some outlets
    → t.core.sources ≡ sources_after s.core.width s.core.sources port (header_of p).src k (wanted_at s port p now) now → t.core.time ≡ now
    → Behind g s → Behind (with_noting g k (noting_at s port p now n)) t
noted-behind g s t port p None outlets now n other le wide carried goes sources time b = stays g s t wide sources (omega (arith, le, time)) b
noted-behind g s t port p (Some seq) outlets now n other le wide carried goes sources time b =
    let src = (header_of p).src in
    let wanted = wanted_at s port p now in
    let a = answered s.core.mode s.core.width s.core.sources port src seq wanted now outlets goes in
    let x = noting_at s port p now n in
    let takes : table.Takes s.core.width s.core.sources (table.arrived x a.own) t.core.sources = (
      noted_somewhere port wanted other,
      subst (λ m. arrive_answer s.core.width s.core.sources src m (lanes_noted port wanted) now ≡ Some a.own) carried a.noted,
      sources ∙ ap (λ m. after_arrive s.core.width s.core.sources src m (lanes_noted port wanted) now) carried,
    ) in
    record {
      width = subst IsWidth (sym wide) b.width;
      grew = at_width (with_noting g (Some seq) x) s t wide (s.core.sources, a.own, b.grew, takes);
      order = (b.order, omega (arith, b.last, le));
      last = omega (arith, time);
    }

-- time passes
ticked-behind : (due : Bool) (g : Growth) (s t : State) (now : ℕ) → is_due s.core.life_at now ≡ due → s.core.time ≤ now → t.core ≡ after_tick s now → Behind g s
    → Behind (aged g now) t
ticked-behind true g s t now e le core b =
    let sources : t.core.sources ≡ live_at now s.core.sources = ap (λ c. c.sources) core ∙ rw e refl in
    let time : t.core.time ≡ now = ap (λ c. c.time) core ∙ rw e refl in
    let wide : t.core.width ≡ s.core.width = ap (λ c. c.width) core ∙ rw e refl in
    record {
      width = subst IsWidth (sym wide) b.width;
      grew = at_width (aged g now) s t wide (s.core.sources, b.grew, sources);
      order = (b.order, omega (arith, b.last, le));
      last = omega (arith, time);
    }
ticked-behind false g s t now e le core b =
    let sources : t.core.sources ≡ live_at now s.core.sources = ap (λ c. c.sources) core ∙ rw e refl in
    let time : t.core.time ≡ now = ap (λ c. c.time) core ∙ rw e refl in
    let wide : t.core.width ≡ s.core.width = ap (λ c. c.width) core ∙ rw e refl in
    record {
      width = subst IsWidth (sym wide) b.width;
      grew = at_width (aged g now) s t wide (s.core.sources, b.grew, sources);
      order = (b.order, omega (arith, b.last, le));
      last = omega (arith, time);
    }

-- one node takes over from another
absorbed-behind : (g f : Growth) (s o t : State) → Absorbed s.core o.core t.core → Behind g s → Behind f o → Behind (merged g f (later_time s.core o.core)) t
absorbed-behind g f s o t joins a b =
    let wide : t.core.width ≡ s.core.width = ap (λ c. c.width) joins.rest in
    let other : Grew s.core.width f o.core.sources = subst (λ w. Grew w f o.core.sources) (sym joins.width) b.grew in
    record {
      width = subst IsWidth (sym wide) a.width;
      grew = at_width (merged g f (later_time s.core o.core)) s t wide (s.core.sources, o.core.sources, a.grew, other, joins.joined);
      order = (a.order, b.order, omega (arith, a.last), omega (arith, b.last));
      last = omega (arith, ap (λ c. c.time) joins.rest);
    }

event-behind : (g : Growth) (s t : State) (e : Event) (a : Answer) (n : ℤ) → refusal_of s e ≡ None → IsNumbered s e n → Step s e a t → Behind g s
    → Behind (after_event g s e n) t
event-behind g s t (event.Arrive port p now) answer.Own n taken numbered step b =
    let x = with_noting g (going_on s port p).seq (noting_at s port (going_on s port p) (time_at s now) n) in
    subst (λ y. Behind y t) (sym (ap (λ own. if own then g else x) step.0))
    (stays g s t (ap (λ u. u.core.width) step.1) (ap (λ u. u.core.sources) step.1) (subst (λ y. s.core.time ≤ y) (sym (ap (λ u. u.core.time) step.1)) (le-max_left s.core.time now)) b)
event-behind g s t (event.Arrive port p now) (answer.Passed outlets) n taken numbered step b =
    let at = time_at s now in
    let q = passed_by s port p at outlets t step.0 step.1 in
    let going = going_on s port p in
    let x = with_noting g going.seq (noting_at s port going at n) in
    subst (λ y. Behind y t) (sym (ap (λ own. if own then g else x) step.0))
    (noted-behind g s t port going going.seq q.outlets at n (not_from_host s port p at taken) (le-max_left s.core.time now) (ap (λ u. u.core.width) q.after) numbered q.goes
    (ap (λ u. u.core.sources) q.after) (ap (λ u. u.core.time) q.after) b)
event-behind g s t (event.Arrive port p now) (answer.Sent number) n taken numbered step b = absurd step
event-behind g s t (event.Arrive port p now) (answer.Ticked sources nodes proxies life) n taken numbered step b = absurd step
event-behind g s t (event.Arrive port p now) (answer.Taken given) n taken numbered step b = absurd step
event-behind g s t (event.Send octets now) answer.Own n taken numbered step b = absurd step
event-behind g s t (event.Send octets now) (answer.Passed outlets) n taken numbered step b = absurd step
event-behind g s t (event.Send octets now) (answer.Sent number) n taken numbered step b =
    stays g s t (ap (λ u. u.core.width) step.1) (ap (λ u. u.core.sources) step.1) (subst (λ y. s.core.time ≤ y) (sym (ap (λ u. u.core.time) step.1)) (le-max_left s.core.time now)) b
event-behind g s t (event.Send octets now) (answer.Ticked sources nodes proxies life) n taken numbered step b = absurd step
event-behind g s t (event.Send octets now) (answer.Taken given) n taken numbered step b = absurd step
event-behind g s t (event.Tick now) answer.Own n taken numbered step b = absurd step
event-behind g s t (event.Tick now) (answer.Passed outlets) n taken numbered step b = absurd step
event-behind g s t (event.Tick now) (answer.Sent number) n taken numbered step b = absurd step
event-behind g s t (event.Tick now) (answer.Ticked sources nodes proxies life) n taken numbered step b =
    ticked-behind (is_due s.core.life_at (time_at s now)) g s t (time_at s now) refl (le-max_left s.core.time now) (ap (λ u. u.core) step.4) b
event-behind g s t (event.Tick now) (answer.Taken given) n taken numbered step b = absurd step
event-behind g s t (event.Take port) answer.Own n taken numbered step b = absurd step
event-behind g s t (event.Take port) (answer.Passed outlets) n taken numbered step b = absurd step
event-behind g s t (event.Take port) (answer.Sent number) n taken numbered step b = absurd step
event-behind g s t (event.Take port) (answer.Ticked sources nodes proxies life) n taken numbered step b = absurd step
event-behind g s t (event.Take port) (answer.Taken given) n taken numbered step b =
    stays g s t (ap (λ u. u.core.width) step.1) (ap (λ u. u.core.sources) step.1) (subst (λ y. s.core.time ≤ y) (sym (ap (λ u. u.core.time) step.1)) (omega arith)) b

-- along every history
pub behind : (h : History) (t : State) → Reaches h t → AreNumbered h → Behind (table_of h) t
behind (began (new start)) t run numbered =
    let wide : t.core.width ≡ width_of start = ap (λ u. u.core.width) run in
    record { width = subst IsWidth (sym wide) (has_width start); grew = ap (λ u. u.core.sources) run; order = tt; last = omega arith }
behind (began (resumed role mode width sources top)) t run numbered =
    let origin : Origin = resumed role mode width sources top in
    let wide : t.core.width ≡ numbers_in width = ap (λ u. u.core.width) run.1 in
    let start : IsStart (numbers_in width) (last_heard sources) top sources = is_start origin t run numbered in
    record {
      width = subst IsWidth (sym wide) (first_width origin);
      grew = (subst (λ w. IsStart w (last_heard sources) top sources) (sym wide) start, ap (λ u. u.core.sources) run.1);
      order = tt;
      last = omega (arith, ap (λ u. u.core.time) run.1);
    }
behind (turned h (happened s e a n)) t run numbered =
    event-behind (table_of h) s t e a n run.1 numbered.1 run.2 (behind h s run.0 numbered.0)
behind (turned h (swapped s r)) t run numbered =
    stays (table_of h) s t (ap (λ u. u.core.width) run.2) (ap (λ u. u.core.sources) run.2) (subst (λ y. s.core.time ≤ y) (sym (ap (λ u. u.core.time) run.2)) (omega arith))
    (behind h s run.0 numbered)
behind (absorbed h s g o) t run numbered =
    absorbed-behind (table_of h) (table_of g) s o t run.2 (behind h s run.0 numbered.0) (behind g o run.1 numbered.1)

-- where an arrival went
went-to : (s : State) (port : Port) (p : ParcelImage) (now : ℕ) (ports : List Port) (t : State) → PassedTo s port p now (goes s port p now) ports t
    → (outlets : Outlets) × (goes s port p now ≡ Some outlets) × (ports ≡ listed outlets)
went-to s port p now ports t to = by (goes s port p now) refl to
  where
    by : (o : Option Outlets) → goes s port p now ≡ o → PassedTo s port p now o ports t → (outlets : Outlets) × (goes s port p now ≡ Some outlets) × (ports ≡ listed outlets)
    by None e to = absurd to
    by (Some outlets) e to = (outlets, e, to.2)

wanted-and-new : (w asked k g : Bool) → (w ≡ true → asked ≡ true) → (w && ((asked && not k) && not g)) ≡ (w && (not k && not g))
wanted-and-new false asked k g both = refl
wanted-and-new true asked k g both = ap (λ c. (c && not k) && not g) (both refl)

or_last : (b : Bool) → (b || true) ≡ true
or_last true = refl
or_last false = refl

-- where a frame goes of which the table answered by the union
goes-by : AnswersByTheUnion → (g : Growth) (s : State) (port : Port) (p : ParcelImage) (now : ℕ) (n : ℤ) (seq : Seq) (k : Option Seq) (outlets : Outlets) (o : Port)
    → is_at H port ≡ false → k ≡ Some seq → IsCarried n k → new_outlets s.core.mode s.core.width s.core.sources port (header_of p).src k (wanted_at s port p now) now ≡ Some outlets
    → Behind g s → s.core.time ≤ now → AreSteady s.core.width (with_noting g k (noting_at s port p now n))
    → has outlets o ≡ (has (wanted_at s port p now) o && (not (is_noted g (header_of p).src now (lane_at o) n) && not (is_turned_back s.core.mode g (header_of p).src now o n)))
goes-by law g s port p now n seq None outlets o other is carried goes b le steady = cc
goes-by law g s port p now n seq (Some q) outlets o other is carried goes b le steady =
    ap (λ y. has y o) a.outlets
    ∙ has-outlets_on s.core.mode a.fresh (wanted_at s port p now) o
    ∙ ap (λ y. has (wanted_at s port p now) o && (y && is_clear s.core.mode a.fresh o)) (new (lane_at o))
    ∙ ap (λ y. has (wanted_at s port p now) o && ((lanes.has (lanes_asked s.core.mode port (wanted_at s port p now)) (lane_at o) && not (is_noted g (header_of p).src now (lane_at o) n)) && y))
    (clear s.core.mode o refl)
    ∙ wanted-and-new (has (wanted_at s port p now) o) (lanes.has (lanes_asked s.core.mode port (wanted_at s port p now)) (lane_at o)) (is_noted g (header_of p).src now (lane_at o) n)
    (is_turned_back s.core.mode g (header_of p).src now o n) asks
  where
    a : IsAnswered s.core.mode s.core.width s.core.sources port (header_of p).src q (wanted_at s port p now) now outlets
    a = answered s.core.mode s.core.width s.core.sources port (header_of p).src q (wanted_at s port p now) now outlets goes

    new : (l : Lane) → lanes.has a.fresh l ≡ (lanes.has (lanes_asked s.core.mode port (wanted_at s port p now)) l && not (is_noted g (header_of p).src now l n))
    new l =
        let x : Noting = record { arrival = record { src = (header_of p).src; number = n; time = now }; lanes = lanes_asked s.core.mode port (wanted_at s port p now) } in
        let answer : arrive_answer s.core.width s.core.sources (header_of p).src (wire n) (lanes_asked s.core.mode port (wanted_at s port p now)) now ≡ Some a.fresh =
        subst (λ j. arrive_answer s.core.width s.core.sources (header_of p).src j (lanes_asked s.core.mode port (wanted_at s port p now)) now ≡ Some a.fresh) carried a.answer in
        law s.core.width b.width g s.core.sources x a.fresh l b.grew ((b.order, omega (arith, b.last, le)), steady) answer

    asks : has (wanted_at s port p now) o ≡ true → lanes.has (lanes_asked s.core.mode port (wanted_at s port p now)) (lane_at o) ≡ true
    asks there = asked_at s.core.mode port (wanted_at s port p now) (lane_at o)
        ∙ ap (λ y. y || is_asked s.core.mode (lane_at o)) (noted_at port (wanted_at s port p now) o ∙ ap (λ y. y || (is_at C o && is_at C port)) there)

    clear : (k : Mode) (o : Port) → k ≡ s.core.mode → is_clear k a.fresh o ≡ not (is_turned_back k g (header_of p).src now o n)
    clear mode.H o at = refl
    clear mode.X H at = refl
    clear mode.X C at = refl
    clear mode.X A at = new lane.GotA ∙ ap (λ y. y && not (is_noted g (header_of p).src now lane.GotA n))
        (asked_at s.core.mode port (wanted_at s port p now) lane.GotA ∙ ap (λ k. lanes.has (lanes_noted port (wanted_at s port p now)) lane.GotA || is_asked k lane.GotA) (sym at)
        ∙ or_last (lanes.has (lanes_noted port (wanted_at s port p now)) lane.GotA))
    clear mode.X B at = new lane.GotB ∙ ap (λ y. y && not (is_noted g (header_of p).src now lane.GotB n))
        (asked_at s.core.mode port (wanted_at s port p now) lane.GotB ∙ ap (λ k. lanes.has (lanes_noted port (wanted_at s port p now)) lane.GotB || is_asked k lane.GotB) (sym at)
        ∙ or_last (lanes.has (lanes_noted port (wanted_at s port p now)) lane.GotB))

pub goes_where_new_lem : AnswersByTheUnion → GoesWhereNew
goes_where_new_lem law h s t port p now answer.Own n seq o run numbered steady other is =
    let bad : true ≡ false = sym run.2.0 ∙ other in cc
goes_where_new_lem law h s t port p now (answer.Passed ports) n seq o run numbered steady other is =
    let at = time_at s now in
    let going = going_on s port p in
    let went = went-to s port p at ports t run.2.1 in
    let x = with_noting (table_of h) going.seq (noting_at s port going at n) in
    let noted : AreSteady s.core.width x = subst (λ y. AreSteady s.core.width y) (ap (λ own. if own then table_of h else x) other) steady in
    ap (λ l. list_any (port_eq o) l) went.2
    ∙ listed-has went.0 o
    ∙ goes-by law (table_of h) s port going at n seq going.seq went.0 o (not_from_host s port p at run.1) is numbered.1 went.1 (behind h s run.0 numbered.0) (le-max_left s.core.time now) noted
goes_where_new_lem law h s t port p now (answer.Sent number) n seq o run numbered steady other is = absurd run.2
goes_where_new_lem law h s t port p now (answer.Ticked sources nodes proxies life) n seq o run numbered steady other is = absurd run.2
goes_where_new_lem law h s t port p now (answer.Taken given) n seq o run numbered steady other is = absurd run.2

-- a number of either list is one of both
in-both : (src : Mac) (xs ys : List Noting) (l : Lane) (n : ℤ) → (numbers src xs l n ≡ true) ⊎ (numbers src ys l n ≡ true)
    → numbers src (xs ++ ys) l n ≡ true
in-both src xs ys l n either =
    list_any-append (λ x. table.is_copy src n x.arrival && lanes.has x.lanes l) xs ys ∙ by (numbers src xs l n) refl either
  where
    by : (b : Bool) → numbers src xs l n ≡ b → (numbers src xs l n ≡ true) ⊎ (numbers src ys l n ≡ true)
        → (numbers src xs l n || numbers src ys l n) ≡ true
    by true e h = ap (λ b. b || numbers src ys l n) e
    by false e (inl h) = let bad : true ≡ false = sym h ∙ e in cc
    by false e (inr h) = ap (λ b. b || numbers src ys l n) e ∙ h

-- what is remembered of some arrivals has their numbers
kept-in : (src : Mac) (now : ℕ) (xs : List Noting) (l : Lane) (n : ℤ) → remembered now xs ≢ [] → numbers src xs l n ≡ true → numbers src (remembered now xs) l n ≡ true
kept-in src now xs l n rest noted = by (is_recent now (newest xs)) rest
  where
    by : (b : Bool) → (if b then xs else []) ≢ [] → numbers src (if b then xs else []) l n ≡ true
    by true rest = noted
    by false rest = absurd (rest refl)

-- what is noted of a source stays noted as long as the source is remembered
stays-noted : (src : Mac) (l : Lane) (n : ℤ) (t u : Growth) → ((now : ℕ) → IsRemembered t src now → is_noted t src now l n ≡ true) → GoesOnKnowing src t u
    → (now : ℕ) → IsRemembered u src now → is_noted u src now l n ≡ true
stays-noted src l n t empty noted goes now rest = absurd (rest refl)
stays-noted src l n t (started from top start) noted goes now rest = subst (λ v. IsRemembered v src now → is_noted v src now l n ≡ true) goes (noted now) rest
stays-noted src l n t (arrived u x) noted (inl same) now rest = subst (λ v. IsRemembered v src now → is_noted v src now l n ≡ true) same (noted now) rest
stays-noted src l n t (arrived u x) noted (inr goes) now rest =
    by (mac_eq src x.arrival.src) refl rest (λ own. stays-noted src l n t u noted goes.0 x.arrival.time (goes.1 own)) (stays-noted src l n t u noted goes.0 now)
  where
    by : (b : Bool) → mac_eq src x.arrival.src ≡ b → (if b then remembered now (x ∷ epoch src x.arrival.time u) else epoch src now u) ≢ []
        → (mac_eq src x.arrival.src ≡ true → is_noted u src x.arrival.time l n ≡ true) → (IsRemembered u src now → is_noted u src now l n ≡ true)
        → numbers src (if b then remembered now (x ∷ epoch src x.arrival.time u) else epoch src now u) l n ≡ true
    by true own rest before same =
        kept-in src now (x ∷ epoch src x.arrival.time u) l n rest
        (ap (λ b. (table.is_copy src n x.arrival && lanes.has x.lanes l) || b) (before own) ∙ or_last (table.is_copy src n x.arrival && lanes.has x.lanes l))
    by false other rest before same = same rest
stays-noted src l n t (aged u at) noted (inl same) now rest = subst (λ v. IsRemembered v src now → is_noted v src now l n ≡ true) same (noted now) rest
stays-noted src l n t (aged u at) noted (inr goes) now rest = stays-noted src l n t u noted goes now rest
stays-noted src l n t (merged u v at) noted (inl same) now rest = subst (λ w. IsRemembered w src now → is_noted w src now l n ≡ true) same (noted now) rest
stays-noted src l n t (merged u v at) noted (inr goes) now rest =
    kept-in src now (epoch src at u ++ epoch src at v) l n rest
    (in-both src (epoch src at u) (epoch src at v) l n (inl (stays-noted src l n t u noted goes.0 at goes.1)))

-- a live source is remembered
live-remembered : (w : ℕ) (src : Mac) (xs : List Noting) (r : Option Remembered) → Tells w src xs r → is_some r ≡ true → xs ≢ []
live-remembered w src xs None told there none = cc
live-remembered w src xs (Some k) told there none =
    let bad : false ≡ true = sym (ap (λ ys. numbers src ys told.2.top.member.0 told.1) none) ∙ told.2.top.member.1 in cc

held : (w k g : Bool) → k ≡ true → (w && (not k && not g)) ≡ false
held true k g e = ap (λ c. not c && not g) e
held false k g e = refl

pub holds_back_both_lem : AnswersByTheUnion → TablesStand → HoldsBackBoth
holds_back_both_lem law stand h g k one other s t port p now answer.Own n seq o goes run numbered steady is there either = refl
holds_back_both_lem law stand h g k one other s t port p now (answer.Passed outlets) n seq o goes run numbered steady is there either =
    let at = time_at s now in
    let src = (header_of p).src in
    let taken = later_time one.core other.core in
    let xs = epoch src taken (table_of h) in
    let ys = epoch src taken (table_of g) in
    let going = going_on s port p in
    let b = behind k s run.0 numbered.0 in
    let x = with_noting (table_of k) going.seq (noting_at s port going at n) in
    let noted : AreSteady s.core.width x = subst (λ y. AreSteady s.core.width y) (ap (λ own. if own then table_of k else x) run.2.0) steady in
    let told = stand s.core.width b.width (table_of k) s.core.sources src at b.grew (b.order, before (table_of k) going.seq (noting_at s port going at n) noted)
    (omega (arith, b.last, le-max_left s.core.time now)) in
    let lookup_there = lookup (mac_eq src) (live_at at s.core.sources) in
    goes_where_new_lem law k s t port p now (answer.Passed outlets) n seq o run numbered steady run.2.0 is
    ∙ held (has (wanted_at s port going at) o) (is_noted (table_of k) src at (lane_at o) n) (is_turned_back s.core.mode (table_of k) src at o n)
    (stays-noted src (lane_at o) n (merged (table_of h) (table_of g) taken) (table_of k)
    (λ later rest. kept-in src later (xs ++ ys) (lane_at o) n rest (in-both src xs ys (lane_at o) n either)) goes at
    (live-remembered s.core.width src (epoch src at (table_of k)) lookup_there told there))
  where
    before : (g : Growth) (k : Option Seq) (x : Noting) → AreSteady s.core.width (with_noting g k x) → AreSteady s.core.width g
    before g None x steady = steady
    before g (Some m) x steady = steady.0
holds_back_both_lem law stand h g k one other s t port p now (answer.Sent number) n seq o goes run numbered steady is there either = refl
holds_back_both_lem law stand h g k one other s t port p now (answer.Ticked sources nodes proxies life) n seq o goes run numbered steady is there either = refl
holds_back_both_lem law stand h g k one other s t port p now (answer.Taken given) n seq o goes run numbered steady is there either = refl
