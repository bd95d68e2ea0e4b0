-- The table of nodes after a run is the table after what happened to it.
use Rattle.std.proofs.Common.{◌≡◌, ℕ, ◌≤◌, Bool, true, false, not, ◌&&◌, cond, List, [], ◌∷◌, ◌++◌, map, filter, is_some, Option, None, Some, ℤ, refl, sym, ap, ◌∙◌, subst, arith, if◌then◌else◌}
use Rattle.std.specs.Prelude.{option_to_list}
use Rattle.std.proofs.Math.Nat.{le-max_left}
use Rattle.sr_frame.specs.declared.fields.Mac.{Mac}
use Rattle.sr_frame.specs.declared.ports.Port.{Port}
use Rattle.sr_frame.specs.declared.ports.Port.TheVariants.{H, A, B, C}
use Rattle.sr_frame.specs.Addresses.{mac_eq}
use Rattle.sr_sequence.specs.declared.Seq.{Seq}
use Rattle.sr_supervision.specs.declared.message.Supervision.{Supervision}
use Rattle.sr_supervision.specs.Supervised.{IsSupervision}
use Rattle.sr_forwarding.specs.declared.role_image.RoleImage.{RoleImage}
use Rattle.sr_forwarding.specs.RoleImages.{owned}
use Rattle.sr_forwarding.specs.Parcels.{ParcelImage, plain_of}
use Rattle.sr_forwarding.specs.Headers.{header_of}
use Rattle.sr_node_table.specs.declared.node.Told.TheVariants.{Numbered}
use Rattle.sr_node_table.specs.Nodes.{Table, Hearing, hearing_of, announcement}
use Rattle.sr_node_table.specs.Stating.{status_at, has_at}
use Rattle.sr_node_table.specs.Hearings.{Event, Hears, Prunes, table_after, AreUpTo, StatusIsOfHearings, HasIsOfHearings}
use Rattle.sr_node.specs.declared.event.Event as node
use Rattle.sr_node.specs.declared.event.Event.TheVariants as event
use Rattle.sr_node.specs.declared.event.Answer.{Answer}
use Rattle.sr_node.specs.declared.event.Answer.TheVariants as answer
use Rattle.sr_node.specs.Images.{State, time_at}
use Rattle.sr_node_table.specs.Watching.{after_prune}
use Rattle.sr_node.specs.Hearing.{SaysOf, is_network, is_of_other, announced_if, nodes_heard, nodes_told, nodes_after}
use Rattle.sr_node.specs.Arriving.{going_on}
use Rattle.sr_node.specs.LifeChecks.{is_due}
use Rattle.sr_node.specs.Ticking.{after_tick}
use Rattle.sr_node.specs.Steps.{Step}
use Rattle.sr_laws_node.specs.Origins.{Origin}
use Rattle.sr_laws_node.specs.NodeRuns.{Turn, happened, swapped, RunFrom}
use Rattle.sr_laws_node.specs.Heard.{of_source, of_told, after_frame, Happens, HappenIn, TellsWhatItHeard, HappensOneWay}
use Rattle.sr_laws_node.proofs.OriginLemmas.{begins_there, first_nodes}
use Rattle.sr_laws_node.proofs.RunLemmas.{passed_by}

-- what is up to a moment is up to each later one
up_to_later : (now later : ℕ) (all : List Event) → now ≤ later → AreUpTo now all → AreUpTo later all
up_to_later now later [] le order = tt
up_to_later now later (e ∷ all) le order = (omega (arith, le, order.0), order.1)

-- hearings of one moment
abbrev AreAt : ℕ → List Hearing → Type 0
AreAt now [] = Unit {0}
AreAt now (h ∷ hs) = (h.time ≡ now) × AreAt now hs

up_to_hears : (hs : List Hearing) (now : ℕ) (all : List Event) → AreAt now hs → AreUpTo now all → AreUpTo now (map Hears hs ++ all)
up_to_hears [] now all at order = order
up_to_hears (h ∷ hs) now all at order = (omega (arith, at.0), subst (λ x. AreUpTo x (map Hears hs ++ all)) (sym at.0) (up_to_hears hs now all at.1 order))

source_at : (b : Bool) (src : Mac) (port : Port) (seq : Option Seq) (now : ℕ)
    → AreAt now (if b then map (λ n. hearing_of src port (Numbered n) now) (option_to_list seq) else [])
source_at true src port None now = tt
source_at true src port (Some seq) now = (refl, tt)
source_at false src port seq now = tt

told_at : (b : Bool) (r : RoleImage) (port : Port) (said : Option Supervision) (now : ℕ)
    → AreAt now (if b then map (λ s. announcement s port now) (filter (λ s. not (mac_eq s.mac r.mac)) (option_to_list said)) else [])
told_at true r port None now = tt
told_at true r port (Some s) now = by (mac_eq s.mac r.mac)
  where
    by : (b : Bool) → AreAt now (map (λ x. announcement x port now) (cond (not b) (s ∷ []) []))
    by true = tt
    by false = (refl, tt)
told_at false r port said now = tt

-- the table after the source was heard
source_heard : (b : Bool) (t : Table) (all : List Event) (src : Mac) (port : Port) (seq : Option Seq) (now : ℕ) → t ≡ table_after all
    → nodes_heard t port src (if b then seq else None) now
    ≡ table_after (map Hears (if b then map (λ n. hearing_of src port (Numbered n) now) (option_to_list seq) else []) ++ all)
source_heard true t all src port None now e = e
source_heard true t all src port (Some seq) now e = ap (λ u. nodes_heard u port src (Some seq) now) e
source_heard false t all src port seq now e = e

-- the table after what was said was noted
told_heard : (b : Bool) (t : Table) (all : List Event) (r : RoleImage) (port : Port) (seq : Option Seq) (said : Option Supervision) (now : ℕ) → t ≡ table_after all
    → nodes_told t port (announced_if (b && is_of_other r said) seq said) now
    ≡ table_after (map Hears (if b && is_some seq then map (λ s. announcement s port now) (filter (λ s. not (mac_eq s.mac r.mac)) (option_to_list said)) else []) ++ all)
told_heard false t all r port seq said now e = e
told_heard true t all r port None None now e = e
told_heard true t all r port None (Some s) now e = by (mac_eq s.mac r.mac)
  where
    by : (b : Bool) → nodes_told t port (announced_if (not b) None (Some s)) now ≡ table_after all
    by true = e
    by false = e
told_heard true t all r port (Some seq) None now e = e
told_heard true t all r port (Some seq) (Some s) now e = by (mac_eq s.mac r.mac)
  where
    by : (b : Bool) → nodes_told t port (announced_if (not b) (Some seq) (Some s)) now
        ≡ table_after (map Hears (map (λ x. announcement x port now) (cond (not b) (s ∷ []) [])) ++ all)
    by true = e
    by false = ap (λ u. nodes_told u port (Some s) now) e

-- the table after a frame that passes
frame_heard : (port : Port) (s : State) (p : ParcelImage) (said : Option Supervision) (now : ℕ) (all : List Event) → s.core.nodes ≡ table_after all
    → nodes_after s.core.nodes s.role port (header_of (going_on s port p)).src (going_on s port p).seq said now
    ≡ table_after (after_frame s.role port p said now all)
frame_heard H s p said now all e = e
frame_heard A s p said now all e =
    told_heard true _ (map Hears (of_source s.role A p now) ++ all) s.role A p.seq said now
    (source_heard (not (owned s.role (header_of p).src now)) s.core.nodes all (header_of p).src A p.seq now e)
frame_heard B s p said now all e =
    told_heard true _ (map Hears (of_source s.role B p now) ++ all) s.role B p.seq said now
    (source_heard (not (owned s.role (header_of p).src now)) s.core.nodes all (header_of p).src B p.seq now e)
frame_heard C s p said now all e = e

-- what happened to the table in these turns, in the order of its times, made the table of this state
pub record Made (turns : List Turn) (t : State) : Type 0 where
  pub all : List Event
  pub happen : HappenIn turns all
  pub table : t.core.nodes ≡ table_after all
  pub order : AreUpTo t.core.time all

-- a turn that leaves the table
left : (turn : Turn) (turns : List Turn) (s t : State) (m : Made turns s) → Happens turn m.all m.all → t.core.nodes ≡ s.core.nodes → s.core.time ≤ t.core.time → Made (turn ∷ turns) t
left turn turns s t m happens nodes le = record {
  all = m.all;
  happen = (m.all, m.happen, happens);
  table = nodes ∙ m.table;
  order = up_to_later s.core.time t.core.time m.all le m.order;
}

-- as time passes
pruned_by : (turns : List Turn) (s t : State) (a : Answer) (n : ℤ) (at : ℕ) (m : Made turns s) → t.core.nodes ≡ after_prune s.core.nodes (time_at s at) → t.core.time ≡ time_at s at
    → Made (happened s (event.Tick at) a n ∷ turns) t
pruned_by turns s t a n at m nodes time = record {
  all = Prunes (time_at s at) ∷ m.all;
  happen = (m.all, m.happen, refl);
  table = nodes ∙ ap (λ u. after_prune u (time_at s at)) m.table;
  order = (omega (arith, time), up_to_later s.core.time (time_at s at) m.all (le-max_left s.core.time at) m.order);
}

pruned : (due : Bool) (turns : List Turn) (s t : State) (a : Answer) (n : ℤ) (at : ℕ) (m : Made turns s) → is_due s.core.life_at (time_at s at) ≡ due → t.core ≡ after_tick s (time_at s at)
    → Made (happened s (event.Tick at) a n ∷ turns) t
pruned true turns s t a n at m e core = pruned_by turns s t a n at m (ap (λ c. c.nodes) core ∙ rw e refl) (ap (λ c. c.time) core ∙ rw e refl)
pruned false turns s t a n at m e core = pruned_by turns s t a n at m (ap (λ c. c.nodes) core ∙ rw e refl) (ap (λ c. c.time) core ∙ rw e refl)

made_step : (turns : List Turn) (s t : State) (e : node.Event) (a : Answer) (n : ℤ) → Made turns s → Step s e a t → Made (happened s e a n ∷ turns) t
made_step turns s t (event.Arrive port p at) answer.Own n m step =
    left (happened s (event.Arrive port p at) answer.Own n) turns s t m refl (ap (λ u. u.core.nodes) step.1)
    (subst (λ x. s.core.time ≤ x) (sym (ap (λ u. u.core.time) step.1)) (le-max_left s.core.time at))
made_step turns s t (event.Arrive port p at) (answer.Passed outlets) n m step =
    let now = time_at s at in
    let q = passed_by s port p now outlets t step.0 step.1 in
    let r = s.role in
    record {
      all = after_frame r port p q.said now m.all;
      happen = (m.all, m.happen, (q.said, q.says, refl));
      table = ap (λ u. u.core.nodes) q.after ∙ frame_heard port s p q.said now m.all m.table;
      order = subst (λ x. AreUpTo x (after_frame r port p q.said now m.all)) (sym (ap (λ u. u.core.time) q.after))
          (up_to_hears (of_told r port p q.said now) now (map Hears (of_source r port p now) ++ m.all) (told_at (is_network port && is_some p.seq) r port q.said now)
          (up_to_hears (of_source r port p now) now m.all (source_at (is_network port && not (owned r (header_of p).src now)) (header_of p).src port p.seq now)
          (up_to_later s.core.time now m.all (le-max_left s.core.time at) m.order)));
    }
made_step turns s t (event.Arrive port p at) (answer.Sent number) n m step = absurd step
made_step turns s t (event.Arrive port p at) (answer.Ticked sources nodes proxies life) n m step = absurd step
made_step turns s t (event.Arrive port p at) (answer.Taken given) n m step = absurd step
made_step turns s t (event.Send octets at) answer.Own n m step = absurd step
made_step turns s t (event.Send octets at) (answer.Passed outlets) n m step = absurd step
made_step turns s t (event.Send octets at) (answer.Sent number) n m step =
    left (happened s (event.Send octets at) (answer.Sent number) n) turns s t m refl (ap (λ u. u.core.nodes) step.1)
    (subst (λ x. s.core.time ≤ x) (sym (ap (λ u. u.core.time) step.1)) (le-max_left s.core.time at))
made_step turns s t (event.Send octets at) (answer.Ticked sources nodes proxies life) n m step = absurd step
made_step turns s t (event.Send octets at) (answer.Taken given) n m step = absurd step
made_step turns s t (event.Tick at) answer.Own n m step = absurd step
made_step turns s t (event.Tick at) (answer.Passed outlets) n m step = absurd step
made_step turns s t (event.Tick at) (answer.Sent number) n m step = absurd step
made_step turns s t (event.Tick at) (answer.Ticked sources nodes proxies life) n m step =
    pruned (is_due s.core.life_at (time_at s at)) turns s t (answer.Ticked sources nodes proxies life) n at m refl (ap (λ u. u.core) step.4)
made_step turns s t (event.Tick at) (answer.Taken given) n m step = absurd step
made_step turns s t (event.Take port) answer.Own n m step = absurd step
made_step turns s t (event.Take port) (answer.Passed outlets) n m step = absurd step
made_step turns s t (event.Take port) (answer.Sent number) n m step = absurd step
made_step turns s t (event.Take port) (answer.Ticked sources nodes proxies life) n m step = absurd step
made_step turns s t (event.Take port) (answer.Taken given) n m step =
    left (happened s (event.Take port) (answer.Taken given) n) turns s t m refl (ap (λ u. u.core.nodes) step.1)
    (subst (λ x. s.core.time ≤ x) (sym (ap (λ u. u.core.time) step.1)) (omega arith))

pub made : (origin : Origin) (turns : List Turn) (t : State) → RunFrom origin turns t → Made turns t
made origin [] t run = record { all = []; happen = refl; table = ap (λ u. u.core.nodes) (begins_there origin t run) ∙ first_nodes origin; order = tt }
made origin (happened s e a n ∷ turns) t run = made_step turns s t e a n (made origin turns s run.0) run.2
made origin (swapped s r ∷ turns) t run =
    left (swapped s r) turns s t (made origin turns s run.0) refl (ap (λ u. u.core.nodes) run.2)
    (subst (λ x. s.core.time ≤ x) (sym (ap (λ u. u.core.time) run.2)) (omega arith))

pub tells_lem : StatusIsOfHearings → HasIsOfHearings → TellsWhatItHeard
tells_lem status has origin turns t run =
    let m = made origin turns t run in
    let now = t.core.time in (
      m.all,
      m.happen,
      λ mac. (
        ap (λ u. status_at u mac now) m.table ∙ status m.all now mac m.order,
        ap (λ u. has_at u mac now) m.table ∙ has m.all now mac m.order,
      ),
    )

-- a list of octets says one thing at most
abbrev AreUnique : Type 0
AreUnique = (octets : List ℕ) (s t : Supervision) → IsSupervision octets s → IsSupervision octets t → s ≡ t

says_one : AreUnique → (p : ParcelImage) (x y : Option Supervision) → SaysOf p x → SaysOf p y → x ≡ y
says_one unique p None None h k = refl
says_one unique p None (Some t) h k = absurd (h t k)
says_one unique p (Some s) None h k = absurd (k s h)
says_one unique p (Some s) (Some t) h k = ap Some (unique (plain_of p) s t h k)

happens_one : AreUnique → (turn : Turn) (before all others : List Event) → Happens turn before all → Happens turn before others → all ≡ others
happens_one unique (happened s (event.Arrive port p at) (answer.Passed outlets) n) before all others h k =
    let now = time_at s at in
    h.2 ∙ ap (λ said. after_frame s.role port p said now before) (says_one unique p h.0 k.0 h.1 k.1) ∙ sym k.2
happens_one unique (happened s (event.Arrive port p at) answer.Own n) before all others h k = h ∙ sym k
happens_one unique (happened s (event.Arrive port p at) (answer.Sent number) n) before all others h k = absurd h
happens_one unique (happened s (event.Arrive port p at) (answer.Ticked sources nodes proxies life) n) before all others h k = absurd h
happens_one unique (happened s (event.Arrive port p at) (answer.Taken given) n) before all others h k = absurd h
happens_one unique (happened s (event.Send octets at) a n) before all others h k = h ∙ sym k
happens_one unique (happened s (event.Tick at) a n) before all others h k = h ∙ sym k
happens_one unique (happened s (event.Take port) a n) before all others h k = h ∙ sym k
happens_one unique (swapped s r) before all others h k = h ∙ sym k

pub one_way_lem : AreUnique → HappensOneWay
one_way_lem unique [] all others h k = h ∙ sym k
one_way_lem unique (turn ∷ turns) all others h k =
    let same : h.0 ≡ k.0 = one_way_lem unique turns h.0 k.0 h.1 k.1 in
    happens_one unique turn k.0 all others (subst (λ before. Happens turn before all) same h.2) k.2
