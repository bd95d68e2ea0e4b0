-- What a node of a plant does with one event, where nothing waited in it.
use Rattle.std.proofs.Common.{if◌then◌else◌, ◌≡◌, ◌⊎◌, inl, inr, ℕ, Bool, true, false, nat_lt, List, length, Option, None, Some, refl, sym, ap, ◌∙◌, subst}
use Rattle.std.specs.Option.{option_map}
use Rattle.sr_frame.specs.Addresses.{mac_eq}
use Rattle.sr_frame.specs.Frame.{least_len}
use Rattle.sr_frame.specs.declared.fields.Mac.{Mac}
use Rattle.sr_frame.specs.declared.ports.Port.{Port}
use Rattle.sr_frame.specs.declared.ports.Port.TheVariants.{H, A, B, C}
use Rattle.sr_sequence.specs.declared.Seq.{Seq}
use Rattle.sr_dup_window.specs.declared.lane_sets.Lanes.{Lanes}
use Rattle.sr_dup_table.specs.Sources.{Sources, live_at, arrive_answer, after_arrive}
use Rattle.sr_forwarding.specs.declared.outlets.Outlets.{Outlets}
use Rattle.sr_forwarding.specs.Outlets.{has}
use Rattle.sr_forwarding.specs.Octets.{src_in}
use Rattle.sr_forwarding.specs.Parcels.{ParcelImage, plain_parcel}
use Rattle.sr_forwarding.specs.Headers.{header_of}
use Rattle.sr_forwarding.specs.KindLemmas.{learned_keeps}
use Rattle.sr_node.specs.declared.event.Answer.{Answer}
use Rattle.sr_node.specs.declared.event.Answer.TheVariants as answer
use Rattle.sr_node.specs.Outboxes.{boxes_empty}
use Rattle.sr_node.specs.Copies.{put_at}
use Rattle.sr_node.specs.declared.mode.Mode.{Mode}
use Rattle.sr_node.specs.Lanes.{lanes_noted, lanes_asked, outlets_on, new_outlets, sources_after}
use Rattle.sr_node.specs.LifeChecks.{is_due, life_says}
use Rattle.sr_node.specs.Images.{State, after}
use Rattle.sr_node.specs.Arriving.{is_plain, Arrived, PassedTo, goes, going_on, header_at, wanted_at, next_at, new_at, passed}
use Rattle.sr_node.specs.Sending.{SentAs, send_refusal, send_outlets, sent_parcel}
use Rattle.sr_node.specs.Ticking.{TickedAs, after_tick, aged, life_checked, next_life_check, life_header, life_outlets}
use Rattle.sr_supervision.specs.Written.{written}
use Rattle.sr_plant.specs.Plants.{IsEmptied}
use Rattle.sr_laws_plant_runs.specs.Histories.{is_outlet}
use Rattle.sr_laws_plant_runs.proofs.WireLemmas.{IsNetworked}
use Rattle.sr_laws_plant_runs.proofs.RouteLemmas.{host_routes}

-- the node is as it was, but for time, table, numbers and what waits
pub record IsSame (s : State) (now : ℕ) (u : State) : Type 0 where
  pub kind : u.role.kind ≡ s.role.kind
  pub mac : u.role.mac ≡ s.role.mac
  pub mode : u.core.mode ≡ s.core.mode
  pub width : u.core.width ≡ s.core.width
  pub time : u.core.time ≡ now

-- a frame of the node goes out at each outlet under its next number
pub record PutsOut (s : State) (frame : List ℕ) (u : State) : Type 0 where
  pub outlets : Outlets
  pub each : (o : Port) → has outlets o ≡ is_outlet o s.role.kind
  pub out : u.core.out ≡ put_at boxes_empty outlets (plain_parcel frame (Some s.core.next))
  pub next : u.core.next ≡ after s.core.next

-- nothing goes out
pub record IsIdle (s u : State) : Type 0 where
  pub out : u.core.out ≡ boxes_empty
  pub next : u.core.next ≡ s.core.next

-- what a host sends
pub record HostSends (s : State) (frame : List ℕ) (now : ℕ) (u : State) : Type 0 where
  pub same : IsSame s now u
  pub puts : PutsOut s frame u
  pub sources : u.core.sources ≡ s.core.sources

pub host_sends : (s : State) (frame : List ℕ) (now : ℕ) (a : Answer) (u : State) → IsNetworked s.role.kind → IsEmptied s → SentAs s frame now a u → HostSends s frame now u
host_sends s frame now (answer.Sent number) u kind empty step = record {
  same = record { kind = ap (λ x. x.role.kind) step.1; mac = ap (λ x. x.role.mac) step.1; mode = ap (λ x. x.core.mode) step.1; width = ap (λ x. x.core.width) step.1; time = ap (λ x. x.core.time) step.1 };
  puts = record {
    outlets = send_outlets s frame now;
    each = host_routes s.role _ now kind;
    out = ap (λ x. x.core.out) step.1 ∙ ap (λ o. put_at o (send_outlets s frame now) (sent_parcel s frame)) empty;
    next = ap (λ x. x.core.next) step.1;
  };
  sources = ap (λ x. x.core.sources) step.1;
}
host_sends s frame now answer.Own u kind empty step = absurd step
host_sends s frame now (answer.Passed outlets) u kind empty step = absurd step
host_sends s frame now (answer.Ticked sources nodes proxies life) u kind empty step = absurd step
host_sends s frame now (answer.Taken given) u kind empty step = absurd step

-- what is sent is long enough, and the node's own
pub record IsFit (s : State) (frame : List ℕ) : Type 0 where
  pub least : nat_lt (length frame) (least_len frame) ≡ false
  pub most : nat_lt 1518 (length frame) ≡ false
  pub own : mac_eq (src_in frame) s.role.mac ≡ true

pub sent_is_fit : (s : State) (frame : List ℕ) (now : ℕ) → send_refusal s frame now ≡ None → IsFit s frame
sent_is_fit s frame now none = by (nat_lt (length frame) (least_len frame)) (nat_lt 1518 (length frame)) (mac_eq (src_in frame) s.role.mac) refl refl refl
  where
    by : (short long own : Bool) → nat_lt (length frame) (least_len frame) ≡ short → nat_lt 1518 (length frame) ≡ long → mac_eq (src_in frame) s.role.mac ≡ own → IsFit s frame
    by true long own e f g = let no = rw e at none in absurd cc
    by false true own e f g = let no = rw (e, f) at none in absurd cc
    by false false false e f g = let no = rw (e, f, g) at none in absurd cc
    by false false true e f g = record { least = e; most = f; own = g }

-- what a tick does
abbrev pub life_frame : State → List ℕ
life_frame s = written (life_says s.role.kind s.role.mac s.core.next_life)

pub record Ticks (s : State) (now : ℕ) (u : State) : Type 0 where
  pub same : IsSame s now u
  pub puts : ((is_due s.core.life_at now ≡ true) × PutsOut s (life_frame s) u) ⊎ ((is_due s.core.life_at now ≡ false) × IsIdle s u)
  pub sources : u.core.sources ≡ live_at now s.core.sources

pub node_ticks : (s : State) (now : ℕ) (a : Answer) (u : State) → IsNetworked s.role.kind → IsEmptied s → TickedAs s now a u → Ticks s now u
node_ticks s now (answer.Ticked sources nodes proxies life) u kind empty step = by (is_due s.core.life_at now) refl
  where
    core : u.core ≡ after_tick s now
    core = ap (λ x. x.core) step.4

    by : (due : Bool) → is_due s.core.life_at now ≡ due → Ticks s now u
    by true e =
        let c : u.core ≡ aged (life_checked s now) now = core ∙ rw e refl in
        record {
          same = record { kind = ap (λ x. x.role.kind) step.4; mac = ap (λ x. x.role.mac) step.4; mode = ap (λ x. x.mode) c; width = ap (λ x. x.width) c; time = ap (λ x. x.time) c };
          puts = inl (
            e,
            record {
              outlets = life_outlets s now;
              each = host_routes s.role (life_header s now) now kind;
              out = ap (λ x. x.out) c ∙ ap (λ o. put_at o (life_outlets s now) (next_life_check s)) empty;
              next = ap (λ x. x.next) c;
            },
          );
          sources = ap (λ x. x.sources) c;
        }
    by false e =
        let c : u.core ≡ aged s.core now = core ∙ rw e refl in
        record {
          same = record { kind = ap (λ x. x.role.kind) step.4; mac = ap (λ x. x.role.mac) step.4; mode = ap (λ x. x.mode) c; width = ap (λ x. x.width) c; time = ap (λ x. x.time) c };
          puts = inr (e, record { out = ap (λ x. x.out) c ∙ empty; next = ap (λ x. x.next) c });
          sources = ap (λ x. x.sources) c;
        }
node_ticks s now answer.Own u kind empty step = absurd step
node_ticks s now (answer.Passed outlets) u kind empty step = absurd step
node_ticks s now (answer.Sent number) u kind empty step = absurd step
node_ticks s now (answer.Taken given) u kind empty step = absurd step

-- a node's own frame comes back
pub record IsBack (s : State) (p : ParcelImage) (now : ℕ) (u : State) : Type 0 where
  pub own : mac_eq (header_of p).src s.role.mac ≡ true
  pub same : IsSame s now u
  pub idle : IsIdle s u
  pub sources : u.core.sources ≡ s.core.sources

-- a frame of another is noted where it is wanted, and goes to where it is new
pub record TakesIn (s : State) (port : Port) (p : ParcelImage) (seq : Seq) (now : ℕ) (u : State) : Type 0 where
  pub other : mac_eq (header_of p).src s.role.mac ≡ false
  pub fresh : Lanes
  pub answer : arrive_answer s.core.width s.core.sources (header_of p).src seq.0 (lanes_asked s.core.mode port (wanted_at s port p now)) now ≡ Some fresh
  pub out : u.core.out ≡ put_at boxes_empty (outlets_on s.core.mode fresh (wanted_at s port p now)) p
  pub sources : u.core.sources ≡ after_arrive s.core.width s.core.sources (header_of p).src seq.0 (lanes_noted port (wanted_at s port p now)) now
  pub next : u.core.next ≡ s.core.next
  pub same : IsSame s now u

-- where a frame with a number goes, the table answered
record IsAnswered (m : Mode) (w : ℕ) (s : Sources) (port : Port) (src : Mac) (seq : Seq) (wanted : Outlets) (now : ℕ) (o : Outlets) : Type 0 where
  fresh : Lanes
  answer : arrive_answer w s src seq.0 (lanes_asked m port wanted) now ≡ Some fresh
  outlets : o ≡ outlets_on m fresh wanted

answered : (m : Mode) (w : ℕ) (s : Sources) (port : Port) (src : Mac) (number : Option Seq) (seq : Seq) (wanted : Outlets) (now : ℕ) (o : Outlets) → number ≡ Some seq → new_outlets m w s port src number wanted now ≡ Some o → IsAnswered m w s port src seq wanted now o
answered m w s port src number seq wanted now o is h =
    by (arrive_answer w s src seq.0 (lanes_asked m port wanted) now) refl (subst (λ n. new_outlets m w s port src n wanted now ≡ Some o) is h)
  where
    by : (x : Option Lanes) → arrive_answer w s src seq.0 (lanes_asked m port wanted) now ≡ x → option_map (λ fresh. outlets_on m fresh wanted) x ≡ Some o → IsAnswered m w s port src seq wanted now o
    by None e h = absurd cc
    by (Some fresh) e h =
        let same : outlets_on m fresh wanted ≡ o = cc in
        record { fresh = fresh; answer = e; outlets = sym same }

noted_after : (w : ℕ) (s : Sources) (port : Port) (src : Mac) (number : Option Seq) (seq : Seq) (wanted : Outlets) (now : ℕ) → number ≡ Some seq → sources_after w s port src number wanted now ≡ after_arrive w s src seq.0 (lanes_noted port wanted) now
noted_after w s port src number seq wanted now is = ap (λ n. sources_after w s port src n wanted now) is

-- a parcel that is not plain goes on as it came
on_as_it_came : (s : State) (port : Port) (p : ParcelImage) → is_plain p.form ≡ false → (going_on s port p ≡ p) × (next_at s.core.next port p ≡ s.core.next)
on_as_it_came s H p tagged = (refl, refl)
on_as_it_came s A p tagged = (refl, refl)
on_as_it_came s B p tagged = (refl, refl)
on_as_it_came s C p tagged = (
  ap (λ b. record p { seq = if b then Some s.core.next else p.seq }) tagged,
  ap (λ b. if b then after s.core.next else s.core.next) tagged,
)

-- what comes in with a number
pub node_takes : (s : State) (port : Port) (p : ParcelImage) (seq : Seq) (now : ℕ) (a : Answer) (u : State) → IsEmptied s → is_plain p.form ≡ false → p.seq ≡ Some seq → Arrived s port p now a u → IsBack s p now u ⊎ TakesIn s port p seq now u
node_takes s port p seq now answer.Own u empty side number came = inl (record {
  own = came.0;
  same = record { kind = ap (λ x. x.role.kind) came.1; mac = ap (λ x. x.role.mac) came.1; mode = ap (λ x. x.core.mode) came.1; width = ap (λ x. x.core.width) came.1; time = ap (λ x. x.core.time) came.1 };
  idle = record { out = ap (λ x. x.core.out) came.1 ∙ empty; next = ap (λ x. x.core.next) came.1 };
  sources = ap (λ x. x.core.sources) came.1;
})
node_takes s port p seq now (answer.Passed outlets) u empty side number came = by (goes s port p now) refl came.1
  where
    on : (going_on s port p ≡ p) × (next_at s.core.next port p ≡ s.core.next)
    on = on_as_it_came s port p side

    by : (o : Option Outlets) → goes s port p now ≡ o → PassedTo s port p now o outlets u → IsBack s p now u ⊎ TakesIn s port p seq now u
    by None e to = absurd to
    by (Some o) e to =
        let at : new_at s port p now ≡ Some o = sym (ap (λ q. new_at s port q now) on.0) ∙ e in
        let got = answered s.core.mode s.core.width s.core.sources port (header_of p).src p.seq seq (wanted_at s port p now) now o number at in
        let whole : u ≡ passed s port p s.core.next now o to.0 = to.3 ∙ ap (λ q. passed s port q (next_at s.core.next port p) now o to.0) on.0 ∙ ap (λ n. passed s port p n now o to.0) on.1 in
        let kept = learned_keeps s.role (header_at s p now) port now in
        inr (record {
          other = came.0;
          fresh = got.fresh;
          answer = got.answer;
          out = ap (λ x. x.core.out) whole ∙ ap (λ b. put_at b o p) empty ∙ ap (λ y. put_at boxes_empty y p) got.outlets;
          sources = ap (λ x. x.core.sources) whole ∙ noted_after s.core.width s.core.sources port (header_of p).src p.seq seq (wanted_at s port p now) now number;
          next = ap (λ x. x.core.next) whole;
          same = record { kind = ap (λ x. x.role.kind) whole ∙ kept.0; mac = ap (λ x. x.role.mac) whole ∙ kept.1; mode = ap (λ x. x.core.mode) whole; width = ap (λ x. x.core.width) whole; time = ap (λ x. x.core.time) whole };
        })
node_takes s port p seq now (answer.Sent number) u empty side n came = absurd came
node_takes s port p seq now (answer.Ticked sources nodes proxies life) u empty side n came = absurd came
node_takes s port p seq now (answer.Taken given) u empty side n came = absurd came
