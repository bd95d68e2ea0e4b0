-- What stays over a run of a node: its address, its next number, and that its table took what the run noted.
use Rattle.std.proofs.Common.{◌≡◌, ℕ, ◌+◌, ◌%◌, ◌≤◌, Bool, true, false, ◌&&◌, not, List, [], ◌∷◌, ◌++◌, Option, None, Some, ℤ, refl, sym, ap, ◌∙◌, subst, arith, if◌then◌else◌}
use Rattle.std.proofs.Math.Nat.{le-max_left}
use Rattle.sr_frame.specs.declared.fields.Mac.{Mac}
use Rattle.sr_frame.specs.declared.ports.Port.{Port}
use Rattle.sr_frame.specs.declared.ports.Port.TheVariants.{H, A, B, C}
use Rattle.sr_sequence.specs.declared.Seq.{Seq}
use Rattle.sr_dup_table.specs.Sources.{arrive_answer, after_arrive, live_at}
use Rattle.sr_laws_dup.specs.TableRuns.{Noting, TableTurn, TableRun, AreInOrder, notings_of, latest}
use Rattle.sr_laws_dup.specs.TableRuns as table
use Rattle.sr_forwarding.specs.declared.outlets.Outlets.{Outlets}
use Rattle.sr_forwarding.specs.Parcels.{ParcelImage}
use Rattle.sr_forwarding.specs.Headers.{header_of}
use Rattle.sr_forwarding.specs.KindLemmas.{learned_keeps}
use Rattle.sr_supervision.specs.declared.message.Supervision.{Supervision}
use Rattle.sr_node.specs.declared.event.Event.{Event}
use Rattle.sr_node.specs.declared.event.Event.TheVariants as event
use Rattle.sr_node.specs.declared.event.Answer.{Answer}
use Rattle.sr_node.specs.declared.event.Answer.TheVariants as answer
use Rattle.sr_node.specs.Limits.{first_number}
use Rattle.sr_node.specs.Images.{State, time_at, after}
use Rattle.sr_node.specs.declared.mode.Mode.{Mode}
use Rattle.sr_node.specs.Lanes.{lanes_noted, new_outlets, sources_after}
use Rattle.sr_node.specs.Hearing.{SaysOf}
use Rattle.sr_node.specs.LifeChecks.{is_due}
use Rattle.sr_node.specs.Arriving.{is_own, is_plain_at_interlink, going_on, number_at, next_at, wanted_at, header_at, goes, passed, PassedTo, arrive_refusal}
use Rattle.sr_node.specs.Ticking.{after_tick}
use Rattle.sr_node.specs.Steps.{Step, refusal_of}
use Rattle.sr_laws_node.specs.Origins.{Origin, first_state}
use Rattle.sr_laws_node.specs.NodeRuns.{Turn, happened, swapped, RunFrom}
use Rattle.sr_laws_node.specs.Brought.{given, gives_number, one_if, next_number, whole_number, number_if, arrival_brings, is_at}
use Rattle.sr_laws_node.specs.SteadyNodes.{IsCarried, IsCarriedUnless, IsNumbered, AreNumbered}
use Rattle.sr_laws_node.proofs.NotingLemmas.{KeepAddress, KeepMode, notings, noted_of, noting_if}
use Rattle.sr_laws_node.proofs.OriginLemmas.{begins_there, first_next}
use Rattle.sr_laws_node.proofs.OutletLemmas.{answered, noted_somewhere}

-- the state after an arrival that is not the node's own
pub record PassedBy (s : State) (port : Port) (p : ParcelImage) (now : ℕ) (t : State) : Type 0 where
  pub other : is_own s p ≡ false
  pub outlets : Outlets
  pub goes : goes s port p now ≡ Some outlets
  pub said : Option Supervision
  pub says : SaysOf p said
  pub after : t ≡ passed s port (going_on s port p) (next_at s.core.next port p) now outlets said

pub passed_by : (s : State) (port : Port) (p : ParcelImage) (now : ℕ) (answered : List Port) (t : State) → is_own s p ≡ false → PassedTo s port p now (goes s port p now) answered t → PassedBy s port p now t
passed_by s port p now answered t other to = by (goes s port p now) refl to
  where
    by : (o : Option Outlets) → goes s port p now ≡ o → PassedTo s port p now o answered t → PassedBy s port p now t
    by None e to = absurd to
    by (Some outlets) e to = record { other = other; outlets = outlets; goes = e; said = to.0; says = to.1; after = to.3 }

-- the address stays, and the next number counts those that were given
pub record IsKept (address : Mac) (count : ℕ) (t : State) : Type 0 where
  pub mac : t.role.mac ≡ address
  pub next : t.core.next.0 ≡ (first_number + count) % 65536

one_more : (m count : ℕ) → m ≡ (first_number + count) % 65536 → (m + 1) % 65536 ≡ (first_number + (count + 1)) % 65536
one_more m count e = omega (arith, e)

kept_number : (gives : Bool) (own : Bool) (s : State) (port : Port) (p : ParcelImage) (mac : Mac) (count : ℕ) → own ≡ false → is_plain_at_interlink port p.form ≡ gives → s.core.next.0 ≡ (first_number + count) % 65536
    → (next_at s.core.next port p).0 ≡ (first_number + (count + one_if (not own && is_plain_at_interlink port p.form))) % 65536
kept_number true own s port p mac count not_own e next =
    ap (λ b. (if b then after s.core.next else s.core.next).0) e
    ∙ one_more s.core.next.0 count next
    ∙ ap (λ b. (first_number + (count + one_if (not b && true))) % 65536) (sym not_own)
    ∙ ap (λ b. (first_number + (count + one_if (not own && b))) % 65536) (sym e)
kept_number false own s port p mac count not_own e next =
    ap (λ b. (if b then after s.core.next else s.core.next).0) e
    ∙ next
    ∙ ap (λ c. (first_number + c) % 65536) (omega arith)
    ∙ ap (λ b. (first_number + (count + one_if (not b && false))) % 65536) (sym not_own)
    ∙ ap (λ b. (first_number + (count + one_if (not own && b))) % 65536) (sym e)

kept_tick : (due : Bool) (s : State) (now : ℕ) (count : ℕ) → is_due s.core.life_at now ≡ due → s.core.next.0 ≡ (first_number + count) % 65536 → (after_tick s now).next.0 ≡ (first_number + (count + one_if (is_due s.core.life_at now))) % 65536
kept_tick true s now count e next =
    let gone : (after_tick s now).next.0 ≡ (s.core.next.0 + 1) % 65536 = rw e refl in
    gone ∙ one_more s.core.next.0 count next ∙ ap (λ b. (first_number + (count + one_if b)) % 65536) (sym e)
kept_tick false s now count e next =
    let gone : (after_tick s now).next.0 ≡ s.core.next.0 = rw e refl in
    gone ∙ next ∙ ap (λ c. (first_number + c) % 65536) (omega arith) ∙ ap (λ b. (first_number + (count + one_if b)) % 65536) (sym e)

none_more : (m count : ℕ) → m ≡ (first_number + count) % 65536 → m ≡ (first_number + (count + 0)) % 65536
none_more m count e = omega (arith, e)

kept_step : (s t : State) (e : Event) (a : Answer) (mac : Mac) (count : ℕ) → IsKept mac count s → Step s e a t → IsKept mac (count + one_if (gives_number s e)) t
kept_step s t (event.Arrive port p now) answer.Own mac count k step =
    record {
      mac = ap (λ u. u.role.mac) step.1 ∙ k.mac;
      next = ap (λ u. u.core.next.0) step.1 ∙ none_more s.core.next.0 count k.next ∙ ap (λ b. (first_number + (count + one_if (not b && is_plain_at_interlink port p.form))) % 65536) (sym step.0);
    }
kept_step s t (event.Arrive port p now) (answer.Passed outlets) mac count k step =
    let q = passed_by s port p (time_at s now) outlets t step.0 step.1 in
    record {
      mac = ap (λ u. u.role.mac) q.after ∙ (learned_keeps s.role (header_at s (going_on s port p) (time_at s now)) port (time_at s now)).1 ∙ k.mac;
      next = ap (λ u. u.core.next.0) q.after ∙ kept_number (is_plain_at_interlink port p.form) (is_own s p) s port p mac count step.0 refl k.next;
    }
kept_step s t (event.Arrive port p now) (answer.Sent number) mac count k step = absurd step
kept_step s t (event.Arrive port p now) (answer.Ticked sources nodes proxies life) mac count k step = absurd step
kept_step s t (event.Arrive port p now) (answer.Taken given) mac count k step = absurd step
kept_step s t (event.Send octets now) answer.Own mac count k step = absurd step
kept_step s t (event.Send octets now) (answer.Passed outlets) mac count k step = absurd step
kept_step s t (event.Send octets now) (answer.Sent number) mac count k step =
    record { mac = ap (λ u. u.role.mac) step.1 ∙ k.mac; next = ap (λ u. u.core.next.0) step.1 ∙ one_more s.core.next.0 count k.next }
kept_step s t (event.Send octets now) (answer.Ticked sources nodes proxies life) mac count k step = absurd step
kept_step s t (event.Send octets now) (answer.Taken given) mac count k step = absurd step
kept_step s t (event.Tick now) answer.Own mac count k step = absurd step
kept_step s t (event.Tick now) (answer.Passed outlets) mac count k step = absurd step
kept_step s t (event.Tick now) (answer.Sent number) mac count k step = absurd step
kept_step s t (event.Tick now) (answer.Ticked sources nodes proxies life) mac count k step =
    record { mac = ap (λ u. u.role.mac) step.4 ∙ k.mac; next = ap (λ u. u.core.next.0) step.4 ∙ kept_tick (is_due s.core.life_at (time_at s now)) s (time_at s now) count refl k.next }
kept_step s t (event.Tick now) (answer.Taken given) mac count k step = absurd step
kept_step s t (event.Take port) answer.Own mac count k step = absurd step
kept_step s t (event.Take port) (answer.Passed outlets) mac count k step = absurd step
kept_step s t (event.Take port) (answer.Sent number) mac count k step = absurd step
kept_step s t (event.Take port) (answer.Ticked sources nodes proxies life) mac count k step = absurd step
kept_step s t (event.Take port) (answer.Taken given) mac count k step =
    record { mac = ap (λ u. u.role.mac) step.1 ∙ k.mac; next = ap (λ u. u.core.next.0) step.1 ∙ none_more s.core.next.0 count k.next }

pub kept : (origin : Origin) (turns : List Turn) (t : State) → RunFrom origin turns t → IsKept (first_state origin).role.mac (given turns) t
kept origin [] t run =
    let there = begins_there origin t run in
    record { mac = ap (λ u. u.role.mac) there; next = ap (λ u. u.core.next.0) there ∙ first_next origin }
kept origin (happened s e a n ∷ before) t run = kept_step s t e a (first_state origin).role.mac (given before) (kept origin before s run.0) run.2
kept origin (swapped s r ∷ before) t run =
    let k = kept origin before s run.0 in
    record { mac = ap (λ u. u.role.mac) run.2 ∙ run.1 ∙ k.mac; next = ap (λ u. u.core.next.0) run.2 ∙ k.next }

pub keeps_address : (origin : Origin) (turns : List Turn) (t : State) → RunFrom origin turns t → KeepAddress (first_state origin).role.mac turns
keeps_address origin [] t run = tt
keeps_address origin (happened s e a n ∷ before) t run = (keeps_address origin before s run.0, (kept origin before s run.0).mac)
keeps_address origin (swapped s r ∷ before) t run = keeps_address origin before s run.0

-- what a node was told: its mode and its width
abbrev told : State → Mode × ℕ
told s = (s.core.mode, s.core.width)

-- no event changes it
tick_told : (due : Bool) (s : State) (now : ℕ) → is_due s.core.life_at now ≡ due → told (record s { core = after_tick s now }) ≡ told s
tick_told true s now e = rw e refl
tick_told false s now e = rw e refl

told_step : (s t : State) (e : Event) (a : Answer) → Step s e a t → told t ≡ told s
told_step s t (event.Arrive port p now) answer.Own step = ap told step.1
told_step s t (event.Arrive port p now) (answer.Passed outlets) step = ap told (passed_by s port p (time_at s now) outlets t step.0 step.1).after
told_step s t (event.Arrive port p now) (answer.Sent number) step = absurd step
told_step s t (event.Arrive port p now) (answer.Ticked sources nodes proxies life) step = absurd step
told_step s t (event.Arrive port p now) (answer.Taken given) step = absurd step
told_step s t (event.Send octets now) answer.Own step = absurd step
told_step s t (event.Send octets now) (answer.Passed outlets) step = absurd step
told_step s t (event.Send octets now) (answer.Sent number) step = ap told step.1
told_step s t (event.Send octets now) (answer.Ticked sources nodes proxies life) step = absurd step
told_step s t (event.Send octets now) (answer.Taken given) step = absurd step
told_step s t (event.Tick now) answer.Own step = absurd step
told_step s t (event.Tick now) (answer.Passed outlets) step = absurd step
told_step s t (event.Tick now) (answer.Sent number) step = absurd step
told_step s t (event.Tick now) (answer.Ticked sources nodes proxies life) step =
    ap told step.4 ∙ tick_told (is_due s.core.life_at (time_at s now)) s (time_at s now) refl
told_step s t (event.Tick now) (answer.Taken given) step = absurd step
told_step s t (event.Take port) answer.Own step = absurd step
told_step s t (event.Take port) (answer.Passed outlets) step = absurd step
told_step s t (event.Take port) (answer.Sent number) step = absurd step
told_step s t (event.Take port) (answer.Ticked sources nodes proxies life) step = absurd step
told_step s t (event.Take port) (answer.Taken given) step = ap told step.1

told_kept : (origin : Origin) (turns : List Turn) (t : State) → RunFrom origin turns t → told t ≡ told (first_state origin)
told_kept origin [] t run = ap told (begins_there origin t run)
told_kept origin (happened s e a n ∷ before) t run = told_step s t e a run.2 ∙ told_kept origin before s run.0
told_kept origin (swapped s r ∷ before) t run = ap told run.2 ∙ told_kept origin before s run.0

pub mode_kept : (origin : Origin) (turns : List Turn) (t : State) → RunFrom origin turns t → t.core.mode ≡ (first_state origin).core.mode
mode_kept origin turns t run = ap (λ (m : Mode × ℕ). m.0) (told_kept origin turns t run)

pub width_kept : (origin : Origin) (turns : List Turn) (t : State) → RunFrom origin turns t → t.core.width ≡ (first_state origin).core.width
width_kept origin turns t run = ap (λ (m : Mode × ℕ). m.1) (told_kept origin turns t run)

pub keeps_mode : (origin : Origin) (turns : List Turn) (t : State) → RunFrom origin turns t → KeepMode (first_state origin).core.mode turns
keeps_mode origin [] t run = tt
keeps_mode origin (happened s e a n ∷ before) t run = (keeps_mode origin before s run.0, mode_kept origin before s run.0)
keeps_mode origin (swapped s r ∷ before) t run = keeps_mode origin before s run.0

-- the table of a state, which has the width of the first state and began with its sources and time, took what the run noted
pub record Behind (first : State) (turns : List Turn) (t : State) : Type 0 where
  pub took : List TableTurn
  pub run : TableRun first.core.width first.core.sources took t.core.sources
  pub order : AreInOrder first.core.time took
  pub last : latest first.core.time took ≤ t.core.time
  pub same : notings_of [] took ≡ notings turns

-- an arrival with a number in the whole numbers
pub carried_here : (before : List Turn) (s : State) (port : Port) (p : ParcelImage) (n : ℤ) → s.core.next.0 ≡ (first_number + given before) % 65536 → IsCarriedUnless (is_plain_at_interlink port p.form) n p.seq
    → IsCarried (whole_number before port p n) (number_at s.core.next port p)
carried_here before s port p n next h = by (is_plain_at_interlink port p.form) h
  where
    by : (b : Bool) → IsCarriedUnless b n p.seq → IsCarried (if b then next_number before else n) (if b then Some s.core.next else p.seq)
    by true h = next
    by false h = h

-- nothing comes in from the host's side
pub not_from_host : (s : State) (port : Port) (p : ParcelImage) (now : ℕ) → arrive_refusal s port p now ≡ None → is_at H port ≡ false
not_from_host s H p now h = absurd (cc)
not_from_host s A p now h = refl
not_from_host s B p now h = refl
not_from_host s C p now h = refl

-- the state after a frame with or without a number, under plain variables
numbered_behind : (m : Mode) (first : State) (before : List Turn) (s t : State) (port : Port) (src : Mac) (seq : Option Seq) (number : ℤ) (wanted outlets : Outlets) (now : ℕ) → is_at H port ≡ false → s.core.time ≤ now → IsCarried number seq
    → new_outlets m first.core.width s.core.sources port src seq wanted now ≡ Some outlets
    → (turns : List Turn) → notings turns ≡ noting_if src (number_if seq number) now (lanes_noted port wanted) ++ notings before
    → t.core.sources ≡ sources_after first.core.width s.core.sources port src seq wanted now → t.core.time ≡ now
    → Behind first before s → Behind first turns t
numbered_behind m first before s t port src None number wanted outlets now other le carried goes turns notes sources time b = record {
  took = b.took;
  run = subst (λ x. TableRun first.core.width first.core.sources b.took x) (sym sources) b.run;
  order = b.order;
  last = omega (arith, b.last, le, time);
  same = b.same ∙ sym notes;
}
numbered_behind m first before s t port src (Some seq) number wanted outlets now other le carried goes turns notes sources time b =
    let a = answered m first.core.width s.core.sources port src seq wanted now outlets goes in
    let x : Noting = record { arrival = record { src = src; number = number; time = now }; lanes = lanes_noted port wanted } in
    let takes : table.Takes first.core.width s.core.sources (table.arrived x a.own) t.core.sources = (
      noted_somewhere port wanted other,
      subst (λ n. arrive_answer first.core.width s.core.sources src n (lanes_noted port wanted) now ≡ Some a.own) carried a.noted,
      sources ∙ ap (λ n. after_arrive first.core.width s.core.sources src n (lanes_noted port wanted) now) carried,
    ) in
    record {
      took = table.arrived x a.own ∷ b.took;
      run = (s.core.sources, b.run, takes);
      order = (b.order, omega (arith, b.last, le));
      last = omega (arith, time);
      same = ap (λ xs. x ∷ xs) b.same ∙ sym notes;
    }

if_other : (own : Bool) (xs ys : List Noting) → own ≡ false → ((if own then [] else xs) ++ ys) ≡ xs ++ ys
if_other own xs ys e = ap (λ b. (if b then [] else xs) ++ ys) e

if_mine : (own : Bool) (xs ys : List Noting) → own ≡ true → ((if own then [] else xs) ++ ys) ≡ ys
if_mine own xs ys e = ap (λ b. (if b then [] else xs) ++ ys) e

-- a turn that leaves the table and what was noted
pub stay_behind : (first : State) (before turns : List Turn) (s t : State) → t.core.sources ≡ s.core.sources → s.core.time ≤ t.core.time → notings turns ≡ notings before → Behind first before s → Behind first turns t
stay_behind first before turns s t sources time notes b = record {
  took = b.took;
  run = subst (λ x. TableRun first.core.width first.core.sources b.took x) (sym sources) b.run;
  order = b.order;
  last = omega (arith, b.last, time);
  same = b.same ∙ sym notes;
}

aged_behind : (first : State) (due : Bool) (before turns : List Turn) (s t : State) (now : ℕ) → is_due s.core.life_at now ≡ due → s.core.time ≤ now → t.core ≡ after_tick s now → notings turns ≡ notings before → Behind first before s → Behind first turns t
aged_behind first true before turns s t now e le core notes b =
    let sources : t.core.sources ≡ live_at now s.core.sources = ap (λ c. c.sources) core ∙ rw e refl in
    let time : t.core.time ≡ now = ap (λ c. c.time) core ∙ rw e refl in
    record {
      took = table.aged now ∷ b.took;
      run = (s.core.sources, b.run, sources);
      order = (b.order, omega (arith, b.last, le));
      last = omega (arith, time);
      same = b.same ∙ sym notes;
    }
aged_behind first false before turns s t now e le core notes b =
    let sources : t.core.sources ≡ live_at now s.core.sources = ap (λ c. c.sources) core ∙ rw e refl in
    let time : t.core.time ≡ now = ap (λ c. c.time) core ∙ rw e refl in
    record {
      took = table.aged now ∷ b.took;
      run = (s.core.sources, b.run, sources);
      order = (b.order, omega (arith, b.last, le));
      last = omega (arith, time);
      same = b.same ∙ sym notes;
    }

behind_step : (first : State) (before : List Turn) (s t : State) (e : Event) (a : Answer) (n : ℤ) → s.core.width ≡ first.core.width → s.core.next.0 ≡ (first_number + given before) % 65536 → refusal_of s e ≡ None → IsNumbered n e → Step s e a t → Behind first before s → Behind first (happened s e a n ∷ before) t
behind_step first before s t (event.Arrive port p now) answer.Own n wide next taken numbered step b =
    stay_behind first before (happened s (event.Arrive port p now) answer.Own n ∷ before) s t
    (ap (λ u. u.core.sources) step.1)
    (subst (λ x. s.core.time ≤ x) (sym (ap (λ u. u.core.time) step.1)) (le-max_left s.core.time now))
    (if_mine (is_own s p) (noted_of port (arrival_brings before s port p (time_at s now) n) (time_at s now)) (notings before) step.0)
    b
behind_step first before s t (event.Arrive port p now) (answer.Passed outlets) n wide next taken numbered step b =
    let at = time_at s now in
    let q = passed_by s port p at outlets t step.0 step.1 in
    let g = going_on s port p in
    numbered_behind s.core.mode first before s t port (header_of g).src g.seq (whole_number before port p n) (wanted_at s port g at) q.outlets at (not_from_host s port p at taken) (le-max_left s.core.time now)
    (carried_here before s port p n next numbered)
    (subst (λ x. new_outlets s.core.mode x s.core.sources port (header_of g).src g.seq (wanted_at s port g at) at ≡ Some q.outlets) wide q.goes)
    (happened s (event.Arrive port p now) (answer.Passed outlets) n ∷ before)
    (if_other (is_own s p) (noted_of port (arrival_brings before s port p at n) at) (notings before) step.0)
    (subst (λ x. t.core.sources ≡ sources_after x s.core.sources port (header_of g).src g.seq (wanted_at s port g at) at) wide (ap (λ u. u.core.sources) q.after))
    (ap (λ u. u.core.time) q.after)
    b
behind_step first before s t (event.Arrive port p now) (answer.Sent number) n wide next taken numbered step b = absurd step
behind_step first before s t (event.Arrive port p now) (answer.Ticked sources nodes proxies life) n wide next taken numbered step b = absurd step
behind_step first before s t (event.Arrive port p now) (answer.Taken given) n wide next taken numbered step b = absurd step
behind_step first before s t (event.Send octets now) answer.Own n wide next taken numbered step b = absurd step
behind_step first before s t (event.Send octets now) (answer.Passed outlets) n wide next taken numbered step b = absurd step
behind_step first before s t (event.Send octets now) (answer.Sent number) n wide next taken numbered step b =
    stay_behind first before (happened s (event.Send octets now) (answer.Sent number) n ∷ before) s t
    (ap (λ u. u.core.sources) step.1)
    (subst (λ x. s.core.time ≤ x) (sym (ap (λ u. u.core.time) step.1)) (le-max_left s.core.time now))
    refl b
behind_step first before s t (event.Send octets now) (answer.Ticked sources nodes proxies life) n wide next taken numbered step b = absurd step
behind_step first before s t (event.Send octets now) (answer.Taken given) n wide next taken numbered step b = absurd step
behind_step first before s t (event.Tick now) answer.Own n wide next taken numbered step b = absurd step
behind_step first before s t (event.Tick now) (answer.Passed outlets) n wide next taken numbered step b = absurd step
behind_step first before s t (event.Tick now) (answer.Sent number) n wide next taken numbered step b = absurd step
behind_step first before s t (event.Tick now) (answer.Ticked sources nodes proxies life) n wide next taken numbered step b =
    aged_behind first (is_due s.core.life_at (time_at s now)) before (happened s (event.Tick now) (answer.Ticked sources nodes proxies life) n ∷ before) s t (time_at s now)
    refl (le-max_left s.core.time now) (ap (λ u. u.core) step.4) refl b
behind_step first before s t (event.Tick now) (answer.Taken given) n wide next taken numbered step b = absurd step
behind_step first before s t (event.Take port) answer.Own n wide next taken numbered step b = absurd step
behind_step first before s t (event.Take port) (answer.Passed outlets) n wide next taken numbered step b = absurd step
behind_step first before s t (event.Take port) (answer.Sent number) n wide next taken numbered step b = absurd step
behind_step first before s t (event.Take port) (answer.Ticked sources nodes proxies life) n wide next taken numbered step b = absurd step
behind_step first before s t (event.Take port) (answer.Taken given) n wide next taken numbered step b =
    stay_behind first before (happened s (event.Take port) (answer.Taken given) n ∷ before) s t
    (ap (λ u. u.core.sources) step.1)
    (subst (λ x. s.core.time ≤ x) (sym (ap (λ u. u.core.time) step.1)) (omega arith))
    refl b

-- in every run under numbers, the table took what the run noted
pub behind : (origin : Origin) (turns : List Turn) (t : State) → RunFrom origin turns t → AreNumbered turns → Behind (first_state origin) turns t
behind origin [] t run numbered =
    let there = begins_there origin t run in
    record {
      took = [];
      run = ap (λ u. u.core.sources) there;
      order = tt;
      last = omega (arith, ap (λ u. u.core.time) there);
      same = refl;
    }
behind origin (happened s e a n ∷ before) t run numbered =
    behind_step (first_state origin) before s t e a n (width_kept origin before s run.0) (kept origin before s run.0).next run.1 numbered.1 run.2 (behind origin before s run.0 numbered.0)
behind origin (swapped s r ∷ before) t run numbered =
    stay_behind (first_state origin) before (swapped s r ∷ before) s t (ap (λ u. u.core.sources) run.2) (subst (λ x. s.core.time ≤ x) (sym (ap (λ u. u.core.time) run.2)) (omega arith)) refl (behind origin before s run.0 numbered)
