-- What holds of every run, steady or not.
use Rattle.std.proofs.Common.{◌≡◌, ℕ, Bool, true, false, ◌||◌, ◌&&◌, List, [], ◌∷◌, ◌++◌, filter, All, Option, None, Some, ℤ, inl, inr, ◌⊎◌, refl, sym, ap, ◌∙◌, subst, append-nil, if◌then◌else◌}
use Rattle.std.specs.Prelude.{nat_lt, length}
use Rattle.std.specs.Map.{lookup}
use Rattle.std.proofs.lemmas.Bool.{cases_Bool}
use Rattle.std.proofs.lemmas.List.Elements.{All-nil, All-cons}
use Rattle.sr_frame.specs.declared.fields.Mac.{Mac}
use Rattle.sr_frame.specs.declared.ports.Port.{Port}
use Rattle.sr_frame.specs.declared.ports.Port.TheVariants.{H, A, B, C}
use Rattle.sr_frame.specs.Addresses.{mac_eq}
use Rattle.sr_sequence.specs.declared.Seq.{Seq}
use Rattle.sr_dup_window.specs.declared.lane_sets.Lane.{Lane}
use Rattle.sr_dup_window.specs.declared.lane_sets.Lane.TheVariants as lane
use Rattle.sr_dup_window.specs.declared.lane_sets.Lanes.{Lanes}
use Rattle.sr_dup_window.specs.LaneSets as lanes
use Rattle.sr_dup_table.specs.Limits.{most_sources}
use Rattle.sr_dup_table.specs.Sources.{Remembered, Sources, with_room, arrive_answer}
use Rattle.sr_laws_dup.specs.RunLemmas.{beyond_is_new}
use Rattle.sr_forwarding.specs.declared.outlets.Outlets.{Outlets}
use Rattle.sr_forwarding.specs.Outlets.{has}
use Rattle.sr_forwarding.specs.Parcels.{ParcelImage}
use Rattle.sr_forwarding.specs.Headers.{header_of}
use Rattle.sr_node.specs.declared.event.Event.{Event}
use Rattle.sr_node.specs.declared.event.Event.TheVariants as event
use Rattle.sr_node.specs.declared.event.Answer.{Answer}
use Rattle.sr_node.specs.declared.event.Answer.TheVariants as answer
use Rattle.sr_node.specs.Images.{State, time_at}
use Rattle.sr_node.specs.Outboxes.{Outboxes, box_at}
use Rattle.sr_node.specs.Copies.{put_at}
use Rattle.sr_node.specs.declared.mode.Mode.{Mode}
use Rattle.sr_node.specs.declared.mode.Mode.TheVariants as mode
use Rattle.sr_node.specs.Lanes.{lane_at, lanes_noted, is_asked, lanes_asked, is_clear, new_outlets}
use Rattle.sr_node.specs.LifeChecks.{is_due}
use Rattle.sr_node.specs.Arriving.{is_own, going_on, wanted_at}
use Rattle.sr_node.specs.Ticking.{after_tick}
use Rattle.sr_node.specs.Steps.{Step}
use Rattle.sr_laws_node.specs.NodeRuns.{Turn, happened, swapped}
use Rattle.sr_laws_node.specs.Brought.{Brought, arrival_brings, send_brings, life_brings, brings, is_at, parcels_of, takes}
use Rattle.sr_laws_node.specs.AnyRuns.{IsQuietAt, IsSentTo, GoesWhereWanted, IsUnknown, CannotTell, UnknownGoesEverywhere, IsOfHost, HostGoesEverywhere, NumbersCount}
use Rattle.sr_laws_node.proofs.OutletLemmas.{IsAnswered, answered, has-outlets_on, noted_at, asked_at}
use Rattle.sr_laws_node.proofs.RunLemmas.{passed_by, kept}
use Rattle.sr_laws_node.proofs.TurnLemmas.{goes_out, taken_there}

and_false : (a b : Bool) → a ≡ false → (a && b) ≡ false
and_false a b e = ap (λ x. x && b) e

and_or : (a b : Bool) → (a && (a || b)) ≡ a
and_or true b = refl
and_or false b = refl

-- no frame goes where it is not wanted
goes_as_wanted : (m : Mode) (w : ℕ) (s : Sources) (port : Port) (src : Mac) (seq : Option Seq) (wanted : Outlets) (now : ℕ) (o : Outlets) (p : Port) → new_outlets m w s port src seq wanted now ≡ Some o → has wanted p ≡ false → has o p ≡ false
goes_as_wanted m w s port src None wanted now o p h not_there =
    let same : wanted ≡ o = cc in
    subst (λ x. has x p ≡ false) same not_there
goes_as_wanted m w s port src (Some seq) wanted now o p h not_there =
    let a = answered m w s port src seq wanted now o h in
    ap (λ x. has x p) a.outlets ∙ has-outlets_on m a.fresh wanted p ∙ and_false (has wanted p) (lanes.has a.fresh (lane_at p) && is_clear m a.fresh p) not_there

-- a parcel went out at an outlet or not
out_or_not : (o : Port) (out : Outboxes) (outlets : Outlets) (b : Brought) → (has b.wanted o ≡ false → has outlets o ≡ false)
    → (box_at (put_at out outlets b.parcel) o ≡ box_at out o) ⊎ (box_at (put_at out outlets b.parcel) o ≡ box_at out o ++ parcels_of (filter (λ x. has x.wanted o) (b ∷ [])))
out_or_not o out outlets b only = by (has outlets o) refl (has b.wanted o) refl
  where
    none : has outlets o ≡ false → box_at (put_at out outlets b.parcel) o ≡ box_at out o
    none e = goes_out o out outlets b (λ x. false) e ∙ append-nil (box_at out o)

    by : (k : Bool) → has outlets o ≡ k → (w : Bool) → has b.wanted o ≡ w
        → (box_at (put_at out outlets b.parcel) o ≡ box_at out o) ⊎ (box_at (put_at out outlets b.parcel) o ≡ box_at out o ++ parcels_of (filter (λ x. has x.wanted o) (b ∷ [])))
    by false e w f = inl (none e)
    by true e true f = inr (goes_out o out outlets b (λ x. has x.wanted o) (e ∙ sym f))
    by true e false f = inl (none (only f))

if_other : (own : Bool) (b : Brought) → own ≡ false → (if own then [] else b ∷ []) ≡ b ∷ []
if_other own b e = ap (λ k. if k then [] else b ∷ []) e

-- where nothing came
still : (o : Port) (box out : List ParcelImage) → out ≡ box → out ≡ box ++ []
still o box out e = e ∙ sym (append-nil box)

-- a frame of the host, and a life check
host_sent : (o : Port) (before : List Turn) (s t : State) (e : Event) (a : Answer) (n : ℤ) → IsOfHost e → Step s e a t → IsSentTo o before (happened s e a n) t
host_sent o before s t (event.Send octets now) (answer.Sent number) n of step =
    let x = send_brings before s octets (time_at s now) in
    ap (λ u. box_at u.core.out o) step.1 ∙ goes_out o s.core.out x.wanted x (λ b. has b.wanted o) refl
host_sent o before s t (event.Send octets now) answer.Own n of step = absurd step
host_sent o before s t (event.Send octets now) (answer.Passed outlets) n of step = absurd step
host_sent o before s t (event.Send octets now) (answer.Ticked sources nodes proxies life) n of step = absurd step
host_sent o before s t (event.Send octets now) (answer.Taken handed) n of step = absurd step
host_sent o before s t (event.Tick now) (answer.Ticked sources nodes proxies life) n of step = by (is_due s.core.life_at (time_at s now)) refl
  where
    b : Brought
    b = life_brings before s (time_at s now)

    by : (due : Bool) → is_due s.core.life_at (time_at s now) ≡ due
        → box_at t.core.out o ≡ box_at s.core.out o ++ parcels_of (filter (λ x. has x.wanted o) (if is_due s.core.life_at (time_at s now) then b ∷ [] else []))
    by true e =
        let out : (after_tick s (time_at s now)).out ≡ put_at s.core.out b.wanted b.parcel = rw e refl in
        ap (λ u. box_at u.core.out o) step.4 ∙ ap (λ x. box_at x o) out ∙ goes_out o s.core.out b.wanted b (λ x. has x.wanted o) refl
        ∙ ap (λ k. box_at s.core.out o ++ parcels_of (filter (λ x. has x.wanted o) (if k then b ∷ [] else []))) (sym e)
    by false e =
        let out : (after_tick s (time_at s now)).out ≡ s.core.out = rw e refl in
        ap (λ u. box_at u.core.out o) step.4 ∙ ap (λ x. box_at x o) out ∙ sym (append-nil (box_at s.core.out o))
        ∙ ap (λ k. box_at s.core.out o ++ parcels_of (filter (λ x. has x.wanted o) (if k then b ∷ [] else []))) (sym e)
host_sent o before s t (event.Tick now) answer.Own n of step = absurd step
host_sent o before s t (event.Tick now) (answer.Passed outlets) n of step = absurd step
host_sent o before s t (event.Tick now) (answer.Sent number) n of step = absurd step
host_sent o before s t (event.Tick now) (answer.Taken handed) n of step = absurd step
host_sent o before s t (event.Arrive port p now) a n of step = absurd of
host_sent o before s t (event.Take port) a n of step = absurd of

own_sent : (o : Port) (before : List Turn) (s t : State) (port : Port) (p : ParcelImage) (now : ℕ) (n : ℤ) → is_own s p ≡ true → t.core.out ≡ s.core.out → IsSentTo o before (happened s (event.Arrive port p now) answer.Own n) t
own_sent o before s t port p now n own out =
    let x = arrival_brings before s port p (time_at s now) n in
    ap (λ b. box_at b o) out
    ∙ sym (append-nil (box_at s.core.out o))
    ∙ ap (λ own. box_at s.core.out o ++ parcels_of (filter (λ b. has b.wanted o) (if own then [] else x ∷ []))) (sym own)

wanted_step : (o : Port) (before : List Turn) (s t : State) (e : Event) (a : Answer) (n : ℤ) → Step s e a t → IsQuietAt o (happened s e a n) t ⊎ IsSentTo o before (happened s e a n) t
wanted_step o before s t (event.Arrive port p now) answer.Own n step = inr (own_sent o before s t port p now n step.0 (ap (λ u. u.core.out) step.1))
wanted_step o before s t (event.Arrive port p now) (answer.Passed outlets) n step =
    let at = time_at s now in
    let q = passed_by s port p at outlets t step.0 step.1 in
    let g = going_on s port p in
    let x = arrival_brings before s port p at n in
    let here : box_at t.core.out o ≡ box_at (put_at s.core.out q.outlets g) o = ap (λ u. box_at u.core.out o) q.after in
    elim (out_or_not o s.core.out q.outlets x (goes_as_wanted s.core.mode s.core.width s.core.sources port (header_of g).src g.seq (wanted_at s port g at) at q.outlets o q.goes)) [
      | inl quiet ↦ inl (here ∙ quiet)
      | inr sent ↦ inr (here ∙ sent ∙ ap (λ xs. box_at s.core.out o ++ parcels_of (filter (λ b. has b.wanted o) xs)) (sym (if_other (is_own s p) x step.0)))
    ]
wanted_step o before s t (event.Arrive port p now) (answer.Sent number) n step = absurd step
wanted_step o before s t (event.Arrive port p now) (answer.Ticked sources nodes proxies life) n step = absurd step
wanted_step o before s t (event.Arrive port p now) (answer.Taken handed) n step = absurd step
wanted_step o before s t (event.Send octets now) a n step = inr (host_sent o before s t (event.Send octets now) a n tt step)
wanted_step o before s t (event.Tick now) a n step = inr (host_sent o before s t (event.Tick now) a n tt step)
wanted_step o before s t (event.Take port) (answer.Taken handed) n step =
    inl (ap (λ u. takes o (happened s (event.Take port) (answer.Taken handed) n) ++ box_at u.core.out o) step.1 ∙ taken_there o port s.core.out handed step.0)
wanted_step o before s t (event.Take port) answer.Own n step = absurd step
wanted_step o before s t (event.Take port) (answer.Passed outlets) n step = absurd step
wanted_step o before s t (event.Take port) (answer.Sent number) n step = absurd step
wanted_step o before s t (event.Take port) (answer.Ticked sources nodes proxies life) n step = absurd step

pub goes_where_wanted_lem : GoesWhereWanted
goes_where_wanted_lem origin (happened s e a n) before t o run = wanted_step o before s t e a n run.2
goes_where_wanted_lem origin (swapped s r) before t o run = inl (ap (λ u. box_at u.core.out o) run.2)

-- of what a table has nothing, all that is asked is new
nothing_is_new : (w : ℕ) (s : Sources) (src : Mac) (seq : ℕ) (lanes fresh : Lanes) (now : ℕ) → lookup (mac_eq src) s ≡ None → arrive_answer w s src seq lanes now ≡ Some fresh → lanes ≡ fresh
nothing_is_new w s src seq lanes fresh now there is =
    elim (cases_Bool (nat_lt (length (with_room now s)) most_sources)) [
      | inl room ↦ let e : Some lanes ≡ Some fresh = rw (there, room) at is in cc
      | inr full ↦ let e : None ≡ Some fresh = rw (there, full) at is in absurd cc
    ]

unknown_is_new : (w : ℕ) (s : Sources) (src : Mac) (seq : ℕ) (asked fresh : Lanes) (now : ℕ) (h : Option Remembered) (l : Lane) → lookup (mac_eq src) s ≡ h → IsUnknown w h seq now → arrive_answer w s src seq asked now ≡ Some fresh → lanes.has fresh l ≡ lanes.has asked l
unknown_is_new w s src seq asked fresh now None l there u is = ap (λ x. lanes.has x l) (sym (nothing_is_new w s src seq asked fresh now there is))
unknown_is_new w s src seq asked fresh now (Some h) l there u is = beyond_is_new w s src seq asked fresh now h l there u is

unknown_outlets : (m : Mode) (w : ℕ) (s : Sources) (port : Port) (src : Mac) (seq : Option Seq) (wanted outlets : Outlets) (now : ℕ) (o : Port) → CannotTell w s src seq now → new_outlets m w s port src seq wanted now ≡ Some outlets → has outlets o ≡ has wanted o
unknown_outlets m w s port src None wanted outlets now o u goes =
    let same : wanted ≡ outlets = cc in
    ap (λ x. has x o) (sym same)
unknown_outlets m w s port src (Some seq) wanted outlets now o u goes =
    ap (λ x. has x o) a.outlets
    ∙ has-outlets_on m a.fresh wanted o
    ∙ ap (λ b. has wanted o && (b && is_clear m a.fresh o)) (new (lane_at o) ∙ asked_at m port wanted (lane_at o) ∙ ap (λ y. y || is_asked m (lane_at o)) (noted_at port wanted o))
    ∙ ap (λ b. has wanted o && (((has wanted o || (is_at C o && is_at C port)) || is_asked m (lane_at o)) && b)) (clear m o refl)
    ∙ and_all (has wanted o) (is_at C o && is_at C port) (is_asked m (lane_at o))
  where
    a : IsAnswered m w s port src seq wanted now outlets
    a = answered m w s port src seq wanted now outlets goes

    new : (l : Lane) → lanes.has a.fresh l ≡ lanes.has (lanes_asked m port wanted) l
    new l = unknown_is_new w s src seq.0 (lanes_asked m port wanted) a.fresh now (lookup (mac_eq src) s) l refl u a.answer

    or_last : (b : Bool) → (b || true) ≡ true
    or_last true = refl
    or_last false = refl

    and_all : (w c k : Bool) → (w && (((w || c) || k) && true)) ≡ w
    and_all true c k = refl
    and_all false c k = refl

    clear : (k : Mode) (o : Port) → k ≡ m → is_clear k a.fresh o ≡ true
    clear mode.H o is = refl
    clear mode.X H is = refl
    clear mode.X C is = refl
    clear mode.X A is = new lane.GotA ∙ asked_at m port wanted lane.GotA ∙ ap (λ k. lanes.has (lanes_noted port wanted) lane.GotA || is_asked k lane.GotA) (sym is) ∙ or_last (lanes.has (lanes_noted port wanted) lane.GotA)
    clear mode.X B is = new lane.GotB ∙ asked_at m port wanted lane.GotB ∙ ap (λ k. lanes.has (lanes_noted port wanted) lane.GotB || is_asked k lane.GotB) (sym is) ∙ or_last (lanes.has (lanes_noted port wanted) lane.GotB)

unknown_step : (before : List Turn) (s t : State) (port : Port) (p : ParcelImage) (now : ℕ) (a : Answer) (n : ℤ) (o : Port) → Step s (event.Arrive port p now) a t → CannotTell s.core.width s.core.sources (header_of p).src (going_on s port p).seq (time_at s now)
    → IsSentTo o before (happened s (event.Arrive port p now) a n) t
unknown_step before s t port p now answer.Own n o step u = own_sent o before s t port p now n step.0 (ap (λ x. x.core.out) step.1)
unknown_step before s t port p now (answer.Passed outlets) n o step u =
    let at = time_at s now in
    let q = passed_by s port p at outlets t step.0 step.1 in
    let g = going_on s port p in
    let x = arrival_brings before s port p at n in
    ap (λ v. box_at v.core.out o) q.after
    ∙ goes_out o s.core.out q.outlets x (λ b. has b.wanted o) (unknown_outlets s.core.mode s.core.width s.core.sources port (header_of g).src g.seq (wanted_at s port g at) q.outlets at o u q.goes)
    ∙ ap (λ xs. box_at s.core.out o ++ parcels_of (filter (λ b. has b.wanted o) xs)) (sym (if_other (is_own s p) x step.0))
unknown_step before s t port p now (answer.Sent number) n o step u = absurd step
unknown_step before s t port p now (answer.Ticked sources nodes proxies life) n o step u = absurd step
unknown_step before s t port p now (answer.Taken handed) n o step u = absurd step

pub unknown_goes_lem : UnknownGoesEverywhere
unknown_goes_lem origin before s t port p now a n o run u = unknown_step before s t port p now a n o run.2 u

abbrev HasNext : State → Brought → Type 0
HasNext s b = b.parcel.seq ≡ Some s.core.next

life_numbered : (due : Bool) (before : List Turn) (s : State) (now : ℕ) → All (HasNext s) (if due then life_brings before s now ∷ [] else [])
life_numbered true before s now = All-cons (HasNext s) (life_brings before s now) [] refl (All-nil (HasNext s))
life_numbered false before s now = All-nil (HasNext s)

host_numbered : (before : List Turn) (s : State) (e : Event) (a : Answer) (n : ℤ) → IsOfHost e → All (HasNext s) (brings before (happened s e a n))
host_numbered before s (event.Send octets now) a n of = All-cons (HasNext s) (send_brings before s octets (time_at s now)) [] refl (All-nil (HasNext s))
host_numbered before s (event.Tick now) a n of = life_numbered (is_due s.core.life_at (time_at s now)) before s (time_at s now)
host_numbered before s (event.Arrive port p now) a n of = absurd of
host_numbered before s (event.Take port) a n of = absurd of

pub host_goes_lem : HostGoesEverywhere
host_goes_lem origin before s t e a n o run of = (host_sent o before s t e a n of run.2, host_numbered before s e a n of)

pub numbers_count_lem : NumbersCount
numbers_count_lem origin turns t run = (kept origin turns t run).next
