-- What goes to the networks has a number.
use Rattle.std.proofs.Common.{◌≡◌, ℕ, Bool, true, false, ◌&&◌, not, List, [], ◌∷◌, ◌++◌, filter, All, Option, None, Some, IsSome, ◌⊎◌, inl, inr, refl, sym, ap, ◌∙◌, subst, append_assoc, if◌then◌else◌}
use Rattle.std.proofs.lemmas.List.Elements.{All-nil, All-cons, All-append}
use Rattle.sr_frame.specs.declared.ports.Port.{Port}
use Rattle.sr_frame.specs.declared.ports.Port.TheVariants.{H, A, B, C}
use Rattle.sr_sequence.specs.declared.Seq.{Seq}
use Rattle.sr_forwarding.specs.declared.header.Header.{Header}
use Rattle.sr_forwarding.specs.declared.form.Form.{Form}
use Rattle.sr_forwarding.specs.declared.form.Form.TheVariants as form
use Rattle.sr_forwarding.specs.declared.kind.RoleKind.{RoleKind}
use Rattle.sr_forwarding.specs.declared.role_image.RoleImage.{RoleImage}
use Rattle.sr_forwarding.specs.Outlets.{has}
use Rattle.sr_forwarding.specs.Routes.{routes_of}
use Rattle.sr_forwarding.specs.Parcels.{ParcelImage, IsParcel, Carries}
use Rattle.sr_node.specs.declared.event.Event.TheVariants as event
use Rattle.sr_forwarding.specs.declared.fault.ReadFault.TheVariants as read
use Rattle.sr_node.specs.declared.fault.StepFault.TheVariants as fault
use Rattle.sr_node.specs.Images.{State, time_at}
use Rattle.sr_node.specs.Outboxes.{box_at, boxes_empty}
use Rattle.sr_node.specs.LifeChecks.{is_due}
use Rattle.sr_forwarding.specs.Kinds.{takes_unnumbered}
use Rattle.sr_forwarding.specs.KindLemmas.{unnumbered_to_host}
use Rattle.sr_node.specs.Arriving.{is_own, is_plain_at_interlink, is_too_long, is_untagged, going_on, number_at, wanted_at, header_at, goes, outlets_fault, arrive_refusal}
use Rattle.sr_laws_node.specs.Origins.{Origin}
use Rattle.sr_laws_node.specs.NodeRuns.{Turn, happened, swapped, RunFrom}
use Rattle.sr_laws_node.specs.Brought.{Brought, arrival_brings, send_brings, life_brings, is_at, parcels_of, takes, taken}
use Rattle.sr_laws_node.specs.NodeLaws.{before_of}
use Rattle.sr_laws_node.specs.AnyRuns.{wanted_in, AreParcels, NetworksGetNumbers}
use Rattle.sr_laws_node.proofs.OriginLemmas.{begins_there, first_out}
use Rattle.sr_laws_node.proofs.AnyRunLemmas.{goes_where_wanted_lem}

abbrev HasNumber : ParcelImage → Type 0
HasNumber p = IsSome p.seq

to_host_alone : (k : RoleKind) (r : RoleImage) (h : Header) (o : Port) (now : ℕ) → takes_unnumbered k ≡ true → is_at H o ≡ false →
    (has (routes_of k r h A now) o ≡ false) × (has (routes_of k r h B now) o ≡ false)
to_host_alone k r h H now takes other = absurd cc
to_host_alone k r h A now takes other = unnumbered_to_host k r h A now takes refl refl
to_host_alone k r h B now takes other = unnumbered_to_host k r h B now takes refl refl
to_host_alone k r h C now takes other = unnumbered_to_host k r h C now takes refl refl

-- a frame without number is read at a node alone whose routes have the host alone for it
plain_in_lan : (k : RoleKind) (r : RoleImage) (h : Header) (port o : Port) (now : ℕ) → is_at H port ≡ false → is_at C port ≡ false → takes_unnumbered k ≡ true → is_at H o ≡ false → has (routes_of k r h port now) o ≡ false
plain_in_lan k r h H o now not_host not_interlink takes other = absurd cc
plain_in_lan k r h A o now not_host not_interlink takes other = (to_host_alone k r h o now takes other).0
plain_in_lan k r h B o now not_host not_interlink takes other = (to_host_alone k r h o now takes other).1
plain_in_lan k r h C o now not_host not_interlink takes other = absurd cc

-- a parcel without number is a plain one
is_plain_one : (f : Form) (octets : List ℕ) (path : ℕ) → Carries f octets None path → f ≡ form.Plain
is_plain_one form.Plain octets path c = refl
is_plain_one form.Hsr octets path c = let e = c.seq_is in absurd cc
is_plain_one form.Prp octets path c = let e = c.seq_is in absurd cc

taken_plain : (k : RoleKind) (port : Port) → is_untagged k port form.Plain ≡ false → (is_at C port ≡ true) ⊎ ((is_at H port ≡ false) × (is_at C port ≡ false) × (takes_unnumbered k ≡ true))
taken_plain k H e = absurd cc
taken_plain k A e = inr (refl, refl, unless (takes_unnumbered k) e)
  where
    unless : (b : Bool) → (true && not b) ≡ false → b ≡ true
    unless true e = refl
    unless false e = absurd cc
taken_plain k B e = inr (refl, refl, unless (takes_unnumbered k) e)
  where
    unless : (b : Bool) → (true && not b) ≡ false → b ≡ true
    unless true e = refl
    unless false e = absurd cc
taken_plain k C e = inl refl

unrefused : {T : Type 0} (a b : Bool) (f g : T) (rest : Option T) → (if a then Some f else if b then Some g else rest) ≡ None → b ≡ false
unrefused true b f g rest h = absurd cc
unrefused false true f g rest h = absurd cc
unrefused false false f g rest h = refl

not_untagged : (s : State) (port : Port) (p : ParcelImage) (now : ℕ) → arrive_refusal s port p now ≡ None → is_untagged s.role.kind port p.form ≡ false
not_untagged s port p now h =
    unrefused (is_too_long port p) (is_untagged s.role.kind port p.form) (fault.Reading read.TooLong) fault.Untagged
    (if is_own s p then None else outlets_fault s.core.out (goes s port p now)) h

-- an arrival without number goes to the host alone
no_number : (s : State) (port : Port) (p : ParcelImage) (now : ℕ) (o : Port) → arrive_refusal s port p now ≡ None → IsParcel p → is_at H o ≡ false → p.seq ≡ None → is_plain_at_interlink port p.form ≡ false
    → has (wanted_at s port (going_on s port p) now) o ≡ false
no_number s port p now o h parcel other none gives =
    let plain : p.form ≡ form.Plain = is_plain_one p.form p.octets p.path (subst (λ x. Carries p.form p.octets x p.path) none parcel.carries) in
    let untagged : is_untagged s.role.kind port form.Plain ≡ false = subst (λ f. is_untagged s.role.kind port f ≡ false) plain (not_untagged s port p now h) in
    let here : is_plain_at_interlink port form.Plain ≡ false = subst (λ f. is_plain_at_interlink port f ≡ false) plain gives in
    elim (taken_plain s.role.kind port untagged) [
      | inl at ↦ absurd (not_there port at here)
      | inr in_lan ↦ plain_in_lan s.role.kind s.role (header_at s (going_on s port p) now) port o now in_lan.0 in_lan.1 in_lan.2 other
    ]
  where
    not_there : (port : Port) → is_at C port ≡ true → is_plain_at_interlink port form.Plain ≡ false → ⊥
    not_there H e f = absurd cc
    not_there A e f = absurd cc
    not_there B e f = absurd cc
    not_there C e f = absurd cc

-- of one frame that a turn brings
one_numbered : (w : Bool) (b : Brought) → (w ≡ true → HasNumber b.parcel) → All HasNumber (parcels_of (if w then b ∷ [] else []))
one_numbered true b h = All-cons HasNumber b.parcel [] (h refl) (All-nil HasNumber)
one_numbered false b h = All-nil HasNumber

if_not_own : (own : Bool) (o : Port) (b : Brought) → All HasNumber (parcels_of (if has b.wanted o then b ∷ [] else [])) → All HasNumber (parcels_of (filter (λ x. has x.wanted o) (if own then [] else b ∷ [])))
if_not_own true o b h = All-nil HasNumber
if_not_own false o b h = h

arrival_numbered : (s : State) (port : Port) (p : ParcelImage) (now : ℕ) (o : Port) → arrive_refusal s port p now ≡ None → IsParcel p → is_at H o ≡ false
    → has (wanted_at s port (going_on s port p) now) o ≡ true → IsSome (number_at s.core.next port p)
arrival_numbered s port p now o h parcel other wanted = by (is_plain_at_interlink port p.form) refl p.seq refl
  where
    by : (gives : Bool) → is_plain_at_interlink port p.form ≡ gives → (seq : Option Seq) → p.seq ≡ seq → IsSome (if is_plain_at_interlink port p.form then Some s.core.next else p.seq)
    by true e seq f = subst (λ b. IsSome (if b then Some s.core.next else p.seq)) (sym e) refl
    by false e (Some q) f = subst (λ b. IsSome (if b then Some s.core.next else p.seq)) (sym e) (subst (λ x. IsSome x) (sym f) refl)
    by false e None f = let no : true ≡ false = sym wanted ∙ no_number s port p now o h parcel other f e in absurd cc

life_numbered : (due : Bool) (o : Port) (b : Brought) → HasNumber b.parcel → All HasNumber (parcels_of (filter (λ x. has x.wanted o) (if due then b ∷ [] else [])))
life_numbered true o b h = one_numbered (has b.wanted o) b (λ e. h)
life_numbered false o b h = All-nil HasNumber

turn_numbered : (o : Port) (before : List Turn) (turn : Turn) (origin : Origin) (t : State) → RunFrom origin (turn ∷ before) t → AreParcels (turn ∷ before) → is_at H o ≡ false → All HasNumber (parcels_of (wanted_in o before turn))
turn_numbered o before (happened s (event.Arrive port p now) a n) origin t run parcels other =
    let b = arrival_brings before s port p (time_at s now) n in
    if_not_own (is_own s p) o b (one_numbered (has b.wanted o) b (arrival_numbered s port p (time_at s now) o run.1 parcels.1 other))
turn_numbered o before (happened s (event.Send octets now) a n) origin t run parcels other =
    let b = send_brings before s octets (time_at s now) in
    one_numbered (has b.wanted o) b (λ e. refl)
turn_numbered o before (happened s (event.Tick now) a n) origin t run parcels other =
    life_numbered (is_due s.core.life_at (time_at s now)) o (life_brings before s (time_at s now)) refl
turn_numbered o before (happened s (event.Take port) a n) origin t run parcels other = All-nil HasNumber
turn_numbered o before (swapped s r) origin t run parcels other = All-nil HasNumber

run_before : (origin : Origin) (turn : Turn) (before : List Turn) (t : State) → RunFrom origin (turn ∷ before) t → RunFrom origin before (before_of turn)
run_before origin (happened s e a n) before t run = run.0
run_before origin (swapped s r) before t run = run.0

parcels_before : (turn : Turn) (before : List Turn) → AreParcels (turn ∷ before) → AreParcels before
parcels_before (happened s (event.Arrive port p now) a n) before parcels = parcels.0
parcels_before (happened s (event.Send octets now) a n) before parcels = parcels
parcels_before (happened s (event.Tick now) a n) before parcels = parcels
parcels_before (happened s (event.Take port) a n) before parcels = parcels
parcels_before (swapped s r) before parcels = parcels

pub networks_get_numbers_lem : NetworksGetNumbers
networks_get_numbers_lem origin [] t o run parcels other = subst (λ xs. All HasNumber xs) (sym (ap (λ u. box_at u.core.out o) (begins_there origin t run) ∙ ap (λ b. box_at b o) (first_out origin) ∙ none o)) (All-nil HasNumber)
  where
    none : (o : Port) → box_at boxes_empty o ≡ []
    none H = refl
    none A = refl
    none B = refl
    none C = refl
networks_get_numbers_lem origin (turn ∷ before) t o run parcels other =
    let s = before_of turn in
    let old : All HasNumber (taken o before ++ box_at s.core.out o) = networks_get_numbers_lem origin before s o (run_before origin turn before t run) (parcels_before turn before parcels) other in
    elim (goes_where_wanted_lem origin turn before t o run) [
      | inl quiet ↦ subst (λ xs. All HasNumber xs) (sym (append_assoc (taken o before) (takes o turn) (box_at t.core.out o) ∙ ap (λ xs. taken o before ++ xs) quiet)) old
      | inr sent ↦ subst (λ xs. All HasNumber xs)
          (sym (append_assoc (taken o before) (takes o turn) (box_at t.core.out o)
          ∙ ap (λ xs. taken o before ++ xs) sent
          ∙ sym (append_assoc (taken o before) (box_at s.core.out o) (parcels_of (wanted_in o before turn)))))
          (All-append HasNumber (taken o before ++ box_at s.core.out o) (parcels_of (wanted_in o before turn)) old (turn_numbered o before turn origin t run parcels other))
    ]
