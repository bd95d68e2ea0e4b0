-- What goes out can be written by the framing of its port.
use Rattle.std.proofs.Common.{◌≡◌, ℕ, ◌-◌, ◌<◌, ◌≤◌, Bool, true, false, not, List, [], ◌∷◌, ◌++◌, length, replicate, filter, All, Option, None, Some, inl, inr, refl, sym, ap, ◌∙◌, subst, arith, length-append, if◌then◌else◌}
use Rattle.std.specs.Prelude.{nat_lt}
use Rattle.std.specs.Int.{w16, to_be_bytes}
use Rattle.std.proofs.lemmas.List.{length-replicate}
use Rattle.std.proofs.lemmas.List.Elements.{All-nil, All-cons}
use Rattle.sr_frame.specs.Frame.{least_len}
use Rattle.sr_frame.specs.LengthLemmas.{least_len_bounds}
use Rattle.sr_frame.specs.declared.fields.Mac.{Mac}
use Rattle.sr_frame.specs.declared.ports.Port.{Port}
use Rattle.sr_frame.specs.declared.ports.Port.TheVariants.{H, A, B, C}
use Rattle.sr_prp_trailer.specs.declared.trailer.Lan.{Lan}
use Rattle.sr_prp_trailer.specs.declared.trailer.Lan.TheVariants as lan
use Rattle.sr_sequence.specs.declared.Seq.{Seq}
use Rattle.sr_supervision.specs.Written.{written, content_octets}
use Rattle.sr_forwarding.specs.declared.header.Header.{Header}
use Rattle.sr_forwarding.specs.declared.kind.RoleKind.{RoleKind}
use Rattle.sr_forwarding.specs.declared.role_image.RoleImage.{RoleImage}
use Rattle.sr_forwarding.specs.Outlets.{has}
use Rattle.sr_forwarding.specs.Parcels.{ParcelImage}
use Rattle.sr_forwarding.specs.Routes.{routes}
use Rattle.sr_forwarding.specs.Framings.{FramingImage, Tagged, Trailed, Ordinary}
use Rattle.sr_forwarding.specs.Encoding.{write_fault}
use Rattle.sr_forwarding.specs.Carriage.{IsTaken, IsTakenAt, IsTakenBy, IsNumberedPlain, copy_for}
use Rattle.sr_forwarding.specs.Kinds.{framing_at, interlink_framing, side_framing}
use Rattle.sr_forwarding.specs.KindLemmas.{HasMarks, NumbersAt, interlink_numbers, side_has_marks}
use Rattle.sr_forwarding.specs.Limits.{longest_plain}
use Rattle.sr_forwarding.specs.declared.fault.ReadFault.TheVariants as read
use Rattle.sr_node.specs.declared.fault.StepFault.TheVariants as fault
use Rattle.sr_node.specs.declared.event.Event.TheVariants as event
use Rattle.sr_node.specs.Images.{State, time_at}
use Rattle.sr_node.specs.LifeChecks.{is_due, life_says}
use Rattle.sr_node.specs.Arriving.{is_own, number_at, going_on, header_at}
use Rattle.sr_node.specs.Sending.{send_refusal, sent_parcel, send_outlets, sent_refusal}
use Rattle.sr_node.specs.Ticking.{next_life_check, life_header}
use Rattle.sr_laws_node.specs.Origins.{Origin, first_state}
use Rattle.sr_laws_node.specs.NodeRuns.{Turn, happened, swapped, RunFrom}
use Rattle.sr_laws_node.specs.Brought.{Brought, arrival_brings, send_brings, life_brings, is_at}
use Rattle.sr_laws_node.specs.NodeLaws.{before_of}
use Rattle.sr_laws_node.specs.AnyRuns.{wanted_in}
use Rattle.sr_laws_node.specs.Written.{IsReadBy, IsReadTurn, WhatGoesOutIsWritten}
use Rattle.sr_laws_node.proofs.RunLemmas.{kept, not_from_host}

-- what a role's framings can write of what its routes want
abbrev pub WritesWhatIsWanted : Type 0
WritesWhatIsWanted =
    (r : RoleImage) (h : Header) (inlet outlet : Port) (now : ℕ) (p : ParcelImage) (f : FramingImage)
    → IsTaken r.kind inlet p → has (routes r h inlet now) outlet ≡ true
    → framing_at r.kind outlet ≡ Some f → write_fault f (copy_for outlet p) ≡ None

-- a parcel that is read at a port, under the number that it goes on with
abbrev numbered : Seq → Port → ParcelImage → ParcelImage
numbered next port p = record p { seq = number_at next port p }

tagged_on : (next : Seq) (path : ℕ) (p : ParcelImage) → IsReadBy (Some (Tagged path)) p → IsTakenBy (Tagged path) (numbered next C p)
tagged_on next path p r =
    subst (λ q. IsTakenBy (Tagged path) (numbered next C q)) (sym r.1.parcel)
    (r.0, record { plain = r.1.plain; tag = r.1.tag; tagged = r.1.tagged; frame = r.1.frame; parcel = refl })

trailed_on : (next : Seq) (lan : Lan) (net : ℕ) (p : ParcelImage) → 0 < net → IsReadBy (Some (Trailed lan net)) p → IsTakenBy (Trailed lan net) (numbered next C p)
trailed_on next lan net p has_net r =
    elim (r.1) [
      | inl t ↦ subst (λ q. IsTakenBy (Trailed lan net) (numbered next C q)) (sym t.parcel)
          (r.0, inl (record { plain = t.plain; trailer = t.trailer; trailed = t.trailed; frame = t.frame; parcel = refl }))
      | inr s ↦ absurd (none net has_net s.node)
    ]
  where
    none : (net : ℕ) → 0 < net → net ≡ 0 → ⊥
    none net a b = omega (arith, a, b)

plain_on : (next : Seq) (p : ParcelImage) → IsReadBy (Some Ordinary) p → IsTakenBy Ordinary (numbered next C p)
plain_on next p r =
    subst (λ q. IsTakenBy Ordinary (numbered next C q)) (sym r.1.0.parcel)
    (record { seq = next; form = refl; numbered = refl; frame = r.1.0.frame; most = r.1.1 })

-- at A and B a parcel goes on as it was read
read_on : (f : FramingImage) (p : ParcelImage) → HasMarks f → IsReadBy (Some f) p → IsTakenBy f p
read_on (Tagged path) p marks r = r
read_on (Trailed lan net) p marks r = r
read_on Ordinary p marks r = absurd marks

interlink_on : (f : Option FramingImage) (next : Seq) (p : ParcelImage) → NumbersAt f → IsReadBy f p → IsTakenAt f (numbered next C p)
interlink_on None next p net r = absurd r
interlink_on (Some (Tagged path)) next p net r = tagged_on next path p r
interlink_on (Some (Trailed lan n)) next p net r = trailed_on next lan n p net r
interlink_on (Some Ordinary) next p net r = plain_on next p r

goes_on : (k : RoleKind) (port : Port) (next : Seq) (p : ParcelImage) → is_at H port ≡ false → IsReadBy (framing_at k port) p → IsTaken k port (numbered next port p)
goes_on k H next p other r = absurd cc
goes_on k A next p other r = read_on (side_framing k lan.A) p (side_has_marks k lan.A) r
goes_on k B next p other r = read_on (side_framing k lan.B) p (side_has_marks k lan.B) r
goes_on k C next p other r = interlink_on (interlink_framing k) next p (interlink_numbers k) r

-- every form is an ordinary frame in its plain form
to_host : (k : RoleKind) (f : FramingImage) (p : ParcelImage) → framing_at k H ≡ Some f → write_fault f p ≡ None
to_host k f p at =
    let same : Ordinary ≡ f = by at in
    subst (λ g. write_fault g p ≡ None) same refl
  where
    by : Some Ordinary ≡ Some f → Ordinary ≡ f
    by e = cc

-- at an outlet that wants it
wanted_is_written : WritesWhatIsWanted → (r : RoleImage) (h : Header) (inlet o : Port) (now : ℕ) (p : ParcelImage) (f : FramingImage) → IsTaken r.kind inlet p → framing_at r.kind o ≡ Some f
    → has (routes r h inlet now) o ≡ true → write_fault f p ≡ None
wanted_is_written law r h inlet H now p f taken at wanted = to_host r.kind f p at
wanted_is_written law r h inlet A now p f taken at wanted = law r h inlet A now p f taken wanted at
wanted_is_written law r h inlet B now p f taken at wanted = law r h inlet B now p f taken wanted at
wanted_is_written law r h inlet C now p f taken at wanted = law r h inlet C now p f taken wanted at

-- what the host sends is an ordinary frame
host_takes : (k : RoleKind) (p : ParcelImage) → IsNumberedPlain p → IsTaken k H p
host_takes k p h = h

refused_not : {T : Type 0} (a b : Bool) (f g : T) (rest : Option T) → (if a then Some f else if b then Some g else rest) ≡ None → (a ≡ false) × (b ≡ false)
refused_not true b f g rest h = absurd cc
refused_not false true f g rest h = absurd cc
refused_not false false f g rest h = (refl, refl)

not_less : (x y : ℕ) → nat_lt x y ≡ false → y ≤ x
not_less x y e = grind (arith, e)

abbrev IsWrittenBy : FramingImage → Brought → Type 0
IsWrittenBy f b = write_fault f b.parcel ≡ None

one_written : (w : Bool) (f : FramingImage) (b : Brought) → (w ≡ true → IsWrittenBy f b) → All (IsWrittenBy f) (if w then b ∷ [] else [])
one_written true f b h = All-cons (IsWrittenBy f) b [] (h refl) (All-nil (IsWrittenBy f))
one_written false f b h = All-nil (IsWrittenBy f)

if_not_own : (own : Bool) (o : Port) (f : FramingImage) (b : Brought) → All (IsWrittenBy f) (if has b.wanted o then b ∷ [] else []) → All (IsWrittenBy f) (filter (λ x. has x.wanted o) (if own then [] else b ∷ []))
if_not_own true o f b h = All-nil (IsWrittenBy f)
if_not_own false o f b h = h

if_due : (due : Bool) (o : Port) (f : FramingImage) (b : Brought) → All (IsWrittenBy f) (if has b.wanted o then b ∷ [] else []) → All (IsWrittenBy f) (filter (λ x. has x.wanted o) (if due then b ∷ [] else []))
if_due true o f b h = h
if_due false o f b h = All-nil (IsWrittenBy f)

-- a life check has 60 octets
life_length : (k : RoleKind) (mac : Mac) (seq : Seq) → length mac.0 ≡ 6 → length (written (life_says k mac seq)) ≡ 60
life_length k mac seq six =
    let says = life_says k mac seq in
    let bare : length (mac.0 ++ []) ≡ 6 = length-append mac.0 [] ∙ omega (arith, six) in
    let more : length ((mac.0 ++ []) ++ 0 ∷ 0 ∷ []) ≡ 8 = length-append (mac.0 ++ []) (0 ∷ 0 ∷ []) ∙ omega (arith, bare) in
    let content : length (content_octets says) ≡ 14 = omega (arith, more) in
    let zeros : List ℕ = replicate (46 - length (content_octets says)) 0 in
    let zero_length : length zeros ≡ 32 = length-replicate (46 - length (content_octets says)) 0 ∙ omega (arith, content) in
    let payload : List ℕ = content_octets says ++ zeros in
    let payload_length : length payload ≡ 46 = length-append (content_octets says) zeros ∙ omega (arith, content, zero_length) in
    let ethertype : List ℕ = to_be_bytes w16 0x88FB in
    let head : length ((mac.0 ++ []) ++ ethertype) ≡ 8 = length-append (mac.0 ++ []) ethertype ∙ omega (arith, bare) in
    let whole : length (((mac.0 ++ []) ++ ethertype) ++ payload) ≡ 54 = length-append ((mac.0 ++ []) ++ ethertype) payload ∙ omega (arith, head, payload_length) in
    omega (arith, whole)

life_is_plain : (s : State) → length s.role.mac.0 ≡ 6 → IsNumberedPlain (next_life_check s)
life_is_plain s six =
    let long = life_length s.role.kind s.role.mac s.core.next_life six in
    let bounds = least_len_bounds (next_life_check s).octets in
    record {
      seq = s.core.next;
      form = refl;
      numbered = refl;
      frame = record { least = omega (arith, long, bounds); most = omega (arith, long) };
      most = omega (arith, long);
    }

sent_is_plain : (s : State) (octets : List ℕ) (now : ℕ) → send_refusal s octets now ≡ None → IsNumberedPlain (sent_parcel s octets)
sent_is_plain s octets now h =
    let no = refused_not (nat_lt (length octets) (least_len octets)) (nat_lt longest_plain (length octets)) (fault.Reading read.TooShort) (fault.Reading read.TooLong)
    (if not (is_own s (sent_parcel s octets)) then Some (fault.Reading read.NotOwn) else sent_refusal s (send_outlets s octets now)) h in
    let most : length octets ≤ longest_plain = not_less longest_plain (length octets) no.1 in
    record {
      seq = s.core.next;
      form = refl;
      numbered = refl;
      frame = record { least = not_less (length octets) (least_len octets) no.0; most = omega (arith, most) };
      most = most;
    }

turn_written : WritesWhatIsWanted → (turn : Turn) (before : List Turn) (origin : Origin) (t : State) (o : Port) (f : FramingImage)
    → length (first_state origin).role.mac.0 ≡ 6 → RunFrom origin (turn ∷ before) t → IsReadTurn turn
    → framing_at (before_of turn).role.kind o ≡ Some f → All (IsWrittenBy f) (wanted_in o before turn)
turn_written law (happened s (event.Arrive port p now) a n) before origin t o f six run reads at =
    let b = arrival_brings before s port p (time_at s now) n in
    let taken : IsTaken s.role.kind port (going_on s port p) = goes_on s.role.kind port s.core.next p (not_from_host s port p (time_at s now) run.1) reads in
    if_not_own (is_own s p) o f b
    (one_written (has b.wanted o) f b (wanted_is_written law s.role (header_at s (going_on s port p) (time_at s now)) port o (time_at s now) (going_on s port p) f taken at))
turn_written law (happened s (event.Send octets now) a n) before origin t o f six run reads at =
    let b = send_brings before s octets (time_at s now) in
    let p = sent_parcel s octets in
    one_written (has b.wanted o) f b
    (wanted_is_written law s.role (header_at s p (time_at s now)) H o (time_at s now) p f (host_takes s.role.kind p (sent_is_plain s octets (time_at s now) run.1)) at)
turn_written law (happened s (event.Tick now) a n) before origin t o f six run reads at =
    let b = life_brings before s (time_at s now) in
    let p = next_life_check s in
    let own : length s.role.mac.0 ≡ 6 = ap (λ m. length m.0) (kept origin before s run.0).mac ∙ six in
    if_due (is_due s.core.life_at (time_at s now)) o f b
    (one_written (has b.wanted o) f b
    (wanted_is_written law s.role (life_header s (time_at s now)) H o (time_at s now) p f (host_takes s.role.kind p (life_is_plain s own)) at))
turn_written law (happened s (event.Take port) a n) before origin t o f six run reads at = All-nil (IsWrittenBy f)
turn_written law (swapped s r) before origin t o f six run reads at = All-nil (IsWrittenBy f)

pub what_goes_out_is_written_lem : WritesWhatIsWanted → WhatGoesOutIsWritten
what_goes_out_is_written_lem law origin turn before t o f six run reads at = turn_written law turn before origin t o f six run reads at
