-- The RedBoxes that the packets of captures name, one by one.
use Rattle.std.proofs.Common.{◌≡◌, List, [], ◌∷◌, ◌++◌, Option, None, Some, refl, sym, ap, ◌∙◌, subst, fold}
use Rattle.std.specs.List.{flat_map}
use Rattle.std.proofs.lemmas.List.{append-nil}
use Rattle.std.proofs.lemmas.List.Sums.{fold-append}
use Rattle.std.proofs.lemmas.Grind.{flat_map-append}
use Rattle.sr_capture.specs.Records.{Captured, Shows}
use Rattle.sr_capture.specs.declared.packet.Packet.{Packet}
use Rattle.sr_capture_script.specs.declared.passing.Place.{Place}
use Rattle.sr_capture_script.specs.Passing.{Handed, IsHandedAs}
use Rattle.sr_capture_audit.specs.declared.kind.Kind.{Kind}
use Rattle.sr_capture_audit.specs.declared.network.Subject.{Subject}
use Rattle.sr_capture_audit.specs.declared.network.Tap.{Tap}
use Rattle.sr_capture_audit.specs.declared.redboxes.RedBoxes.{RedBoxes}
use Rattle.sr_capture_audit.specs.Counting.{Seen}
use Rattle.sr_capture_audit.specs.Kinds.{IsKind}
use Rattle.sr_capture_audit.specs.Auditing.{tap_at, AreSeenAt, AreSeen}
use Rattle.sr_capture_audit.specs.Unions.{boxes_with, named_by, boxes_in, AreBoxesOf}
use Rattle.sr_capture_audit.proofs.Audited.{seen_more}

boxes_more : (seen : List Seen) (s : Seen) → boxes_in (seen ++ s ∷ []) ≡ fold boxes_with (boxes_in seen) (named_by s.kind)
boxes_more seen s =
    ap (fold boxes_with []) (flat_map-append (λ (x : Seen). named_by x.kind) seen (s ∷ []) ∙ ap (λ l. flat_map (λ (x : Seen). named_by x.kind) seen ++ l) (append-nil (named_by s.kind)))
    ∙ fold-append boxes_with [] (flat_map (λ (x : Seen). named_by x.kind) seen) (named_by s.kind)

-- a packet of no capture of the audit is passed over
pub boxes_passed : (place : Place) (shown : Packet) (x : Handed) (subject : Subject) (b : RedBoxes) (o : Option Tap) → IsHandedAs place shown x →
    o ≡ tap_at subject.ports place.inlet → o ≡ None → (xs : List Handed) → AreBoxesOf subject xs b → AreBoxesOf subject (xs ++ x ∷ []) b
boxes_passed place shown x subject b o is told none = λ xs h.
    let at : tap_at subject.ports x.inlet ≡ None = ap (tap_at subject.ports) is.inlet ∙ sym told ∙ none in
    record {
      seen = h.seen;
      are_seen = subst (λ l. AreSeen subject (xs ++ x ∷ []) l) (append-nil h.seen)
          (seen_more subject xs h.seen x [] h.are_seen (subst (λ t. AreSeenAt t subject.network x []) (sym at) refl));
      boxes = h.boxes;
    }

-- a packet is taken
pub boxes_taken : (place : Place) (shown : Packet) (x : Handed) (subject : Subject) (old new : RedBoxes) (o : Option Tap) (own : Tap) (k : Kind) →
    IsHandedAs place shown x → o ≡ tap_at subject.ports place.inlet → o ≡ Some own →
    ((captured : Captured) → Shows shown captured → IsKind subject.network own captured k) →
    new.boxes.entries ≡ fold boxes_with old.boxes.entries (named_by k) → (xs : List Handed) → AreBoxesOf subject xs old →
    AreBoxesOf subject (xs ++ x ∷ []) new
boxes_taken place shown x subject old new o own k is told some kinds taken = λ xs h.
    let at : tap_at subject.ports x.inlet ≡ Some own = ap (tap_at subject.ports) is.inlet ∙ sym told ∙ some in
    let s : Seen = record { tap = own; time = x.time; packet = x.packet; kind = k } in
    let one : AreSeenAt (Some own) subject.network x (s ∷ []) = (k, kinds x.packet is.shows, refl) in
    record {
      seen = h.seen ++ s ∷ [];
      are_seen = seen_more subject xs h.seen x (s ∷ []) h.are_seen (subst (λ t. AreSeenAt t subject.network x (s ∷ [])) (sym at) one);
      boxes = taken ∙ ap (λ b. fold boxes_with b (named_by k)) h.boxes ∙ sym (boxes_more h.seen s);
    }

-- no packet was taken
pub boxes_none : (subject : Subject) (b : RedBoxes) → b.boxes.entries ≡ [] → AreBoxesOf subject [] b
boxes_none subject b empty = record { seen = []; are_seen = refl; boxes = empty }
