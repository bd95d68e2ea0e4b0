-- What the packets of captures tell of sources, one by one.
use Rattle.std.proofs.Common.{◌≡◌, ℕ, ◌≤◌, ◌&&◌, Bool, true, false, is_some, List, [], ◌∷◌, ◌++◌, length, Option, None, Some, refl, sym, ap, ◌∙◌, subst, append_assoc}
use Rattle.std.proofs.lemmas.Fn.{chained_keeps}
use Rattle.std.proofs.lemmas.List.{append-nil}
use Rattle.sr_capture.specs.Limits.{longest_kept}
use Rattle.sr_capture.specs.Records.{Captured, Shows}
use Rattle.sr_capture.specs.declared.packet.Packet.{Packet}
use Rattle.sr_capture_audit.specs.declared.network.Subject.{Subject}
use Rattle.sr_capture_script.specs.declared.choice.Choice.{Choice}
use Rattle.sr_capture_script.specs.declared.passing.Place.{Place}
use Rattle.sr_capture_script.specs.Merging.{Feed}
use Rattle.sr_capture_script.specs.Passing.{Handed, wanted, IsHandedAs, TakesWanted}
use Rattle.sr_forwarding.specs.declared.fault.ReadFault.{ReadFault}
use Rattle.sr_forwarding.specs.Decoding.{IsRead, IsUnread}
use Rattle.sr_forwarding.specs.Octets.{is_supervision}
use Rattle.sr_forwarding.specs.Parcels.{ParcelImage, plain_of}
use Rattle.sr_prp_trailer.specs.declared.trailer.Lan.{Lan}
use Rattle.sr_sources.specs.declared.table.Sources.{Sources}
use Rattle.sr_sources.specs.Sources.{Noted}
use Rattle.sr_capture_sources.specs.declared.sighting.Sighting.{Sighting}
use Rattle.sr_capture_sources.specs.Sighting.{
  lan_at,
  lan_framing,
  IsWholePacket,
  IsNoWholePacket,
  noted_of,
  AreSignsIf,
  AreTold,
  frame,
  no_frame,
  not_whole,
  AreToldAt,
  AreToldBy,
  KeepsSources,
  SightsMore,
  AreSourcesOfAll,
}

-- what a frame told, and supervision in it, and what is kept with that
abbrev pub FrameTaken : List Noted → ParcelImage → Sources → Sources → Type 0
FrameTaken first p old new = (own : List Noted) × AreSignsIf (is_some p.seq && is_supervision (plain_of p)) (plain_of p) own
    × ((told : List Noted) → KeepsSources told old → KeepsSources (own ++ (first ++ told)) new)

-- a packet more
told_more : (subject : Subject) (xs : List Handed) (told : List Noted) (x : Handed) (own : List Noted) → AreToldBy subject xs told →
    AreToldAt subject (lan_at subject.ports x.inlet) x own → AreToldBy subject (xs ++ x ∷ []) (own ++ told)
told_more subject [] told x own h is = (own, [], ap (λ l. own ++ l) h ∙ append-nil own, is, refl)
told_more subject (y ∷ ys) told x own h is =
    (h.0, own ++ h.1, ap (λ l. own ++ l) h.2 ∙ sym (append_assoc own h.1 h.0), h.3, told_more subject ys h.1 x own h.4 is)

-- a packet of no capture of the audit
pub sighted_none : (place : Place) (shown : Packet) (x : Handed) (g : Sighting) (o : Option Lan) → IsHandedAs place shown x →
    o ≡ lan_at g.subject.ports place.inlet → o ≡ None → SightsMore x g g
sighted_none place shown x g o is told none =
    let at : lan_at g.subject.ports x.inlet ≡ None = ap (lan_at g.subject.ports) is.inlet ∙ sym told ∙ none in
    record {
      subject = refl;
      own = [];
      is_own = subst (λ (l : Option Lan). AreToldAt g.subject l x []) (sym at) refl;
      takes = λ told keeps. keeps;
    }

-- a packet of which this is told
sighted_by : (x : Handed) (old new : Sighting) (lan : Lan) (own : List Noted) → lan_at old.subject.ports x.inlet ≡ Some lan →
    AreTold old.subject lan x own → new.subject ≡ old.subject →
    ((told : List Noted) → KeepsSources told old.sources → KeepsSources (own ++ told) new.sources) → SightsMore x old new
sighted_by x old new lan own at told same takes =
    record {
      subject = same;
      own = own;
      is_own = subst (λ (l : Option Lan). AreToldAt old.subject l x own) (sym at) told;
      takes = takes;
    }

-- one that is not whole
pub sighted_part : (place : Place) (shown : Packet) (x : Handed) (g : Sighting) (o : Option Lan) (lan : Lan) → IsHandedAs place shown x →
    o ≡ lan_at g.subject.ports place.inlet → o ≡ Some lan →
    ((captured : Captured) → Shows shown captured → IsNoWholePacket captured) → SightsMore x g g
sighted_part place shown x g o lan is told some part =
    sighted_by x g g lan [] (ap (lan_at g.subject.ports) is.inlet ∙ sym told ∙ some) (not_whole (part x.packet is.shows) refl) refl
    (λ told keeps. keeps)

-- one that is no frame
pub sighted_unread : (place : Place) (shown : Packet) (x : Handed) (g : Sighting) (o : Option Lan) (lan : Lan) (octets : List ℕ) (fault : ReadFault) →
    IsHandedAs place shown x → o ≡ lan_at g.subject.ports place.inlet → o ≡ Some lan →
    ((captured : Captured) → Shows shown captured → IsWholePacket captured) →
    octets ≡ shown.octets.items → IsUnread (lan_framing g.subject.network lan) octets fault → SightsMore x g g
sighted_unread place shown x g o lan octets fault is told some whole same unread =
    let all = whole x.packet is.shows in
    sighted_by x g g lan [] (ap (lan_at g.subject.ports) is.inlet ∙ sym told ∙ some)
    (no_frame fault all (subst (λ (l : List ℕ). IsUnread (lan_framing g.subject.network lan) l fault) (same ∙ is.shows.octets all.1) unread) refl)
    refl (λ told keeps. keeps)

-- a frame
pub sighted_frame : (place : Place) (shown : Packet) (x : Handed) (old new : Sighting) (o : Option Lan) (lan : Lan)
    (octets : List ℕ) (p : ParcelImage) → IsHandedAs place shown x → o ≡ lan_at old.subject.ports place.inlet → o ≡ Some lan →
    ((captured : Captured) → Shows shown captured → IsWholePacket captured) →
    octets ≡ shown.octets.items → IsRead (lan_framing old.subject.network lan) octets p →
    FrameTaken (noted_of old.subject lan place.time octets p) p old.sources new.sources →
    new.subject ≡ old.subject → SightsMore x old new
sighted_frame place shown x old new o lan octets p is told some whole are reads signs same =
    let all = whole x.packet is.shows in
    let given = are ∙ is.shows.octets all.1 in
    let first : List Noted = noted_of old.subject lan x.time x.packet.octets p in
    let told_first : noted_of old.subject lan place.time octets p ≡ first =
    ap (λ (t : ℕ). noted_of old.subject lan t octets p) (sym is.time)
    ∙ ap (λ (l : List ℕ). noted_of old.subject lan x.time l p) given in
    sighted_by x old new lan (signs.0 ++ first) (ap (lan_at old.subject.ports) is.inlet ∙ sym told ∙ some)
    (frame p signs.0 all (subst (λ (l : List ℕ). IsRead (lan_framing old.subject.network lan) l p) given reads) signs.1 refl)
    same
    (λ ys keeps. subst (λ (l : List Noted). KeepsSources l new.sources) (sym (append_assoc signs.0 first ys))
    (subst (λ (l : List Noted). KeepsSources (signs.0 ++ (l ++ ys)) new.sources) told_first (signs.2 ys keeps)))

-- all packets
pub sighted_all : (choice : Choice) (x y z : Feed) (old new : Sighting) → KeepsSources [] old.sources →
    TakesWanted (λ o h n. SightsMore h o n) choice x y z old new → AreSourcesOfAll choice old.subject x y z new.sources
sighted_all choice x y z old new none all =
    let end = chained_keeps (λ o h n. SightsMore h o n)
    (λ xs g. (g.subject ≡ old.subject) × ((told : List Noted) × AreToldBy old.subject xs told × KeepsSources told g.sources))
    (λ xs q h v is took.
    let told = is.1 in (
      took.subject ∙ is.0,
      (
        took.own ++ told.0,
        told_more old.subject xs told.0 h took.own told.1
            (subst (λ (s : Subject). AreToldAt s (lan_at s.ports h.inlet) h took.own) is.0 took.is_own),
        took.takes told.0 told.2,
      ),
    ))
    (wanted choice all.merged) old new (refl, ([], refl, none)) all.taken in
    record { merged = all.merged; came = all.came; told = end.1.0; are_told = end.1.1; of_all = end.1.2 }
