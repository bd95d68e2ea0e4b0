-- The packets of a mirror port.
use Rattle.std.proofs.Common.{◌≡◌, false, List, [], ◌∷◌, inl, inr, refl, sym, subst}
use Rattle.std.specs.List.{All}
use Rattle.std.proofs.lemmas.List.Elements.{All-nil, All-cons, All-append}
use Rattle.sr_capture.specs.Records.{Captured}
use Rattle.sr_capture_script.specs.declared.choice.Inlet.{Inlet}
use Rattle.sr_capture_script.specs.declared.choice.Inlet.TheVariants as inlet
use Rattle.sr_capture_script.specs.Passing.{Handed}
use Rattle.sr_capture_audit.specs.declared.kind.Kind.{Kind}
use Rattle.sr_capture_audit.specs.declared.kind.Kind.TheVariants as kind
use Rattle.sr_capture_audit.specs.declared.network.Network.{Network}
use Rattle.sr_capture_audit.specs.declared.network.Ports.TheVariants.{Mirror}
use Rattle.sr_capture_audit.specs.declared.network.Subject.{Subject}
use Rattle.sr_capture_audit.specs.declared.network.Tap.TheVariants as tap
use Rattle.sr_capture_audit.specs.Auditing.{tap_at, AreSeenAt, AreSeen}
use Rattle.sr_capture_audit.specs.Counting.{Seen, names_other_lan, IsMirrored}
use Rattle.sr_capture_audit.specs.Kinds.{IsKind}

-- no LAN is the other one there
no_other : (network : Network) (packet : Captured) (k : Kind) → IsKind network tap.Mirror packet k → names_other_lan k ≡ false
no_other network packet (kind.Numbered n) h = elim h.1 [
  | inl read ↦ read.2.astray
  | inr unread ↦ let e = unread.2 in cc
]
no_other network packet kind.Plain h = refl
no_other network packet kind.Misfit h = refl
no_other network packet kind.Cut h = refl
no_other network packet kind.Long h = refl
no_other network packet kind.Empty h = refl

mirrored_at : (subject : Subject) (x : Handed) (own : List Seen) → subject.ports ≡ Mirror →
    AreSeenAt (tap_at subject.ports x.inlet) subject.network x own → All IsMirrored own
mirrored_at subject x own e h = by x.inlet (subst (λ p. AreSeenAt (tap_at p x.inlet) subject.network x own) e h)
  where
    by : (i : Inlet) → AreSeenAt (tap_at Mirror i) subject.network x own → All IsMirrored own
    by inlet.A s =
        subst (All IsMirrored) (sym s.2) (All-cons IsMirrored _ [] (refl, no_other subject.network x.packet s.0 s.1) (All-nil IsMirrored))
    by inlet.B s = subst (All IsMirrored) (sym s) (All-nil IsMirrored)
    by inlet.C s = subst (All IsMirrored) (sym s) (All-nil IsMirrored)

pub all_mirrored : (subject : Subject) (xs : List Handed) (seen : List Seen) → subject.ports ≡ Mirror → AreSeen subject xs seen → All IsMirrored seen
all_mirrored subject [] seen e h = subst (All IsMirrored) (sym h) (All-nil IsMirrored)
all_mirrored subject (x ∷ xs) seen e h =
    subst (All IsMirrored) (sym h.2)
    (All-append IsMirrored h.0 h.1 (mirrored_at subject x h.0 e h.3) (all_mirrored subject xs h.1 e h.4))
