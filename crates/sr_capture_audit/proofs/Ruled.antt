-- The audit of the packets of captures under a rule, one by one.
use Rattle.std.proofs.Common.{◌≡◌, ◌^◌, ◌<◌, List, [], ◌∷◌, ◌++◌, length, Option, None, Some, refl, sym, ap, ◌∙◌, subst, arith, length-append}
use Rattle.std.specs.List.{flat_map}
use Rattle.std.proofs.lemmas.List.{append-nil, reverse-append}
use Rattle.sr_audit.specs.declared.audit.Audit.{Audit}
use Rattle.sr_audit.specs.declared.span.Spans.{Spans}
use Rattle.sr_audit.specs.Audits.{Audits}
use Rattle.sr_capture.specs.Records.{Captured, Shows}
use Rattle.sr_capture.specs.declared.packet.Packet.{Packet}
use Rattle.sr_capture_script.specs.declared.passing.Place.{Place}
use Rattle.sr_capture_script.specs.Passing.{Handed, IsHandedAs}
use Rattle.sr_capture_audit.specs.declared.kind.Kind.{Kind}
use Rattle.sr_capture_audit.specs.declared.network.Subject.{Subject}
use Rattle.sr_capture_audit.specs.declared.network.Tap.{Tap}
use Rattle.sr_capture_audit.specs.declared.ruling.Rule.{Rule}
use Rattle.sr_capture_audit.specs.declared.ruling.Ruling.{Ruling}
use Rattle.sr_capture_audit.specs.Counting.{Seen}
use Rattle.sr_capture_audit.specs.Kinds.{IsKind}
use Rattle.sr_capture_audit.specs.Auditing.{tap_at, AreSeenAt, AreSeen}
use Rattle.sr_capture_audit.specs.Ruling.{sent_under, ruled_in, IsRuledOf, RulesMore, TakesRuled}
use Rattle.sr_capture_audit.proofs.Audited.{seen_more}

ruled_more : (rule : Rule) (spans : Spans) (seen : List Seen) (s : Seen) → ruled_in rule spans (seen ++ s ∷ []) ≡ sent_under rule spans s.kind s.time ++ ruled_in rule spans seen
ruled_more rule spans seen s = ap (flat_map (λ y. sent_under rule spans y.kind y.time)) (reverse-append seen (s ∷ []))

-- a packet of no capture of the audit is passed over
pub rule_passed : (place : Place) (shown : Packet) (x : Handed) (g : Ruling) (o : Option Tap) → IsHandedAs place shown x →
    o ≡ tap_at g.subject.ports place.inlet → o ≡ None → RulesMore x g g
rule_passed place shown x g o is told none =
    let at : tap_at g.subject.ports x.inlet ≡ None = ap (tap_at g.subject.ports) is.inlet ∙ sym told ∙ none in
    record {
      subject = refl;
      rule = refl;
      spans = refl;
      takes = λ xs h. record {
        own_spans = h.own_spans;
        seen = h.seen;
        are_seen = subst (λ l. AreSeen g.subject (xs ++ x ∷ []) l) (append-nil h.seen)
            (seen_more g.subject xs h.seen x [] h.are_seen (subst (λ t. AreSeenAt t g.subject.network x []) (sym at) refl));
        audits = h.audits;
      };
    }

-- a packet is taken
pub rule_taken : (place : Place) (shown : Packet) (x : Handed) (old new : Ruling) (o : Option Tap) (own : Tap) (k : Kind) →
    IsHandedAs place shown x → o ≡ tap_at old.subject.ports place.inlet → o ≡ Some own →
    ((captured : Captured) → Shows shown captured → IsKind old.subject.network own captured k) → TakesRuled old.rule old.spans k place.time old.audit new.audit →
    new.subject ≡ old.subject → new.rule ≡ old.rule → new.spans ≡ old.spans → RulesMore x old new
rule_taken place shown x old new o own k is told some kinds taken same same_rule same_spans =
    let at : tap_at old.subject.ports x.inlet ≡ Some own = ap (tap_at old.subject.ports) is.inlet ∙ sym told ∙ some in
    let s : Seen = record { tap = own; time = x.time; packet = x.packet; kind = k } in
    let one : AreSeenAt (Some own) old.subject.network x (s ∷ []) = (k, kinds x.packet is.shows, refl) in
    let took : TakesRuled old.rule old.spans k x.time old.audit new.audit = subst (λ t. TakesRuled old.rule old.spans k t old.audit new.audit) (sym is.time) taken in
    record {
      subject = same;
      rule = same_rule;
      spans = same_spans;
      takes = λ xs h. let sent = ruled_more old.rule old.spans h.seen s in
          record {
            own_spans = took.spans_stay ∙ h.own_spans;
            seen = h.seen ++ s ∷ [];
            are_seen = seen_more old.subject xs h.seen x (s ∷ []) h.are_seen (subst (λ t. AreSeenAt t old.subject.network x (s ∷ [])) (sym at) one);
            audits = λ few.
                let less : length (sent_under old.rule old.spans k x.time ++ ruled_in old.rule old.spans h.seen) < 2 ^ 64 = subst (λ l. length l < 2 ^ 64) sent few in
                let own_less : length (ruled_in old.rule old.spans h.seen) < 2 ^ 64 = omega (arith, length-append (sent_under old.rule old.spans k x.time) (ruled_in old.rule old.spans h.seen)) in
                let from : Audits old.audit.spans (ruled_in old.rule old.spans h.seen) old.audit.sources.entries =
                subst (λ p. Audits p (ruled_in old.rule old.spans h.seen) old.audit.sources.entries) (sym h.own_spans) (h.audits own_less) in
                subst (λ l. Audits old.spans l new.audit.sources.entries) (sym sent)
                (subst (λ p. Audits p (sent_under old.rule old.spans k x.time ++ ruled_in old.rule old.spans h.seen) new.audit.sources.entries) h.own_spans
                (took.audits (ruled_in old.rule old.spans h.seen) less from));
          };
    }

-- no packet was taken
pub rule_begun : (rule : Rule) (subject : Subject) (spans : Spans) (audit : Audit) → Audits spans [] audit.sources.entries → audit.spans ≡ spans →
    IsRuledOf rule subject spans [] audit
rule_begun rule subject spans audit audits same = record { own_spans = same; seen = []; are_seen = refl; audits = λ few. audits }
