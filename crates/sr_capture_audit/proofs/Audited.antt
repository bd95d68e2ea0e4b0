-- The report of the packets of captures, one by one.
use Rattle.std.proofs.Common.{◌≡◌, ℕ, ◌+◌, ◌^◌, ◌<◌, List, [], ◌∷◌, ◌++◌, length, Option, None, Some, refl, sym, ap, ◌∙◌, subst, arith, length-append}
use Rattle.std.specs.Prelude.{map}
use Rattle.std.specs.List.{flat_map}
use Rattle.std.proofs.lemmas.List.{append-nil, append_assoc, map-append, reverse-append}
use Rattle.sr_audit.specs.declared.audit.Audit.{Audit}
use Rattle.sr_audit.specs.declared.span.Spans.{Spans}
use Rattle.sr_audit.specs.Audits.{Sent, Audits, IsLeftOut}
use Rattle.sr_audit.specs.Hearing.{Reported, Hears}
use Rattle.sr_audit.specs.Spans.{span_of, span_with}
use Rattle.sr_capture.specs.Records.{Captured, Shows}
use Rattle.sr_capture.specs.declared.packet.Packet.{Packet}
use Rattle.sr_capture_script.specs.declared.passing.Place.{Place}
use Rattle.sr_capture_script.specs.Passing.{Handed, IsHandedAs}
use Rattle.sr_capture_audit.specs.declared.counts.Counts.{Counts}
use Rattle.sr_capture_audit.specs.declared.figures.Report.{Report}
use Rattle.sr_capture_audit.specs.declared.flows.Sight.TheVariants.{All}
use Rattle.sr_capture_audit.specs.declared.kind.Kind.{Kind}
use Rattle.sr_capture_audit.specs.declared.kind.Numbered.{Numbered as NumberedFrame}
use Rattle.sr_capture_audit.specs.declared.kind.Kind.TheVariants.{Numbered, Plain}
use Rattle.sr_capture_audit.specs.declared.network.Subject.{Subject}
use Rattle.sr_capture_audit.specs.declared.network.Tap.{Tap}
use Rattle.sr_capture_audit.specs.Counting.{Seen, all_figures, CountsOne}
use Rattle.sr_capture_audit.specs.Kinds.{IsKind}
use Rattle.sr_capture_audit.specs.Auditing.{tap_at, AreSeenAt, AreSeen, sent_by, sent_in, sign_with, signs_by, signs_in, IsReportOf, ReportsMore, TakesKind}
use Rattle.sr_capture_audit.proofs.Spanned.{span_more}

-- one packet more
pub seen_more : (subject : Subject) (xs : List Handed) (seen : List Seen) (x : Handed) (own : List Seen) → AreSeen subject xs seen →
    AreSeenAt (tap_at subject.ports x.inlet) subject.network x own → AreSeen subject (xs ++ x ∷ []) (seen ++ own)
seen_more subject [] seen x own h more = (own, [], ap (λ l. l ++ own) h ∙ sym (append-nil own), more, refl)
seen_more subject (y ∷ ys) seen x own h more =
    (h.0, h.1 ++ own, ap (λ l. l ++ own) h.2 ∙ append_assoc h.0 h.1 own, h.3, seen_more subject ys h.1 x own h.4 more)

sent_more : (seen : List Seen) (s : Seen) → sent_in (seen ++ s ∷ []) ≡ sent_by s.kind s.time ++ sent_in seen
sent_more seen s = ap (flat_map (λ y. sent_by y.kind y.time)) (reverse-append seen (s ∷ []))

signs_more : (seen : List Seen) (s : Seen) → signs_in (seen ++ s ∷ []) ≡ signs_by s.kind s.time ++ signs_in seen
signs_more seen s = ap (flat_map (λ y. signs_by y.kind y.time)) (reverse-append seen (s ∷ []))

-- a frame with a number is an arrival of its source, and may be a sign of life
pub takes_numbered : (n : NumberedFrame) (time : ℕ) (old mid new : Audit) → mid.spans ≡ old.spans → new.spans ≡ mid.spans →
    ((xs : List Sent) → length xs + 1 < 2 ^ 64 → Audits old.spans xs old.sources.entries →
    Audits old.spans ((n.src, record { side = n.side; seq = n.seq; time = time }) ∷ xs) mid.sources.entries) →
    ((signs : List Reported) → Hears signs old.sources.entries → Hears signs mid.sources.entries) →
    ((xs : List Sent) → Audits old.spans xs old.sources.entries → IsLeftOut old.sources.entries xs old.left_out →
    IsLeftOut mid.sources.entries ((n.src, record { side = n.side; seq = n.seq; time = time }) ∷ xs) mid.left_out) →
    ((spans : Spans) (xs : List Sent) → Audits spans xs mid.sources.entries → Audits spans xs new.sources.entries) →
    ((signs : List Reported) → Hears signs mid.sources.entries → Hears (sign_with n.sign n.side time ++ signs) new.sources.entries) →
    ((spans : Spans) (xs : List Sent) → Audits spans xs mid.sources.entries → IsLeftOut mid.sources.entries xs mid.left_out →
    IsLeftOut new.sources.entries xs new.left_out) →
    TakesKind (Numbered n) time old new
takes_numbered n time old mid new same still taken kept left keeps heard leaves = record {
  spans = still ∙ same;
  audits = λ xs few audits. keeps old.spans ((n.src, record { side = n.side; seq = n.seq; time = time }) ∷ xs) (taken xs (omega (arith, few)) audits);
  hears = λ signs h. heard signs (kept signs h);
  left_out = λ xs audits counts few. leaves old.spans ((n.src, record { side = n.side; seq = n.seq; time = time }) ∷ xs)
      (taken xs (omega (arith, few)) audits) (left xs audits counts);
}

-- a packet of no capture of the audit is passed over
pub passed_over : (place : Place) (shown : Packet) (x : Handed) (r : Report) (o : Option Tap) → IsHandedAs place shown x →
    o ≡ tap_at r.subject.ports place.inlet → o ≡ None → ReportsMore x r r
passed_over place shown x r o is told none = record {
  takes = λ subject spans xs h.
      let at : tap_at subject.ports x.inlet ≡ None =
      ap (tap_at subject.ports) is.inlet ∙ ap (λ s. tap_at s.ports place.inlet) (sym h.subject_is) ∙ sym told ∙ none in
      record {
        subject_is = h.subject_is;
        spans_are = h.spans_are;
        own_spans = h.own_spans;
        seen = h.seen;
        are_seen = subst (λ l. AreSeen subject (xs ++ x ∷ []) l) (append-nil h.seen)
            (seen_more subject xs h.seen x [] h.are_seen (subst (λ t. AreSeenAt t subject.network x []) (sym at) refl));
        counts = h.counts;
        whole = h.whole;
        audits = h.audits;
        hears = h.hears;
        left_out = h.left_out;
      };
}

-- the octets of a frame without number are those that are shown
octets_shown : (place : Place) (shown : Packet) (x : Handed) (network : _) (own : Tap) (k : Kind) (octets : List ℕ) → IsHandedAs place shown x →
    octets ≡ shown.octets.items → IsKind network own x.packet k → k ≡ Plain → x.packet.octets ≡ octets
octets_shown place shown x network own k octets is are kind plain =
    let fit = subst (λ j. IsKind network own x.packet j) plain kind in
    sym (are ∙ is.shows.octets fit.0.most)

-- a packet is counted and taken
pub counted : (place : Place) (shown : Packet) (x : Handed) (old new : Report) (o : Option Tap) (own : Tap) (k : Kind) (octets : List ℕ) →
    IsHandedAs place shown x → o ≡ tap_at old.subject.ports place.inlet → o ≡ Some own →
    ((captured : Captured) → Shows shown captured → IsKind old.subject.network own captured k) → octets ≡ shown.octets.items →
    CountsOne own k octets old.counts new.counts → new.whole ≡ span_with place.time old.whole → TakesKind k place.time old.audit new.audit →
    new.subject ≡ old.subject → new.spans ≡ old.spans → ReportsMore x old new
counted place shown x old new o own k octets is told some kinds are counts whole audit same_subject same_spans = record {
  takes = λ subject spans xs h.
      let at : tap_at subject.ports x.inlet ≡ Some own =
      ap (tap_at subject.ports) is.inlet ∙ ap (λ s. tap_at s.ports place.inlet) (sym h.subject_is) ∙ sym told ∙ some in
      let kind = kinds x.packet is.shows in
      let s : Seen = record { tap = own; time = x.time; packet = x.packet; kind = k } in
      let one : AreSeenAt (Some own) subject.network x (s ∷ []) =
      (k, subst (λ n. IsKind n own x.packet k) (ap (λ u. u.network) h.subject_is) kind, refl) in
      let took : TakesKind k x.time old.audit new.audit = subst (λ t. TakesKind k t old.audit new.audit) (sym is.time) audit in
      let sent = sent_more h.seen s in
      record {
        subject_is = same_subject ∙ h.subject_is;
        spans_are = same_spans ∙ h.spans_are;
        own_spans = took.spans ∙ h.own_spans;
        seen = h.seen ++ s ∷ [];
        are_seen = seen_more subject xs h.seen x (s ∷ []) h.are_seen (subst (λ t. AreSeenAt t subject.network x (s ∷ [])) (sym at) one);
        counts = counts h.seen s (record {
          at = refl;
          is = refl;
          octets_are = octets_shown place shown x old.subject.network own k octets is are kind;
        }) h.counts;
        whole = whole ∙ ap (λ t. span_with t old.whole) (sym is.time) ∙ ap (span_with x.time) h.whole ∙ sym (ap span_of (map-append (λ y. y.time) h.seen (s ∷ [])) ∙ span_more (map (λ y. y.time) h.seen) s.time);
        audits = λ few.
            let less : length (sent_by k x.time ++ sent_in h.seen) < 2 ^ 64 = subst (λ l. length l < 2 ^ 64) sent few in
            let own_less : length (sent_in h.seen) < 2 ^ 64 = omega (arith, length-append (sent_by k x.time) (sent_in h.seen)) in
            let from : Audits old.audit.spans (sent_in h.seen) old.audit.sources.entries =
            subst (λ p. Audits p (sent_in h.seen) old.audit.sources.entries) (sym h.own_spans) (h.audits own_less) in
            subst (λ l. Audits spans l new.audit.sources.entries) (sym sent)
            (subst (λ p. Audits p (sent_by k x.time ++ sent_in h.seen) new.audit.sources.entries) h.own_spans
            (took.audits (sent_in h.seen) less from));
        hears = subst (λ l. Hears l new.audit.sources.entries) (sym (signs_more h.seen s)) (took.hears (signs_in h.seen) h.hears);
        left_out = λ few.
            let less : length (sent_by k x.time ++ sent_in h.seen) < 2 ^ 64 = subst (λ l. length l < 2 ^ 64) sent few in
            let own_less : length (sent_in h.seen) < 2 ^ 64 = omega (arith, length-append (sent_by k x.time) (sent_in h.seen)) in
            let from : Audits old.audit.spans (sent_in h.seen) old.audit.sources.entries =
            subst (λ p. Audits p (sent_in h.seen) old.audit.sources.entries) (sym h.own_spans) (h.audits own_less) in
            subst (λ l. IsLeftOut new.audit.sources.entries l new.audit.left_out) (sym sent)
            (took.left_out (sent_in h.seen) from (h.left_out own_less) less);
      };
}

-- no packet was taken
pub begun : (subject : Subject) (spans : Spans) (counts : Counts) (audit : Audit) → counts ≡ all_figures [] → Audits spans [] audit.sources.entries →
    Hears [] audit.sources.entries → audit.spans ≡ spans → IsLeftOut audit.sources.entries [] audit.left_out →
    IsReportOf subject spans []
    (record { subject = subject; spans = spans; whole = None; counts = counts; audit = audit; judged = None; counters = None; sight = All })
begun subject spans counts audit none audits hears same left = record {
  subject_is = refl;
  spans_are = refl;
  own_spans = same;
  seen = [];
  are_seen = refl;
  counts = none;
  whole = refl;
  audits = λ few. audits;
  hears = hears;
  left_out = λ few. left;
}
