-- What one reading of captures gathers, packet by packet.
use Rattle.std.proofs.Common.{◌≡◌, ℕ, List, [], ◌∷◌, ◌++◌, Option, None, Some, sym, ap, ◌∙◌, subst, fold}
use Rattle.std.proofs.lemmas.Fn.{chained_keeps}
use Rattle.sr_audit.specs.declared.span.Spans.{Spans}
use Rattle.sr_audit.specs.Spans.{span_with}
use Rattle.sr_capture.specs.Records.{Captured, Shows}
use Rattle.sr_capture.specs.declared.packet.Packet.{Packet}
use Rattle.sr_capture_script.specs.declared.choice.Choice.{Choice}
use Rattle.sr_capture_script.specs.declared.passing.Place.{Place}
use Rattle.sr_capture_script.specs.Merging.{Feed}
use Rattle.std.specs.List.{FoldsTo}
use Rattle.sr_capture_script.specs.Coming.{AllCame}
use Rattle.sr_capture_script.specs.Items.{Item}
use Rattle.sr_capture_script.specs.Passing.{Handed, wanted, IsHandedAs}
use Rattle.sr_capture_audit.specs.Timing.{all_put_right}
use Rattle.sr_capture_audit.specs.declared.figures.Report.{Report}
use Rattle.sr_capture_audit.specs.declared.gathering.Gathered.{Gathered}
use Rattle.sr_capture_audit.specs.declared.kind.Kind.{Kind}
use Rattle.sr_capture_audit.specs.declared.network.Subject.{Subject}
use Rattle.sr_capture_audit.specs.declared.network.Tap.{Tap}
use Rattle.sr_capture_audit.specs.declared.redboxes.RedBoxes.{RedBoxes}
use Rattle.sr_capture_audit.specs.declared.ruling.Rule.{Rule}
use Rattle.sr_capture_audit.specs.declared.ruling.Ruling.{Ruling}
use Rattle.sr_capture_audit.specs.Counting.{CountsOne}
use Rattle.sr_capture_audit.specs.Kinds.{IsKind}
use Rattle.sr_capture_audit.specs.Auditing.{tap_at, TakesKind, IsReportOf, IsAuditOf}
use Rattle.sr_capture_audit.specs.Ruling.{IsRuledOf, RulesMore, IsRuledAuditOf}
use Rattle.sr_capture_audit.specs.Unions.{boxes_with, named_by, AreBoxesOf}
use Rattle.sr_capture_audit.specs.Gathering.{IsRulingOf, AreRuledIn, TakesRuledIf, IsGathered, GathersMore, IsGatheredOfAll}
use Rattle.sr_capture_audit.proofs.Audited.{passed_over, counted}
use Rattle.sr_capture_audit.proofs.Learned.{boxes_passed, boxes_taken}
use Rattle.sr_capture_audit.proofs.Ruled.{rule_passed, rule_taken}

-- an audit under a rule has the packets that one of its own has
ruling_more : (rule : Rule) (subject : Subject) (spans : Spans) (xs : List Handed) (x : Handed) (old new : Ruling) → RulesMore x old new →
    IsRulingOf rule subject spans xs old → IsRulingOf rule subject spans (xs ++ x ∷ []) new
ruling_more rule subject spans xs x old new more h =
    let own : IsRuledOf old.rule old.subject old.spans xs old.audit =
    subst (λ p. IsRuledOf old.rule old.subject p xs old.audit) (sym h.spans_are)
    (subst (λ r. IsRuledOf r old.subject spans xs old.audit) (sym h.rule_is)
    (subst (λ s. IsRuledOf rule s spans xs old.audit) (sym h.subject_is) h.audit)) in
    record {
      subject_is = more.subject ∙ h.subject_is;
      rule_is = more.rule ∙ h.rule_is;
      spans_are = more.spans ∙ h.spans_are;
      audit = subst (λ p. IsRuledOf rule subject p (xs ++ x ∷ []) new.audit) h.spans_are
          (subst (λ r. IsRuledOf r subject old.spans (xs ++ x ∷ []) new.audit) h.rule_is
          (subst (λ s. IsRuledOf old.rule s old.spans (xs ++ x ∷ []) new.audit) h.subject_is (more.takes xs own)));
    }

-- a packet of no capture of the audit is passed over
part_passed : (place : Place) (shown : Packet) (x : Handed) (o : Option Tap) (rule : Option Rule) (subject : Subject) (spans : Spans)
    (xs : List Handed) (part : Option Ruling) → IsHandedAs place shown x → o ≡ tap_at subject.ports place.inlet → o ≡ None →
    AreRuledIn rule subject spans xs part → AreRuledIn rule subject spans (xs ++ x ∷ []) part
part_passed place shown x o (Some rule) subject spans xs (Some r) is told none h =
    ruling_more rule subject spans xs x r r
    (rule_passed place shown x r o is (told ∙ ap (λ s. tap_at s.ports place.inlet) (sym h.subject_is)) none) h
part_passed place shown x o (Some rule) subject spans xs None is told none h = h
part_passed place shown x o None subject spans xs (Some r) is told none h = h
part_passed place shown x o None subject spans xs None is told none h = h

pub gathers_passed : (place : Place) (shown : Packet) (x : Handed) (g : Gathered) (o : Option Tap) → IsHandedAs place shown x →
    o ≡ tap_at g.report.subject.ports place.inlet → o ≡ None → GathersMore x g g
gathers_passed place shown x g o is told none = record {
  takes = λ by_flow by_counter subject spans xs h.
      let at : o ≡ tap_at subject.ports place.inlet = told ∙ ap (λ s. tap_at s.ports place.inlet) h.report.subject_is in
      record {
        report = (passed_over place shown x g.report o is told none).takes subject spans xs h.report;
        redboxes = boxes_passed place shown x subject g.redboxes o is at none xs h.redboxes;
        flows = part_passed place shown x o by_flow subject spans xs g.flows is at none h.flows;
        counters = part_passed place shown x o by_counter subject spans xs g.counters is at none h.counters;
      };
}

-- a packet is taken
part_taken : (place : Place) (shown : Packet) (x : Handed) (o : Option Tap) (own : Tap) (k : Kind) (rule : Option Rule) (subject : Subject)
    (spans : Spans) (xs : List Handed) (old new : Option Ruling) → IsHandedAs place shown x → o ≡ tap_at subject.ports place.inlet → o ≡ Some own →
    ((captured : Captured) → Shows shown captured → IsKind subject.network own captured k) → TakesRuledIf k place.time old new →
    AreRuledIn rule subject spans xs old → AreRuledIn rule subject spans (xs ++ x ∷ []) new
part_taken place shown x o own k (Some rule) subject spans xs (Some old) (Some new) is told some kinds took h =
    ruling_more rule subject spans xs x old new
    (rule_taken place shown x old new o own k is (told ∙ ap (λ s. tap_at s.ports place.inlet) (sym h.subject_is)) some
    (λ captured shows. subst (λ s. IsKind s.network own captured k) (sym h.subject_is) (kinds captured shows)) took.taken took.subject took.rule
    took.spans) h
part_taken place shown x o own k (Some rule) subject spans xs (Some old) None is told some kinds took h = absurd took
part_taken place shown x o own k (Some rule) subject spans xs None new is told some kinds took h = absurd h
part_taken place shown x o own k None subject spans xs (Some old) new is told some kinds took h = absurd h
part_taken place shown x o own k None subject spans xs None (Some new) is told some kinds took h = absurd took
part_taken place shown x o own k None subject spans xs None None is told some kinds took h = h

pub gathers_taken : (place : Place) (shown : Packet) (x : Handed) (old new : Gathered) (o : Option Tap) (own : Tap) (k : Kind) (octets : List ℕ) →
    IsHandedAs place shown x → o ≡ tap_at old.report.subject.ports place.inlet → o ≡ Some own →
    ((captured : Captured) → Shows shown captured → IsKind old.report.subject.network own captured k) → octets ≡ shown.octets.items →
    CountsOne own k octets old.report.counts new.report.counts → new.report.whole ≡ span_with place.time old.report.whole →
    TakesKind k place.time old.report.audit new.report.audit → new.report.subject ≡ old.report.subject → new.report.spans ≡ old.report.spans →
    new.redboxes.boxes.entries ≡ fold boxes_with old.redboxes.boxes.entries (named_by k) → TakesRuledIf k place.time old.flows new.flows →
    TakesRuledIf k place.time old.counters new.counters → GathersMore x old new
gathers_taken place shown x old new o own k octets is told some kinds are counts whole took same_subject same_spans boxes flows counters = record {
  takes = λ by_flow by_counter subject spans xs h.
      let at : o ≡ tap_at subject.ports place.inlet = told ∙ ap (λ s. tap_at s.ports place.inlet) h.report.subject_is in
      let kinds_at : (captured : Captured) → Shows shown captured → IsKind subject.network own captured k =
      λ captured shows. subst (λ s. IsKind s.network own captured k) h.report.subject_is (kinds captured shows) in
      record {
        report = (counted place shown x old.report new.report o own k octets is told some kinds are counts whole took same_subject
            same_spans).takes subject spans xs h.report;
        redboxes = boxes_taken place shown x subject old.redboxes new.redboxes o own k is at some kinds_at boxes xs h.redboxes;
        flows = part_taken place shown x o own k by_flow subject spans xs old.flows new.flows is at some kinds_at flows h.flows;
        counters = part_taken place shown x o own k by_counter subject spans xs old.counters new.counters is at some kinds_at counters h.counters;
      };
}

-- no packet was taken
pub gathered_begun : (by_flow by_counter : Option Rule) (subject : Subject) (spans : Spans) (report : Report) (redboxes : RedBoxes)
    (flows counters : Option Ruling) → IsReportOf subject spans [] report → AreBoxesOf subject [] redboxes →
    AreRuledIn by_flow subject spans [] flows → AreRuledIn by_counter subject spans [] counters →
    IsGathered by_flow by_counter subject spans [] (record { report = report; redboxes = redboxes; flows = flows; counters = counters })
gathered_begun by_flow by_counter subject spans report redboxes flows counters told named by_flows by_counters =
    record { report = told; redboxes = named; flows = by_flows; counters = by_counters }

-- all packets were taken
pub gathers_all : (by_flow by_counter : Option Rule) (choice : Choice) (subject : Subject) (spans : Spans) (x y z : Feed) (old new : Gathered)
    (merged : List Item) → AllCame x y z merged → IsGathered by_flow by_counter subject spans [] old →
    FoldsTo (λ o h n. GathersMore h o n) old (all_put_right subject.clock (wanted choice merged)) new →
    IsGatheredOfAll by_flow by_counter choice subject spans x y z new
gathers_all by_flow by_counter choice subject spans x y z old new merged came none all = record {
  merged = merged;
  came = came;
  of_all = chained_keeps (λ o h n. GathersMore h o n) (λ xs g. IsGathered by_flow by_counter subject spans xs g)
      (λ xs q h v is took. took.takes by_flow by_counter subject spans xs is) (all_put_right subject.clock (wanted choice merged)) old new none all;
}

-- the report alone
pub report_of_all : (choice : Choice) (subject : Subject) (spans : Spans) (x y z : Feed) (g : Gathered) →
    IsGatheredOfAll None None choice subject spans x y z g → IsAuditOf choice subject spans x y z g.report
report_of_all choice subject spans x y z g all = record { merged = all.merged; came = all.came; report = all.of_all.report }

-- an audit under a rule took all packets
pub ruling_all : (rule : Rule) (choice : Choice) (subject : Subject) (spans : Spans) (x y z : Feed) (old new : Ruling)
    (merged : List Item) → AllCame x y z merged → IsRulingOf rule subject spans [] old →
    FoldsTo (λ o h n. RulesMore h o n) old (all_put_right subject.clock (wanted choice merged)) new →
    IsRuledAuditOf rule choice subject spans x y z new.audit
ruling_all rule choice subject spans x y z old new merged came none all =
    let end : IsRulingOf rule subject spans (all_put_right subject.clock (wanted choice merged)) new =
    chained_keeps (λ o h n. RulesMore h o n) (λ xs r. IsRulingOf rule subject spans xs r)
    (λ xs q h v is took. ruling_more rule subject spans xs h q v took is) (all_put_right subject.clock (wanted choice merged)) old new none all in
    record { merged = merged; came = came; of_all = end.audit }
