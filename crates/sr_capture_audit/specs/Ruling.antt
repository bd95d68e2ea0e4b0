-- Audits of some frames, or of frames by other sources: of those to single addresses, flow by flow; of those that tell what was lost, which
-- one to a single address does only where both captures see its flow; and of the counters by which frames are numbered.
use Rattle.std.specs.Prelude.{◌≡◌, ℕ, ◌^◌, ◌<◌, ◌||◌, List, [], ◌∷◌, ◌++◌, length, reverse, Option, None, Some, if◌then◌else◌}
use Rattle.std.specs.List.{flat_map}
use Rattle.sr_frame.specs.declared.fields.Mac.{Mac}
use Rattle.sr_audit.specs.declared.audit.Audit.{Audit}
use Rattle.sr_audit.specs.declared.side.Side.TheVariants.{A, B}
use Rattle.sr_audit.specs.declared.span.Spans.{Spans}
use Rattle.sr_audit.specs.Audits.{Sent, Audits}
use Rattle.sr_audit.specs.Edges.{is_beyond}
use Rattle.sr_capture_script.specs.declared.choice.Choice.{Choice}
use Rattle.sr_capture_script.specs.Coming.{AllCame}
use Rattle.sr_capture_script.specs.Items.{Item}
use Rattle.sr_capture_script.specs.Merging.{Feed}
use Rattle.sr_capture_script.specs.Passing.{Handed, wanted}
use Rattle.sr_capture_audit.specs.declared.kind.Kind.{Kind}
use Rattle.sr_capture_audit.specs.declared.kind.Kind.TheVariants.{Numbered}
use Rattle.sr_capture_audit.specs.declared.kind.Numbered.{Numbered as NumberedFrame}
use Rattle.sr_capture_audit.specs.declared.network.Subject.{Subject}
use Rattle.sr_capture_audit.specs.declared.ruling.Rule.{Rule}
use Rattle.sr_capture_audit.specs.declared.ruling.Rule.TheVariants.{ByFlow, Judged, Counters, InnerCounters}
use Rattle.sr_capture_audit.specs.declared.ruling.Ruling.{Ruling}
use Rattle.sr_capture_audit.specs.Auditing.{AreSeen}
use Rattle.sr_capture_audit.specs.Counting.{Seen}
use Rattle.sr_capture_audit.specs.Flows.{flow_name, judges}
use Rattle.sr_capture_audit.specs.Unions.{counter_of}
use Rattle.sr_capture_audit.specs.Timing.{all_put_right}

-- the source of a frame under a rule, that came at a time: its flow if it was sent to a single address; its own if it tells of losses; or
-- that whose counter numbered it, of all frames, or of those that came while both captures ran
abbrev pub source_under : Rule → Spans → NumberedFrame → ℕ → Option Mac
source_under ByFlow spans n time = if n.to_group then None else Some (flow_name n.src n.dst)
source_under (Judged f) spans n time = if judges f n then Some n.src else None
source_under (Counters b) spans n time = Some (counter_of b.boxes.entries n.src)
source_under (InnerCounters b) spans n time =
    if is_beyond spans A time || is_beyond spans B time then None else Some (counter_of b.boxes.entries n.src)

-- a frame with a number is an arrival of that source
abbrev pub sent_from : Option Mac → NumberedFrame → ℕ → List Sent
sent_from (Some src) n time = (src, record { side = n.side; seq = n.seq; time = time }) ∷ []
sent_from None n time = []

abbrev pub sent_under : Rule → Spans → Kind → ℕ → List Sent
sent_under rule spans (Numbered n) time = sent_from (source_under rule spans n time) n time
sent_under rule spans other time = []

-- the arrivals of all sources under a rule, newest first
abbrev pub ruled_in : Rule → Spans → List Seen → List Sent
ruled_in rule spans seen = flat_map (λ x. sent_under rule spans x.kind x.time) (reverse seen)

-- an audit is of these packets, under a rule
pub record IsRuledOf (rule : Rule) (subject : Subject) (spans : Spans) (xs : List Handed) (audit : Audit) : Type 0 where
  pub own_spans : audit.spans ≡ spans
  pub seen : List Seen
  pub are_seen : AreSeen subject xs seen
  pub audits : length (ruled_in rule spans seen) < 2 ^ 64 → Audits spans (ruled_in rule spans seen) audit.sources.entries

-- one of a packet more
pub record RulesMore (x : Handed) (old new : Ruling) : Type 0 where
  pub subject : new.subject ≡ old.subject
  pub rule : new.rule ≡ old.rule
  pub spans : new.spans ≡ old.spans
  pub takes : (xs : List Handed) → IsRuledOf old.rule old.subject old.spans xs old.audit →
      IsRuledOf old.rule old.subject old.spans (xs ++ x ∷ []) new.audit

-- an audit took a packet of this kind, that came then
pub record TakesRuled (rule : Rule) (spans : Spans) (k : Kind) (time : ℕ) (old new : Audit) : Type 0 where
  pub spans_stay : new.spans ≡ old.spans
  pub audits : (xs : List Sent) → length (sent_under rule spans k time ++ xs) < 2 ^ 64 → Audits old.spans xs old.sources.entries →
      Audits old.spans (sent_under rule spans k time ++ xs) new.sources.entries

-- the audit under a rule of three files: of all their packets that are wanted
pub record IsRuledAuditOf (rule : Rule) (choice : Choice) (subject : Subject) (spans : Spans) (x y z : Feed) (audit : Audit) : Type 0 where
  pub merged : List Item
  pub came : AllCame x y z merged
  pub of_all : IsRuledOf rule subject spans (all_put_right subject.clock (wanted choice merged)) audit
