-- Reports of a network in which nothing is dropped, cut or sent astray, wherever the recorders are.
use Rattle.std.specs.Prelude.{Bool, ◌≡◌, ℕ, ◌≤◌, true, false, ◌⊎◌, List, length}
use Rattle.std.specs.List.{IsDistinct}
use Rattle.std.specs.Map.{keys_of}
use Rattle.sr_frame.specs.declared.fields.Mac.{Mac}
use Rattle.sr_frame.specs.Addresses.{mac_eq}
use Rattle.sr_audit.specs.declared.arrival.Arrival.{Arrival}
use Rattle.sr_audit.specs.declared.audit.Audit.{Audit}
use Rattle.sr_audit.specs.declared.span.Span.{Span}
use Rattle.sr_audit.specs.declared.span.Spans.{Spans}
use Rattle.sr_audit.specs.Audits.{Sent, of}
use Rattle.sr_audit.specs.Limits.{exact_arrivals}
use Rattle.sr_laws_audit.specs.Records.{HasAll, GoesPastOne, AreQuietEdges, LeavesOut}
use Rattle.sr_laws_audit.specs.Sources.{HasTrueNumbering, IsSeenByBoth, IsSeenWhole}
use Rattle.sr_capture_script.specs.Passing.{Handed}
use Rattle.sr_capture_audit.specs.declared.figures.Report.{Report}
use Rattle.sr_capture_audit.specs.declared.flows.Sight.{Sight}
use Rattle.sr_capture_audit.specs.declared.flows.Sight.TheVariants.{Part}
use Rattle.sr_capture_audit.specs.declared.network.Subject.{Subject}
use Rattle.sr_capture_audit.specs.declared.ruling.Rule.{Rule}
use Rattle.sr_capture_audit.specs.Auditing.{sent_in, IsReportOf}
use Rattle.sr_capture_audit.specs.Edging.{least_edge, edge_width, inner_spans, tells_of_lost, tells_of_missing}
use Rattle.sr_capture_audit.specs.Ruling.{ruled_in, IsRuledOf}
use Rattle.sr_laws_capture.specs.Judged.{judged_report, IsByItself, have_astray, IsNotFaulty}

-- an audit has each address once, and takes up to 2^53 arrivals
pub record IsExactAudit (sent : List Sent) (audit : Audit) : Type 0 where
  pub once : IsDistinct mac_eq (keys_of audit.sources.entries)
  pub few : length sent ≤ exact_arrivals

-- the report of packets of which none was sent astray, and whose sources have a true numbering
pub record IsOfNumbered (apart : ℕ) (recorded judged : Spans) (subject : Subject) (xs : List Handed) (r : Report) : Type 0 where
  pub told : IsReportOf subject judged xs r
  pub own : IsByItself r
  pub within : IsExactAudit (sent_in told.seen) r.audit
  pub none_astray : have_astray told.seen ≡ false
  pub numbered : (m : Mac) → HasTrueNumbering apart recorded (of m (sent_in told.seen))

-- an audit under a rule, of frames of which each goes past both recorders
pub record IsOfBoth (apart : ℕ) (recorded judged : Spans) (rule : Rule) (subject : Subject) (xs : List Handed) (audit : Audit) : Type 0
  where
    pub told : IsRuledOf rule subject judged xs audit
    pub within : IsExactAudit (ruled_in rule judged told.seen) audit
    pub seen : (m : Mac) → IsSeenByBoth apart recorded (of m (ruled_in rule judged told.seen))

-- the frames of a counter that came while both recorders ran, of a ring in which each goes past one of them at least, none near the edges
pub record IsSeenInRing (apart : ℕ) (ran : Spans) (xs : List Arrival) : Type 0 where
  pub numbered : HasTrueNumbering apart ran xs
  pub has_all : HasAll numbered.frames ran numbered.copies
  pub past_one : GoesPastOne numbered.frames
  pub span : Span
  pub quiet : AreQuietEdges apart numbered.frames ran span

-- an audit of counters, each of which is seen whole, by both recorders or in a ring
pub record IsOfWhole (apart : ℕ) (recorded ran judged : Spans) (rule : Rule) (subject : Subject) (xs : List Handed) (audit : Audit) : Type 0
  where
    pub told : IsRuledOf rule subject judged xs audit
    pub within : IsExactAudit (ruled_in rule judged told.seen) audit
    pub seen : (m : Mac) → IsSeenWhole apart recorded (of m (ruled_in rule judged told.seen))
        ⊎ IsSeenInRing apart ran (of m (ruled_in rule judged told.seen))

-- parts of captures that lie so far from both ends of each leave out what was not recorded
abbrev pub InnerSpansLeaveOut : Type 0
InnerSpansLeaveOut = (apart width : ℕ) (recorded : Spans) → apart ≤ width → LeavesOut apart recorded (inner_spans width recorded)

-- an edge is a millisecond wide at least: where no frame takes longer to pass, the edges of a report leave out what was not recorded
abbrev pub EdgesAreWideEnough : Type 0
EdgesAreWideEnough = (apart : ℕ) (recorded : Spans) (r : Report) → apart ≤ least_edge →
    LeavesOut apart recorded (inner_spans (edge_width r) recorded)

-- where both recorders see all frames of each source, the report by itself tells of no fault
pub record IsSilent (r : Report) : Type 0 where
  pub lost : tells_of_lost r ≡ false
  pub missing : tells_of_missing r ≡ false
  pub sound : IsNotFaulty r

abbrev pub MirrorsTellNoFault : Type 0
MirrorsTellNoFault = (apart : ℕ) (recorded judged : Spans) (subject : Subject) (xs : List Handed) (r : Report)
    (of_numbered : IsOfNumbered apart recorded judged subject xs r) →
    ((m : Mac) → IsSeenWhole apart recorded (of m (sent_in of_numbered.told.seen))) → LeavesOut apart recorded judged → IsSilent r

-- a report whose sources are all seen whole
pub record IsOfWholeSources (apart : ℕ) (recorded judged : Spans) (subject : Subject) (xs : List Handed) (r : Report) : Type 0 where
  pub of_numbered : IsOfNumbered apart recorded judged subject xs r
  pub whole : (m : Mac) → IsSeenWhole apart recorded (of m (sent_in of_numbered.told.seen))

-- a report of all that was recorded; where that tells of frames by one side alone, one without the edges that it has
abbrev pub read_twice_if : Bool → Report → Report → Report
read_twice_if true first second = second
read_twice_if false first second = first

abbrev pub TwoReadingsTellNoFault : Type 0
TwoReadingsTellNoFault = (apart : ℕ) (recorded : Spans) (subject : Subject) (xs : List Handed) (first second : Report) →
    IsOfWholeSources apart recorded recorded subject xs first →
    (tells_of_lost first ≡ true → (apart ≤ edge_width first)
    × IsOfWholeSources apart recorded (inner_spans (edge_width first) recorded) subject xs second) →
    IsSilent (read_twice_if (tells_of_lost first) first second)

-- wherever the recorders are: where frames came by one side alone, the edges are left out, and the frames that are judged go past both;
-- where numbers are missing, the captures have but part of what was sent, or the counters are seen whole
abbrev pub RecordersTellNoFault : Type 0
RecordersTellNoFault = (apart : ℕ) (recorded ran judged : Spans) (subject : Subject) (xs : List Handed) (r : Report) (counters : Audit)
    (sight : Sight) (frames : Audit) (by_counter by_flow : Rule) → IsOfNumbered apart recorded judged subject xs r →
    (tells_of_lost r ≡ true → LeavesOut apart recorded judged × IsOfBoth apart recorded judged by_flow subject xs frames) →
    (tells_of_missing r ≡ true → (sight ≡ Part) ⊎ IsOfWhole apart recorded ran judged by_counter subject xs counters) →
    IsNotFaulty (judged_report r counters sight frames)
