-- What is counted of frames that no recorder has.
use Rattle.std.specs.Prelude.{◌≡◌, ◌<◌, ◌≤◌, true, List, length, Some, sum_by}
use Rattle.std.specs.Map.{lookup}
use Rattle.sr_frame.specs.declared.fields.Mac.{Mac}
use Rattle.sr_frame.specs.Addresses.{mac_eq}
use Rattle.sr_audit.specs.declared.audit.Audit.{Audit}
use Rattle.sr_audit.specs.declared.source.Source.{Source}
use Rattle.sr_audit.specs.declared.span.Spans.{Spans}
use Rattle.sr_audit.specs.Audits.{of}
use Rattle.sr_audit.specs.Limits.{exact_arrivals}
use Rattle.sr_audit.specs.Shown.{figures_of}
use Rattle.sr_audit.specs.Stretches.{stretches}
use Rattle.sr_laws_audit.specs.Outcomes.{Neither, numbers_with}
use Rattle.sr_laws_audit.specs.Sources.{CountsEachNumber}
use Rattle.sr_capture_script.specs.Passing.{Handed}
use Rattle.sr_capture_audit.specs.declared.figures.Report.{Report}
use Rattle.sr_capture_audit.specs.declared.flows.Sight.TheVariants.{All}
use Rattle.sr_capture_audit.specs.declared.network.Subject.{Subject}
use Rattle.sr_capture_audit.specs.declared.ruling.Rule.{Rule}
use Rattle.sr_capture_audit.specs.Auditing.{sent_in, IsReportOf}
use Rattle.sr_capture_audit.specs.Edging.{tells_of_missing}
use Rattle.sr_capture_audit.specs.Faults.{have_missing, has_faults}
use Rattle.sr_capture_audit.specs.Ruling.{ruled_in, IsRuledOf}

-- the figures of each source of a report count each of its numbers; where some is of no frame, the report asks the counters
abbrev pub ReportsCountEachNumber : Type 0
ReportsCountEachNumber = (subject : Subject) (spans : Spans) (xs : List Handed) (r : Report) (told : IsReportOf subject spans xs r)
    (m : Mac) (s : Source) → lookup (mac_eq m) r.audit.sources.entries ≡ Some s → length (sent_in told.seen) ≤ exact_arrivals →
    CountsEachNumber spans (of m (sent_in told.seen)) (figures_of s)
    × (0 < sum_by (numbers_with spans Neither) (stretches (of m (sent_in told.seen))) → tells_of_missing r ≡ true)

-- so do those of each counter; where some number is of no frame, the audit of counters tells so, and a report that has all that was sent
-- tells of a fault by it
abbrev pub CountersCountEachNumber : Type 0
CountersCountEachNumber = (rule : Rule) (subject : Subject) (spans : Spans) (xs : List Handed) (counters : Audit)
    (told : IsRuledOf rule subject spans xs counters) (m : Mac) (s : Source) → lookup (mac_eq m) counters.sources.entries ≡ Some s →
    length (ruled_in rule spans told.seen) ≤ exact_arrivals →
    CountsEachNumber spans (of m (ruled_in rule spans told.seen)) (figures_of s)
    × (0 < sum_by (numbers_with spans Neither) (stretches (of m (ruled_in rule spans told.seen))) →
    (have_missing counters ≡ true) × ((r : Report) → r.counters ≡ Some counters → r.sight ≡ All → has_faults r ≡ true))
