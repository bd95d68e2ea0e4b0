-- Laws of audits under rules.
use Rattle.std.specs.Prelude.{◌≡◌, ◌^◌, ◌<◌, true, List, length}
use Rattle.sr_audit.specs.declared.audit.Audit.{Audit}
use Rattle.sr_audit.specs.declared.span.Spans.{Spans}
use Rattle.sr_audit.specs.Audits.{Audits}
use Rattle.sr_capture_audit.specs.declared.flows.Flows.{Flows}
use Rattle.sr_capture_audit.specs.declared.ruling.Rule.TheVariants.{ByFlow, Judged}
use Rattle.sr_capture_audit.specs.Auditing.{sent_in}
use Rattle.sr_capture_audit.specs.Counting.{Seen}
use Rattle.sr_capture_audit.specs.Flows.{judges_all}
use Rattle.sr_capture_audit.specs.Ruling.{ruled_in}

-- where all frames tell of losses, as an audit by flow of these packets tells, the arrivals that are judged are those of the report
abbrev pub JudgedFramesMayBeAll : Type 0
JudgedFramesMayBeAll = (f : Flows) (by_flow : Audit) (spans : Spans) (seen : List Seen) → judges_all f by_flow ≡ true →
    Audits spans (ruled_in ByFlow spans seen) by_flow.sources.entries → ruled_in (Judged f) spans seen ≡ sent_in seen
