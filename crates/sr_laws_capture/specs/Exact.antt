-- What a check judges, as a function of the arrivals that its audits take.
use Rattle.std.specs.Prelude.{◌≡◌, nat_lt, Bool, true, false, not, ◌&&◌, ◌||◌, List, Option, None, Some, if◌then◌else◌}
use Rattle.sr_audit.specs.declared.audit.Audit.{Audit}
use Rattle.sr_audit.specs.declared.side.Side.TheVariants.{A, B}
use Rattle.sr_audit.specs.declared.source.Figures.{Figures}
use Rattle.sr_audit.specs.declared.span.Spans.{Spans}
use Rattle.sr_audit.specs.Audits.{Sent}
use Rattle.sr_audit.specs.Faults.{tells_of_faults}
use Rattle.sr_laws_audit.specs.Exactly.{some_source, HasEachSource}
use Rattle.sr_capture_script.specs.Passing.{Handed}
use Rattle.sr_capture_audit.specs.declared.counts.Counts.{Counts}
use Rattle.sr_capture_audit.specs.declared.figures.Report.{Report}
use Rattle.sr_capture_audit.specs.declared.flows.Sight.{Sight}
use Rattle.sr_capture_audit.specs.declared.flows.Sight.TheVariants.{All, Part}
use Rattle.sr_capture_audit.specs.declared.judgement.Judgement.{Judgement}
use Rattle.sr_capture_audit.specs.declared.judgement.Judgement.TheVariants.{Sound, Faulty, Unjudged}
use Rattle.sr_capture_audit.specs.declared.judgement.Reason.{Reason}
use Rattle.sr_capture_audit.specs.declared.judgement.Reason.TheVariants as reason
use Rattle.sr_capture_audit.specs.declared.network.Subject.{Subject}
use Rattle.sr_capture_audit.specs.Auditing.{sent_in, IsReportOf}
use Rattle.sr_capture_audit.specs.Counting.{all_figures}
use Rattle.sr_capture_audit.specs.Edging.{tells_of_lost, tells_of_missing}
use Rattle.sr_capture_audit.specs.Faults.{shows_lost, shows_missing, have_faults}
use Rattle.sr_capture_audit.specs.Hints.{are_swapped}
use Rattle.sr_capture_audit.specs.Judging.{shows_pairs, are_cut, network_judgement, check_status}
use Rattle.sr_laws_capture.specs.Judged.{judged_report, IsByItself}

-- frames came by one side alone, numbers by none, and frames by both
abbrev pub lost_among : Spans → List Sent → Bool
lost_among spans sent = some_source shows_lost spans sent

abbrev pub missing_among : Spans → List Sent → Bool
missing_among spans sent = some_source shows_missing spans sent

abbrev pub paired_among : Spans → List Sent → Bool
paired_among spans sent = some_source shows_pairs spans sent

-- the figures of a source, where other frames tell of those that one side lost, and counters of numbers of no frame
abbrev pub without_lost : Bool → Figures → Figures
without_lost true f = record f { tally = record f.tally { alone = f.edges } }
without_lost false f = f

abbrev pub without_missing : Bool → Figures → Figures
without_missing true f = record f { neither = 0 }
without_missing false f = f

abbrev pub tells_beside : Bool → Bool → Figures → Bool
tells_beside lost missing f = tells_of_faults (without_missing missing (without_lost lost f))

abbrev pub sees_all : Sight → Bool
sees_all All = true
sees_all Part = false

-- the arrivals of all sources, those that are judged, and those of the counters, tell of a fault
abbrev pub faults_by : Counts → Spans → List Sent → List Sent → List Sent → Sight → Bool
faults_by counts spans sent frames counters sight =
    have_faults counts || ((lost_among spans sent && lost_among spans frames)
    || ((missing_among spans sent && (sees_all sight && missing_among spans counters))
    || some_source (tells_beside (lost_among spans sent) (missing_among spans sent)) spans sent))

-- why nothing can be judged
abbrev pub reason_by : Counts → Spans → List Sent → Option Reason
reason_by counts spans sent =
    if are_cut counts then Some reason.Cut
    else if not (nat_lt 0 counts.a.numbered) then Some (reason.Unnumbered A)
    else if not (nat_lt 0 counts.b.numbered) then Some (reason.Unnumbered B)
    else if are_swapped counts then Some reason.Swapped
    else if paired_among spans sent then None else Some reason.Unpaired

abbrev pub judged_by : Option Reason → Bool → Judgement
judged_by (Some why) faults = Unjudged why
judged_by None faults = if faults then Faulty else Sound

abbrev pub judgement_by : Counts → Spans → List Sent → List Sent → List Sent → Sight → Judgement
judgement_by counts spans sent frames counters sight =
    judged_by (reason_by counts spans sent) (faults_by counts spans sent frames counters sight)

-- the report that the program judges is judged so, and a check ends with 0, 3 or 4 by it
abbrev pub ChecksAreByArrivals : Type 0
ChecksAreByArrivals = (judged : Spans) (subject : Subject) (xs : List Handed) (r : Report) (counters : Audit) (sight : Sight)
    (frames : Audit) (by_counter by_flow : List Sent) (told : IsReportOf subject judged xs r) → IsByItself r →
    HasEachSource judged (sent_in told.seen) r.audit.sources.entries →
    (tells_of_lost r ≡ true → HasEachSource judged by_flow frames.sources.entries) →
    (tells_of_missing r ≡ true → HasEachSource judged by_counter counters.sources.entries) →
    check_status (network_judgement (judged_report r counters sight frames))
    ≡ check_status (judgement_by (all_figures told.seen) judged (sent_in told.seen) by_flow by_counter sight)
