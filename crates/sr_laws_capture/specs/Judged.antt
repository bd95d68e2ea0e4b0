-- The report that a check judges, as the program puts it together from audits of the same packets.
use Rattle.std.specs.Prelude.{◌≡◌, Bool, true, false, ◌||◌, List, None, Some, ◌⊎◌}
use Rattle.std.specs.List.{list_any}
use Rattle.sr_audit.specs.declared.audit.Audit.{Audit}
use Rattle.sr_capture_audit.specs.declared.figures.Report.{Report}
use Rattle.sr_capture_audit.specs.declared.flows.Sight.{Sight}
use Rattle.sr_capture_audit.specs.declared.judgement.Reason.{Reason}
use Rattle.sr_capture_audit.specs.Counting.{Seen, names_other_lan, is_misfit_packet}
use Rattle.sr_capture_audit.specs.Edging.{tells_of_lost, tells_of_missing}
use Rattle.sr_capture_audit.specs.Judging.{reason_of, network_judgement, check_status}
use Rattle.sr_capture_audit.specs.Faults.{has_faults}

-- where numbers of sources are missing, with the audit of the counters that numbered the frames; where frames came by one side alone, with
-- that of the frames that are judged
abbrev pub with_counters_if : Bool → Audit → Sight → Report → Report
with_counters_if true counters sight r = record r { counters = Some counters; sight = sight }
with_counters_if false counters sight r = r

abbrev pub with_judged_if : Bool → Audit → Report → Report
with_judged_if true judged r = record r { judged = Some judged }
with_judged_if false judged r = r

abbrev pub judged_report : Report → Audit → Sight → Audit → Report
judged_report r counters sight judged =
    with_judged_if (tells_of_lost r) judged (with_counters_if (tells_of_missing r) counters sight r)

-- a report with no other audit yet
pub record IsByItself (r : Report) : Type 0 where
  pub no_judged : r.judged ≡ None
  pub no_counters : r.counters ≡ None

-- a packet was sent astray: its trailer names the other LAN, or is none
abbrev pub is_astray : Seen → Bool
is_astray x = names_other_lan x.kind || is_misfit_packet x.kind

abbrev pub have_astray : List Seen → Bool
have_astray seen = list_any is_astray seen

-- no figure of a report tells of a fault, so that a check of it ends with 0, or with 4 for a reason that it gives
pub record IsNotFaulty (r : Report) : Type 0 where
  pub faults : has_faults r ≡ false
  pub status : ((reason_of r ≡ None) × (check_status (network_judgement r) ≡ 0))
      ⊎ ((why : Reason) × (reason_of r ≡ Some why) × (check_status (network_judgement r) ≡ 4))
