-- Allocations that fail in a writer of objects, and what ends a run then.
use Rattle.std.specs.Prelude.{Bool, true, false, is_some}
use Rattle.sr_session.specs.declared.fault.Fault.{Fault}
use Rattle.sr_session.specs.declared.fault.FaultKind.TheVariants.{Memory}
use Rattle.sr_json_lines.specs.declared.writer.JsonLines.{JsonLines}
use Rattle.sr_json_lines.specs.declared.status.JsonStatus.{JsonStatus}

-- whether an allocation failed in a writer of lines, and in one of a status
abbrev pub lines_have_lack : {W : Type 0} → JsonLines W → Bool
lines_have_lack lines = is_some lines.lack

abbrev pub status_has_lack : {W : Type 0} → JsonStatus W → Bool
status_has_lack status = is_some status.lack

-- that, where one failed in the writer, and else what is told
abbrev pub fault_by : Bool → Fault → Fault
fault_by true fault = record fault { kind = Memory }
fault_by false fault = fault
