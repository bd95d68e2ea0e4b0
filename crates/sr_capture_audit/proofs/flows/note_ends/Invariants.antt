use Rattle.std.proofs.Common.{◌≡◌, fold}
use Rattle.sr_capture_audit.specs.Flows.{with_name, ends_in}
use Rattle.sr_capture_audit.proofs.flows.note_ends.Given as goal

abbrev pub invariant-loop-name : goal.invariant-loop-name
invariant-loop-name l = fold with_name l.fn.names.entries (ends_in l.audit.sources.entries) ≡ fold with_name l.names.entries (ends_in l.name-iterator)
