use Rattle.std.proofs.Common.{◌≡◌, fold}
use Rattle.sr_capture_audit.specs.Flows.{with_name, paired_in}
use Rattle.sr_capture_audit.proofs.flows.note_paired.Given as goal

abbrev pub invariant-loop-name : goal.invariant-loop-name
invariant-loop-name l = fold with_name l.fn.names.entries (paired_in l.audit.sources.entries) ≡ fold with_name l.names.entries (paired_in l.name-iterator)
