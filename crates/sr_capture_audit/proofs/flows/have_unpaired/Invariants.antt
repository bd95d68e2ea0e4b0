use Rattle.std.proofs.Common.{◌≡◌}
use Rattle.std.specs.List.{list_any}
use Rattle.sr_audit.specs.Shown.{figures_of}
use Rattle.sr_capture_audit.specs.Flows.{is_unpaired}
use Rattle.sr_capture_audit.proofs.flows.have_unpaired.Given as goal

abbrev pub invariant-loop-source : goal.invariant-loop-source
invariant-loop-source l = list_any (λ e. is_unpaired (figures_of e.1)) l.audit.sources.entries
    ≡ list_any (λ e. is_unpaired (figures_of e.1)) l.source-iterator
