use Rattle.std.proofs.Common.{◌≡◌}
use Rattle.std.specs.List.{list_any}
use Rattle.sr_audit.specs.Faults.{tells_of_faults}
use Rattle.sr_audit.specs.Shown.{figures_of}
use Rattle.sr_capture_audit.specs.Faults.{own_figures}
use Rattle.sr_capture_audit.proofs.figures.Report.has_faults.Given as goal

abbrev pub invariant-loop-source : goal.invariant-loop-source
invariant-loop-source l = list_any (λ e. tells_of_faults (own_figures l.self (figures_of e.1))) l.self.audit.sources.entries
    ≡ list_any (λ e. tells_of_faults (own_figures l.self (figures_of e.1))) l.source-iterator
