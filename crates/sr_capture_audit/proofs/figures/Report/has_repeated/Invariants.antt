use Rattle.std.proofs.Common.{◌≡◌}
use Rattle.std.specs.List.{list_any}
use Rattle.sr_audit.specs.Shown.{figures_of}
use Rattle.sr_capture_audit.specs.Judging.{are_repeated}
use Rattle.sr_capture_audit.proofs.figures.Report.has_repeated.Given as goal

abbrev pub invariant-loop-source : goal.invariant-loop-source
invariant-loop-source l = list_any (λ e. are_repeated (figures_of e.1)) l.self.audit.sources.entries
    ≡ list_any (λ e. are_repeated (figures_of e.1)) l.source-iterator
