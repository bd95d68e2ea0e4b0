use Rattle.std.proofs.Common.{◌≡◌, fold, max}
use Rattle.sr_audit.specs.Shown.{figures_of}
use Rattle.sr_capture_audit.specs.Edging.{least_edge, widest}
use Rattle.sr_capture_audit.proofs.figures.Report.edge_width.Given as goal

abbrev pub invariant-loop-source : goal.invariant-loop-source
invariant-loop-source l = fold (λ width e. max width (widest (figures_of e.1).skews)) least_edge l.self.audit.sources.entries
    ≡ fold (λ width e. max width (widest (figures_of e.1).skews)) l.width l.source-iterator
