-- The verdicts on a network.
use Rattle.std.specs.Prelude.{◌≡◌, List, [], ◌∷◌, ◌++◌, Option, None, Some}
use Rattle.sr_capture_audit.specs.declared.figures.Report.{Report}
use Rattle.sr_capture_audit.specs.declared.judgement.Judgement.{Judgement}
use Rattle.sr_capture_audit.specs.declared.judgement.Judgement.TheVariants.{Sound, Faulty, Unjudged as NotJudged}
use Rattle.sr_capture_audit.specs.declared.judgement.Reason.{Reason}
use Rattle.sr_capture_audit.specs.Judging.{network_judgement}
use Rattle.sr_sources.specs.declared.table.Sources.{Sources}
use Rattle.sr_verdict.specs.declared.heard.Heard.{Heard}
use Rattle.sr_verdict.specs.declared.judging.Outside.{Outside}
use Rattle.sr_verdict.specs.declared.limits.Limits.{Limits}
use Rattle.sr_verdict.specs.declared.verdict.Verdict.{Verdict}
use Rattle.sr_verdict.specs.declared.verdict.Verdict.TheVariants.{Unjudged}
use Rattle.sr_verdict.specs.declared.why.Why.TheVariants.{Figures}
use Rattle.sr_verdict.specs.Drops.{settled, dropped_told}
use Rattle.sr_verdict.specs.Limits.{limited, skew_verdicts}
use Rattle.sr_verdict.specs.Verdicts.{IsSingleHearing, fault_verdicts, notice_verdicts}

-- why nothing can be judged: for a reason from outside of the figures, or for one of their own
abbrev pub why_of : Judgement → Option Reason
why_of Sound = None
why_of Faulty = None
why_of (NotJudged why) = Some why

abbrev pub why_told : Option Reason → Report → Option Reason
why_told (Some why) r = Some why
why_told None r = why_of (network_judgement r)

-- where nothing can be judged that is the one verdict
abbrev pub verdicts_for : Option Reason → List Verdict → List Verdict
verdicts_for (Some why) vs = Unjudged (Figures why) ∷ []
verdicts_for None vs = vs

-- the faults of figures and of a user's limits, those within a limit as notices behind them
abbrev pub limited_faults : Limits → Report → Sources → List Heard → List Heard → List Heard → List Verdict
limited_faults limits r sources own telling counters =
    limited limits.lost (fault_verdicts r sources.sources.entries own telling counters ++ skew_verdicts limits.skew own)

pub record AreVerdictsOf (r : Report) (sources : Sources) (outside : Outside) (vs : List Verdict) : Type 0 where
  pub own : List Heard
  pub telling : List Heard
  pub counters : List Heard
  pub are_heard : IsSingleHearing r sources.sources.entries own telling counters
  pub verdicts : vs ≡ verdicts_for (why_told outside.reason r)
      (settled r.subject.ports outside.dropped (limited_faults outside.limits r sources own telling counters)
      ++ dropped_told r.subject.ports outside.dropped ++ notice_verdicts r sources.sources.entries outside.ahead counters)
