-- How a check ends, by what is told of a network and by the figures that it is told by.
use Rattle.std.specs.Prelude.{◌≡◌, ◌⊎◌, Bool, true, false, ◌||◌, is_some, List, Option, None, Some}
use Rattle.std.specs.List.{list_any}
use Rattle.sr_frame.specs.declared.fields.Mac.{Mac}
use Rattle.sr_audit.specs.declared.tally.Sides.{Sides}
use Rattle.sr_capture_audit.specs.declared.figures.Report.{Report}
use Rattle.sr_capture_audit.specs.declared.judgement.Judgement.{Judgement}
use Rattle.sr_capture_audit.specs.declared.judgement.Judgement.TheVariants.{Sound, Faulty, Unjudged}
use Rattle.sr_capture_audit.specs.declared.judgement.Reason.{Reason}
use Rattle.sr_capture_audit.specs.declared.network.Network.{Network}
use Rattle.sr_capture_audit.specs.declared.network.Network.TheVariants.{Prp, Hsr}
use Rattle.sr_capture_audit.specs.declared.network.Ports.{Ports}
use Rattle.sr_capture_audit.specs.declared.network.Subject.{Subject}
use Rattle.sr_capture_audit.specs.Judging.{network_judgement, check_status}
use Rattle.sr_sources.specs.declared.source.Source.{Source as Node}
use Rattle.sr_sources.specs.declared.table.Sources.{Sources}
use Rattle.sr_sources.specs.Kinds.{doubled_since, lost_redundancy}
use Rattle.sr_verdict.specs.declared.judging.Outside.{Outside}
use Rattle.sr_verdict.specs.declared.verdict.Verdict.{Verdict}
use Rattle.sr_verdict.specs.declared.why.Why.{Why}
use Rattle.sr_verdict.specs.declared.why.Why.TheVariants.{Figures}
use Rattle.sr_verdict.specs.Drops.{explained_by, left_unexplained, any_dropped, why_dropped}
use Rattle.sr_verdict.specs.Told.{why_of, AreVerdictsOf}
use Rattle.sr_verdict.specs.Verdicts.{fault_verdicts, is_a_fault, reason_in, block_status}

-- what figures judge, unless something besides them says that nothing can be
abbrev pub judged_beside : Option Reason → Judgement → Judgement
judged_beside (Some why) j = Unjudged why
judged_beside None j = j

-- whether the frames of sources tell of a fault: of two senders, or in a PRP network of a redundancy that is lost
abbrev pub of_prp : Network → Bool → Bool
of_prp Prp told = told
of_prp Hsr told = false

abbrev pub nodes_tell : Subject → List (Mac × Node) → Bool
nodes_tell subject nodes =
    list_any (λ e. is_some (doubled_since e.1)) nodes || of_prp subject.network (list_any (λ e. is_some (lost_redundancy e.1)) nodes)

-- what is judged with that
abbrev pub judged_with : Bool → Judgement → Judgement
judged_with true Sound = Faulty
judged_with true Faulty = Faulty
judged_with true (Unjudged why) = Unjudged why
judged_with false j = j

-- a reason that the figures have, or something besides them
abbrev pub by_figures : Option Reason → Option Why
by_figures None = None
by_figures (Some why) = Some (Figures why)

-- verdicts end a check as a judgement does, and tell the same reason why nothing can be judged
pub record EndAs (j : Judgement) (vs : List Verdict) : Type 0 where
  pub status : block_status vs ≡ check_status j
  pub reason : reason_in vs ≡ by_figures (why_of j)

-- the faults that figures and sources tell, before those are left out that recorders may have made
abbrev pub faults_told : (r : Report) (sources : Sources) (outside : Outside) (vs : List Verdict) → AreVerdictsOf r sources outside vs
    → List Verdict
faults_told r sources outside vs are = fault_verdicts r sources.sources.entries are.own are.telling are.counters

-- where a fault is judged, recorders say that they dropped packets, and may have made each fault that is told: a check ends with 4,
-- for that reason
pub record EndInDoubt (ports : Ports) (dropped : Sides) (faults : List Verdict) (j : Judgement) (vs : List Verdict) : Type 0 where
  pub faulty : j ≡ Faulty
  pub some : any_dropped dropped ≡ true
  pub explained : list_any is_a_fault (left_unexplained (explained_by ports dropped faults) faults) ≡ false
  pub status : block_status vs ≡ 4
  pub reason : reason_in vs ≡ Some (why_dropped ports dropped (explained_by ports dropped faults))

abbrev pub EndBy : Ports → Sides → List Verdict → Judgement → List Verdict → Type 0
EndBy ports dropped faults j vs = EndAs j vs ⊎ EndInDoubt ports dropped faults j vs

-- a user has no limits of his own
pub record HasNoLimits (outside : Outside) : Type 0 where
  pub no_loss : outside.limits.lost ≡ None
  pub no_skew : outside.limits.skew ≡ None

-- Without limits of a user the verdicts on any report end a check as its figures judge, or with a fault where the frames of sources tell
-- of one; with 4 where nothing can be judged, by the figures or for something besides them; or, where recorders dropped packets that may
-- be all that is said to be lost, and no other fault is told.
abbrev pub VerdictsEndAsJudged : Type 0
VerdictsEndAsJudged = (r : Report) (sources : Sources) (outside : Outside) (vs : List Verdict) (are : AreVerdictsOf r sources outside vs)
    → HasNoLimits outside → EndBy r.subject.ports outside.dropped (faults_told r sources outside vs are)
    (judged_with (nodes_tell r.subject sources.sources.entries) (judged_beside outside.reason (network_judgement r))) vs
