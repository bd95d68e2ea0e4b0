-- What one reading of captures gathers: each part is what a reading of its own would have.
use Rattle.std.specs.Prelude.{◌≡◌, ℕ, List, [], ◌∷◌, ◌++◌, Option, None, Some}
use Rattle.sr_audit.specs.declared.span.Spans.{Spans}
use Rattle.sr_capture_script.specs.declared.choice.Choice.{Choice}
use Rattle.sr_capture_script.specs.Coming.{AllCame}
use Rattle.sr_capture_script.specs.Items.{Item}
use Rattle.sr_capture_script.specs.Merging.{Feed}
use Rattle.sr_capture_script.specs.Passing.{Handed, wanted}
use Rattle.sr_capture_audit.specs.declared.gathering.Gathered.{Gathered}
use Rattle.sr_capture_audit.specs.declared.kind.Kind.{Kind}
use Rattle.sr_capture_audit.specs.declared.network.Subject.{Subject}
use Rattle.sr_capture_audit.specs.declared.ruling.Rule.{Rule}
use Rattle.sr_capture_audit.specs.declared.ruling.Ruling.{Ruling}
use Rattle.sr_capture_audit.specs.Auditing.{IsReportOf}
use Rattle.sr_capture_audit.specs.Ruling.{IsRuledOf, TakesRuled}
use Rattle.sr_capture_audit.specs.Unions.{AreBoxesOf}
use Rattle.sr_capture_audit.specs.Timing.{all_put_right}

-- an audit under a rule, of these packets
pub record IsRulingOf (rule : Rule) (subject : Subject) (spans : Spans) (xs : List Handed) (r : Ruling) : Type 0 where
  pub subject_is : r.subject ≡ subject
  pub rule_is : r.rule ≡ rule
  pub spans_are : r.spans ≡ spans
  pub audit : IsRuledOf rule subject spans xs r.audit

-- there is one exactly where there is a rule
abbrev pub AreRuledIn : Option Rule → Subject → Spans → List Handed → Option Ruling → Type 0
AreRuledIn (Some rule) subject spans xs (Some r) = IsRulingOf rule subject spans xs r
AreRuledIn (Some rule) subject spans xs None = ⊥
AreRuledIn None subject spans xs (Some r) = ⊥
AreRuledIn None subject spans xs None = Unit {0}

-- such an audit took a packet of this kind, that came then
pub record TakesOwn (k : Kind) (time : ℕ) (old new : Ruling) : Type 0 where
  pub subject : new.subject ≡ old.subject
  pub rule : new.rule ≡ old.rule
  pub spans : new.spans ≡ old.spans
  pub taken : TakesRuled old.rule old.spans k time old.audit new.audit

abbrev pub TakesRuledIf : Kind → ℕ → Option Ruling → Option Ruling → Type 0
TakesRuledIf k time (Some old) (Some new) = TakesOwn k time old new
TakesRuledIf k time (Some old) None = ⊥
TakesRuledIf k time None (Some new) = ⊥
TakesRuledIf k time None None = Unit {0}

-- of these packets: their report, the RedBoxes that they name, and the audits under two rules, where there are rules
pub record IsGathered (flow counter : Option Rule) (subject : Subject) (spans : Spans) (xs : List Handed) (g : Gathered) : Type 0 where
  pub report : IsReportOf subject spans xs g.report
  pub redboxes : AreBoxesOf subject xs g.redboxes
  pub flows : AreRuledIn flow subject spans xs g.flows
  pub counters : AreRuledIn counter subject spans xs g.counters

-- of one packet more
pub record GathersMore (x : Handed) (old new : Gathered) : Type 0 where
  pub takes : (by_flow by_counter : Option Rule) (subject : Subject) (spans : Spans) (xs : List Handed) →
      IsGathered by_flow by_counter subject spans xs old → IsGathered by_flow by_counter subject spans (xs ++ x ∷ []) new

-- of three files: of all their packets that are wanted, each once, in order of time and each file's in its own order
pub record IsGatheredOfAll (flow counter : Option Rule) (choice : Choice) (subject : Subject) (spans : Spans) (x y z : Feed) (g : Gathered)
    : Type 0 where
  pub merged : List Item
  pub came : AllCame x y z merged
  pub of_all : IsGathered flow counter subject spans (all_put_right subject.clock (wanted choice merged)) g
