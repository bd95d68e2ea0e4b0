use Rattle.std.proofs.Common.{refl}
use Rattle.sr_audit.proofs.EdgeLemmas.{none_kept}
use Rattle.sr_audit.proofs.ExtentLemmas.{none_reached}
use Rattle.sr_audit.proofs.RowLemmas.{none_in_rows}
use Rattle.sr_audit.proofs.SkewLemmas.{none_skewed}
use Rattle.sr_audit.proofs.source.Source.new.Goals as goal

pub returns-clause-taken : goal.returns-clause-taken
returns-clause-taken c = λ spans. record {
  numbers = refl;
  edges = none_kept spans _ _ refl;
  extent = λ few. none_reached _ refl refl refl refl refl refl;
  skews = λ few. none_skewed _ refl;
  rows = none_in_rows spans;
}

pub returns-clause-heard : goal.returns-clause-heard
returns-clause-heard c = record { alive = λ few. refl }
