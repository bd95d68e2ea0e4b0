-- What a pass took, a part of it took.
use Rattle.std.proofs.Common.{List, [], ◌∷◌, ap}
use Rattle.std.specs.List.{FoldsTo}
use Rattle.sr_capture_script.specs.declared.choice.Choice.{Choice}
use Rattle.sr_capture_script.specs.Merging.{Feed}
use Rattle.sr_capture_script.specs.Passing.{Handed, wanted, TakesWanted}

folds_within : {P Q : Type 0} (part : P → Q) (takes : P → Handed → P → Type 0) (own : Q → Handed → Q → Type 0) →
    ((o : P) (h : Handed) (n : P) → takes o h n → own (part o) h (part n)) →
    (old : P) (xs : List Handed) (new : P) → FoldsTo takes old xs new → FoldsTo own (part old) xs (part new)
folds_within part takes own step old [] new same = ap part same
folds_within part takes own step old (x ∷ xs) new h =
    (part h.0, step old x h.0 h.1, folds_within part takes own step h.0 xs new h.2)

pub taken_within : {P Q : Type 0} (part : P → Q) (takes : P → Handed → P → Type 0) (own : Q → Handed → Q → Type 0) →
    ((o : P) (h : Handed) (n : P) → takes o h n → own (part o) h (part n)) →
    (choice : Choice) (x y z : Feed) (old new : P) → TakesWanted takes choice x y z old new →
    TakesWanted own choice x y z (part old) (part new)
taken_within part takes own step choice x y z old new all =
    record { merged = all.merged; came = all.came; taken = folds_within part takes own step old (wanted choice all.merged) new all.taken }
