use Rattle.std.proofs.Common.{arith}
use Rattle.sr_sequence.specs.NumberLemmas.{behind_is, ahead_is}
use Rattle.sr_sequence.proofs.place.Goals as goal

pub returns-then-back-window-clause-one : goal.returns-then-back-window-clause-one
returns-then-back-window-clause-one c =
    λ greatest e. behind_is c.args.window greatest c.args.reference.0 c.args.seq.0 c.requires (omega arith) (omega arith) c.if-back-window.true e

pub returns-else-back-window-clause-one : goal.returns-else-back-window-clause-one
returns-else-back-window-clause-one c =
    λ greatest e. ahead_is c.args.window greatest c.args.reference.0 c.args.seq.0 c.requires (omega arith) (omega arith) c.if-back-window.false e
