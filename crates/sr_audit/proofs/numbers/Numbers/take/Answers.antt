use Rattle.std.proofs.Common.{arith, refl, sym, ◌∙◌}
use Rattle.sr_audit.proofs.FollowLemmas.{on_follows, off_follows, on_look, off_look}
use Rattle.sr_audit.proofs.numbers.Numbers.take.Goals as goal

pub returns-then-goes_on-clause-taken : goal.returns-then-goes_on-clause-taken
returns-then-goes_on-clause-taken c = λ xs few follows. on_follows xs c.args.x c.args.self.now c.go_on.new.self c.came-came.result follows
    (omega arith) few (sym c.goes_on.ensures ∙ c.if-goes_on.true) c.go_on.ensures.seen c.go_on.ensures.last c.came-came.ensures.a c.came-came.ensures.b
    c.go_on.ensures.tally

pub returns-then-goes_on-clause-look : goal.returns-then-goes_on-clause-look
returns-then-goes_on-clause-look c = λ xs follows. on_look xs c.args.x c.args.self.now _ follows (omega arith)
    (sym c.goes_on.ensures ∙ c.if-goes_on.true) c.step-step.ensures c.came-came.ensures.a c.came-came.ensures.b

pub returns-else-goes_on-clause-taken : goal.returns-else-goes_on-clause-taken
returns-else-goes_on-clause-taken c = λ xs few follows. off_follows xs c.args.x c.args.self.now c.begin_again.new.self follows (omega arith) few
    (sym c.goes_on.ensures ∙ c.if-goes_on.false) c.begin_again.ensures.seen c.begin_again.ensures.last c.begin_again.ensures.tally

pub returns-else-goes_on-clause-look : goal.returns-else-goes_on-clause-look
returns-else-goes_on-clause-look c = λ xs follows. off_look xs c.args.x c.args.self.now _ follows
    (sym c.goes_on.ensures ∙ c.if-goes_on.false) c.step-step.ensures refl
