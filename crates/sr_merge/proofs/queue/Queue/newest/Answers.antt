use Rattle.std.proofs.Common.{arith, sym, ap, ◌∙◌, subst}
use Rattle.std.specs.Prelude.{map}
use Rattle.std.proofs.lemmas.List.{length-map}
use Rattle.sr_merge.specs.Merging.{pending_of, newest_copy, IsNoted}
use Rattle.sr_merge.proofs.PlaceLemmas.{found_at, newest-within}
use Rattle.sr_merge.proofs.queue.Queue.newest.Goals as goal

pub returns-clause-place : goal.returns-clause-place
returns-clause-place c =
    let r = c.len-waiting.type_inv in
    let l = c.len-waiting.ensures in
    let m = length-map c.self.inside.waiting.items pending_of in
    let ws = map pending_of c.self.inside.waiting.items in
    sym (ap (newest_copy c.args.at) c.self.view_is)
    ∙ found_at c.self.inside.gone c.in_ok-place.field-0.now (newest_copy c.args.at ws) c.self.invariant.0
    (λ at e. let n = newest-within c.args.at ws at e in omega (arith, n, m, l, r))
    (subst (IsNoted c.self.inside.gone ws (newest_copy c.args.at ws)) (sym c.in_ok-place.ensures.value) (c.self.invariant.1 c.args.at)).0

pub returns-clause-within : goal.returns-clause-within
returns-clause-within c = newest-within c.args.at c.args.self.now _ (returns-clause-place c)
