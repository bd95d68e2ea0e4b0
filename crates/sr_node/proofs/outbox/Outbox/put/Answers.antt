use Rattle.std.proofs.Common.{rules, arith, ◌<◌, ◌≤◌, ◌-◌, length, [], ◌∷◌, ◌++◌, ap, drop, ◌∙◌}
use Rattle.sr_node.proofs.OutboxLemmas.{one_less, put_again}
use Rattle.sr_node.proofs.outbox.Outbox.put.Goals as goal

pub returns-in_err-refill-clause-err : goal.returns-in_err-refill-clause-err
returns-in_err-refill-clause-err c =
    let xs = c.self.inside.queue.items in
    let i = c.self.inside.spares in
    let some : 0 < i = search (rules, c.if-self-eq0.false) in
    search (rules, ap (drop (i - 1)) c.pop_front.ensures.rest ∙ one_less xs i some ∙ c.self.view_is)

pub returns-clause-ok : goal.returns-clause-ok
returns-clause-ok c =
    let xs = c.self.inside.queue.items in
    let i = c.self.inside.spares in
    let some : 0 < i = search (rules, c.if-self-eq0.false) in
    let within : i ≤ length xs = search (rules, c.self.invariant) in
    let p = c.to_parcel_of.result in
    ap (drop (i - 1)) (c.push_back_reserved-2.ensures.items ∙ ap (λ l. l ++ p ∷ []) c.pop_front.ensures.rest)
    ∙ put_again xs i p some within ∙ ap (λ l. l ++ p ∷ []) c.self.view_is ∙ ap (λ q. c.args.self.now ++ q ∷ []) c.to_parcel_of.ensures
