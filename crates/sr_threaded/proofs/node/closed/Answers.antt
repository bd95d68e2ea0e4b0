use Rattle.std.proofs.Common.{◌≡◌, List, get_or, sym, ap, subst}
use Rattle.sr_ports.specs.declared.log.Log.{Log}
use Rattle.sr_threaded.specs.declared.kit.LineEnd.{LineEnd}
use Rattle.sr_threaded.specs.Ran.{ArePartsOf}
use Rattle.sr_threaded.proofs.node.closed.Goals as goal

pub returns-in-Ok-clause-each : goal.returns-in-Ok-clause-each
returns-in-Ok-clause-each g c i d l x low =
    let P : List Log × List (LineEnd g.row.F.Denot) → Type 0 = λ y. ArePartsOf (get_or c.args.ends.items i d).1 (get_or y.0 i l) (get_or y.1 i x) in
    let logs : c.end_of.result.logs.items ≡ c.in-Ok.logs.items = ap (λ v. v.items) c.end_of.ensures.logs in
    let ends : c.end_of.result.ends.items ≡ c.in-Ok.ends.items = ap (λ v. v.items) c.end_of.ensures.ends in
    subst P (λ k. (sym logs k, sym ends k)) (c.in-Ok.ensures.each i d l x low)

pub returns-in-Ok-clause-settles : goal.returns-in-Ok-clause-settles
returns-in-Ok-clause-settles g c = c.end_of.ensures.settles
