use Rattle.std.proofs.Common.{◌<◌, length, get_or, ap, ◌∙◌, rules, arith}
use Rattle.std.proofs.lemmas.Option.{IfSome_then}
use Rattle.sr_unrolled_list.proofs.PieceLemmas.{place_within, read_at}
use Rattle.sr_unrolled_list.proofs.pieces.Pieces.get.Goals as goal

pub returns-clause-there : goal.returns-clause-there
returns-clause-there g c =
    let spot = c.spot_of-spot in
    let p = c.in_ok-get.field-0.now in
    let within : spot.result.piece < length c.self.inside.used.items = search (rules, arith) in
    let inside = spot.ensures.inside p within c.in_ok-get.ensures.lookup in
    let view = ap (λ v. length v.items) c.self.view_is in
    let there = place_within c.self.inside.used.items c.args.place spot.result.piece spot.result.place p spot.ensures within c.in_ok-get.ensures.lookup in
    (λ _. omega (arith, view, there), λ _. c.get-2.ensures.variant.1 (omega (arith, inside, p.ok.0)))

pub returns-clause-item : goal.returns-clause-item
returns-clause-item g c =
    let spot = c.spot_of-spot in
    let p = c.in_ok-get.field-0.now in
    let within : spot.result.piece < length c.self.inside.used.items = search (rules, arith) in
    IfSome_then c.get-2.result c.get-2.ensures.lookup (λ x same.
    read_at c.self.inside.used.items c.args.place spot.result.piece spot.result.place p x.now spot.ensures within c.in_ok-get.ensures.lookup same
    ∙ ap (λ v. get_or v.items c.args.place x.now) c.self.view_is)
