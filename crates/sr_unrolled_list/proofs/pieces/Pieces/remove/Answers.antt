use Rattle.std.proofs.Common.{◌≡◌, ◌<◌, length, get_or, ap, sym, ◌∙◌, refl, rules, arith}
use Rattle.std.specs.List.{remove}
use Rattle.std.proofs.lemmas.Option.{IfSome_then}
use Rattle.sr_unrolled_list.specs.Lists.{items_of}
use Rattle.sr_unrolled_list.proofs.PieceLemmas.{place_within, read_at, read_only, set_same, removed_part, removed_whole}
use Rattle.sr_unrolled_list.proofs.SoundLemmas.{front_few}
use Rattle.sr_unrolled_list.proofs.pieces.Pieces.remove.Goals as goal

pub returns-then-len-eq1-clause-there : goal.returns-then-len-eq1-clause-there
returns-then-len-eq1-clause-there g c =
    let spot = c.spot_of-spot in
    let p = c.in_ok-piece.piece.now in
    let within : spot.result.piece < length c.self.inside.used.items = search (rules, arith) in
    let view = ap (λ v. length v.items) c.self.view_is in
    let there = place_within c.self.inside.used.items c.args.place spot.result.piece spot.result.place p spot.ensures within c.in_ok-piece.ensures.value in
    (λ _. omega (arith, view, there), λ _. c.take_piece.ensures.some)

pub returns-then-len-eq1-clause-item : goal.returns-then-len-eq1-clause-item
returns-then-len-eq1-clause-item g c =
    let spot = c.spot_of-spot in
    let p = c.in_ok-piece.piece.now in
    let within : spot.result.piece < length c.self.inside.used.items = search (rules, arith) in
    let here = c.in_ok-piece.ensures.value in
    let same = set_same c.self.inside.used.items spot.result.piece p here in
    let still = here ∙ ap (λ ps. get_or ps spot.result.piece p) (sym same) in
    IfSome_then c.take_piece.result c.take_piece.ensures.item (λ x only.
    read_at c.self.inside.used.items c.args.place spot.result.piece spot.result.place p x spot.ensures within here (read_only p.items spot.result.place x (only p still) (spot.ensures.inside p within here))
    ∙ ap (λ v. get_or v.items c.args.place x) c.self.view_is)

pub returns-then-len-eq1-clause-items : goal.returns-then-len-eq1-clause-items
returns-then-len-eq1-clause-items g c =
    let spot = c.spot_of-spot in
    let p = c.in_ok-piece.piece.now in
    let within : spot.result.piece < length c.self.inside.used.items = search (rules, arith) in
    let one : length p.items ≡ 1 = omega (arith, p.ok.0, c.len.ensures, c.if-len-eq1.true) in
    IfSome_then c.take_piece.result c.take_piece.ensures.item (λ x only.
    ap items_of c.take_piece.ensures.used
    ∙ (ap (λ ps. items_of (remove ps spot.result.piece)) (set_same c.self.inside.used.items spot.result.piece p c.in_ok-piece.ensures.value)
    ∙ (removed_whole c.self.inside.used.items c.args.place spot.result.piece spot.result.place p spot.ensures within c.in_ok-piece.ensures.value one
    ∙ ap (λ v. remove v.items c.args.place) c.self.view_is)))

pub returns-then-len-eq1-clause-front : goal.returns-then-len-eq1-clause-front
returns-then-len-eq1-clause-front g c =
    let few = front_few c.take_piece.new.used.items c.take_piece.ensures.sound.filled in
    let spare = ap (λ v. v.spare) c.self.view_is in
    omega (arith, few, spare, c.take_piece.ensures.spare)

pub returns-clause-there : goal.returns-clause-there
returns-clause-there g c =
    let spot = c.spot_of-spot in
    let p = c.in_ok-piece.piece.now in
    let within : spot.result.piece < length c.self.inside.used.items = search (rules, arith) in
    let view = ap (λ v. length v.items) c.self.view_is in
    let there = place_within c.self.inside.used.items c.args.place spot.result.piece spot.result.place p spot.ensures within c.in_ok-piece.ensures.value in
    (λ _. omega (arith, view, there), λ _. refl)

pub returns-clause-item : goal.returns-clause-item
returns-clause-item g c =
    let spot = c.spot_of-spot in
    let p = c.in_ok-piece.piece.now in
    let within : spot.result.piece < length c.self.inside.used.items = search (rules, arith) in
    read_at c.self.inside.used.items c.args.place spot.result.piece spot.result.place p c.in_ok-item.item spot.ensures within c.in_ok-piece.ensures.value c.in_ok-item.ensures.value
    ∙ ap (λ v. get_or v.items c.args.place c.in_ok-item.item) c.self.view_is

pub returns-clause-items : goal.returns-clause-items
returns-clause-items g c =
    let spot = c.spot_of-spot in
    let p = c.in_ok-piece.piece.now in
    let within : spot.result.piece < length c.self.inside.used.items = search (rules, arith) in
    c.join_round.ensures.items
    ∙ (removed_part c.self.inside.used.items c.args.place spot.result.piece spot.result.place p c.remove.new.self spot.ensures within c.in_ok-piece.ensures.value c.in_ok-item.ensures.items
    ∙ ap (λ v. remove v.items c.args.place) c.self.view_is)

pub returns-then-len-eq1-clause-few : goal.returns-then-len-eq1-clause-few
returns-then-len-eq1-clause-few g c = front_few c.take_piece.new.used.items c.take_piece.ensures.sound.filled

pub returns-clause-few : goal.returns-clause-few
returns-clause-few g c = front_few c.join_round.new.used.items c.join_round.ensures.sound.filled
