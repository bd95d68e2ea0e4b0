use Rattle.std.proofs.Common.{◌≡◌, ◌∷◌, not, drop, rules, arith, sym, ap, ◌∙◌}
use Rattle.std.proofs.lemmas.List.{length-map}
use Rattle.sr_plant.specs.Copies.{is_on}
use Rattle.sr_plant.specs.Flights.{copy_in, copies_in}
use Rattle.sr_plant.proofs.ListLemmas.{swept, split_at}
use Rattle.sr_plant.proofs.flight.copies.keep_off.Goals as goal

pub look_at-requires-clause-first : goal.look_at-requires-clause-first
look_at-requires-clause-first c = split_at c.loop.places.items 0 c.in-Some.first (search (rules, arith)) c.in-Some.ensures.item

pub loop-preserved : goal.loop-preserved
loop-preserved c =
    let whole = copies_in c.args.kept.now c.args.places.now.items in
    let front : c.loop.places.items ≡ c.in-Some.first ∷ drop 1 c.loop.places.items = split_at c.loop.places.items 0 c.in-Some.first (search (rules, arith)) c.in-Some.ensures.item in
    let so_far = ap (copies_in c.loop.kept) (sym front) ∙ c.loop.invariant.copies in
    record {
      counted = c.look_at.ensures.counted;
      used = c.look_at.ensures.used;
      copies = c.look_at.ensures.copies ∙ swept (λ x. not (is_on c.args.link x)) whole c.loop.counter _ (copy_in c.loop.kept c.in-Some.first) (copies_in c.loop.kept (drop 1 c.loop.places.items)) (omega arith) (omega (arith, length-map c.args.places.now.items (copy_in c.args.kept.now), c.loop-test.true, c.len-end.ensures)) so_far;
    }
