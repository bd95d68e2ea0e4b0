use Rattle.std.proofs.Common.{List, [], drop, length, arith, sym, subst, ap, ◌∙◌}
use Rattle.sr_plant.specs.declared.flight.copies.Flying.{Flying}
use Rattle.sr_plant.specs.Flights.{AreCounted, copies_in}
use Rattle.sr_plant.proofs.FlightLemmas.{has_copy, used_after, looked_lost, looked_kept}
use Rattle.sr_plant.proofs.flight.copies.look_at.Goals as goal

pub drop_copy-requires : goal.drop_copy-requires
drop_copy-requires c =
    has_copy c.args.kept.now [] (drop 1 c.args.places.now.items) c.args.first (subst (λ (fs : List Flying). AreCounted c.args.kept.now fs) c.requires.first c.requires.counted)

pub returns-then-is_on-clause-copies : goal.returns-then-is_on-clause-copies
returns-then-is_on-clause-copies c =
    let e = c.drop_copy.ensures in
    let whole = subst (λ (fs : List Flying). AreCounted c.args.kept.now fs) c.requires.first c.requires.counted in
    let gone = c.pop_front.ensures.items c.args.first (drop 1 c.args.places.now.items) c.requires.first in
    ap (copies_in c.drop_copy.new.kept) gone
    ∙ (looked_lost c.args.kept.now c.drop_copy.new.kept (drop 1 c.args.places.now.items) c.args.first c.args.link whole e.fewer e.parcel e.others (sym c.is_on.ensures ∙ c.if-is_on.true)).1

pub returns-then-is_on-clause-counted : goal.returns-then-is_on-clause-counted
returns-then-is_on-clause-counted c =
    let e = c.drop_copy.ensures in
    let whole = subst (λ (fs : List Flying). AreCounted c.args.kept.now fs) c.requires.first c.requires.counted in
    let gone = c.pop_front.ensures.items c.args.first (drop 1 c.args.places.now.items) c.requires.first in
    subst (λ (fs : List Flying). AreCounted c.drop_copy.new.kept fs) (sym gone)
    (looked_lost c.args.kept.now c.drop_copy.new.kept (drop 1 c.args.places.now.items) c.args.first c.args.link whole e.fewer e.parcel e.others (sym c.is_on.ensures ∙ c.if-is_on.true)).0

pub returns-then-is_on-clause-used : goal.returns-then-is_on-clause-used
returns-then-is_on-clause-used c =
    used_after c.args.kept.now c.drop_copy.new.kept c.args.first.key c.requires.used c.drop_copy.ensures.others c.drop_copy.ensures.gone

pub returns-clause-counted : goal.returns-clause-counted
returns-clause-counted c =
    let whole = subst (λ (fs : List Flying). AreCounted c.args.kept.now fs) c.requires.first c.requires.counted in
    let k = looked_kept c.args.kept.now (drop 1 c.args.places.now.items) c.args.first c.args.link whole (sym c.is_on.ensures ∙ c.if-is_on.false) in
    subst (λ (fs : List Flying). AreCounted c.args.kept.now fs) (sym (c.turn.ensures.items c.args.first (drop 1 c.args.places.now.items) c.requires.first)) k.0

pub returns-clause-copies : goal.returns-clause-copies
returns-clause-copies c =
    let whole = subst (λ (fs : List Flying). AreCounted c.args.kept.now fs) c.requires.first c.requires.counted in
    let k = looked_kept c.args.kept.now (drop 1 c.args.places.now.items) c.args.first c.args.link whole (sym c.is_on.ensures ∙ c.if-is_on.false) in
    ap (copies_in c.args.kept.now) (c.turn.ensures.items c.args.first (drop 1 c.args.places.now.items) c.requires.first) ∙ k.1
