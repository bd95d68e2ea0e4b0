use Rattle.std.proofs.Common.{◌≡◌, ◌++◌, ◌∷◌, [], List, length, length-append, arith, ap, sym, subst}
use Rattle.sr_plant.specs.declared.flight.copies.Flying.{Flying}
use Rattle.sr_plant.specs.Flights.{AreCounted, copies_in, copy_in}
use Rattle.sr_plant.proofs.FlightLemmas.{attached, used_again, few_copies}
use Rattle.sr_plant.proofs.flight.copies.attach.Goals as goal

pub add_copy-requires-clause-fits : goal.add_copy-requires-clause-fits
add_copy-requires-clause-fits c =
    let one = ap length c.put_last.ensures.items in
    let more = length-append c.args.places.now.items (c.args.flying ∷ []) in
    few_copies c.args.kept.now c.args.places.now.items c.args.flying.key 18446744073709551615 c.requires.counted (omega (arith, one, more, c.put_last.ensures.few))

pub returns-clause-counted : goal.returns-clause-counted
returns-clause-counted c =
    let e = c.add_copy.ensures in
    let a = attached c.args.kept.now c.add_copy.new.kept c.args.places.now.items c.args.flying c.requires.counted e.more e.parcel e.others in
    subst (λ (fs : List Flying). AreCounted c.add_copy.new.kept fs) (sym c.put_last.ensures.items) a.0

pub returns-clause-used : goal.returns-clause-used
returns-clause-used c =
    let e = c.add_copy.ensures in
    used_again c.args.kept.now c.add_copy.new.kept c.args.flying.key c.requires.used e.others (omega (arith, e.more))

pub returns-clause-copies : goal.returns-clause-copies
returns-clause-copies c =
    let e = c.add_copy.ensures in
    let a = attached c.args.kept.now c.add_copy.new.kept c.args.places.now.items c.args.flying c.requires.counted e.more e.parcel e.others in
    subst (λ (fs : List Flying). copies_in c.add_copy.new.kept fs ≡ copies_in c.args.kept.now c.args.places.now.items ++ copy_in c.args.kept.now c.args.flying ∷ []) (sym c.put_last.ensures.items) a.1
