use Rattle.std.proofs.Common.{arith}
use Rattle.sr_slots.proofs.PlaceLemmas.{entries_le}
use Rattle.sr_slots.proofs.SettleLemmas.{puts_last, put_ends, value_settled}
use Rattle.sr_slots.proofs.putting.put_last.Goals as goal

pub returns-in_err-index-clause-fits : goal.returns-in_err-index-clause-fits
returns-in_err-index-clause-fits g c = omega (arith, entries_le c.args.map.now.entries)

pub returns-clause-fits : goal.returns-clause-fits
returns-clause-fits g c = omega (arith, entries_le c.args.map.now.entries)

pub returns-clause-put : goal.returns-clause-put
returns-clause-put g c =
    let p = c.in_ok-index.ensures.place in
    let s = c.settle-at.ensures.settled p.front p.back (c.args.key, p.slot) p.at p.is in
    puts_last c.args.key c.args.value c.args.map.now.entries c.place_to_settle.new.map.entries c.settle-at.new.map.entries c.fill_at-was_held.new.map.entries c.in_ok-index.index c.settle-at.result p s
    c.len-places.ensures.unique c.requires.absent c.fill_at-was_held.ensures.written c.fill_at-was_held.result
    (c.fill_at-was_held.ensures.held p.slot (value_settled p.front (c.args.key, p.slot) p.back c.settle-at.new.map.entries c.settle-at.result s))

pub returns-clause-end : goal.returns-clause-end
returns-clause-end g c =
    let p = c.in_ok-index.ensures.place in
    let s = c.settle-at.ensures.settled p.front p.back (c.args.key, p.slot) p.at p.is in
    put_ends c.args.key c.args.value c.args.map.now.entries c.place_to_settle.new.map.entries c.settle-at.new.map.entries c.fill_at-was_held.new.map.entries c.in_ok-index.index c.settle-at.result p s
    c.len-places.ensures.unique c.requires.absent c.fill_at-was_held.ensures.written
