use Rattle.sr_slots.proofs.SettleLemmas.{place_kept}
use Rattle.sr_slots.proofs.putting.place_to_settle.Goals as goal

pub returns-then-end-len-clause-place : goal.returns-then-end-len-clause-place
returns-then-end-len-clause-place g c =
    place_kept c.args.key c.args.map.now.entries c.place_for.new.map.entries c.add_gap.new.map.entries c.in_ok-index.index c.in_ok-index.ensures.place c.add_gap.ensures
