use Rattle.std.proofs.Common.{rules}
use Rattle.std.proofs.lemmas.Map.{keys-set_value, length-set_value}
use Rattle.sr_frame.specs.Addresses.{mac_eq}
use Rattle.sr_watch.specs.Tracking.{NotesArrival}
use Rattle.sr_watch.proofs.TableLemmas.{watches_taken, own_set}
use Rattle.sr_watch.proofs.table.Table.take_at.Goals as goal

pub returns-clause-taken : goal.returns-clause-taken
returns-clause-taken c =
    let h = c.in_ok-update_at.ensures.changed in
    let notes : NotesArrival c.args.x h.was h.is = search rules in
    λ xs lines few watches. rw h.written (watches_taken xs lines c.args.self.now.sources.entries c.args.src c.args.x
    h.was h.is few h.found notes.notes watches)

pub returns-clause-own : goal.returns-clause-own
returns-clause-own c =
    let h = c.in_ok-update_at.ensures.changed in
    rw h.written (own_set c.args.self.now.sources.entries c.args.src h.was h.is h.found)

pub returns-clause-len : goal.returns-clause-len
returns-clause-len c =
    let h = c.in_ok-update_at.ensures.changed in
    rw h.written (length-set_value (mac_eq c.args.src) c.args.self.now.sources.entries h.is)

pub returns-clause-tabled : goal.returns-clause-tabled
returns-clause-tabled c =
    let h = c.in_ok-update_at.ensures.changed in
    rw h.written (keys-set_value (mac_eq c.args.src) c.args.self.now.sources.entries h.is)
