use Rattle.std.proofs.Common.{rules, ◌≡◌}
use Rattle.std.proofs.lemmas.Map.{keys-set_value, length-set_value}
use Rattle.sr_frame.specs.Addresses.{mac_eq}
use Rattle.sr_watch.specs.Tracking.{TellsLine}
use Rattle.sr_watch.proofs.TableLemmas.{tells_of}
use Rattle.sr_watch.proofs.table.Table.tell.Goals as goal

pub returns-clause-told : goal.returns-clause-told
returns-clause-told c =
    let h = c.in_ok-line.ensures.changed in
    let told : TellsLine c.args.mark h.was h.is c.in_ok-line.line = search rules in
    let source : c.in_ok-line.line.source ≡ c.args.src = search rules in
    rw h.written (tells_of c.args.mark c.args.src c.args.self.now.sources.entries c.in_ok-line.line h.was h.is source h.found told)

pub returns-clause-len : goal.returns-clause-len
returns-clause-len c =
    let h = c.in_ok-line.ensures.changed in
    rw h.written (length-set_value (mac_eq c.args.src) c.args.self.now.sources.entries h.is)

pub returns-clause-tabled : goal.returns-clause-tabled
returns-clause-tabled c =
    let h = c.in_ok-line.ensures.changed in
    rw h.written (keys-set_value (mac_eq c.args.src) c.args.self.now.sources.entries h.is)
