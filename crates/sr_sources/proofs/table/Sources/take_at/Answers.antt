use Rattle.std.proofs.Common.{rules, ◌≡◌}
use Rattle.std.proofs.lemmas.Map.{length-set_value}
use Rattle.sr_frame.specs.Addresses.{mac_eq}
use Rattle.sr_sources.specs.Sources.{source_with}
use Rattle.sr_sources.proofs.SourceLemmas.{sources_taken, left_set, own_set}
use Rattle.sr_sources.proofs.table.Sources.take_at.Goals as goal

pub returns-clause-taken : goal.returns-clause-taken
returns-clause-taken c =
    let h = c.in_ok-update_at.ensures.changed in
    let takes : h.is ≡ source_with c.args.event h.was = search rules in
    λ xs all. rw h.written (sources_taken xs c.args.self.now.sources.entries c.args.mac c.args.event
    h.was h.is h.found takes all)

pub returns-clause-known : goal.returns-clause-known
returns-clause-known c =
    let h = c.in_ok-update_at.ensures.changed in
    λ xs. rw h.written (left_set c.args.self.now.sources.entries c.args.mac h.was h.is h.found xs)

pub returns-clause-own : goal.returns-clause-own
returns-clause-own c =
    let h = c.in_ok-update_at.ensures.changed in
    rw h.written (own_set c.args.self.now.sources.entries c.args.mac h.was h.is h.found)

pub returns-clause-len : goal.returns-clause-len
returns-clause-len c =
    let h = c.in_ok-update_at.ensures.changed in
    rw h.written (length-set_value (mac_eq c.args.mac) c.args.self.now.sources.entries h.is)
