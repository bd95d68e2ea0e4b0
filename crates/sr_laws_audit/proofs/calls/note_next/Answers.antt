use Rattle.std.proofs.Common.{arith, ◌<◌}
use Rattle.sr_laws_audit.proofs.CallLemmas.{note_runs}
use Rattle.sr_laws_audit.proofs.calls.note_next.Goals as goal

pub returns-clause-runs : goal.returns-clause-runs
returns-clause-runs c =
    let fits : c.args.copy.arrival.seq.0 < 65536 = omega arith in
    note_runs c.note.result c.args.listing.now.spans c.args.listing.now.first c.args.copy c.args.listing.now.sources.entries
    c.note.new.self.sources.entries c.args.lines.now.items c.note.new.list.items fits c.note.ensures.lists c.note.ensures.listed
    c.note.ensures.order c.note.ensures.others
