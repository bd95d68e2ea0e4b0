use Rattle.std.proofs.Common.{◌∙◌, ◌+◌, ◌-◌, ◌*◌, ◌%◌, ap}
use Rattle.sr_dup_window.specs.Windows.{window_of}
use Rattle.sr_dup_snapshots.proofs.MarkLemmas.{noted-back, small}
use Rattle.sr_dup_snapshots.proofs.record.note_back.Goals as goal

pub returns : goal.returns
returns g c =
    let seq = (c.reference.result.0 + (65536 - c.args.back)) % 65536 in
    let at = ap (λ r. (r + (65536 - c.args.back)) % 65536) c.reference.ensures in
    c.note-fresh.ensures.value
    ∙ noted-back (64 * g.row.N) (window_of c.args.seen.now) c.args.back seq c.args.noted (small c.args.seen.now) c.args.seen.now.carried c.requires.back at c.requires.new c.requires.plain
