use Rattle.std.proofs.Common.{◌*◌, ap, sym, arith, length, rules}
use Rattle.sr_frame.specs.declared.fields.Mac.{Mac}
use Rattle.sr_dup_table.specs.Sources.{Remembered}
use Rattle.sr_dup_table.specs.Shown.{heard_of}
use Rattle.sr_dup_table.proofs.JoinLemmas.{length-known}
use Rattle.sr_dup_table.proofs.merging.take.Goals as goal

pub returns-in-Some-true-clause-room : goal.returns-in-Some-true-clause-room
returns-in-Some-true-clause-room g c =
    let e : Mac × Remembered = (c.args.src, heard_of c.args.entry.now) in
    omega (arith, c.requires, length-known (64 * g.row.N) c.args.table.now.sources e (sym c.in-Some-true.ensures.found), ap length (c.in-Some-true.ensures.joined c.in-Some-true.field-0-test))

pub returns-in-Some-false-clause-joined : goal.returns-in-Some-false-clause-joined
returns-in-Some-false-clause-joined g c = search rules

pub returns-in-Some-false-clause-close : goal.returns-in-Some-false-clause-close
returns-in-Some-false-clause-close g c = search rules

pub returns-in-Some-false-clause-room : goal.returns-in-Some-false-clause-room
returns-in-Some-false-clause-room g c = search rules
