use Rattle.std.proofs.Common.{rules, Result, Ok, Err, OnOk}
use Rattle.sr_dup_window.specs.RecordLemmas.{record-whole}
use Rattle.sr_dup_snapshots.proofs.writing.put_source.Goals as goal

on-ok : {T E : Type 0} {P : Type 0} (r : Result T E) → P → OnOk r P
on-ok (Ok t) p = p
on-ok (Err e) p = tt

pub returns-clause-source : goal.returns-clause-source
returns-clause-source g c = on-ok c.put_record.result (record { address = search rules; time = search rules; whole = record-whole c.args.seen.now })
