use Rattle.std.proofs.Common.{◌∙◌, sym, ap, not, nat_lt, length}
use Rattle.sr_aged_slots.specs.Ages as ages
use Rattle.sr_dup_table.specs.Sources.{with_room}
use Rattle.sr_dup_table.proofs.SourceLemmas.{length-shown, room-shown}
use Rattle.sr_dup_table.proofs.table_of.TableOf.is_full_now.Goals as goal

pub returns-clause-result : goal.returns-clause-result
returns-clause-result g c =
    let es = c.self.inside.slots.entries in
    c.is_full_now.ensures.result
    ∙ ap (λ n. not (nat_lt n 1024)) (sym (length-shown (ages.with_room 400 1024 c.args.now es)) ∙ ap length (room-shown c.args.now es))
    ∙ ap (λ t. not (nat_lt (length (with_room c.args.now t.sources)) 1024)) c.self.view_is
