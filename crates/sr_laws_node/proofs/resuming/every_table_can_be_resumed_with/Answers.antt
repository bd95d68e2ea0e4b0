use Rattle.sr_laws_node.proofs.ResumedLemmas.{can_be_resumed_lem}
use Rattle.sr_laws_node.proofs.resuming.every_table_can_be_resumed_with.Goals as goal

pub returns : goal.returns
returns c = can_be_resumed_lem c.args.table.now.width c.args.table.now.sources c.tables_are_sound.ensures
