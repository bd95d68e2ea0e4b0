use Rattle.sr_pcapng.proofs.Steps.{faults_behind}
use Rattle.sr_pcapng.proofs.packets.take_step.Goals as goal

pub returns-in-Ok-None-clause-fault : goal.returns-in-Ok-None-clause-fault
returns-in-Ok-None-clause-fault g c =
    let lost = rw c.in-Ok-None.field-0-is at c.in-Ok-None.ensures.left in
    faults_behind c.args.track.now (g.R.Read.remaining c.args.reader.now) (g.R.Read.remaining c.take_at_hand.new.reader) (g.R.Read.remaining c.take_in_list.new.reader) lost c.take_in_list.result c.take_in_list.ensures.fault
