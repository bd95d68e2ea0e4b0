use Rattle.sr_laws_node.proofs.WrittenLemmas.{what_goes_out_is_written_lem}
use Rattle.sr_laws_node.proofs.laws.what_goes_out_is_written.Goals as goal

pub returns : goal.returns
returns c = what_goes_out_is_written_lem c.what_is_wanted_is_written.ensures
