use Rattle.sr_laws_node.proofs.NumberLemmas.{networks_get_numbers_lem}
use Rattle.sr_laws_node.proofs.laws.what_goes_to_the_networks_has_a_number.Goals as goal

pub returns : goal.returns
returns c = networks_get_numbers_lem
