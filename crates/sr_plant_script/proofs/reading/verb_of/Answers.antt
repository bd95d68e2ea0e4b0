use Rattle.std.proofs.Common.{arith, rules}
use Rattle.std.proofs.lemmas.Grind.{common_steps}
use Rattle.sr_plant_script.proofs.reading.verb_of.Goals as goal

pub returns-in-drop-clause-found : goal.returns-in-drop-clause-found
returns-in-drop-clause-found c = grind (arith, common_steps)

pub returns-in-drop-clause-only : goal.returns-in-drop-clause-only
returns-in-drop-clause-only c = search rules

pub returns-in-carry-clause-found : goal.returns-in-carry-clause-found
returns-in-carry-clause-found c = grind (arith, common_steps)
