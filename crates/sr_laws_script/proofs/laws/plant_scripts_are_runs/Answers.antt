use Rattle.sr_laws_script.proofs.ScriptLemmas.{scripts_are_runs}
use Rattle.sr_laws_script.proofs.laws.plant_scripts_are_runs.Goals as goal

pub returns : goal.returns
returns c = scripts_are_runs c.setups_make_plants.ensures c.runs_with_all_taken_are_runs.ensures
