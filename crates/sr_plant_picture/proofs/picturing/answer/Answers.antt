use Rattle.std.proofs.Common.{rules}
use Rattle.sr_plant_script.specs.declared.command.Command.TheVariants.{Send}
use Rattle.sr_plant_picture.proofs.picturing.answer.Goals as goal

pub returns-in_err-command-clause-memory : goal.returns-in_err-command-clause-memory
returns-in_err-command-clause-memory c h =
    let m = c.in_err-command.ensures.memory (search rules) in
    (Send m.0 m.1, m.2, m.3)
