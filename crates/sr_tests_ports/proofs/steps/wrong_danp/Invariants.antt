use Rattle.sr_tests_ports.proofs.steps.wrong_danp.Given as goal

abbrev pub ghosts-wrong_of : goal.ghosts-wrong_of
ghosts-wrong_of a = record { name = a.blank.name; parts = a.blank.parts }
