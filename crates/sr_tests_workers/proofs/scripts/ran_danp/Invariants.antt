use Rattle.sr_tests_workers.proofs.scripts.ran_danp.Given as goal

abbrev pub ghosts-ran : goal.ghosts-ran
ghosts-ran g a = record { name = a.blank.name; parts = a.blank.parts }
