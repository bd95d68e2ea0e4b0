use Rattle.sr_tests_workers.proofs.rotating.rotated_danp.Given as goal

abbrev pub ghosts-rotated : goal.ghosts-rotated
ghosts-rotated g a = record { name = a.blank.name; parts = a.blank.parts }
