use Rattle.sr_tests_workers.proofs.boxes.with_node.Given as goal

abbrev pub ghosts-ran : goal.ghosts-ran
ghosts-ran g a = record { name = a.blank.name; parts = a.blank.parts }
