use Rattle.sr_tests_ports.proofs.shared.settled_in_boxes.Given as goal

abbrev pub ghosts-settled : goal.ghosts-settled
ghosts-settled g a = record { name = a.blank.name; parts = a.blank.parts }
