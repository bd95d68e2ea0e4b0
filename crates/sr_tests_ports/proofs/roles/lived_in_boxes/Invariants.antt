use Rattle.sr_tests_ports.proofs.roles.lived_in_boxes.Given as goal

abbrev pub ghosts-lived : goal.ghosts-lived
ghosts-lived g a = record { name = a.blank.name; parts = a.blank.parts }
