use Rattle.sr_tests_ports.proofs.locking.told_of_danp.Given as goal

abbrev pub ghosts-told : goal.ghosts-told
ghosts-told g a = record { name = a.blank.name; parts = a.blank.parts }
