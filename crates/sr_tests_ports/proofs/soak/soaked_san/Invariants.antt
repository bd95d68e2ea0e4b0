use Rattle.sr_tests_ports.proofs.soak.soaked_san.Given as goal

abbrev pub ghosts-soaked : goal.ghosts-soaked
ghosts-soaked g a = record { name = a.blank.name; parts = a.blank.parts }
