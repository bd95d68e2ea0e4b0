use Rattle.sr_tests_ports.proofs.flood.flooded_san.Given as goal

abbrev pub ghosts-reported : goal.ghosts-reported
ghosts-reported g a = record { name = a.blank.name; parts = a.blank.parts }
