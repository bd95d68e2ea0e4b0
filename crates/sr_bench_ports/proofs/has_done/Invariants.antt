use Rattle.sr_bench_ports.proofs.has_done.Given as goal

abbrev pub ghosts-enters : goal.ghosts-enters
ghosts-enters g a = record { name = a.blank.name; parts = a.blank.parts }

abbrev pub ghosts-enters_under_lock : goal.ghosts-enters_under_lock
ghosts-enters_under_lock g a = record { name = a.blank.name; parts = a.blank.parts }

abbrev pub ghosts-rotates : goal.ghosts-rotates
ghosts-rotates g a = record { name = a.blank.name; parts = a.blank.parts }
