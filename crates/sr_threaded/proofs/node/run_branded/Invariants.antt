use Rattle.sr_threaded.proofs.node.run_branded.Given as goal

abbrev pub ghosts-run_node : goal.ghosts-run_node
ghosts-run_node g a = record { name = a.blank.name; parts = a.blank.parts }
