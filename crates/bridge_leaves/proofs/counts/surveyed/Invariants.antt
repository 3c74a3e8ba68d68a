use Rattle.bridge_leaves.proofs.counts.surveyed.Given as goal

abbrev pub ghosts-in_ledger : goal.ghosts-in_ledger
ghosts-in_ledger a = record { name = a.blank.name; parts = a.blank.parts }
