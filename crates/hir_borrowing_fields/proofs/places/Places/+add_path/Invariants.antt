use Rattle.hir_borrowing_fields.proofs.places.Places.+add_path.Given as goal

abbrev pub decreases-add_path : goal.decreases-add_path
decreases-add_path l = l.place
