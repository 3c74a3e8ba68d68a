use Rattle.hir_borrowing_fields.proofs.places.Places.+put_names.Given as goal

abbrev pub decreases-put_names : goal.decreases-put_names
decreases-put_names g l = l.place
