use Rattle.std.proofs.Common.{◌≡◌, ◌≢◌, ℕ, false, subst, sym, ◌∙◌}
use Rattle.hir_borrowing_params.specs.Answering.{maps_to}
use Rattle.hir_borrowing_params.specs.Edges.{is_in}
use Rattle.hir_borrowing_params.specs.inside.Candidates.{keys_of, passes_under}
use Rattle.hir_borrowing_params.proofs.Rows.{all_rows, any_is, key_found, known_there, no_rows, none_yet, rows_next}
use Rattle.hir_borrowing_params.proofs.answers.sets_under.Goals as goal

pub loop-number-init : goal.loop-number-init
loop-number-init c = no_rows (keys_of c.args.map.now) c.args.candidates.now c.new-sets.result c.new-sets.ensures.empty

pub add_set-requires : goal.add_set-requires
add_set-requires c = record {
  none = subst (λ d. (t : ℕ) → maps_to c.loop-number.sets d t ≡ false) (sym c.new.ensures)
      (none_yet (keys_of c.args.map.now) c.args.candidates.now c.loop-number.number c.index-candidates-number.result c.loop-number-test.true c.index-candidates-number.is c.loop-number.sets c.loop-number.invariant);
  full = c.loop-number.invariant.some;
}

pub loop-number-preserved : goal.loop-number-preserved
loop-number-preserved c =
    rows_next (keys_of c.args.map.now) c.args.candidates.now c.loop-number.number c.index-candidates-number.result c.loop-number-test.true c.index-candidates-number.is c.loop-number.sets c.loop-number.invariant c.add_set.new.sets c.in_ok-set.set
    (λ t. c.in_ok-set.ensures t ∙ any_is (λ k. passes_under c.args.map.now k c.index-candidates-number.result) c.args.keys.now t (known_there c.args.map.now c.args.keys.now c.index-candidates-number.result (λ k some. key_found c.args.keys.now k (c.requires.all k some)) t))
    (subst (λ d. (t : ℕ) → maps_to c.add_set.new.sets d t ≡ is_in c.in_ok-set.set t) c.new.ensures c.in_ok-add_set.ensures.here)
    (subst (λ e. (d t : ℕ) → d ≢ e → maps_to c.add_set.new.sets d t ≡ maps_to c.loop-number.sets d t) c.new.ensures c.in_ok-add_set.ensures.others) c.in_ok-add_set.ensures.full

pub returns : goal.returns
returns c = all_rows (keys_of c.args.map.now) c.args.candidates.now c.loop-number.number c.loop-number.sets c.loop-number-test.false c.loop-number.invariant
