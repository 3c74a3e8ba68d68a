use Rattle.std.proofs.Common.{◌≡◌, ◌≢◌, ℕ, false, subst, sym}
use Rattle.hir_borrowing_params.specs.Answering.{is_own_at, maps_to}
use Rattle.hir_borrowing_params.specs.Edges.{is_in}
use Rattle.hir_borrowing_params.proofs.Rows.{all_rows, no_rows, none_yet, rows_next}
use Rattle.hir_borrowing_params.proofs.own.own_sets.Goals as goal

pub loop-number-init : goal.loop-number-init
loop-number-init c = no_rows (is_own_at c.args.env.now.count) c.args.args.now c.new-sets.result c.new-sets.ensures.empty

pub add_set-requires : goal.add_set-requires
add_set-requires c = record {
  none = subst (λ d. (t : ℕ) → maps_to c.loop-number.sets d t ≡ false) (sym c.new.ensures)
      (none_yet (is_own_at c.args.env.now.count) c.args.args.now c.loop-number.number c.index-args-number.result c.loop-number-test.true c.index-args-number.is c.loop-number.sets c.loop-number.invariant);
  full = c.loop-number.invariant.some;
}

pub loop-number-preserved : goal.loop-number-preserved
loop-number-preserved c =
    rows_next (is_own_at c.args.env.now.count) c.args.args.now c.loop-number.number c.index-args-number.result c.loop-number-test.true c.index-args-number.is c.loop-number.sets c.loop-number.invariant c.add_set.new.sets c.in_ok-set.set
    c.in_ok-set.ensures
    (subst (λ d. (t : ℕ) → maps_to c.add_set.new.sets d t ≡ is_in c.in_ok-set.set t) c.new.ensures c.in_ok-add_set.ensures.here)
    (subst (λ e. (d t : ℕ) → d ≢ e → maps_to c.add_set.new.sets d t ≡ maps_to c.loop-number.sets d t) c.new.ensures c.in_ok-add_set.ensures.others) c.in_ok-add_set.ensures.full

pub returns : goal.returns
returns c = all_rows (is_own_at c.args.env.now.count) c.args.args.now c.loop-number.number c.loop-number.sets c.loop-number-test.false c.loop-number.invariant
