use Rattle.std.proofs.Common.{◌≡◌, ◌∙◌, map, option_map, refl, ap, subst}
use Rattle.hir_borrowing_params.specs.Answering.{IsUnheld, IsHeld}
use Rattle.hir_borrowing_params.specs.Edges.{held_under, holding}
use Rattle.hir_borrowing_params.specs.inside.Candidates.{candidate_shown}
use Rattle.hir_borrowing_params.proofs.Kinding.{free_when, held_when, struct_kinds, struct_rows}
use Rattle.hir_borrowing_params.proofs.visits.visit_struct.Goals as goal

pub returns-then-is_empty-clause-told : goal.returns-then-is_empty-clause-told
returns-then-is_empty-clause-told c =
    subst (IsUnheld (held_under c.args.map.now)) (struct_kinds c.args.env.now c.args.optional c.args.args.now c.deref.result.now (ap (map candidate_shown) c.deref.ensures.value ∙ c.in_ok-candidates.ensures))
    (free_when c.args.map.now c.deref.result.now c.in_ok-sets.sets c.in_ok-sets.ensures.rows (c.is_empty.ensures.0 c.if-is_empty.true))

pub returns-then-is_empty-clause-ok : goal.returns-then-is_empty-clause-ok
returns-then-is_empty-clause-ok c = λ t.
    subst (λ edges. held_under c.visit_edges.new.map t ≡ option_map (holding c.args.param_name.now edges) (held_under c.args.map.now t))
    (struct_kinds c.args.env.now c.args.optional c.args.args.now c.deref.result.now (ap (map candidate_shown) c.deref.ensures.value ∙ c.in_ok-candidates.ensures)) (c.in_ok-sets.ensures.ok t)

pub returns-clause-told : goal.returns-clause-told
returns-clause-told c = (
  subst (IsHeld (held_under c.args.map.now)) (struct_kinds c.args.env.now c.args.optional c.args.args.now c.deref.result.now (ap (map candidate_shown) c.deref.ensures.value ∙ c.in_ok-candidates.ensures))
      (held_when c.args.map.now c.deref.result.now c.in_ok-sets.sets c.in_ok-sets.ensures.rows c.is_empty.result c.if-is_empty.false c.is_empty.ensures.1),
  record {
    environment = refl;
    map = struct_rows c.args.map.now c.args.env.now c.args.optional c.args.args.now c.deref.result.now c.in_ok-sets.sets (ap (map candidate_shown) c.deref.ensures.value ∙ c.in_ok-candidates.ensures) c.in_ok-sets.ensures.rows;
  },
)

pub returns-clause-ok : goal.returns-clause-ok
returns-clause-ok c = λ t.
    subst (λ edges. held_under c.visit_edges.new.map t ≡ option_map (holding c.args.param_name.now edges) (held_under c.args.map.now t))
    (struct_kinds c.args.env.now c.args.optional c.args.args.now c.deref.result.now (ap (map candidate_shown) c.deref.ensures.value ∙ c.in_ok-candidates.ensures)) (c.in_ok-sets.ensures.ok t)
