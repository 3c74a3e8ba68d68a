-- A return of which nothing is wrong stands for something, where each accepted type does.
use Rattle.std.proofs.Common.{◌≡◌, [], true, Option, is_some, refl, sym, subst}
use Rattle.bridge_decl.specs.declared.types.StdlibOrDiplomat.TheVariants.{Stdlib}
use Rattle.bridge_decl.specs.declared.types.WriteType.{WriteType}
use Rattle.bridge_grid.specs.Faults.{type_faults}
use Rattle.bridge_grid.specs.Returns.{is_pointer, level_result_part, level_returned, level_returned_option, result_part_faults, returned_faults}
use Rattle.bridge_grid.specs.declared.part.Part.{Part}
use Rattle.bridge_grid.specs.declared.part.Part.TheVariants.{Whole, Inside, Error}
use Rattle.bridge_order.specs.declared.catalog.Catalog.{Catalog}
use Rattle.bridge_rules.specs.declared.position.Position.{Position}
use Rattle.hir_backends.specs.declared.support.BackendAttrSupport.{BackendAttrSupport}
use Rattle.hir_number.specs.declared.numbered.NumberedType.{NumberedType, out-NumberedType}
use Rattle.hir_number.specs.declared.numbered.NumberedType.TheOpen.{NumberedType-F}
use Rattle.hir_form.specs.Makers.{Makers}
use Rattle.hir_form.specs.ReturnForms.{level_error_form, level_option_form, level_return_form, level_success_form, return_form, success_form}
use Rattle.hir_form.specs.TypeForms.{type_form}
use Rattle.hir_form.proofs.EmptyLemmas.{both_there, chosen_none, left_none, map_given, right_none}

-- a type of which nothing is wrong at a position stands for something there
abbrev pub Accepts : (P C I : Type 0) {O S T : Type 0} → Makers O S T → BackendAttrSupport → Catalog → Position → Type 0
Accepts P C I m support catalog at = (part : Part) (ty : NumberedType) → type_faults support catalog at part ty ≡ []
    → is_some (type_form {P = P} {C = C} {I = I} m catalog ty) ≡ true

module _ (P C O I S T : Type 0) (m : Makers O S T) (support : BackendAttrSupport) (catalog : Catalog) (at : Position) (accepts : Accepts P C I m support catalog at) (written : Option WriteType) where
  success_given : (part : Part) (ty : NumberedType) (x : NumberedType-F NumberedType) → type_faults support catalog at part ty ≡ []
      → is_some (level_success_form {P = P} {C = C} {I = I} m catalog written ty x) ≡ true
  success_given part ty NumberedType-F.Unit h = refl
  success_given part ty _ h = map_given _ _ (accepts part ty h)

  success_unit : (ty : NumberedType) → out-NumberedType ty ≡ NumberedType-F.Unit
      → is_some (success_form {P = P} {C = C} {I = I} m catalog written ty) ≡ true
  success_unit ty e = subst (λ x. is_some (level_success_form {P = P} {C = C} {I = I} m catalog written ty x) ≡ true) (sym e) refl

  part_success : (part : Part) (ty : NumberedType) (x : NumberedType-F NumberedType) → level_result_part support catalog at part ty x ≡ []
      → is_some (level_success_form {P = P} {C = C} {I = I} m catalog written ty x) ≡ true
  part_success part ty NumberedType-F.Unit h = refl
  part_success part ty (NumberedType-F.Option t Stdlib) h = map_given _ _ (accepts part ty (chosen_none (is_pointer t) _ _ h))
  part_success part ty _ h = map_given _ _ (accepts part ty h)

  part_error : (part : Part) (ty : NumberedType) (x : NumberedType-F NumberedType) → level_result_part support catalog at part ty x ≡ []
      → is_some (level_error_form {P = P} {C = C} {I = I} m catalog ty x) ≡ true
  part_error part ty NumberedType-F.Unit h = refl
  part_error part ty (NumberedType-F.Option t Stdlib) h = map_given _ _ (accepts part ty (chosen_none (is_pointer t) _ _ h))
  part_error part ty _ h = map_given _ _ (accepts part ty h)

  option_given : (ty inner : NumberedType) (x : NumberedType-F NumberedType) → out-NumberedType inner ≡ x
      → level_returned_option support catalog at ty inner x ≡ []
      → is_some (level_option_form {P = P} {C = C} {I = I} m catalog written ty inner x) ≡ true
  option_given ty inner NumberedType-F.Unit e h = map_given _ _ (success_unit inner e)
  option_given ty inner (NumberedType-F.Reference _ _ _) e h = map_given _ _ (map_given _ _ (accepts Whole ty h))
  option_given ty inner (NumberedType-F.Box _) e h = map_given _ _ (map_given _ _ (accepts Whole ty h))
  option_given ty inner _ e h = map_given _ _ (success_given Inside inner (out-NumberedType inner) h)

  level_given : (ty : NumberedType) (x : NumberedType-F NumberedType) → out-NumberedType ty ≡ x
      → level_returned support catalog at ty x ≡ []
      → is_some (level_return_form {P = P} {C = C} {I = I} m catalog written ty x) ≡ true
  level_given ty NumberedType-F.Unit e h = map_given _ _ (success_unit ty e)
  level_given ty (NumberedType-F.Option t _) e h = option_given ty t (out-NumberedType t) refl h
  level_given ty (NumberedType-F.Result t u _) e h = both_there _ _ _
      (part_success Inside t (out-NumberedType t) (left_none (result_part_faults support catalog at Inside t) (result_part_faults support catalog at Error u) h))
      (part_error Error u (out-NumberedType u) (right_none (result_part_faults support catalog at Inside t) (result_part_faults support catalog at Error u) h))
  level_given ty _ e h = map_given _ _ (success_given Whole ty (out-NumberedType ty) h)

  pub return_given : (ty : NumberedType) → returned_faults support catalog at ty ≡ []
      → is_some (return_form {P = P} {C = C} {I = I} m catalog written ty) ≡ true
  return_given ty h = level_given ty (out-NumberedType ty) refl h
