-- A type, a return or a parameter of which nothing is wrong stands for something.
use Rattle.std.proofs.Common.{◌≡◌, List, [], ◌∷◌, true, Option, Some, None, is_some, refl, map, sym, subst}
use Rattle.std.specs.List.{flat_map}
use Rattle.bridge_decl.specs.declared.types.WriteType.{WriteType}
use Rattle.bridge_grid.specs.Faults.{type_faults}
use Rattle.bridge_grid.specs.Params.{callback_param_faults, in_param_faults, level_in_param, param_faults, reference_faults}
use Rattle.bridge_grid.specs.Returns.{returned_faults}
use Rattle.bridge_grid.specs.declared.part.Part.TheVariants.{Whole}
use Rattle.bridge_rules.specs.Shapes.{shape_of, shape_of_level}
use Rattle.bridge_order.specs.declared.catalog.Catalog.{Catalog}
use Rattle.bridge_rules.specs.declared.position.Position.TheVariants as at
use Rattle.hir_backends.specs.declared.support.BackendAttrSupport.{BackendAttrSupport}
use Rattle.hir_config.specs.declared.config.LoweringConfig.{LoweringConfig}
use Rattle.hir_number.specs.declared.numbered.NumberedType.{NumberedType, out-NumberedType}
use Rattle.hir_number.specs.declared.numbered.NumberedType.TheOpen.{NumberedType-F}
use Rattle.hir_types.specs.declared.paths.TraitPath.{TraitPath}
use Rattle.hir_form.specs.Makers.{of_inputs, of_outputs}
use Rattle.hir_form.specs.ParamForms.{callback_param_form, callback_params_form, callback_return_form, field_form, input_form, level_param_form, method_return_form, out_type_form, param_form, params_form}
use Rattle.hir_form.specs.TypeForms.{generics_in}
use Rattle.hir_form.proofs.EmptyLemmas.{all_more, both_there, inside_none, left_none, map_given, own_none, right_none}
use Rattle.hir_form.proofs.FunctionLemmas.{IsOther, level_no}
use Rattle.hir_form.proofs.InLemmas.{InField, InParam, InReturn, IsNoFunction, shape_in}
use Rattle.hir_form.proofs.OutLemmas.{Out, OutParam, OutReturn, out_at, shape_out}
use Rattle.hir_form.proofs.ReturnLemmas.{Accepts, return_given}

-- ---- types by themselves

pub field_given : (support : BackendAttrSupport) (catalog : Catalog) (ty : NumberedType) → type_faults support catalog at.Field Whole ty ≡ []
    → is_some (field_form catalog ty) ≡ true
field_given support catalog ty h = shape_in _ _ _ _ (λ (path : TraitPath). None) InField tt support Whole (generics_in ty) (shape_of catalog ty) tt h

pub accepts_out : (P C I : Type 0) (k : Out) (support : BackendAttrSupport) (catalog : Catalog) → Accepts P C I of_outputs support catalog (out_at k)
accepts_out P C I k support catalog = λ part ty h. shape_out P C I k support part (generics_in ty) (shape_of catalog ty) h

accepts_in : (P C I : Type 0) (support : BackendAttrSupport) (catalog : Catalog) → Accepts P C I of_inputs support catalog at.CallbackReturn
accepts_in P C I support catalog = λ part ty h. shape_in P C I _ (λ (path : TraitPath). Some path) InReturn (λ (path : TraitPath). refl) support part (generics_in ty) (shape_of catalog ty) tt h

-- ---- returns

pub method_return_given : (support : BackendAttrSupport) (catalog : Catalog) (written : Option WriteType) (ty : NumberedType) → returned_faults support catalog at.Return ty ≡ []
    → is_some (method_return_form catalog written ty) ≡ true
method_return_given support catalog written ty h = return_given _ _ _ _ _ _ of_outputs support catalog at.Return (accepts_out _ _ _ OutReturn support catalog) written ty h

pub callback_return_given : (support : BackendAttrSupport) (catalog : Catalog) (ty : NumberedType) → returned_faults support catalog at.CallbackReturn ty ≡ []
    → is_some (callback_return_form catalog ty) ≡ true
callback_return_given support catalog ty h = return_given _ _ _ _ _ _ of_inputs support catalog at.CallbackReturn (accepts_in _ _ _ support catalog) None ty h

-- ---- callbacks

pub out_param_given : (support : BackendAttrSupport) (config : LoweringConfig) (catalog : Catalog) (ty : NumberedType) → callback_param_faults support config catalog ty ≡ []
    → is_some (out_type_form catalog ty) ≡ true
out_param_given support config catalog ty h = accepts_out _ _ _ OutParam support catalog Whole ty
    (left_none (type_faults support catalog at.CallbackParam Whole ty) (reference_faults config ty) h)

callback_params_given : (support : BackendAttrSupport) (config : LoweringConfig) (catalog : Catalog) (inputs : List NumberedType)
    → flat_map (callback_param_faults support config catalog) inputs ≡ [] → is_some (callback_params_form catalog inputs) ≡ true
callback_params_given support config catalog [] h = refl
callback_params_given support config catalog (ty ∷ inputs) h =
    all_more (callback_param_form catalog ty) (map (callback_param_form catalog) inputs)
    (map_given _ _ (out_param_given support config catalog ty (left_none (callback_param_faults support config catalog ty) (flat_map (callback_param_faults support config catalog) inputs) h)))
    (callback_params_given support config catalog inputs (right_none (callback_param_faults support config catalog ty) (flat_map (callback_param_faults support config catalog) inputs) h))

-- ---- parameters

other_given : (support : BackendAttrSupport) (catalog : Catalog) (ty : NumberedType) (x : NumberedType-F NumberedType) → IsOther x → out-NumberedType ty ≡ x
    → type_faults support catalog at.Param Whole ty ≡ [] → is_some (input_form catalog ty) ≡ true
other_given support catalog ty x n e h = shape_in _ _ _ _ (λ (path : TraitPath). Some path) InParam (λ (path : TraitPath). refl) support Whole (generics_in ty) (shape_of catalog ty)
    (subst (λ y. IsNoFunction (shape_of_level catalog y)) (sym e) (level_no catalog x n)) h

level_param_given : (support : BackendAttrSupport) (config : LoweringConfig) (catalog : Catalog) (ty : NumberedType) (x : NumberedType-F NumberedType) → out-NumberedType ty ≡ x
    → type_faults support catalog at.Param Whole ty ≡ [] → level_in_param support config catalog x ≡ [] → is_some (level_param_form catalog ty x) ≡ true
level_param_given support config catalog ty (NumberedType-F.Function inputs output _) e h i = map_given _ _ (both_there _ (callback_params_form catalog inputs) (callback_return_form catalog output)
    (callback_params_given support config catalog inputs (left_none (flat_map (callback_param_faults support config catalog) inputs) (returned_faults support catalog at.CallbackReturn output) i))
    (callback_return_given support catalog output (right_none (flat_map (callback_param_faults support config catalog) inputs) (returned_faults support catalog at.CallbackReturn output) i)))
level_param_given support config catalog ty (NumberedType-F.Primitive a) e h i = other_given support catalog ty (NumberedType-F.Primitive a) tt e h
level_param_given support config catalog ty NumberedType-F.Ordering e h i = other_given support catalog ty NumberedType-F.Ordering tt e h
level_param_given support config catalog ty (NumberedType-F.Named a) e h i = other_given support catalog ty (NumberedType-F.Named a) tt e h
level_param_given support config catalog ty (NumberedType-F.SelfType a) e h i = other_given support catalog ty (NumberedType-F.SelfType a) tt e h
level_param_given support config catalog ty (NumberedType-F.ImplTrait a) e h i = other_given support catalog ty (NumberedType-F.ImplTrait a) tt e h
level_param_given support config catalog ty (NumberedType-F.Reference a b d) e h i = other_given support catalog ty (NumberedType-F.Reference a b d) tt e h
level_param_given support config catalog ty (NumberedType-F.Box a) e h i = other_given support catalog ty (NumberedType-F.Box a) tt e h
level_param_given support config catalog ty (NumberedType-F.Option a b) e h i = other_given support catalog ty (NumberedType-F.Option a b) tt e h
level_param_given support config catalog ty (NumberedType-F.Result a b d) e h i = other_given support catalog ty (NumberedType-F.Result a b d) tt e h
level_param_given support config catalog ty (NumberedType-F.Write a) e h i = other_given support catalog ty (NumberedType-F.Write a) tt e h
level_param_given support config catalog ty (NumberedType-F.StrReference a b d) e h i = other_given support catalog ty (NumberedType-F.StrReference a b d) tt e h
level_param_given support config catalog ty (NumberedType-F.StrSlice a b) e h i = other_given support catalog ty (NumberedType-F.StrSlice a b) tt e h
level_param_given support config catalog ty (NumberedType-F.PrimitiveSlice a b d) e h i = other_given support catalog ty (NumberedType-F.PrimitiveSlice a b d) tt e h
level_param_given support config catalog ty (NumberedType-F.CustomTypeSlice a b d) e h i = other_given support catalog ty (NumberedType-F.CustomTypeSlice a b d) tt e h
level_param_given support config catalog ty NumberedType-F.Unit e h i = other_given support catalog ty NumberedType-F.Unit tt e h

pub param_given : (support : BackendAttrSupport) (config : LoweringConfig) (catalog : Catalog) (ty : NumberedType) → param_faults support config catalog ty ≡ [] → is_some (param_form catalog ty) ≡ true
param_given support config catalog ty h = level_param_given support config catalog ty (out-NumberedType ty) refl
    (own_none (type_faults support catalog at.Param Whole ty) (in_param_faults support config catalog ty) h)
    (inside_none (type_faults support catalog at.Param Whole ty) (in_param_faults support config catalog ty) h)

pub params_given : (support : BackendAttrSupport) (config : LoweringConfig) (catalog : Catalog) (params : List NumberedType) → flat_map (param_faults support config catalog) params ≡ [] → is_some (params_form catalog params) ≡ true
params_given support config catalog [] h = refl
params_given support config catalog (ty ∷ params) h = all_more (param_form catalog ty) (map (param_form catalog) params)
    (param_given support config catalog ty (left_none (param_faults support config catalog ty) (flat_map (param_faults support config catalog) params) h))
    (params_given support config catalog params (right_none (param_faults support config catalog ty) (flat_map (param_faults support config catalog) params) h))
