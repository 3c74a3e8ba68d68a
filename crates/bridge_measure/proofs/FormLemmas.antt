-- What the types of the made declarations are lowered to is plain: an opaque behind a reference, and a struct by value.
use Rattle.std.proofs.Common.{◌≡◌, ℕ, ◌-◌, ◌<◌, Bool, true, false, List, [], ◌∷◌, Some, None, map, refl, sym, ap, ◌∙◌, arith}
use Rattle.std.specs.Prelude.{option_map}
use Rattle.std.specs.List.{All}
use Rattle.std.proofs.lemmas.List.Elements.{All-cons, All-nil}
use Rattle.bridge_decl.specs.declared.types.Mutability.TheVariants.{Immutable}
use Rattle.bridge_order.specs.declared.catalog.Catalog.{Catalog}
use Rattle.bridge_rules.specs.Shapes.{lent_for}
use Rattle.hir_fields.specs.Types.{field_types_form, numbered_form}
use Rattle.hir_form.specs.Forms as form
use Rattle.hir_form.specs.Forms.{opaque_path, opaque_type, shape_form, struct_path}
use Rattle.hir_form.specs.Makers.{of_fields, of_inputs, of_outputs}
use Rattle.hir_form.specs.ParamForms.{ParamType, all_given, field_form, level_param_form, method_return_form, param_form, params_form}
use Rattle.hir_form.specs.ReturnForms.{level_return_form, level_success_form}
use Rattle.hir_form.specs.TypeForms.{generics_in}
use Rattle.hir_ids.specs.declared.owners.MaybeOwn.TheVariants as owner
use Rattle.hir_ids.specs.declared.owners.Optional.{Optional}
use Rattle.hir_life.specs.declared.maybe_static.MaybeStatic.{MaybeStatic}
use Rattle.hir_life.specs.declared.maybe_static.MaybeStatic.TheVariants.{NonStatic}
use Rattle.hir_number.specs.Naming.{Naming}
use Rattle.hir_number.specs.declared.numbered.NumberedType.{NumberedType, out-roll-NumberedType}
use Rattle.hir_types.specs.Named.{ReturnedType}
use Rattle.hir_types.specs.SelfTypes.{FieldType}
use Rattle.hir_types.specs.declared.paths.OpaquePath.{OpaquePath}
use Rattle.hir_types.specs.declared.paths.StructPath.{StructPath}
use Rattle.hir_types.specs.declared.returns.ReturnType.TheVariants as returned
use Rattle.hir_types.specs.declared.returns.SuccessType.TheVariants as success
use Rattle.hir_validation.specs.WholeTypes.{field_whole, param_whole, returned_whole}
use Rattle.bridge_measure.specs.inside.Made.{AreAsMade}
use Rattle.bridge_measure.proofs.FilledLemmas.{borrowed_type, fields_filled, param_types, struct_type, types_if}
use Rattle.bridge_measure.proofs.GivenLemmas.{given_all, same_some}
use Rattle.bridge_measure.proofs.PlainLemmas.{IsPlain, input_opaque_plain, input_struct_plain, returned_opaque_plain}
use Rattle.bridge_measure.proofs.ShapeLemmas.{borrowed_level, borrowed_shape_is, struct_level, struct_shape_is}
use Rattle.bridge_measure.proofs.UseLemmas.{fields_numbered, struct_if}

module _ (count : ℕ) (names : Naming) (catalog : Catalog) (known : AreAsMade count names catalog) where
  -- the opaque behind a reference, by how it is held
  abbrev borrowed_path : {O : Type 0} → MaybeStatic ℕ → O → OpaquePath Optional O
  borrowed_path n held = opaque_path (generics_in (borrowed_type n)) false known.opaque_entry.0 held

  -- the struct by value
  abbrev value_path : (k : ℕ) → k < count → List (MaybeStatic ℕ) → StructPath
  value_path k within ns = struct_path (generics_in (struct_type k ns)) (known.struct_entry k within).0 owner.Own

  -- ---- fields

  abbrev Gives : NumberedType → Type 0
  Gives ty = (t : FieldType) → field_form catalog ty ≡ Some t → IsPlain (field_whole t)

  borrowed_gives : (n : MaybeStatic ℕ) → Gives (borrowed_type n)
  borrowed_gives n t given =
      let is = ap (shape_form of_fields (generics_in (borrowed_type n))) (borrowed_shape_is count names catalog known n) in
      input_opaque_plain (λ _. None) t (borrowed_path n (lent_for n Immutable)) (same_some t _ (sym given ∙ is))

  struct_gives : (k : ℕ) → k < count → (ns : List (MaybeStatic ℕ)) → Gives (struct_type k ns)
  struct_gives k within ns t given =
      let is = ap (shape_form of_fields (generics_in (struct_type k ns))) (struct_shape_is count names catalog known k within ns) in
      input_struct_plain (λ _. None) t (value_path k within ns) (same_some t _ (sym given ∙ is)) refl

  each_gives : (first : Bool) (k : ℕ) → k < count → All Gives (types_if first k)
  each_gives true k within = All-cons Gives (borrowed_type (NonStatic 0)) [] (borrowed_gives (NonStatic 0)) (All-nil Gives)
  each_gives false k within =
      let second = struct_type (k - 1) (NonStatic 0 ∷ []) in
      All-cons Gives (borrowed_type (NonStatic 0)) (second ∷ []) (borrowed_gives (NonStatic 0))
      (All-cons Gives second [] (struct_gives (k - 1) (omega arith) (NonStatic 0 ∷ [])) (All-nil Gives))

  -- of a struct
  pub field_types_plain : (first : Bool) (k : ℕ) → k < count → (types : List FieldType)
      → field_types_form (field_form catalog) names (struct_if first k) ≡ Some types → All (λ (t : FieldType). IsPlain (field_whole t)) types
  field_types_plain first k within types given =
      let are =
      ap (numbered_form (field_form catalog) names (struct_if first k)) (fields_numbered count names catalog known first k within)
      ∙ ap (λ ts. all_given (map (field_form catalog) ts)) (fields_filled count names catalog known first k within) in
      given_all (λ (t : FieldType). IsPlain (field_whole t)) (field_form catalog) (types_if first k) (each_gives first k within) types (sym are ∙ given)

  -- ---- parameters: `p` and `q`

  module _ (k : ℕ) (within : k < count) where
    abbrev first_param : ParamType
    first_param = form.struct_type (value_path k within (NonStatic 0 ∷ []))

    abbrev second_param : ParamType
    second_param = opaque_type (borrowed_path (NonStatic 1) (lent_for (NonStatic 1) Immutable))

    first_is : param_form catalog (struct_type k (NonStatic 0 ∷ [])) ≡ Some first_param
    first_is =
        let ty = struct_type k (NonStatic 0 ∷ []) in
        ap (level_param_form catalog ty) (out-roll-NumberedType (struct_level k (NonStatic 0 ∷ [])))
        ∙ ap (shape_form of_inputs (generics_in ty)) (struct_shape_is count names catalog known k within (NonStatic 0 ∷ []))

    second_is : param_form catalog (borrowed_type (NonStatic 1)) ≡ Some second_param
    second_is =
        let ty = borrowed_type (NonStatic 1) in
        ap (level_param_form catalog ty) (out-roll-NumberedType (borrowed_level (NonStatic 1)))
        ∙ ap (shape_form of_inputs (generics_in ty)) (borrowed_shape_is count names catalog known (NonStatic 1))

    abbrev pub lowered_params : List ParamType
    lowered_params = first_param ∷ second_param ∷ []

    pub params_are : params_form catalog (param_types k) ≡ Some lowered_params
    params_are =
        ap (λ o. all_given (o ∷ param_form catalog (borrowed_type (NonStatic 1)) ∷ [])) first_is
        ∙ ap (λ o. all_given (Some first_param ∷ o ∷ [])) second_is

    pub params_plain : All (λ (t : ParamType). IsPlain (param_whole t)) lowered_params
    params_plain =
        All-cons (λ (t : ParamType). IsPlain (param_whole t)) first_param (second_param ∷ [])
        (input_struct_plain Some first_param (value_path k within (NonStatic 0 ∷ [])) refl refl)
        (All-cons (λ (t : ParamType). IsPlain (param_whole t)) second_param []
        (input_opaque_plain Some second_param (borrowed_path (NonStatic 1) (lent_for (NonStatic 1) Immutable)) refl)
        (All-nil (λ (t : ParamType). IsPlain (param_whole t))))

  -- ---- the return

  abbrev pub lowered_return : ReturnedType
  lowered_return = opaque_type (borrowed_path (NonStatic 0) (owner.Borrow (lent_for (NonStatic 0) Immutable)))

  pub return_is : method_return_form catalog None (borrowed_type (NonStatic 0)) ≡ Some (returned.Infallible (success.OutType lowered_return))
  return_is =
      let ty = borrowed_type (NonStatic 0) in
      let level = out-roll-NumberedType (borrowed_level (NonStatic 0)) in
      ap (level_return_form of_outputs catalog None ty) level
      ∙ ap (λ l. option_map (λ s. returned.Infallible s) (level_success_form of_outputs catalog None ty l)) level
      ∙ ap (λ s. option_map (λ o. returned.Infallible o) (option_map (λ t. success.OutType t) (shape_form of_outputs (generics_in ty) s)))
      (borrowed_shape_is count names catalog known (NonStatic 0))

  pub return_plain : All (λ (t : ReturnedType). IsPlain (returned_whole t)) (lowered_return ∷ [])
  return_plain =
      All-cons (λ (t : ReturnedType). IsPlain (returned_whole t)) lowered_return []
      (returned_opaque_plain lowered_return (borrowed_path (NonStatic 0) (owner.Borrow (lent_for (NonStatic 0) Immutable))) refl)
      (All-nil (λ (t : ReturnedType). IsPlain (returned_whole t)))
