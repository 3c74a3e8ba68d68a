-- What is listed of uses fits where the types do that they are listed of.
use Rattle.std.proofs.Common.{◌≡◌, ℕ, List, [], ◌∷◌, ◌++◌, Bool, true, false, Option, Some, None, refl, sym, subst}
use Rattle.std.specs.Prelude.{⊤}
use Rattle.std.specs.List.{All, flat_map}
use Rattle.hir_definitions.specs.declared.definitions.StructField.{StructField}
use Rattle.hir_definitions.specs.declared.definitions.TraitDef.{TraitDef}
use Rattle.hir_definitions.specs.declared.methods.Method.{Method}
use Rattle.hir_definitions.specs.declared.methods.Param.{Param}
use Rattle.hir_definitions.specs.declared.methods.ParamSelf.{ParamSelf}
use Rattle.hir_definitions.specs.declared.usage.ResultUsage.{ResultUsage}
use Rattle.hir_definitions.specs.declared.usage.ResultUsage.TheVariants as usage
use Rattle.hir_elide.proofs.BelowLemmas.{Each, each_all, weaker}
use Rattle.hir_fitting.specs.Fitting.{Fits}
use Rattle.hir_fitting.specs.declared.census.Census.{Census}
use Rattle.hir_ids.specs.Owners.{lent}
use Rattle.hir_ids.specs.declared.ids.TypeId.{TypeId}
use Rattle.hir_ids.specs.declared.ids.TypeId.TheVariants as type
use Rattle.hir_ids.specs.declared.owners.Borrow.{Borrow as Loan}
use Rattle.hir_ids.specs.declared.owners.InputOrOutput.{InputOrOutput}
use Rattle.hir_ids.specs.declared.owners.InputOrOutput.TheVariants as status
use Rattle.hir_mentions.specs.Callbacks.{CallbackReturnType, InputType, callback_mentions, callback_return_mentions, input_mentions, method_mentions, output_mentions}
use Rattle.hir_mentions.specs.Definitions.{result_mentions, trait_mentions}
use Rattle.hir_mentions.specs.Mentions.{Mentioned, Path, Plain, Borrow, where_any}
use Rattle.hir_mentions.specs.Types.{mentions_step, receiver_mentions, return_mentions, struct_path_mentions, trait_path_mentions}
use Rattle.hir_number.proofs.FaultLemmas.{each_both}
use Rattle.hir_fitting.specs.Parts.{PartFits, method_part}
use Rattle.hir_types.specs.Named.{Returned, ReturnedType}
use Rattle.hir_types.specs.Paths.{returnable_id}
use Rattle.hir_types.specs.Returns.{type_in, error_of, success_of}
use Rattle.hir_types.specs.SelfTypes.{FieldType}
use Rattle.hir_types.specs.Types.{type_id}
use Rattle.hir_types.specs.declared.callbacks.Callback.{Callback}
use Rattle.hir_types.specs.declared.callbacks.CallbackParam.{CallbackParam}
use Rattle.hir_types.specs.declared.callbacks.NoCallback.{NoCallback}
use Rattle.hir_types.specs.declared.paths.StructPath.{StructPath}
use Rattle.hir_types.specs.declared.paths.TraitPath.{TraitPath}
use Rattle.hir_types.specs.declared.positions.CallbackReturn.{CallbackReturn}
use Rattle.hir_types.specs.declared.positions.InputOnly.{InputOnly}
use Rattle.hir_types.specs.declared.returns.ReturnType.{ReturnType}
use Rattle.hir_types.specs.declared.returns.ReturnType.TheVariants as returned
use Rattle.hir_types.specs.declared.returns.SuccessType.{SuccessType}
use Rattle.hir_types.specs.declared.slices.Slice.{Slice}
use Rattle.hir_types.specs.declared.slices.Slice.TheVariants as slice
use Rattle.hir_types.specs.declared.types.HirType.{HirType, map-HirType, roll-HirType}
use Rattle.hir_types.specs.declared.types.HirType.TheOpen.{HirType-F}
use Rattle.hir_types.specs.declared.types.HirType.TheFolds.{fold-roll-HirType, ind-HirType}
use Rattle.hir_usage.specs.Callbacks.{callback_return_usages, callback_type_usages, optioned_callback_type_usages, optioned_output_usages, callback_usages, input_usages, method_usages, output_return_usages, output_usages, struct_id}
use Rattle.hir_usage.specs.Definitions.{fields_usages, trait_usages}
use Rattle.hir_usage.specs.Returns.{fallible_usages, result_usages, return_usages}
use Rattle.hir_usage.specs.Types.{opaque_usages, slice_usages, type_usages, uses_step, uses_within}
use Rattle.hir_usage.specs.Uses.{Used, Sliced, InResult, optioned_where}
use Rattle.hir_fitting_forms.specs.Uses.{UseFits}
use Rattle.hir_fitting_forms.proofs.Lists.{each_back, each_front, each_from_all}

-- what fits in an environment fits where there is none
pub unbound : (census : Census) (count : Option ℕ) (m : Mentioned) → Fits census count m → Fits census None m
unbound census count (Path id ls) h = (h.0, λ k d lt. tt)
unbound census count (Plain id) h = h
unbound census count (Borrow l) h = tt

module _ (census : Census) where
  abbrev pub Fine : Used → Type 0
  Fine = UseFits census

  optioned_fine : (b : Bool) (id : TypeId) → Each Fine (optioned_where b id)
  optioned_fine true id = (tt, tt)
  optioned_fine false id = tt

  -- ---- types

  module _ (P C I T : Type 0) {O S : Type 0} (status : InputOrOutput) (borrow : O → Option Loan) (struct : S → TypeId) where
    slice_fine : (s : Slice P C O I S T) → Each Fine (slice_usages status struct s)
    slice_fine (slice.Str _ _) = tt
    slice_fine (slice.Primitive _ _) = tt
    slice_fine (slice.Strs _) = tt
    slice_fine (slice.Struct _ path) = (tt, tt)
    slice_fine (slice.Enum _ path) = (tt, tt)
    slice_fine (slice.Opaque _ path) = each_both Fine (opaque_usages status (λ (b : Loan). Some b) path) (Sliced (type.Opaque path.tcx_id) ∷ []) (optioned_fine _ (type.Opaque path.tcx_id)) (tt, tt)

    -- over what holds of a type whose callbacks are listed so that their uses fit
    module _ (of_callback : C → List Used) (Holds : HirType P C O I S T → Type 0) (called : (c : C) → Holds (roll-HirType _ _ _ _ _ _ (HirType-F.Callback c)) → Each Fine (of_callback c))
        (within : (t : HirType P C O I S T) → Holds (roll-HirType _ _ _ _ _ _ (HirType-F.DiplomatOption t)) → Holds t)
      where
        abbrev uses_of : HirType P C O I S T → Bool → List Used
        uses_of = uses_within status borrow struct of_callback

        abbrev step : HirType-F P C O I S T (Bool → List Used) → Bool → List Used
        step = uses_step status borrow struct of_callback

        abbrev Claim : HirType P C O I S T → Type 0
        Claim t = Holds t → (b : Bool) → Each Fine (uses_of t b)

        abbrev LayerFine : HirType-F P C O I S T (HirType P C O I S T) → Type 0
        LayerFine x = Holds (roll-HirType _ _ _ _ _ _ x) → (b : Bool) → Each Fine (step (map-HirType _ _ _ _ _ _ _ _ uses_of x) b)

        unfoldable Layered : HirType-F P C O I S T ((t : HirType P C O I S T) × Claim t) → Type 0
        Layered y = LayerFine (map-HirType _ _ _ _ _ _ _ _ (λ e. e.0) y)

        layer : (y : HirType-F P C O I S T ((t : HirType P C O I S T) × Claim t)) → Layered y
        unfolding Layered
        layer (HirType-F.Primitive _) = λ h b. tt
        layer (HirType-F.Opaque path) = λ h b.
            each_both Fine (opaque_usages status borrow path) (optioned_where b (type.Opaque path.tcx_id)) (optioned_fine _ (type.Opaque path.tcx_id)) (optioned_fine b (type.Opaque path.tcx_id))
        layer (HirType-F.Struct path) = λ h b. optioned_fine b (struct path)
        layer (HirType-F.ImplTrait _) = λ h b. tt
        layer (HirType-F.Enum path) = λ h b. optioned_fine b (type.Enum path.tcx_id)
        layer (HirType-F.Slice s) = λ h b. slice_fine s
        layer (HirType-F.Callback c) = λ h b. called c h
        layer (HirType-F.DiplomatOption inside) = λ h b. inside.1 (within inside.0 h) true

        pub types_fine : (t : HirType P C O I S T) → Claim t
        unfolding Layered
        types_fine = ind-HirType _ _ _ _ _ _ Claim (λ x y is. λ h b.
            subst (λ f. Each Fine (f b)) (sym (fold-roll-HirType _ _ _ _ _ _ (Bool → List Used) step x)) (subst LayerFine is (layer y) h b))

  -- a type without callbacks
  free_fine : (P I T : Type 0) {O S : Type 0} (status : InputOrOutput) (borrow : O → Option Loan) (struct : S → TypeId) (t : HirType P NoCallback O I S T) (b : Bool)
      → Each Fine (uses_within status borrow struct (λ _. []) t b)
  free_fine P I T status borrow struct t b = types_fine P NoCallback I T status borrow struct (λ _. []) (λ _. ⊤) (λ c h. tt) (λ u h. tt) t tt b

  pub field_type_fine : (t : FieldType) → Each Fine (type_usages status.InputOutput (λ (o : Loan). Some o) struct_id (λ _. []) t)
  field_type_fine t = free_fine _ _ _ status.InputOutput (λ o. Some o) struct_id t false

  pub output_fine : (t : ReturnedType) → Each Fine (output_usages t)
  output_fine t = free_fine _ _ _ status.Output lent returnable_id t false

  optioned_output_fine : (t : ReturnedType) → Each Fine (optioned_output_usages t)
  optioned_output_fine t = free_fine _ _ _ status.Output lent returnable_id t true

  callback_type_fine : (t : CallbackReturnType) → Each Fine (callback_type_usages t)
  callback_type_fine t = free_fine _ _ _ status.Input (λ o. Some o) struct_id t false

  optioned_callback_type_fine : (t : CallbackReturnType) → Each Fine (optioned_callback_type_usages t)
  optioned_callback_type_fine t = free_fine _ _ _ status.Input (λ o. Some o) struct_id t true

  -- ---- returns

  where_fine : {A : Type 0} (of_type : A → List Used) → ((t : A) → Each Fine (of_type t)) → (t : Option A) → Each Fine (where_any of_type t)
  where_fine of_type fine None = tt
  where_fine of_type fine (Some t) = fine t

  module _ (P C O I S T : Type 0) (of_type of_optioned : HirType P C O I S T → List Used) (fine : (t : HirType P C O I S T) → Each Fine (of_type t))
      (optioned : (t : HirType P C O I S T) → Each Fine (of_optioned t)) (struct : S → TypeId) (result_of : SuccessType P C O I S T → Option (HirType P C O I S T) → ResultUsage)
      (names : HirType P C O I S T → List Mentioned)
      (same : (ok : SuccessType P C O I S T) (err : Option (HirType P C O I S T)) → result_mentions (result_of ok err) ≡ where_any names (type_in ok) ++ where_any names err) (count : Option ℕ)
    where
      named_fine : (result : ResultUsage) → All (Fits census None) (result_mentions result) → (id : Option TypeId) → Each Fine (where_any (λ id. InResult id result ∷ []) id)
      named_fine result fits None = tt
      named_fine result fits (Some id) = (fits, tt)

      result_fine : (result : ResultUsage) → All (Fits census None) (result_mentions result) → (t : HirType P C O I S T) → Each Fine (result_usages struct result t)
      result_fine result fits t = named_fine result fits (type_id struct t)

      fallible_fine : (ok : SuccessType P C O I S T) (err : Option (HirType P C O I S T)) → Each (Fits census count) (where_any names (type_in ok) ++ where_any names err)
          → Each Fine (fallible_usages of_type of_optioned struct result_of ok err)
      fallible_fine ok err h =
          let result = result_of ok err in
          let fits : All (Fits census None) (result_mentions result) =
          subst (All (Fits census None)) (sym (same ok err)) (each_all (Fits census None) (where_any names (type_in ok) ++ where_any names err)
          (weaker (Fits census count) (Fits census None) (unbound census count) (where_any names (type_in ok) ++ where_any names err) h)) in
          let first = where_any of_type (type_in ok) in
          let second = where_any of_type err in
          let third = where_any (result_usages struct result) (type_in ok) in
          each_both Fine ((first ++ second) ++ third) (where_any (result_usages struct result) err)
          (each_both Fine (first ++ second) third (each_both Fine first second (where_fine of_type fine (type_in ok)) (where_fine of_type fine err))
          (where_fine (result_usages struct result) (result_fine result fits) (type_in ok)))
          (where_fine (result_usages struct result) (result_fine result fits) err)

      pub return_fine : (r : ReturnType P C O I S T) → Each (Fits census count) (return_mentions names r) → Each Fine (return_usages of_type of_optioned struct result_of r)
      return_fine (returned.Infallible ok) h = where_fine of_type fine (type_in ok)
      return_fine (returned.Nullable ok) h = where_fine of_optioned optioned (type_in ok)
      return_fine (returned.Fallible ok err) h = fallible_fine ok err h

  output_return_fine : (count : Option ℕ) (r : Returned) → Each (Fits census count) (return_mentions output_mentions r) → Each Fine (output_return_usages r)
  output_return_fine count r h =
      return_fine _ _ _ _ _ _ output_usages optioned_output_usages output_fine optioned_output_fine returnable_id (λ s e. usage.Output (record { ok = s; err = e })) output_mentions (λ ok err. refl) count r h

  callback_return_fine : (count : Option ℕ) (r : ReturnType CallbackReturn NoCallback Loan ℕ StructPath TraitPath) → Each (Fits census count) (return_mentions callback_return_mentions r)
      → Each Fine (callback_return_usages r)
  callback_return_fine count r h =
      return_fine _ _ _ _ _ _ callback_type_usages optioned_callback_type_usages callback_type_fine optioned_callback_type_fine struct_id (λ s e. usage.Input (record { ok = s; err = e })) callback_return_mentions (λ ok err. refl) count r h

  -- ---- callbacks and methods

  each_fine : {A : Type 0} (of : A → List Used) → ((x : A) → Each Fine (of x)) → (xs : List A) → Each Fine (flat_map of xs)
  each_fine of fine [] = tt
  each_fine of fine (x ∷ xs) = each_both Fine (of x) (flat_map of xs) (fine x) (each_fine of fine xs)

  module _ (count : Option ℕ) where
    abbrev Fit : Mentioned → Type 0
    Fit = Fits census count

    pub callback_fine : (c : Callback) → Each Fit (callback_mentions c) → Each Fine (callback_usages c)
    callback_fine c h =
        let front = where_any (λ r. trait_path_mentions r.trait_path) c.param_self ++ flat_map (λ (p : CallbackParam). output_mentions p.ty) c.params in
        each_both Fine (flat_map (λ (p : CallbackParam). output_usages p.ty) c.params) (callback_return_usages c.output) (each_fine (λ (p : CallbackParam). output_usages p.ty) (λ p. output_fine p.ty) c.params)
        (callback_return_fine count c.output (each_back Fit front (return_mentions callback_return_mentions c.output) h))

    abbrev input_step : HirType-F InputOnly Callback Loan ℕ StructPath TraitPath (List Mentioned) → List Mentioned
    input_step = mentions_step (λ (b : Loan). Some b) struct_path_mentions trait_path_mentions callback_mentions

    input_fine : (t : InputType) → Each Fit (input_mentions t) → Each Fine (input_usages t)
    input_fine t h =
        types_fine InputOnly Callback ℕ TraitPath status.Input (λ b. Some b) struct_id callback_usages (λ u. Each Fit (input_mentions u))
        (λ c k. callback_fine c (subst (Each Fit) (fold-roll-HirType _ _ _ _ _ _ (List Mentioned) input_step (HirType-F.Callback c)) k))
        (λ u k. subst (Each Fit) (fold-roll-HirType _ _ _ _ _ _ (List Mentioned) input_step (HirType-F.DiplomatOption u)) k) t h false

    -- all of which a list is made
    each_listed : {A : Type 0} (names : A → List Mentioned) (of : A → List Used) → ((x : A) → Each Fit (names x) → Each Fine (of x)) → (xs : List A) → Each Fit (flat_map names xs) → Each Fine (flat_map of xs)
    each_listed names of fine [] h = tt
    each_listed names of fine (x ∷ xs) h =
        each_both Fine (of x) (flat_map of xs) (fine x (each_front Fit (names x) (flat_map names xs) h)) (each_listed names of fine xs (each_back Fit (names x) (flat_map names xs) h))

    pub method_fine : (m : Method) → Each Fit (method_mentions m) → Each Fine (method_usages m)
    method_fine m h =
        let receiver = where_any (λ (r : ParamSelf). receiver_mentions r.ty) m.param_self in
        let params = flat_map (λ (p : Param). input_mentions p.ty) m.params in
        let inputs = each_front Fit (receiver ++ params) (return_mentions output_mentions m.output) h in
        each_both Fine (flat_map (λ (p : Param). input_usages p.ty) m.params) (output_return_usages m.output)
        (each_listed (λ (p : Param). input_mentions p.ty) (λ p. input_usages p.ty) (λ p. input_fine p.ty) m.params (each_back Fit receiver params inputs))
        (output_return_fine count m.output (each_back Fit (receiver ++ params) (return_mentions output_mentions m.output) h))

    pub trait_fine : (def : TraitDef) → Each Fit (trait_mentions def) → Each Fine (trait_usages def)
    trait_fine def h = each_listed callback_mentions callback_usages callback_fine def.methods h

  -- fields are in no result
  pub fields_fine : {P C O I S T : Type 0} (of_type : HirType P C O I S T → List Used) → ((t : HirType P C O I S T) → Each Fine (of_type t)) → (fields : List (StructField P C O I S T)) → Each Fine (fields_usages of_type fields)
  fields_fine of_type fine fields = each_fine (λ f. of_type f.ty) (λ f. fine f.ty) fields

-- what a method gives names what is there
module _ (census : Census) (m : Method) (all : PartFits census (method_part m)) where
  given_free : Each (Fits census None) (where_any output_mentions (type_in (success_of m.output)))
  given_free =
      let bound : Mentioned → Type 0 = Fits census (Some m.lifetime_env.count) in
      let front = where_any (λ (r : ParamSelf). receiver_mentions r.ty) m.param_self ++ flat_map (λ (p : Param). input_mentions p.ty) m.params in
      let given = where_any output_mentions (type_in (success_of m.output)) in
      weaker bound (Fits census None) (unbound census (Some m.lifetime_env.count)) given
      (each_front bound given (where_any output_mentions (error_of m.output)) (each_back bound front (return_mentions output_mentions m.output) (each_from_all bound (method_mentions m) all)))

  pub given_fits : All (Fits census None) (where_any output_mentions (type_in (success_of m.output)))
  given_fits = each_all (Fits census None) (where_any output_mentions (type_in (success_of m.output))) given_free
