-- What is told of the types of methods, functions, traits' methods and fields is what the rules on them say.
use Rattle.std.proofs.Common.{◌≡◌, ◌⊎◌, ℕ, List, [], ◌∷◌, ◌++◌, length, map, Bool, true, false, Option, Some, None, Result, Ok, Err, if◌then◌else◌, refl, sym, subst}
use Rattle.std.specs.Prelude.{⊤, Decides, nat_lt}
use Rattle.std.specs.List.{Contains, flat_map, zip}
use Rattle.bridge_ast.specs.declared.place.ItemPlace.{ItemPlace}
use Rattle.bridge_decl.specs.declared.functions.Function.{Function}
use Rattle.bridge_decl.specs.declared.methods.Method.{Method}
use Rattle.bridge_decl.specs.declared.structs.Struct.{Struct}
use Rattle.bridge_decl.specs.declared.traits.TraitMethod.{TraitMethod}
use Rattle.bridge_decl.specs.declared.types.Mutability.{Mutability}
use Rattle.bridge_decl.specs.declared.types.WriteType.{WriteType}
use Rattle.bridge_grid.proofs.TypeLemmas.{tells_callback_param, tells_param, tells_receiver, tells_returned, tells_type, tells_writer}
use Rattle.bridge_grid.specs.Breaks.{TypeBreaks}
use Rattle.bridge_grid.specs.Faults.{type_faults}
use Rattle.bridge_grid.specs.Params.{callback_param_faults, param_faults}
use Rattle.bridge_grid.specs.ParamBreaks.{CallbackParamBreaks, ParamBreaks}
use Rattle.bridge_grid.specs.ReturnBreaks.{ReturnBreaks}
use Rattle.bridge_grid.specs.Returns.{returned_faults}
use Rattle.bridge_grid.specs.Telling.{fault_error, field_error}
use Rattle.bridge_grid.specs.declared.fault.TypeFault.{TypeFault}
use Rattle.bridge_grid.specs.declared.part.Part.TheVariants.{Whole}
use Rattle.bridge_grid.specs.rules.FfiUnsafe.{IsFfiSafe}
use Rattle.bridge_order.specs.declared.catalog.Catalog.{Catalog}
use Rattle.bridge_rules.specs.declared.position.Position.TheVariants as position
use Rattle.bridge_telling.specs.Telling.{TellsExactly}
use Rattle.bridge_telling.specs.inside.Given.{TellsGiven}
use Rattle.bridge_telling.proofs.ExactLemmas.{exactly_both, exactly_each, exactly_none, in_first, in_none, in_one}
use Rattle.bridge_telling.proofs.GivenLemmas.{given_both, given_each, given_exactly, given_map}
use Rattle.hir_backends.specs.declared.support.BackendAttrSupport.{BackendAttrSupport}
use Rattle.hir_config.specs.declared.config.LoweringConfig.{LoweringConfig}
use Rattle.hir_elide.specs.Numbering.{most}
use Rattle.hir_fields.proofs.SafetyLemmas.{safety_decided}
use Rattle.hir_fields.specs.Fields.{out_type_errors, struct_type_errors}
use Rattle.hir_fields.specs.Safety.{is_safe, safety_errors}
use Rattle.hir_fields.specs.Types.{TypeErrors, each_errors, else_told, numbered_errors, types_errors, where_named}
use Rattle.hir_form.specs.SignatureForms.{output_faults, own_faults, signature_faults, written_faults}
use Rattle.hir_heads.specs.Heads.{lifetime_errors}
use Rattle.hir_life.specs.declared.maybe_static.MaybeStatic.{MaybeStatic}
use Rattle.hir_methods.specs.Types.{function_type_errors, method_type_errors}
use Rattle.hir_methods.specs.Writers.{trailing_writer}
use Rattle.hir_number.proofs.ElisionLemmas.{fields_elided, function_elided, method_elided, trait_method_elided}
use Rattle.hir_number.specs.Breaches.{Broken, field_breaches, function_breaches, method_breaches, trait_method_breaches}
use Rattle.hir_number.specs.Naming.{Naming}
use Rattle.hir_number.specs.Numbers.{signature_numbers}
use Rattle.hir_number.specs.Shapes.{NumberLists}
use Rattle.hir_number.specs.Signatures.{field_uses, function_uses, method_uses, trait_method_uses}
use Rattle.hir_number.specs.declared.fault.NumberFault.{NumberFault}
use Rattle.hir_number.specs.declared.numbered.NumberedType.{NumberedType}
use Rattle.hir_number.specs.declared.numbered.Target.{Target}
use Rattle.hir_number.specs.declared.signature.NumberedSignature.{NumberedSignature}
use Rattle.hir_number.specs.declared.trait_methods.NumberedTraitMethod.{NumberedTraitMethod}
use Rattle.hir_reports.specs.declared.report.LoweringError.{LoweringError}
use Rattle.hir_signatures.specs.Errors.{breach_error}
use Rattle.hir_stages.specs.Numbering.{filled_fields, filled_function, filled_method, filled_trait_method}
use Rattle.hir_traits.specs.TraitStages.{trait_breached_stage, trait_named_stage, trait_numbered_stage, trait_stage_errors}
use Rattle.hir_traits.specs.TraitTypes.{trait_judged_errors, trait_method_type_errors, trait_output_errors, trait_param_errors}
use Rattle.hir_rules.specs.Paths.{FieldPathsBreak, FunctionPathsBreak, MethodPathsBreak, TraitMethodPathsBreak}
use Rattle.hir_rules.specs.Types.{AsFaultErrors, FieldTypeBreaks, FieldTypesBreak, FunctionTypesBreak, MethodTypesBreak, NumberedBreaks, NumberedFieldsBreak, NumberedTraitBreaks, OutFieldTypeBreaks, OutputBreaks, OwnBreaks, TrailingBreaks, TraitMethodTypesBreak, TraitOutputBreaks}
use Rattle.hir_rules.proofs.NumberLemmas.{fault_is_told}
use Rattle.hir_rules.proofs.PathLemmas.{field_paths, function_paths, method_paths, not_false, trait_method_paths}
use Rattle.hir_rules.proofs.StageLemmas.{few_of, stage_same, staged, staged_tells}

-- ---- faults as errors

pub as_faults : (fs : List TypeFault) (Breaks : TypeFault → Type 0) → TellsExactly fs Breaks → TellsGiven ⊤ (map fault_error fs) (AsFaultErrors Breaks)
as_faults fs Breaks exact = given_map ⊤ fault_error fs Breaks (given_exactly ⊤ fs Breaks exact)

-- ---- signatures

own_exactly : (support : BackendAttrSupport) (catalog : Catalog) (borrow : Option (MaybeStatic ℕ × Mutability)) (own : Option Target)
    → TellsExactly (own_faults support catalog borrow own) (OwnBreaks support catalog borrow own)
own_exactly support catalog borrow None f = exactly_none f
own_exactly support catalog borrow (Some target) f = tells_receiver support catalog borrow target.place f

trailing_exactly : (support : BackendAttrSupport) (written : Option WriteType) → TellsExactly (written_faults support written) (TrailingBreaks support written)
trailing_exactly support None f = exactly_none f
trailing_exactly support (Some w) f = tells_writer support w f

output_exactly : (support : BackendAttrSupport) (catalog : Catalog) (output : Option NumberedType) → TellsExactly (output_faults support catalog output) (OutputBreaks support catalog output)
output_exactly support catalog None f = exactly_none f
output_exactly support catalog (Some ty) f = tells_returned support catalog position.Return ty f

pub signature_exactly : (support : BackendAttrSupport) (config : LoweringConfig) (catalog : Catalog) (written : Option WriteType) (n : NumberedSignature)
    → TellsExactly (signature_faults support config catalog written n) (NumberedBreaks support config catalog written n)
signature_exactly support config catalog written n =
    let Params : TypeFault → Type 0 = λ f. (ty : NumberedType) × (Contains n.params ty × ParamBreaks support config catalog ty f) in
    exactly_both (own_faults support catalog n.borrow n.own) (flat_map (param_faults support config catalog) n.params ++ (written_faults support written ++ output_faults support catalog n.output))
    (OwnBreaks support catalog n.borrow n.own) (λ f. Params f ⊎ (TrailingBreaks support written f ⊎ OutputBreaks support catalog n.output f))
    (own_exactly support catalog n.borrow n.own)
    (exactly_both (flat_map (param_faults support config catalog) n.params) (written_faults support written ++ output_faults support catalog n.output)
    Params (λ f. TrailingBreaks support written f ⊎ OutputBreaks support catalog n.output f)
    (exactly_each (param_faults support config catalog) (λ ty f. ParamBreaks support config catalog ty f) (tells_param support config catalog) n.params)
    (exactly_both (written_faults support written) (output_faults support catalog n.output) (TrailingBreaks support written) (OutputBreaks support catalog n.output)
    (trailing_exactly support written) (output_exactly support catalog n.output)))

pub method_types_told : (support : BackendAttrSupport) (config : LoweringConfig) (catalog : Catalog) (names : Naming) (owner : ItemPlace) (method : Method)
    → TellsGiven (lifetime_errors method.lifetime_env ≡ []) (method_type_errors support config catalog names owner method) (MethodTypesBreak support config catalog names owner method)
method_types_told support config catalog names owner method =
    let faults : NumberedSignature → List TypeFault = signature_faults support config catalog (trailing_writer method.params) in
    let numbers = signature_numbers method.lifetime_env (method_uses names method) in
    subst (λ told. TellsGiven (lifetime_errors method.lifetime_env ≡ []) told (MethodTypesBreak support config catalog names owner method))
    (sym (stage_same (method_breaches names owner method) (lifetime_errors method.lifetime_env) numbers (filled_method names method) faults))
    (staged_tells method.lifetime_env (method_uses names method) (MethodPathsBreak names owner method) (λ n. map fault_error (faults (filled_method names method n)))
    (λ n. AsFaultErrors (NumberedBreaks support config catalog (trailing_writer method.params) (filled_method names method n)))
    (λ n. as_faults (faults (filled_method names method n)) (NumberedBreaks support config catalog (trailing_writer method.params) (filled_method names method n)) (signature_exactly support config catalog (trailing_writer method.params) (filled_method names method n)))
    (method_breaches names owner method) (lifetime_errors method.lifetime_env) (method_paths names owner method)
    (λ none. few_of (nat_lt most (length method.lifetime_env.nodes)) _ none)
    (λ none f lowered same. method_elided {A = NumberLists} names owner method (Err f) none (fault_is_told method.lifetime_env f numbers lowered same)))

pub function_types_told : (support : BackendAttrSupport) (config : LoweringConfig) (catalog : Catalog) (names : Naming) (function : Function)
    → TellsGiven (lifetime_errors function.lifetimes ≡ []) (function_type_errors support config catalog names function) (FunctionTypesBreak support config catalog names function)
function_types_told support config catalog names function =
    let faults : NumberedSignature → List TypeFault = signature_faults support config catalog (trailing_writer function.params) in
    let numbers = signature_numbers function.lifetimes (function_uses names function) in
    subst (λ told. TellsGiven (lifetime_errors function.lifetimes ≡ []) told (FunctionTypesBreak support config catalog names function))
    (sym (stage_same (function_breaches names function) (lifetime_errors function.lifetimes) numbers (filled_function names function) faults))
    (staged_tells function.lifetimes (function_uses names function) (FunctionPathsBreak names function) (λ n. map fault_error (faults (filled_function names function n)))
    (λ n. AsFaultErrors (NumberedBreaks support config catalog (trailing_writer function.params) (filled_function names function n)))
    (λ n. as_faults (faults (filled_function names function n)) (NumberedBreaks support config catalog (trailing_writer function.params) (filled_function names function n)) (signature_exactly support config catalog (trailing_writer function.params) (filled_function names function n)))
    (function_breaches names function) (lifetime_errors function.lifetimes) (function_paths names function)
    (λ none. few_of (nat_lt most (length function.lifetimes.nodes)) _ none)
    (λ none f lowered same. function_elided {A = NumberLists} names function (Err f) none (fault_is_told function.lifetimes f numbers lowered same)))

-- ---- methods of traits

trait_output_told : (support : BackendAttrSupport) (catalog : Catalog) (output : Option NumberedType) → TellsGiven ⊤ (trait_output_errors support catalog output) (TraitOutputBreaks support catalog output)
trait_output_told support catalog None = given_exactly ⊤ [] (λ _. ⊥) exactly_none
trait_output_told support catalog (Some ty) = as_faults (returned_faults support catalog position.CallbackReturn ty) (ReturnBreaks support catalog position.CallbackReturn ty) (tells_returned support catalog position.CallbackReturn ty)

pub trait_judged_told : (support : BackendAttrSupport) (config : LoweringConfig) (catalog : Catalog) (n : NumberedTraitMethod)
    → TellsGiven ⊤ (trait_judged_errors support config catalog n) (NumberedTraitBreaks support config catalog n)
trait_judged_told support config catalog n =
    given_both ⊤ (flat_map (trait_param_errors support config catalog) n.params) (trait_output_errors support catalog n.output)
    (λ e. (ty : NumberedType) × (Contains n.params ty × AsFaultErrors (CallbackParamBreaks support config catalog ty) e)) (TraitOutputBreaks support catalog n.output)
    (given_each ⊤ (trait_param_errors support config catalog) (λ ty e. AsFaultErrors (CallbackParamBreaks support config catalog ty) e)
    (λ ty. as_faults (callback_param_faults support config catalog ty) (CallbackParamBreaks support config catalog ty) (tells_callback_param support config catalog ty)) n.params)
    (trait_output_told support catalog n.output)

trait_stage_same : (breaches : List Broken) (names : List LoweringError) (r : Result NumberLists NumberFault) (filled : NumberLists → NumberedTraitMethod) (judged : NumberedTraitMethod → List LoweringError)
    → trait_stage_errors breaches judged (trait_breached_stage (trait_named_stage (trait_numbered_stage filled r) names) breaches) ≡ staged breaches names r (λ n. judged (filled n))
trait_stage_same (b ∷ bs) names r filled judged = refl
trait_stage_same [] (e ∷ es) r filled judged = refl
trait_stage_same [] [] (Err f) filled judged = refl
trait_stage_same [] [] (Ok n) filled judged = refl

pub trait_types_told : (support : BackendAttrSupport) (config : LoweringConfig) (catalog : Catalog) (names : Naming) (owner : ItemPlace) (method : TraitMethod)
    → TellsGiven (lifetime_errors method.lifetimes ≡ []) (trait_method_type_errors support config catalog names owner method) (TraitMethodTypesBreak support config catalog names owner method)
trait_types_told support config catalog names owner method =
    let numbers = signature_numbers method.lifetimes (trait_method_uses names method) in
    subst (λ told. TellsGiven (lifetime_errors method.lifetimes ≡ []) told (TraitMethodTypesBreak support config catalog names owner method))
    (sym (trait_stage_same (trait_method_breaches names owner method) (lifetime_errors method.lifetimes) numbers (filled_trait_method names method) (trait_judged_errors support config catalog)))
    (staged_tells method.lifetimes (trait_method_uses names method) (TraitMethodPathsBreak names owner method) (λ n. trait_judged_errors support config catalog (filled_trait_method names method n))
    (λ n. NumberedTraitBreaks support config catalog (filled_trait_method names method n))
    (λ n. trait_judged_told support config catalog (filled_trait_method names method n))
    (trait_method_breaches names owner method) (lifetime_errors method.lifetimes) (trait_method_paths names owner method)
    (λ none. few_of (nat_lt most (length method.lifetimes.nodes)) _ none)
    (λ none f lowered same. trait_method_elided {A = NumberLists} names owner method (Err f) none (fault_is_told method.lifetimes f numbers lowered same)))

-- ---- fields

safety_by : (b : Bool) (name : List ℕ) (ty : NumberedType) → Decides b (IsFfiSafe ty) → TellsExactly (if b then [] else field_error name ∷ []) (λ e. (¬ (IsFfiSafe ty)) × (e ≡ field_error name))
safety_by true name ty d e = (λ h. absurd (in_none e h), λ h. absurd (h.0 (d.0 refl)))
safety_by false name ty d e = (
  λ h. ((λ safe. not_false (d.1 safe)), in_one (field_error name) e h),
  λ h. subst (λ y. Contains (field_error name ∷ []) y) (sym h.1) (in_first (field_error name) []),
)

pub field_type_told : (support : BackendAttrSupport) (catalog : Catalog) (name : List ℕ) (ty : NumberedType) → TellsGiven ⊤ (struct_type_errors support catalog name ty) (FieldTypeBreaks support catalog name ty)
field_type_told support catalog name ty =
    given_both ⊤ (safety_errors name ty) (map fault_error (type_faults support catalog position.Field Whole ty)) (λ e. (¬ (IsFfiSafe ty)) × (e ≡ field_error name))
    (AsFaultErrors (TypeBreaks support catalog position.Field Whole ty))
    (given_exactly ⊤ (safety_errors name ty) (λ e. (¬ (IsFfiSafe ty)) × (e ≡ field_error name)) (safety_by (is_safe ty) name ty (safety_decided ty)))
    (as_faults (type_faults support catalog position.Field Whole ty) (TypeBreaks support catalog position.Field Whole ty) (tells_type support catalog position.Field Whole ty))

pub out_field_type_told : (support : BackendAttrSupport) (catalog : Catalog) (name : List ℕ) (ty : NumberedType) → TellsGiven ⊤ (out_type_errors support catalog name ty) (OutFieldTypeBreaks support catalog name ty)
out_field_type_told support catalog name ty =
    as_faults (type_faults support catalog position.OutField Whole ty) (TypeBreaks support catalog position.OutField Whole ty) (tells_type support catalog position.OutField Whole ty)

fields_same : (breaches : List Broken) (told : List LoweringError) (r : Result NumberLists NumberFault) (errors : TypeErrors) (names : Naming) (item : Struct)
    → else_told (map breach_error breaches) (where_named told (numbered_errors errors names item r)) ≡ staged breaches told r (λ n. each_errors errors item.fields (filled_fields names item n))
fields_same (b ∷ bs) told r errors names item = refl
fields_same [] (e ∷ es) r errors names item = refl
fields_same [] [] (Err f) errors names item = refl
fields_same [] [] (Ok n) errors names item = refl

pub field_types_told : (errors : TypeErrors) (Breaks : List ℕ → NumberedType → LoweringError → Type 0) → ((name : List ℕ) (ty : NumberedType) → TellsGiven ⊤ (errors name ty) (Breaks name ty))
    → (names : Naming) (item : Struct) → TellsGiven (lifetime_errors item.lifetimes ≡ []) (types_errors errors names item) (FieldTypesBreak Breaks names item)
field_types_told errors Breaks one names item =
    let numbers = signature_numbers item.lifetimes (field_uses names item.fields) in
    subst (λ told. TellsGiven (lifetime_errors item.lifetimes ≡ []) told (FieldTypesBreak Breaks names item))
    (sym (fields_same (field_breaches names item) (lifetime_errors item.lifetimes) numbers errors names item))
    (staged_tells item.lifetimes (field_uses names item.fields) (FieldPathsBreak names item) (λ n. each_errors errors item.fields (filled_fields names item n)) (NumberedFieldsBreak Breaks names item)
    (λ n. given_each ⊤ (λ pair. errors pair.0.name pair.1) (λ pair e. Breaks pair.0.name pair.1 e) (λ pair. one pair.0.name pair.1) (zip item.fields (filled_fields names item n)))
    (field_breaches names item) (lifetime_errors item.lifetimes) (field_paths names item)
    (λ none. few_of (nat_lt most (length item.lifetimes.nodes)) _ none)
    (λ none f lowered same. fields_elided {A = NumberLists} names item (Err f) none (fault_is_told item.lifetimes f numbers lowered same)))
