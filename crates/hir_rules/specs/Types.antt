-- Which rules the types of methods, functions, traits' methods and fields break: by their paths and lifetimes, by how these are numbered,
-- and, with each lifetime as its number, by where the types stand.
use Rattle.std.specs.Prelude.{◌≡◌, ◌⊎◌, ℕ, List, Option, Some, None, Ok}
use Rattle.std.specs.List.{Contains, zip}
use Rattle.bridge_ast.specs.declared.place.ItemPlace.{ItemPlace}
use Rattle.bridge_decl.specs.declared.functions.Function.{Function}
use Rattle.bridge_decl.specs.declared.lifetimes.LifetimeEnv.{LifetimeEnv}
use Rattle.bridge_decl.specs.declared.methods.Method.{Method}
use Rattle.bridge_decl.specs.declared.structs.Field.{Field}
use Rattle.bridge_decl.specs.declared.structs.Struct.{Struct}
use Rattle.bridge_decl.specs.declared.traits.TraitMethod.{TraitMethod}
use Rattle.bridge_decl.specs.declared.types.Mutability.{Mutability}
use Rattle.bridge_decl.specs.declared.types.WriteType.{WriteType}
use Rattle.bridge_grid.specs.Breaks.{TypeBreaks}
use Rattle.bridge_grid.specs.ItemBreaks.{ReceiverBreaks, WriterBreaks}
use Rattle.bridge_grid.specs.ParamBreaks.{CallbackParamBreaks, ParamBreaks}
use Rattle.bridge_grid.specs.ReturnBreaks.{ReturnBreaks}
use Rattle.bridge_grid.specs.Telling.{fault_error, field_error}
use Rattle.bridge_grid.specs.declared.fault.TypeFault.{TypeFault}
use Rattle.bridge_grid.specs.declared.part.Part.TheVariants.{Whole}
use Rattle.bridge_grid.specs.rules.FfiUnsafe.{IsFfiSafe}
use Rattle.bridge_order.specs.declared.catalog.Catalog.{Catalog}
use Rattle.bridge_rules.specs.declared.position.Position.TheVariants as position
use Rattle.hir_backends.specs.declared.support.BackendAttrSupport.{BackendAttrSupport}
use Rattle.hir_config.specs.declared.config.LoweringConfig.{LoweringConfig}
use Rattle.hir_life.specs.declared.maybe_static.MaybeStatic.{MaybeStatic}
use Rattle.hir_methods.specs.Writers.{trailing_writer}
use Rattle.hir_number.specs.Breaches.{Broken}
use Rattle.hir_number.specs.Naming.{Naming}
use Rattle.hir_number.specs.Numbers.{signature_numbers}
use Rattle.hir_number.specs.Shapes.{NumberLists}
use Rattle.hir_number.specs.Signatures.{Placed, field_uses, function_uses, method_uses, trait_method_uses}
use Rattle.hir_number.specs.declared.numbered.NumberedType.{NumberedType}
use Rattle.hir_number.specs.declared.numbered.Target.{Target}
use Rattle.hir_number.specs.declared.signature.NumberedSignature.{NumberedSignature}
use Rattle.hir_number.specs.declared.trait_methods.NumberedTraitMethod.{NumberedTraitMethod}
use Rattle.hir_reports.specs.declared.report.LoweringError.{LoweringError}
use Rattle.hir_signatures.specs.Errors.{breach_error}
use Rattle.hir_stages.specs.Numbering.{filled_fields, filled_function, filled_method, filled_trait_method}
use Rattle.hir_rules.specs.Paths.{FieldPathsBreak, FunctionPathsBreak, MethodPathsBreak, TraitMethodPathsBreak}
use Rattle.hir_rules.specs.rules.AnonymousInDefinition.{AnonymousInDefinition}
use Rattle.hir_rules.specs.rules.ElisionAmbiguous.{ElisionAmbiguous}
use Rattle.hir_rules.specs.rules.ElisionNoSource.{ElisionNoSource}
use Rattle.hir_rules.specs.rules.TooManyLifetimes.{UsesTooMany}

-- ---- from what is broken to errors

-- of what is said of breaches, each as the error that it is
abbrev pub AsBreachErrors : (Broken → Type 0) → LoweringError → Type 0
AsBreachErrors Breaks error = (broken : Broken) × (Breaks broken × (error ≡ breach_error broken))

-- so of faults of types
abbrev pub AsFaultErrors : (TypeFault → Type 0) → LoweringError → Type 0
AsFaultErrors Breaks error = (f : TypeFault) × (Breaks f × (error ≡ fault_error f))

-- ---- paths, numbers, and types where they stand

-- how the uses of lifetimes are numbered, in what declares these
abbrev pub NumbersBreak : LifetimeEnv → List Placed → LoweringError → Type 0
NumbersBreak declared uses error =
    (AnonymousInDefinition uses error ⊎ ElisionNoSource declared uses error)
    ⊎ (ElisionAmbiguous declared uses error ⊎ UsesTooMany declared uses error)

-- a signature or a definition: by its paths and lifetimes; by how its uses of lifetimes are numbered; and, where each has its numbers, by
-- what it is with these
abbrev pub SignatureBreaks : (Broken → Type 0) → LifetimeEnv → List Placed → (NumberLists → LoweringError → Type 0) → LoweringError → Type 0
SignatureBreaks PathsBreak declared uses Numbered error =
    AsBreachErrors PathsBreak error
    ⊎ (NumbersBreak declared uses error
    ⊎ ((numbers : NumberLists) × ((signature_numbers declared uses ≡ Ok numbers) × Numbered numbers error)))

-- ---- methods and functions

-- the receiver, where there is one
abbrev pub OwnBreaks : BackendAttrSupport → Catalog → Option (MaybeStatic ℕ × Mutability) → Option Target → TypeFault → Type 0
OwnBreaks support catalog borrow (Some target) f = ReceiverBreaks support catalog borrow target.place f
OwnBreaks support catalog borrow None f = ⊥

-- the trailing writer, where there is one
abbrev pub TrailingBreaks : BackendAttrSupport → Option WriteType → TypeFault → Type 0
TrailingBreaks support (Some w) f = WriterBreaks support w f
TrailingBreaks support None f = ⊥

-- what is returned, where anything is
abbrev pub OutputBreaks : BackendAttrSupport → Catalog → Option NumberedType → TypeFault → Type 0
OutputBreaks support catalog (Some ty) f = ReturnBreaks support catalog position.Return ty f
OutputBreaks support catalog None f = ⊥

-- the receiver, a parameter, the trailing writer, or what is returned
abbrev pub NumberedBreaks : BackendAttrSupport → LoweringConfig → Catalog → Option WriteType → NumberedSignature → TypeFault → Type 0
NumberedBreaks support config catalog written n f =
    OwnBreaks support catalog n.borrow n.own f
    ⊎ (((ty : NumberedType) × (Contains n.params ty × ParamBreaks support config catalog ty f))
    ⊎ (TrailingBreaks support written f ⊎ OutputBreaks support catalog n.output f))

-- a method of the type there
abbrev pub MethodTypesBreak : BackendAttrSupport → LoweringConfig → Catalog → Naming → ItemPlace → Method → LoweringError → Type 0
MethodTypesBreak support config catalog names owner method =
    SignatureBreaks (MethodPathsBreak names owner method) method.lifetime_env (method_uses names method)
    (λ numbers. AsFaultErrors (NumberedBreaks support config catalog (trailing_writer method.params) (filled_method names method numbers)))

-- a function
abbrev pub FunctionTypesBreak : BackendAttrSupport → LoweringConfig → Catalog → Naming → Function → LoweringError → Type 0
FunctionTypesBreak support config catalog names function =
    SignatureBreaks (FunctionPathsBreak names function) function.lifetimes (function_uses names function)
    (λ numbers. AsFaultErrors (NumberedBreaks support config catalog (trailing_writer function.params) (filled_function names function numbers)))

-- ---- methods of traits, which are called back

-- what is returned, where anything is
abbrev pub TraitOutputBreaks : BackendAttrSupport → Catalog → Option NumberedType → LoweringError → Type 0
TraitOutputBreaks support catalog (Some ty) error = AsFaultErrors (ReturnBreaks support catalog position.CallbackReturn ty) error
TraitOutputBreaks support catalog None error = ⊥

-- a parameter, or what is returned
abbrev pub NumberedTraitBreaks : BackendAttrSupport → LoweringConfig → Catalog → NumberedTraitMethod → LoweringError → Type 0
NumberedTraitBreaks support config catalog n error =
    ((ty : NumberedType) × (Contains n.params ty × AsFaultErrors (CallbackParamBreaks support config catalog ty) error))
    ⊎ TraitOutputBreaks support catalog n.output error

-- a method of the trait there
abbrev pub TraitMethodTypesBreak : BackendAttrSupport → LoweringConfig → Catalog → Naming → ItemPlace → TraitMethod → LoweringError → Type 0
TraitMethodTypesBreak support config catalog names owner method =
    SignatureBreaks (TraitMethodPathsBreak names owner method) method.lifetimes (trait_method_uses names method)
    (λ numbers. NumberedTraitBreaks support config catalog (filled_trait_method names method numbers))

-- ---- fields

-- a field of that name and type in a struct: its layout isn't safe, or the type breaks a rule where it stands
abbrev pub FieldTypeBreaks : BackendAttrSupport → Catalog → List ℕ → NumberedType → LoweringError → Type 0
FieldTypeBreaks support catalog name ty error =
    ((¬ (IsFfiSafe ty)) × (error ≡ field_error name)) ⊎ AsFaultErrors (TypeBreaks support catalog position.Field Whole ty) error

-- in an out-struct
abbrev pub OutFieldTypeBreaks : BackendAttrSupport → Catalog → List ℕ → NumberedType → LoweringError → Type 0
OutFieldTypeBreaks support catalog name ty error = AsFaultErrors (TypeBreaks support catalog position.OutField Whole ty) error

-- one of the fields with its type, with lifetimes as these numbers
abbrev pub NumberedFieldsBreak : (List ℕ → NumberedType → LoweringError → Type 0) → Naming → Struct → NumberLists → LoweringError → Type 0
NumberedFieldsBreak Breaks names item numbers error =
    (pair : Field × NumberedType) × (Contains (zip item.fields (filled_fields names item numbers)) pair × Breaks pair.0.name pair.1 error)

-- the types of the fields of a struct or an out-struct, by what breaks a rule in each
abbrev pub FieldTypesBreak : (List ℕ → NumberedType → LoweringError → Type 0) → Naming → Struct → LoweringError → Type 0
FieldTypesBreak Breaks names item =
    SignatureBreaks (FieldPathsBreak names item) item.lifetimes (field_uses names item.fields) (NumberedFieldsBreak Breaks names item)
