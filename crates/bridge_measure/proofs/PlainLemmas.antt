-- Types that break nothing where they are visited: an opaque, however it is held, and a struct by value. A struct and a function that have no
-- others break nothing either.
use Rattle.std.proofs.Common.{◌≡◌, ℕ, List, [], Bool, true, false, Option, None, Some, sym, ap, ◌∙◌}
use Rattle.std.specs.List.{All}
use Rattle.std.proofs.lemmas.List.Elements.{All-contains}
use Rattle.hir_context.specs.Lookups.{DefinedType, InputStruct, Struct, OutStruct, Opaque, Enum, type_methods}
use Rattle.hir_context.specs.declared.parts.Definitions.{Definitions}
use Rattle.hir_definitions.specs.declared.methods.Method.{Method}
use Rattle.hir_definitions.specs.declared.methods.Param.{Param}
use Rattle.hir_form.specs.Forms.{opaque_type, struct_type}
use Rattle.hir_ids.specs.Owners.{lent}
use Rattle.hir_ids.specs.declared.ids.TypeId.{TypeId}
use Rattle.hir_ids.specs.declared.ids.TypeId.TheVariants as type
use Rattle.hir_ids.specs.declared.owners.Borrow.{Borrow}
use Rattle.hir_ids.specs.declared.owners.MaybeOwn.{MaybeOwn}
use Rattle.hir_ids.specs.declared.owners.MaybeOwn.TheVariants as owner
use Rattle.hir_ids.specs.declared.owners.Optional.{Optional}
use Rattle.hir_life.specs.declared.maybe_static.MaybeStatic.{MaybeStatic}
use Rattle.hir_reports.specs.declared.report.LoweringError.{LoweringError}
use Rattle.hir_types.specs.Named.{ReturnedType}
use Rattle.hir_types.specs.Paths.{returnable_id, returnable_lifetimes}
use Rattle.hir_types.specs.declared.callbacks.Callback.{Callback as HeldCallback}
use Rattle.hir_types.specs.declared.callbacks.NoCallback.{NoCallback}
use Rattle.hir_types.specs.declared.paths.OpaquePath.{OpaquePath}
use Rattle.hir_types.specs.declared.paths.ReturnableStructPath.{ReturnableStructPath}
use Rattle.hir_types.specs.declared.paths.StructPath.{StructPath}
use Rattle.hir_types.specs.declared.types.HirType.{HirType, out-roll-HirType}
use Rattle.hir_types.specs.declared.types.HirType.TheOpen.{HirType-F}
use Rattle.hir_validation.specs.LoweredSignatureBreaks.{LoweredSignatureBreaks}
use Rattle.hir_validation.specs.Signatures.{types_returned}
use Rattle.hir_validation.specs.Structs.{LoweredField}
use Rattle.hir_validation.specs.LoweredTypeBreaks.{FieldBreaks, LoweredTypeBreaks}
use Rattle.hir_validation.specs.VisitedBreaks.{RefersTo, VisitedBreaks}
use Rattle.hir_validation.specs.WholeTypes as whole
use Rattle.hir_validation.specs.WholeTypes.{Whole, field_whole, input_whole, param_whole, returned_whole, whole_layer, whole_type}
use Rattle.hir_validation.specs.rules.AbiLayout.{AbiLayout}
use Rattle.hir_validation.specs.rules.AbiUnmarked.{AbiUnmarked}
use Rattle.hir_validation.specs.rules.OutStructSlice.{OutStructSlice}

-- ---- plain types

abbrev is_by_value : MaybeOwn → Bool
is_by_value owner.Own = true
is_by_value (owner.Borrow b) = false

-- an opaque, or a struct by value
abbrev is_plain : Whole → Bool
is_plain (whole.Opaque number borrow given) = true
is_plain (whole.Struct id held given) = is_by_value held
is_plain whole.Primitive = false
is_plain (whole.Enum number) = false
is_plain (whole.Slice element) = false
is_plain (whole.Callback output) = false
is_plain whole.Other = false

abbrev pub IsPlain : Whole → Type 0
IsPlain ty = is_plain ty ≡ true

either : {A : Type 0} (b : Bool) → b ≡ false → b ≡ true → A
either b off on = let both : false ≡ true = sym off ∙ on in cc

-- no reference to a struct is one
never_lent : (ty : Whole) (id : TypeId) (borrow : Borrow) (given : List (MaybeStatic ℕ)) → IsPlain ty → ¬ (ty ≡ whole.Struct id (owner.Borrow borrow) given)
never_lent ty id borrow given plain is = either (is_plain ty) (ap is_plain is) plain

never_refers : (defs : Definitions) (ty : Whole) (borrow : Borrow) (def : InputStruct) → IsPlain ty → ¬ (RefersTo defs ty borrow def)
never_refers defs ty borrow def plain refers = never_lent ty _ borrow refers.given plain refers.is_reference

never_unmarked : (defs : Definitions) (ty : Whole) (name : List ℕ) → IsPlain ty → ¬ (AbiUnmarked defs ty name)
never_unmarked defs _ _ plain (AbiUnmarked.structs number def found unmarked) = cc plain
never_unmarked defs _ _ plain (AbiUnmarked.enums number def found unmarked) = cc plain

never_out_slice : (defs : Definitions) (ty : Whole) → IsPlain ty → ¬ (OutStructSlice defs ty)
never_out_slice defs _ plain (OutStructSlice.out_structs number def found) = cc plain

-- for a backend whose callbacks must be able to fail, or may not
module _ (must_fail : Bool) (defs : Definitions) where
  visited_stands : (ty : Whole) (e : LoweringError) → IsPlain ty → ¬ (VisitedBreaks must_fail defs ty e)
  visited_stands ty _ plain (VisitedBreaks.abi_unmarked name breaks) = never_unmarked defs ty name plain breaks
  visited_stands ty _ plain (VisitedBreaks.out_struct_slice breaks) = never_out_slice defs ty plain breaks
  visited_stands ty _ plain (VisitedBreaks.mut_struct_ref borrow def refers breaks) = never_refers defs ty borrow def plain refers
  visited_stands ty _ plain (VisitedBreaks.tuple_reference borrow def refers breaks) = never_refers defs ty borrow def plain refers
  visited_stands ty _ plain (VisitedBreaks.callback_return output is breaks) = either (is_plain ty) (ap is_plain is) plain

  field_stands : (name : List ℕ) (ty : Whole) (e : LoweringError) → IsPlain ty → ¬ (FieldBreaks must_fail defs name ty e)
  field_stands name ty _ plain (FieldBreaks.visited e breaks) = visited_stands ty e plain breaks
  field_stands name ty _ plain (FieldBreaks.field_borrow breaks) = never_lent ty breaks.id breaks.borrow breaks.given plain breaks.is_reference

-- ---- plain types of one layer

module _ {P C O I S T : Type 0} (borrow : O → Option Borrow) (struct : S → TypeId) (given : S → List (MaybeStatic ℕ)) (held : S → MaybeOwn)
    (callback : C → Option HeldCallback)
  where
    abbrev layer_plain : HirType-F P C O I S T (HirType P C O I S T) → Bool
    layer_plain layer = is_plain (whole_layer borrow struct given held callback layer)

    abbrev whole_of : HirType P C O I S T → Whole
    whole_of = whole_type borrow struct given held callback

    opaque_plain : (ty : HirType P C O I S T) (path : OpaquePath Optional O) → ty ≡ opaque_type path → IsPlain (whole_of ty)
    opaque_plain ty path is = ap (λ t. is_plain (whole_of t)) is ∙ ap layer_plain (out-roll-HirType _ _ _ _ _ _ (HirType-F.Opaque path))

    struct_plain : (ty : HirType P C O I S T) (path : S) → ty ≡ struct_type path → held path ≡ owner.Own → IsPlain (whole_of ty)
    struct_plain ty path is own =
        ap (λ t. is_plain (whole_of t)) is ∙ ap layer_plain (out-roll-HirType _ _ _ _ _ _ (HirType-F.Struct path)) ∙ ap is_by_value own

-- where structs may come in
module _ {P C T : Type 0} (callback : C → Option HeldCallback) where
  pub input_opaque_plain : (ty : HirType P C Borrow ℕ StructPath T) (path : OpaquePath Optional Borrow) → ty ≡ opaque_type path
      → IsPlain (input_whole callback ty)
  input_opaque_plain =
      opaque_plain Some (λ (path : StructPath). type.Struct path.tcx_id) (λ (path : StructPath). path.lifetimes) (λ (path : StructPath). path.owner) callback

  pub input_struct_plain : (ty : HirType P C Borrow ℕ StructPath T) (path : StructPath) → ty ≡ struct_type path → path.owner ≡ owner.Own
      → IsPlain (input_whole callback ty)
  input_struct_plain =
      struct_plain Some (λ (path : StructPath). type.Struct path.tcx_id) (λ (path : StructPath). path.lifetimes) (λ (path : StructPath). path.owner) callback

-- where they go out
pub returned_opaque_plain : (ty : ReturnedType) (path : OpaquePath Optional MaybeOwn) → ty ≡ opaque_type path → IsPlain (returned_whole ty)
returned_opaque_plain = opaque_plain lent returnable_id returnable_lifetimes (λ (path : ReturnableStructPath). owner.Own) (λ (none : NoCallback). None)

-- ---- structs and opaques without methods

-- a struct of plain fields, whose layout isn't asked for
pub record IsQuietStruct (def : InputStruct) : Type 0 where
  pub unasked : def.attrs.abi_compatible ≡ false
  pub plain : All (λ (f : LoweredField). IsPlain (field_whole f.ty)) def.fields
  pub no_methods : def.methods ≡ []

-- such a struct, or an opaque
abbrev pub IsQuiet : DefinedType → Type 0
IsQuiet (Struct def) = IsQuietStruct def
IsQuiet (Opaque def) = def.methods ≡ []
IsQuiet (OutStruct def) = ⊥
IsQuiet (Enum def) = ⊥

pub quiet_methods : (def : DefinedType) → IsQuiet def → type_methods def ≡ []
quiet_methods (Struct def) quiet = quiet.no_methods
quiet_methods (Opaque def) quiet = quiet
quiet_methods (OutStruct def) quiet = absurd quiet
quiet_methods (Enum def) quiet = absurd quiet

module _ (must_fail : Bool) (defs : Definitions) where
  layout_stands : (def : InputStruct) → def.attrs.abi_compatible ≡ false → ¬ (AbiLayout defs def)
  layout_stands def unasked (AbiLayout.lifetime asked l among) = either def.attrs.abi_compatible unasked asked
  layout_stands def unasked (AbiLayout.field asked f among breaks) = either def.attrs.abi_compatible unasked asked

  pub type_stands : (def : DefinedType) (e : LoweringError) → IsQuiet def → ¬ (LoweredTypeBreaks must_fail defs def e)
  type_stands _ _ quiet (LoweredTypeBreaks.abi_layout def breaks) = layout_stands def quiet.unasked breaks
  type_stands _ _ quiet (LoweredTypeBreaks.field def f e among breaks) =
      field_stands must_fail defs f.name (field_whole f.ty) e
      (All-contains (λ (g : LoweredField). IsPlain (field_whole g.ty)) def.fields f quiet.plain among) breaks

-- ---- functions

-- one that takes and returns plain types
pub record IsQuietFunction (method : Method) : Type 0 where
  pub taken : All (λ (p : Param). IsPlain (param_whole p.ty)) method.params
  pub returned : All (λ (ty : ReturnedType). IsPlain (returned_whole ty)) (types_returned method.output)

pub signature_stands : (must_fail : Bool) (defs : Definitions) (method : Method) (e : LoweringError) → IsQuietFunction method
    → ¬ (LoweredSignatureBreaks must_fail defs method e)
signature_stands must_fail defs method e quiet (LoweredSignatureBreaks.param p among breaks) =
    visited_stands must_fail defs (param_whole p.ty) e
    (All-contains (λ (q : Param). IsPlain (param_whole q.ty)) method.params p quiet.taken among) breaks
signature_stands must_fail defs method e quiet (LoweredSignatureBreaks.returned ty among breaks) =
    visited_stands must_fail defs (returned_whole ty) e
    (All-contains (λ (t : ReturnedType). IsPlain (returned_whole t)) (types_returned method.output) ty quiet.returned among) breaks
