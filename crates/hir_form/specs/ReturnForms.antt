-- What a return stands for, with what the trailing writer takes, where there is one.
use Rattle.std.specs.Prelude.{Option, Some, None, option_map}
use Rattle.bridge_decl.specs.declared.types.WriteType.{WriteType}
use Rattle.bridge_decl.specs.declared.types.WriteType.TheVariants as declared
use Rattle.bridge_order.specs.declared.catalog.Catalog.{Catalog}
use Rattle.hir_number.specs.declared.numbered.NumberedType.{NumberedType, out-NumberedType}
use Rattle.hir_number.specs.declared.numbered.NumberedType.TheOpen.{NumberedType-F}
use Rattle.hir_types.specs.declared.returns.ReturnType.{ReturnType}
use Rattle.hir_types.specs.declared.returns.ReturnType.TheVariants as returned
use Rattle.hir_types.specs.declared.returns.SuccessType.{SuccessType}
use Rattle.hir_types.specs.declared.returns.SuccessType.TheVariants as success
use Rattle.hir_types.specs.declared.types.HirType.{HirType}
use Rattle.hir_types.specs.declared.writers.WriteType.{WriteType as LoweredWrite}
use Rattle.hir_types.specs.declared.writers.WriteType.TheVariants as write
use Rattle.hir_form.specs.Forms.{primitive_form}
use Rattle.hir_form.specs.Makers.{Makers}
use Rattle.hir_form.specs.TypeForms.{type_form}

abbrev pub writer_form : WriteType → LoweredWrite
writer_form declared.Str = write.Str
writer_form declared.Str16 = write.Str16
writer_form (declared.Primitive p) = write.Primitive (primitive_form p)

-- one value of two, where there are both
abbrev pub both_given : {A B C : Type 0} → (A → B → C) → Option A → Option B → Option C
both_given f (Some a) (Some b) = Some (f a b)
both_given f (Some a) None = None
both_given f None b = None

module _ {P C O I S T : Type 0} where
  -- where nothing is returned, what the writer takes is what comes of success
  abbrev pub unit_form : Option WriteType → SuccessType P C O I S T
  unit_form (Some w) = success.Write (writer_form w)
  unit_form None = success.Unit

module _ {P C O I S T : Type 0} (m : Makers O S T) (catalog : Catalog) where
  -- a value: a writer beside it is dropped
  abbrev pub out_form : NumberedType → Option (SuccessType P C O I S T)
  out_form ty = option_map (λ t. success.OutType t) (type_form m catalog ty)

  abbrev pub level_error_form : NumberedType → NumberedType-F NumberedType → Option (Option (HirType P C O I S T))
  level_error_form ty NumberedType-F.Unit = Some None
  level_error_form ty _ = option_map (λ t. Some t) (type_form m catalog ty)

  -- what comes of failure, where it has a type
  abbrev pub error_form : NumberedType → Option (Option (HirType P C O I S T))
  error_form ty = level_error_form ty (out-NumberedType ty)

module _ {P C O I S T : Type 0} (m : Makers O S T) (catalog : Catalog) (written : Option WriteType) where
  abbrev pub level_success_form : NumberedType → NumberedType-F NumberedType → Option (SuccessType P C O I S T)
  level_success_form ty NumberedType-F.Unit = Some (unit_form written)
  level_success_form ty _ = out_form m catalog ty

  -- what comes of success
  abbrev pub success_form : NumberedType → Option (SuccessType P C O I S T)
  success_form ty = level_success_form ty (out-NumberedType ty)

  -- an option of a reference or a box is a value that may be absent, and any other is of what comes of success
  abbrev pub level_option_form : NumberedType → NumberedType → NumberedType-F NumberedType
      → Option (ReturnType P C O I S T)
  level_option_form ty inner (NumberedType-F.Reference _ _ _) = option_map (λ s. returned.Infallible s) (out_form m catalog ty)
  level_option_form ty inner (NumberedType-F.Box _) = option_map (λ s. returned.Infallible s) (out_form m catalog ty)
  level_option_form ty inner _ = option_map (λ s. returned.Nullable s) (success_form inner)

  abbrev pub returned_option_form : NumberedType → NumberedType → Option (ReturnType P C O I S T)
  returned_option_form ty inner = level_option_form ty inner (out-NumberedType inner)

  abbrev pub level_return_form : NumberedType → NumberedType-F NumberedType → Option (ReturnType P C O I S T)
  level_return_form ty (NumberedType-F.Option t _) = returned_option_form ty t
  level_return_form ty (NumberedType-F.Result t e _) =
      both_given (λ s e. returned.Fallible s e) (success_form t) (error_form m catalog e)
  level_return_form ty _ = option_map (λ s. returned.Infallible s) (success_form ty)

  -- what is returned
  abbrev pub return_form : NumberedType → Option (ReturnType P C O I S T)
  return_form ty = level_return_form ty (out-NumberedType ty)
