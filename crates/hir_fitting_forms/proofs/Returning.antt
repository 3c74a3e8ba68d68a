-- What a return stands for names what fits, where what each type stands for does.
use Rattle.std.proofs.Common.{ℕ, List, Option, Some, None}
use Rattle.std.specs.Prelude.{IfSome}
use Rattle.bridge_decl.specs.declared.types.WriteType.{WriteType}
use Rattle.bridge_order.specs.declared.catalog.Catalog.{Catalog}
use Rattle.hir_elide.proofs.BelowLemmas.{Each}
use Rattle.hir_fitting.specs.declared.census.Census.{Census}
use Rattle.hir_form.specs.Makers.{Makers}
use Rattle.hir_form.specs.ReturnForms.{error_form, level_error_form, level_option_form, level_return_form, level_success_form, out_form, return_form, success_form, unit_form}
use Rattle.hir_form.specs.TypeForms.{type_form}
use Rattle.hir_mentions.specs.Mentions.{Mentioned, where_any}
use Rattle.hir_mentions.specs.Types.{return_mentions}
use Rattle.hir_number.proofs.FaultLemmas.{each_both}
use Rattle.hir_number.specs.declared.numbered.NumberedType.{NumberedType, map-NumberedType, out-NumberedType}
use Rattle.hir_number.specs.declared.numbered.NumberedType.TheOpen.{NumberedType-F}
use Rattle.hir_types.specs.Returns.{type_in}
use Rattle.hir_types.specs.declared.returns.ReturnType.{ReturnType}
use Rattle.hir_types.specs.declared.returns.ReturnType.TheVariants as returned
use Rattle.hir_types.specs.declared.returns.SuccessType.{SuccessType}
use Rattle.hir_types.specs.declared.returns.SuccessType.TheVariants as success
use Rattle.hir_types.specs.declared.types.HirType.{HirType}
use Rattle.hir_fitting_forms.specs.Names.{level_names, names_in_type}
use Rattle.hir_fitting_forms.proofs.Formed.{Fitting}
use Rattle.hir_fitting_forms.proofs.Lists.{each_alone, each_back, each_front, if_both, if_made}
use Rattle.hir_fitting_forms.proofs.Shaped.{AllKnown, Known, known_at_level}

module _ (census : Census) (count : ℕ) (P C O I S T : Type 0) (m : Makers O S T) (catalog : Catalog) (of_type : HirType P C O I S T → List Mentioned)
    (types : (ty : NumberedType) → AllKnown census count catalog ty → IfSome (type_form {P = P} {C = C} {I = I} m catalog ty) (λ t. Each (Fitting census count) (of_type t)))
    (written : Option WriteType)
  where
    abbrev GoodType : HirType P C O I S T → Type 0
    GoodType t = Each (Fitting census count) (of_type t)

    abbrev GoodSuccess : SuccessType P C O I S T → Type 0
    GoodSuccess s = Each (Fitting census count) (where_any of_type (type_in s))

    abbrev GoodError : Option (HirType P C O I S T) → Type 0
    GoodError e = Each (Fitting census count) (where_any of_type e)

    abbrev GoodReturn : ReturnType P C O I S T → Type 0
    GoodReturn r = Each (Fitting census count) (return_mentions of_type r)

    alone : (s : SuccessType P C O I S T) → GoodSuccess s → GoodReturn (returned.Infallible s)
    alone s h = each_alone (Fitting census count) (where_any of_type (type_in s)) h

    -- what comes of success and of failure
    out_made : (ty : NumberedType) → AllKnown census count catalog ty → IfSome (out_form {P = P} {C = C} {I = I} m catalog ty) GoodSuccess
    out_made ty h = if_made GoodType GoodSuccess (λ t. success.OutType t) (λ t g. g) (type_form m catalog ty) (types ty h)

    unit_made : (w : Option WriteType) → GoodSuccess (unit_form w)
    unit_made (Some w) = tt
    unit_made None = tt

    success_level : (ty : NumberedType) (x : NumberedType-F NumberedType) → AllKnown census count catalog ty → IfSome (level_success_form {P = P} {C = C} {I = I} m catalog written ty x) GoodSuccess
    success_level ty NumberedType-F.Unit h = unit_made written
    success_level ty _ h = out_made ty h

    success_made : (ty : NumberedType) → AllKnown census count catalog ty → IfSome (success_form {P = P} {C = C} {I = I} m catalog written ty) GoodSuccess
    success_made ty h = success_level ty (out-NumberedType ty) h

    error_level : (ty : NumberedType) (x : NumberedType-F NumberedType) → AllKnown census count catalog ty → IfSome (level_error_form {P = P} {C = C} {I = I} m catalog ty x) GoodError
    error_level ty NumberedType-F.Unit h = tt
    error_level ty _ h = if_made GoodType GoodError (λ t. Some t) (λ t g. g) (type_form m catalog ty) (types ty h)

    -- what is returned
    option_level : (ty inner : NumberedType) (x : NumberedType-F NumberedType) → AllKnown census count catalog ty → AllKnown census count catalog inner
        → IfSome (level_option_form {P = P} {C = C} {I = I} m catalog written ty inner x) GoodReturn
    option_level ty inner (NumberedType-F.Reference _ _ _) h k = if_made GoodSuccess GoodReturn (λ s. returned.Infallible s) alone (out_form m catalog ty) (out_made ty h)
    option_level ty inner (NumberedType-F.Box _) h k = if_made GoodSuccess GoodReturn (λ s. returned.Infallible s) alone (out_form m catalog ty) (out_made ty h)
    option_level ty inner _ h k = if_made GoodSuccess GoodReturn (λ s. returned.Nullable s) alone (success_form m catalog written inner) (success_made inner k)

    both_made : (s : SuccessType P C O I S T) (e : Option (HirType P C O I S T)) → GoodSuccess s → GoodError e → GoodReturn (returned.Fallible s e)
    both_made s e h k = each_both (Fitting census count) (where_any of_type (type_in s)) (where_any of_type e) h k

    return_level : (ty : NumberedType) (x : NumberedType-F NumberedType) → AllKnown census count catalog ty → Each (Known census count catalog) (level_names (map-NumberedType _ _ names_in_type x))
        → IfSome (level_return_form {P = P} {C = C} {I = I} m catalog written ty x) GoodReturn
    return_level ty (NumberedType-F.Option t _) h k = option_level ty t (out-NumberedType t) h k
    return_level ty (NumberedType-F.Result t e _) h k =
        if_both GoodSuccess GoodError GoodReturn (λ s e. returned.Fallible s e) both_made (success_form m catalog written t) (error_form m catalog e)
        (success_made t (each_front (Known census count catalog) (names_in_type t) (names_in_type e) k))
        (error_level e (out-NumberedType e) (each_back (Known census count catalog) (names_in_type t) (names_in_type e) k))
    return_level ty _ h k = if_made GoodSuccess GoodReturn (λ s. returned.Infallible s) alone (success_form m catalog written ty) (success_made ty h)

    pub return_made : (ty : NumberedType) → AllKnown census count catalog ty → IfSome (return_form {P = P} {C = C} {I = I} m catalog written ty) GoodReturn
    return_made ty h = return_level ty (out-NumberedType ty) h (known_at_level census count catalog ty h)
