-- Types with lifetimes other than 'static.
use Rattle.std.specs.Prelude.{ℕ, Bool, true, false, ◌||◌, Option, Some, None}
use Rattle.std.specs.List.{list_any}
use Rattle.bridge_decl.specs.declared.types.Mutability.{Mutability}
use Rattle.hir_life.specs.declared.maybe_static.MaybeStatic.{MaybeStatic}
use Rattle.hir_life.specs.declared.maybe_static.MaybeStatic.TheVariants.{Static, NonStatic}
use Rattle.hir_number.specs.declared.numbered.NumberedType.{NumberedType, out-NumberedType, fold-NumberedType}
use Rattle.hir_number.specs.declared.numbered.NumberedType.TheOpen.{NumberedType-F}

abbrev pub is_bound : MaybeStatic ℕ → Bool
is_bound Static = false
is_bound (NonStatic _) = true

abbrev pub is_bound_optional : Option (MaybeStatic ℕ) → Bool
is_bound_optional (Some l) = is_bound l
is_bound_optional None = false

abbrev pub is_bound_borrow : Option (MaybeStatic ℕ × Mutability) → Bool
is_bound_borrow (Some b) = is_bound b.0
is_bound_borrow None = false

abbrev pub carries_step : NumberedType-F Bool → Bool
carries_step (NumberedType-F.Named t) = list_any is_bound t.lifetimes
carries_step (NumberedType-F.SelfType t) = list_any is_bound t.lifetimes
carries_step (NumberedType-F.ImplTrait t) = list_any is_bound t.lifetimes
carries_step (NumberedType-F.Reference l _ t) = is_bound l || t
carries_step (NumberedType-F.Box t) = t
carries_step (NumberedType-F.Option t _) = t
carries_step (NumberedType-F.Result t e _) = t || e
carries_step (NumberedType-F.StrReference l _ _) = is_bound_optional l
carries_step (NumberedType-F.PrimitiveSlice b _ _) = is_bound_borrow b
carries_step (NumberedType-F.CustomTypeSlice b t _) = is_bound_borrow b || t
carries_step (NumberedType-F.Function ts t _) = list_any (λ b. b) ts || t
carries_step _ = false

-- a lifetime other than 'static stands in the type
abbrev pub carries : NumberedType → Bool
carries ty = fold-NumberedType Bool carries_step ty

abbrev pub is_slice_layer : NumberedType-F NumberedType → Bool
is_slice_layer (NumberedType-F.StrReference _ _ _) = true
is_slice_layer (NumberedType-F.StrSlice _ _) = true
is_slice_layer (NumberedType-F.PrimitiveSlice _ _ _) = true
is_slice_layer (NumberedType-F.CustomTypeSlice _ _ _) = true
is_slice_layer _ = false

abbrev pub is_slice : NumberedType → Bool
is_slice ty = is_slice_layer (out-NumberedType ty)
