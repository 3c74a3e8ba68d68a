-- Skeletons of what stands at more than one position, and of disabled structs.
use Rattle.std.proofs.Common.{◌≡◌, ℕ, zero, suc, Bool, true, false, cond, List, [], ◌∷◌, Some, slice_get, refl, sym, ap, subst}
use Rattle.std.proofs.lemmas.Option.{none-some}
use Rattle.hir_life.specs.declared.maybe_static.MaybeStatic.{MaybeStatic}
use Rattle.hir_ids.specs.declared.ids.TypeId.{TypeId}
use Rattle.hir_ids.specs.declared.ids.TypeId.TheVariants as type
use Rattle.hir_ids.specs.declared.owners.Borrow.{Borrow}
use Rattle.hir_types.specs.SelfTypes.{type_of}
use Rattle.hir_types.specs.declared.callbacks.NoCallback.{NoCallback}
use Rattle.hir_types.specs.declared.paths.NoTraitPath.{NoTraitPath}
use Rattle.hir_types.specs.declared.paths.StructPath.{StructPath}
use Rattle.hir_types.specs.declared.positions.Everywhere.{Everywhere}
use Rattle.hir_types.specs.declared.types.HirType.TheFolds.{fold-roll-HirType}
use Rattle.hir_types.specs.declared.types.HirType.TheOpen.{HirType-F}
use Rattle.hir_types.specs.declared.self_types.SelfType.{SelfType}
use Rattle.hir_types.specs.declared.self_types.SelfType.TheVariants as receiver
use Rattle.hir_skeleton.specs.Skeletons.{Skeleton, Struct}
use Rattle.hir_skeleton.specs.Leaves.{deep_leaves, in_field, from_fields, type_leaves, struct_leaves}
use Rattle.hir_skeleton.specs.Edges.{LeadsDown}
use Rattle.hir_context.specs.Lookups.{InputStruct}
use Rattle.hir_skeleton.specs.Lowered.{field_skeleton, input_fields, receiver_skeleton, skeleton_step}

-- from a field's type to its skeleton, from what is inside an option
abbrev pub field_step : HirType-F Everywhere NoCallback Borrow ℕ StructPath NoTraitPath (Skeleton TypeId) → Skeleton TypeId
field_step = skeleton_step (λ b. Some b) (λ path. type.Struct path.tcx_id) (λ path. path.lifetimes) (λ path. path.owner)

pub receiver_is_type : (r : SelfType) → receiver_skeleton r ≡ field_skeleton (type_of r)
receiver_is_type (receiver.Opaque path) =
    sym (fold-roll-HirType _ _ _ _ _ _ (Skeleton TypeId) field_step (HirType-F.Opaque (record { lifetimes = path.lifetimes; optional = record { 0 = false }; owner = path.owner; tcx_id = path.tcx_id })))
receiver_is_type (receiver.Struct path) =
    sym (fold-roll-HirType _ _ _ _ _ _ (Skeleton TypeId) field_step (HirType-F.Struct path))
receiver_is_type (receiver.Enum path) =
    sym (fold-roll-HirType _ _ _ _ _ _ (Skeleton TypeId) field_step (HirType-F.Enum path))

module _ {K : Type 0} (fields_of : K → List (Skeleton K)) (key : K) (none : fields_of key ≡ []) where
  -- a struct without fields has no leaves
  pub no_leaves : (levels : ℕ) (args given : List (MaybeStatic ℕ)) → deep_leaves fields_of levels args (Struct key given) ≡ []
  no_leaves zero args given = refl
  no_leaves (suc n) args given = ap (from_fields in_field (type_leaves (struct_leaves fields_of n) _)) none

  -- and nothing is followed down in it
  pub leads_nowhere : (path : List ℕ) (d : ℕ) → LeadsDown fields_of path key d → ⊥
  leads_nowhere [] d h = h
  leads_nowhere (i ∷ rest) d h = none-some h.0 (subst (λ fields. slice_get fields i ≡ Some h.0) none h.1)

without_fields : (b : Bool) (xs : List (Skeleton TypeId)) → b ≡ true → cond b [] xs ≡ []
without_fields b xs disabled = ap (λ (c : Bool). cond c [] xs) disabled

pub disabled_is_empty : (def : InputStruct) → def.attrs.disable ≡ true → input_fields def ≡ []
disabled_is_empty def disabled = without_fields def.attrs.disable _ disabled
