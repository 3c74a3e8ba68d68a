-- What is asked of a type, over what is asked of its parts: by which borrow an opaque is held; and
-- of a path to a struct which struct it names, the lifetimes that it gives it, and how it is held.
use Rattle.std.specs.Prelude.{ℕ, List, [], ◌++◌, Option, Some, None, Bool, true, false, option_map}
use Rattle.bridge_decl.specs.declared.types.Mutability.{Mutability}
use Rattle.hir_life.specs.declared.maybe_static.MaybeStatic.{MaybeStatic}
use Rattle.hir_ids.specs.Owners.{lent}
use Rattle.hir_ids.specs.declared.owners.Borrow.{Borrow}
use Rattle.hir_ids.specs.declared.owners.MaybeOwn.{MaybeOwn}
use Rattle.hir_ids.specs.declared.ids.TypeId.{TypeId}
use Rattle.hir_ids.specs.declared.ids.TypeId.TheVariants as type
use Rattle.hir_types.specs.declared.types.HirType.{HirType, out-HirType, fold-HirType}
use Rattle.hir_types.specs.declared.types.HirType.TheOpen.{HirType-F}
use Rattle.hir_types.specs.Slices.{at_most_one, slice_lifetimes}

module _ {P C O I S T : Type 0} where
  -- the definition that the type names
  abbrev pub id_layer : (S → TypeId) → HirType-F P C O I S T (HirType P C O I S T) → Option TypeId
  id_layer struct (HirType-F.Opaque path) = Some (type.Opaque path.tcx_id)
  id_layer struct (HirType-F.Struct path) = Some (struct path)
  id_layer struct (HirType-F.Enum path) = Some (type.Enum path.tcx_id)
  id_layer struct _ = None

  abbrev pub type_id : (S → TypeId) → HirType P C O I S T → Option TypeId
  type_id struct t = id_layer struct (out-HirType _ _ _ _ _ _ t)

  -- what is inside an option, and the type itself where it is none
  abbrev pub unwrapped_layer : HirType P C O I S T → HirType-F P C O I S T (HirType P C O I S T) → HirType P C O I S T
  unwrapped_layer t (HirType-F.DiplomatOption inner) = inner
  unwrapped_layer t _ = t

  abbrev pub unwrapped : HirType P C O I S T → HirType P C O I S T
  unwrapped t = unwrapped_layer t (out-HirType _ _ _ _ _ _ t)

  -- an option, or an opaque that may be absent
  abbrev pub is_option_layer : HirType-F P C O I S T (HirType P C O I S T) → Bool
  is_option_layer (HirType-F.DiplomatOption _) = true
  is_option_layer (HirType-F.Opaque path) = path.optional.0
  is_option_layer _ = false

  abbrev pub is_option : HirType P C O I S T → Bool
  is_option t = is_option_layer (out-HirType _ _ _ _ _ _ t)

module _ {P C O I S T : Type 0} (borrow : O → Option Borrow) (held : S → MaybeOwn) where
  -- whether the borrow of an opaque or a struct may be written through
  abbrev pub borrowed_as_layer : HirType-F P C O I S T (HirType P C O I S T) → Option Mutability
  borrowed_as_layer (HirType-F.Opaque path) = option_map (λ b. b.mutability) (borrow path.owner)
  borrowed_as_layer (HirType-F.Struct path) = option_map (λ b. b.mutability) (lent (held path))
  borrowed_as_layer _ = None

  abbrev pub borrowed_as : HirType P C O I S T → Option Mutability
  borrowed_as t = borrowed_as_layer (out-HirType _ _ _ _ _ _ t)

module _ {P C O I S T : Type 0} (borrow : O → Option Borrow) (given : S → List (MaybeStatic ℕ)) (held : S → MaybeOwn) where
  -- the lifetimes in the type, from those of what is inside an option: of an opaque those that it gives its
  -- definition and then that of its borrow, of a struct those that it gives its definition, of a slice as there
  abbrev pub lifetimes_step : HirType-F P C O I S T (List (MaybeStatic ℕ)) → List (MaybeStatic ℕ)
  lifetimes_step (HirType-F.Opaque path) =
      path.lifetimes ++ at_most_one (option_map (λ b. b.lifetime) (borrow path.owner))
  lifetimes_step (HirType-F.Struct path) = given path
  lifetimes_step (HirType-F.Slice s) = slice_lifetimes given held s
  lifetimes_step (HirType-F.DiplomatOption inside) = inside
  lifetimes_step _ = []

  abbrev pub lifetimes_within : HirType P C O I S T → List (MaybeStatic ℕ)
  lifetimes_within t = fold-HirType _ _ _ _ _ _ (List (MaybeStatic ℕ)) lifetimes_step t
