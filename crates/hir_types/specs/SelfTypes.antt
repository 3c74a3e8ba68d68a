-- What is asked of a receiver.
use Rattle.std.specs.Prelude.{◌≡◌, ℕ, Option, Some, None, false, ⊤, option_map}
use Rattle.bridge_decl.specs.declared.types.Mutability.{Mutability}
use Rattle.hir_ids.specs.Owners.{lent}
use Rattle.hir_ids.specs.declared.owners.Borrow.{Borrow}
use Rattle.hir_ids.specs.declared.owners.MaybeOwn.TheVariants.{Own}
use Rattle.hir_types.specs.declared.callbacks.NoCallback.{NoCallback}
use Rattle.hir_types.specs.declared.paths.NoTraitPath.{NoTraitPath}
use Rattle.hir_types.specs.declared.paths.StructPath.{StructPath}
use Rattle.hir_types.specs.declared.positions.Everywhere.{Everywhere}
use Rattle.hir_types.specs.declared.self_types.SelfType.{SelfType}
use Rattle.hir_types.specs.declared.self_types.SelfType.TheVariants as receiver
use Rattle.hir_types.specs.declared.types.HirType.{HirType, roll-HirType}
use Rattle.hir_types.specs.declared.types.HirType.TheOpen.{HirType-F}

-- whether the borrow may be written through
abbrev pub self_borrowed_as : SelfType → Option Mutability
self_borrowed_as (receiver.Opaque path) = Some path.owner.mutability
self_borrowed_as (receiver.Struct path) = option_map (λ b. b.mutability) (lent path.owner)
self_borrowed_as (receiver.Enum _) = None

-- the method takes the receiver itself
abbrev pub Consumes : SelfType → Type 0
Consumes (receiver.Opaque _) = ⊥
Consumes (receiver.Struct path) = path.owner ≡ Own
Consumes (receiver.Enum _) = ⊤

-- the type of a field
abbrev pub FieldType : Type 0
FieldType = HirType Everywhere NoCallback Borrow ℕ StructPath NoTraitPath

-- the same type where it isn't a receiver: an opaque that is always there
abbrev pub type_of : SelfType → FieldType
type_of (receiver.Opaque path) = roll-HirType _ _ _ _ _ _ (HirType-F.Opaque (record { lifetimes = path.lifetimes; optional = record { 0 = false }; owner = path.owner; tcx_id = path.tcx_id }))
type_of (receiver.Struct path) = roll-HirType _ _ _ _ _ _ (HirType-F.Struct path)
type_of (receiver.Enum path) = roll-HirType _ _ _ _ _ _ (HirType-F.Enum path)
