-- FieldBorrow: a field of a struct is a reference to a struct.
use Rattle.std.specs.Prelude.{◌≡◌, List, ℕ}
use Rattle.hir_ids.specs.declared.ids.TypeId.{TypeId}
use Rattle.hir_ids.specs.declared.owners.Borrow.{Borrow}
use Rattle.hir_ids.specs.declared.owners.MaybeOwn.TheVariants as owner
use Rattle.hir_life.specs.declared.maybe_static.MaybeStatic.{MaybeStatic}
use Rattle.hir_validation.specs.WholeTypes.{Whole, Struct}

-- the type of the field
pub record FieldBorrow (ty : Whole) : Type 0 where
  pub id : TypeId
  pub borrow : Borrow
  pub given : List (MaybeStatic ℕ)
  pub is_reference : ty ≡ Struct id (owner.Borrow borrow) given
