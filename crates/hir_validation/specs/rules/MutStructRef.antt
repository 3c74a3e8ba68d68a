-- MutStructRef: a visited type or a receiver is `&mut` of a struct that isn't marked `mut_struct_ref`.
use Rattle.std.specs.Prelude.{◌≡◌, false}
use Rattle.bridge_decl.specs.declared.types.Mutability.TheVariants.{Mutable}
use Rattle.hir_context.specs.Lookups.{InputStruct}
use Rattle.hir_ids.specs.declared.owners.Borrow.{Borrow}
use Rattle.hir_ids.specs.declared.owners.MaybeOwn.{MaybeOwn}
use Rattle.hir_ids.specs.declared.owners.MaybeOwn.TheVariants as owner

-- the struct, and how it is held
pub record MutStructRef (def : InputStruct) (held : MaybeOwn) : Type 0 where
  pub borrow : Borrow
  pub is_borrowed : held ≡ owner.Borrow borrow
  pub is_mutable : borrow.mutability ≡ Mutable
  pub unmarked : def.attrs.mut_struct_ref ≡ false
