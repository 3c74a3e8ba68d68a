-- StructRefReturned: a method of a type returns the lifetime of a reference to a struct, which it takes.
use Rattle.std.specs.Prelude.{◌≡◌, ◌<◌, ℕ, List}
use Rattle.std.specs.List.{Contains}
use Rattle.hir_ids.specs.declared.owners.Borrow.{Borrow}
use Rattle.hir_ids.specs.declared.owners.MaybeOwn.{MaybeOwn}
use Rattle.hir_ids.specs.declared.owners.MaybeOwn.TheVariants as owner
use Rattle.hir_life.specs.Environment.{Environment}
use Rattle.hir_life.specs.declared.maybe_static.MaybeStatic.{MaybeStatic}
use Rattle.hir_life.specs.declared.maybe_static.MaybeStatic.TheVariants.{NonStatic}

-- over the lifetimes of the method, those that it returns, and how the struct is held
pub record StructRefReturned (env : Environment) (returned : List (MaybeStatic ℕ)) (held : MaybeOwn) (lifetime : ℕ) : Type 0 where
  pub borrow : Borrow
  pub is_borrowed : held ≡ owner.Borrow borrow
  pub of_reference : borrow.lifetime ≡ NonStatic lifetime
  pub is_returned : Contains returned (NonStatic lifetime)
  pub within : lifetime < env.count
