-- ImpliedBound: a type of a method implies that one of its lifetimes outlives another that has a name, and the method doesn't declare it.
use Rattle.std.specs.Prelude.{◌≡◌, ◌≢◌, ◌<◌, ℕ, List, [], ◌∷◌, Option, Some, slice_get}
use Rattle.std.specs.List.{Contains}
use Rattle.hir_context.specs.Lookups.{environment_at}
use Rattle.hir_context.specs.declared.parts.Definitions.{Definitions}
use Rattle.hir_ids.specs.declared.ids.TypeId.{TypeId}
use Rattle.hir_ids.specs.declared.ids.TypeId.TheVariants as type
use Rattle.hir_ids.specs.declared.owners.MaybeOwn.{MaybeOwn}
use Rattle.hir_life.specs.Environment.{Environment}
use Rattle.hir_life.specs.declared.bounds.BoundedLifetime.{BoundedLifetime}
use Rattle.hir_life.specs.declared.maybe_static.MaybeStatic.{MaybeStatic}
use Rattle.hir_life.specs.declared.maybe_static.MaybeStatic.TheVariants.{NonStatic}
use Rattle.hir_validation.specs.WholeTypes.{Whole, Opaque, Struct}

-- a definition writes a bound between two of its lifetimes, for which these stand
pub record WritesBound (definition : Environment) (given : List (MaybeStatic ℕ)) (longer shorter : MaybeStatic ℕ) (names : List (List ℕ)) : Type 0 where
  pub number : ℕ
  pub written : BoundedLifetime
  pub is_written : slice_get definition.bounds number ≡ Some written
  pub outliving : ℕ
  pub declared : Contains written.longer outliving
  pub other : BoundedLifetime
  pub is_other : slice_get definition.bounds outliving ≡ Some other
  pub stands_for_longer : slice_get given outliving ≡ Some longer
  pub stands_for_shorter : slice_get given number ≡ Some shorter
  pub are_names : names ≡ other.ident ∷ written.ident ∷ []

-- the type implies that one outlives the other: its definition writes so, or it is an opaque behind a reference, which none that it leads to
-- may end before
pub data Implies (defs : Definitions) (longer shorter : MaybeStatic ℕ) (names : List (List ℕ)) : Whole → Type 0 where
  opaque : (number : ℕ) (borrow : Option (MaybeStatic ℕ)) (given : List (MaybeStatic ℕ)) (definition : Environment)
      → environment_at defs (type.Opaque number) ≡ Some definition → WritesBound definition given longer shorter names
      → Implies defs longer shorter names (Opaque number borrow given)
  behind : (number : ℕ) (borrow : Option (MaybeStatic ℕ)) (given : List (MaybeStatic ℕ))
      → borrow ≡ Some shorter → Contains given longer → names ≡ []
      → Implies defs longer shorter names (Opaque number borrow given)
  struct : (id : TypeId) (held : MaybeOwn) (given : List (MaybeStatic ℕ)) (definition : Environment)
      → environment_at defs id ≡ Some definition → WritesBound definition given longer shorter names
      → Implies defs longer shorter names (Struct id held given)

-- over the lifetimes of the method
pub record ImpliedBound (defs : Definitions) (env : Environment) (ty : Whole) (longer shorter : ℕ) (names : List (List ℕ)) : Type 0 where
  pub implied : Implies defs (NonStatic longer) (NonStatic shorter) names ty
  pub bounds : BoundedLifetime
  pub named : slice_get env.bounds shorter ≡ Some bounds
  pub apart : longer ≢ shorter
  pub undeclared : ¬ (Contains bounds.longer longer)
  pub within : longer < env.count
