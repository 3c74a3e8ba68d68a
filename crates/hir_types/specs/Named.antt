-- What a return names.
use Rattle.std.specs.Prelude.{ℕ, List, [], ◌∷◌, ◌++◌, Option, Some, None, ◌↔◌}
use Rattle.std.specs.List.{Contains}
use Rattle.std.specs.List.Sorted.{IsStrictlyIncreasing}
use Rattle.hir_life.specs.declared.maybe_static.MaybeStatic.{MaybeStatic}
use Rattle.hir_life.specs.declared.maybe_static.MaybeStatic.TheVariants.{NonStatic}
use Rattle.hir_ids.specs.Owners.{lent}
use Rattle.hir_ids.specs.declared.owners.MaybeOwn.{MaybeOwn}
use Rattle.hir_ids.specs.declared.owners.MaybeOwn.TheVariants.{Own}
use Rattle.hir_types.specs.Paths.{returnable_lifetimes}
use Rattle.hir_types.specs.Returns.{error_of, success_of, type_in}
use Rattle.hir_types.specs.Types.{lifetimes_within}
use Rattle.hir_types.specs.declared.callbacks.NoCallback.{NoCallback}
use Rattle.hir_types.specs.declared.paths.NoTraitPath.{NoTraitPath}
use Rattle.hir_types.specs.declared.paths.ReturnableStructPath.{ReturnableStructPath}
use Rattle.hir_types.specs.declared.positions.OutputOnly.{OutputOnly}
use Rattle.hir_types.specs.declared.returns.ReturnType.{ReturnType}
use Rattle.hir_types.specs.declared.returns.SuccessType.{SuccessType}
use Rattle.hir_types.specs.declared.types.HirType.{HirType}

-- the types and returns of methods
abbrev pub ReturnedType : Type 0
ReturnedType = HirType OutputOnly NoCallback MaybeOwn ℕ ReturnableStructPath NoTraitPath

-- what comes of success
abbrev pub Success : Type 0
Success = SuccessType OutputOnly NoCallback MaybeOwn ℕ ReturnableStructPath NoTraitPath

abbrev pub Returned : Type 0
Returned = ReturnType OutputOnly NoCallback MaybeOwn ℕ ReturnableStructPath NoTraitPath

-- a list of the type, or of none
abbrev pub if_any : Option ReturnedType → List ReturnedType
if_any None = []
if_any (Some t) = t ∷ []

-- the type of the success and then that of the error, where there are these
abbrev pub contained : Returned → List ReturnedType
contained r = if_any (type_in (success_of r)) ++ if_any (error_of r)

-- the lifetimes in a type, or none where there is no type. What is returned owns its structs
abbrev pub lifetimes_in : Option ReturnedType → List (MaybeStatic ℕ)
lifetimes_in None = []
lifetimes_in (Some t) = lifetimes_within lent returnable_lifetimes (λ _. Own) t

-- the lifetimes in the types of the success and the error
abbrev pub lifetimes_named : Returned → List (MaybeStatic ℕ)
lifetimes_named r = lifetimes_in (type_in (success_of r)) ++ lifetimes_in (error_of r)

-- the numbers rise, and are those of the lifetimes that have one
pub record ListsNumbers (numbers : List ℕ) (lifetimes : List (MaybeStatic ℕ)) : Type 0 where
  pub ascending : IsStrictlyIncreasing numbers
  pub members : (l : ℕ) → (Contains numbers l ↔ Contains lifetimes (NonStatic l))
