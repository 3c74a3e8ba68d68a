-- What the code keeps of the place where paths and lifetimes are tested.
use Rattle.std.specs.Prelude.{ℕ, List}
use Rattle.bridge_text.specs.NameIndex.{Indexes}
use Rattle.hir_number.specs.declared.breach.SelfRule.{SelfRule}
use Rattle.hir_number.specs.declared.breach.SelfRule.TheVariants as rule
use Rattle.hir_number.specs.declared.scope.Scope.{Scope}
use Rattle.hir_number.specs.Breaches.{Demand, Anything, Nothing, Equal, At}
use Rattle.hir_number.specs.Naming.{IsNaming, Naming}

-- what `Self` has to be
abbrev pub demand : SelfRule → Demand
demand rule.Anything = Anything
demand rule.Nothing = Nothing
demand (rule.Equal path) = Equal path.now
demand (rule.At place) = At place

-- the paths name these, and these lifetimes are declared
pub record KnowsScope (scope : Scope) (names : Naming) (declared : List (List ℕ)) : Type 0 where
  pub naming : IsNaming scope.env.now scope.number names
  pub index : Indexes scope.names.now declared
