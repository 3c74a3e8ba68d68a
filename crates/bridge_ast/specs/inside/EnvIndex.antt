-- What an environment keeps beside its modules.
use Rattle.std.specs.Prelude.{◌≡◌, ℕ, List}
use Rattle.std.specs.BTreeMap.{BTreeMap}
use Rattle.bridge_decl.specs.declared.modules.Module.{Module}
use Rattle.bridge_ast.specs.declared.scopes.Scope.{Scope}
use Rattle.bridge_ast.specs.declared.trail.Trail.{Trail}
use Rattle.bridge_ast.specs.AliasCount.{alias_count}
use Rattle.bridge_ast.specs.inside.AliasEnds.{KnowsEnds}
use Rattle.bridge_ast.specs.inside.Scopes.{Knows}
use Rattle.bridge_ast.specs.inside.Fitting.{FitInOrder}

-- the modules fit together; the scopes, the ends of aliases and the number of aliases are theirs
pub record IsIndex (scopes : List Scope) (ends : BTreeMap (ℕ × ℕ) Trail) (aliases : ℕ) (modules : List Module) : Type 0 where
  pub sound : FitInOrder modules
  pub known : Knows scopes modules
  pub ended : KnowsEnds ends modules
  pub counted : aliases ≡ alias_count modules
