use Rattle.std.proofs.Common.{◌≡◌, ◌++◌, ℕ, List, map, take}
use Rattle.std.specs.List.{flat_map}
use Rattle.hir_number.specs.Breaches.{breaches_of, broken}
use Rattle.hir_number.specs.Naming.{Naming}
use Rattle.hir_number.specs.Uses.{type_uses}
use Rattle.hir_number.specs.inside.Scopes.{KnowsScope, demand}
use Rattle.hir_number.proofs.breaches.test_params.Given as goal

abbrev pub invariant-loop-param : goal.invariant-loop-param
invariant-loop-param l = (n : Naming) (all : List (List ℕ)) → KnowsScope l.scope n all
    → map broken l.breaches.items ≡ map broken l.fn.breaches.items ++ breaches_of all (demand l.scope.rule) (flat_map (λ param. type_uses n param.ty) (take l.param-index l.params))
