use Rattle.std.proofs.Common.{◌≡◌, ◌++◌, ℕ, List, map, take}
use Rattle.hir_number.specs.Breaches.{breaches_of, broken}
use Rattle.hir_number.specs.Naming.{Naming}
use Rattle.hir_number.specs.Uses.{concatenated, type_uses}
use Rattle.hir_number.specs.inside.Scopes.{KnowsScope, demand}
use Rattle.hir_number.proofs.tested.+tests.Given as goal

abbrev pub invariant-test_each-loop-ty : goal.invariant-test_each-loop-ty
invariant-test_each-loop-ty l = (n : Naming) (all : List (List ℕ)) → KnowsScope l.scope n all
    → map broken l.breaches.items ≡ map broken l.fn.breaches.items ++ breaches_of all (demand l.scope.rule) (concatenated (map (type_uses n) (take l.ty-index l.ty-items)))
