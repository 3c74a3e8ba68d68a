use Rattle.std.proofs.Common.{◌≡◌, ◌++◌, ℕ, List, map, take}
use Rattle.std.specs.List.{flat_map}
use Rattle.hir_number.specs.Breaches.{breaches_of, broken}
use Rattle.hir_number.specs.Naming.{Naming}
use Rattle.hir_number.specs.Uses.{type_uses}
use Rattle.hir_number.specs.inside.Scopes.{KnowsScope, demand}
use Rattle.hir_number.proofs.breaches.test_fields.Given as goal

abbrev pub invariant-loop-field : goal.invariant-loop-field
invariant-loop-field l = (n : Naming) (all : List (List ℕ)) → KnowsScope l.scope n all
    → map broken l.breaches.items ≡ map broken l.fn.breaches.items ++ breaches_of all (demand l.scope.rule) (flat_map (λ field. type_uses n field.ty) (take l.field-index l.fields))
