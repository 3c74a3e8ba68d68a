use Rattle.std.proofs.Common.{◌≡◌, ◌++◌, ℕ, List, map, take}
use Rattle.std.specs.List.{flat_map}
use Rattle.bridge_text.specs.NameIndex.{Indexes}
use Rattle.hir_number.specs.Breaches.{broken, unknown}
use Rattle.hir_number.proofs.scope.test_lifetimes.Given as goal

abbrev pub invariant-loop-lifetime : goal.invariant-loop-lifetime
invariant-loop-lifetime l = (all : List (List ℕ)) → Indexes l.names all
    → map broken l.breaches.items ≡ map broken l.fn.breaches.items ++ flat_map (unknown all) (take l.lifetime-index l.lifetimes)
