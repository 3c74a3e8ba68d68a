-- As many numbers come back for each use as it has lifetimes: one for a single lifetime, and for the generics of a path as many as the
-- definition declares that it names.
use Rattle.std.specs.Prelude.{◌≡◌, ℕ, List, length, map, Some, None}
use Rattle.hir_number.specs.Breaches.{uses_of}
use Rattle.hir_number.specs.Shapes.{NumberLists}
use Rattle.hir_number.specs.Signatures.{Placed}
use Rattle.hir_number.specs.Uses.{Use, One, Path}

-- how many lifetimes a use has; a path that names nothing has none
abbrev pub arity_of_use : Use → ℕ
arity_of_use (One l) = 1
arity_of_use (Path is_self path None) = 0
arity_of_use (Path is_self path (Some found)) = found.count

-- the numbers of these uses, a list for each, are as many
abbrev pub HaveArity : List Placed → NumberLists → Type 0
HaveArity ps numbers = map length numbers ≡ map arity_of_use (uses_of ps)
