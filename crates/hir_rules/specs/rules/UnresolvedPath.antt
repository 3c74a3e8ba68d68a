-- UnresolvedPath: a path names nothing of its kind.
use Rattle.std.specs.Prelude.{◌≡◌, Option, None}
use Rattle.bridge_decl.specs.declared.paths.PathType.{PathType}
use Rattle.hir_number.specs.Breaches.{Broken}
use Rattle.hir_number.specs.Breaches as breach
use Rattle.hir_number.specs.Naming.{Definition}

-- the path, which is the argument, for which this was found
abbrev pub UnresolvedPath : Option Definition → PathType → Broken → Type 0
UnresolvedPath found path broken = (found ≡ None) × (broken ≡ breach.UnresolvedPath path)
