-- LifetimeArity: a path writes more lifetimes than its definition has. An enum has none.
use Rattle.std.specs.Prelude.{◌≡◌, ◌<◌, length, Option, Some}
use Rattle.bridge_decl.specs.declared.paths.PathType.{PathType}
use Rattle.hir_number.specs.Breaches.{Broken}
use Rattle.hir_number.specs.Breaches as breach
use Rattle.hir_number.specs.Naming.{Definition}

-- the path, which is the argument, for which this was found
abbrev pub LifetimeArity : Option Definition → PathType → Broken → Type 0
LifetimeArity found path broken =
    (d : Definition) × ((found ≡ Some d) × ((d.count < length path.lifetimes) × (broken ≡ breach.LifetimeArity path)))
