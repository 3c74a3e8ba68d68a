-- What the walk is lent, and what it keeps on its way.
use Rattle.std.specs.Prelude.{◌≡◌}
use Rattle.bridge_places.specs.Entries.{IsCatalog}
use Rattle.hir_backends.specs.Backend.{Backend}
use Rattle.hir_items.specs.declared.loans.Lowering.{Lowering}
use Rattle.hir_lowering.specs.Interface.{AreNamed, Interface}

-- what is lent, for a backend that says this, is that of the interface
pub record Lends {V : Type 0} (says : Backend) (lent : Lowering V) (it : Interface) : Type 0 where
  pub modules : lent.env.now ≡ it.modules
  pub backend : says ≡ it.backend
  pub support : lent.support.now ≡ says.supports
  pub config : lent.config ≡ it.config
  pub catalog : lent.catalog.now ≡ it.catalog

-- the catalog is that of the modules, and the paths mean what they name
pub record IsInterface (it : Interface) : Type 0 where
  pub catalog : IsCatalog it.modules it.catalog
  pub names : AreNamed it.modules it.names
