-- What items are lowered for and by.
use Rattle.bridge_order.specs.declared.catalog.Catalog.{Catalog}
use Rattle.hir_backends.specs.Backend.{Backend}
use Rattle.hir_backends.specs.declared.support.BackendAttrSupport.{BackendAttrSupport}
use Rattle.hir_config.specs.declared.config.LoweringConfig.{LoweringConfig}
use Rattle.hir_number.specs.Naming.{Naming}
use Rattle.hir_items.specs.declared.loans.Lowering.{Lowering}

pub record Setting : Type 0 where
  -- the backend, by what it says of itself
  pub backend : Backend
  -- what it supports of what methods and functions ask
  pub support : BackendAttrSupport
  -- what is allowed beyond the rules
  pub config : LoweringConfig
  -- what is known of items by place
  pub catalog : Catalog
  -- what the paths mean that are written in the item's module
  pub names : Naming

-- that of what is lent, for a backend that says this, where the paths have that meaning
abbrev pub setting : {V : Type 0} → Backend → Lowering V → Naming → Setting
setting backend lent names =
    record { backend = backend; support = lent.support.now; config = lent.config; catalog = lent.catalog.now; names = names }
