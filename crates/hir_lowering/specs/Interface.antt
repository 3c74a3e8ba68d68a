-- What is lowered, and for whom: the declarations, the backend, what is allowed, what each item is by its place, and what the paths mean.
use Rattle.std.specs.Prelude.{ℕ, ◌<◌, List, length}
use Rattle.bridge_decl.specs.declared.modules.Module.{Module}
use Rattle.bridge_order.specs.declared.catalog.Catalog.{Catalog}
use Rattle.hir_backends.specs.Backend.{Backend}
use Rattle.hir_items.specs.Setting.{Setting}
use Rattle.hir_config.specs.declared.config.LoweringConfig.{LoweringConfig}
use Rattle.hir_number.specs.Naming.{IsNaming, Naming}

pub record Interface : Type 0 where
  pub modules : List Module
  pub backend : Backend
  -- what is allowed beyond the rules
  pub config : LoweringConfig
  -- what each item is, by its place
  pub catalog : Catalog
  -- what the paths mean that are written in the module of a number
  pub names : ℕ → Naming

-- the paths that are written in the module of a number mean what they name there
abbrev pub AreNamed : List Module → (ℕ → Naming) → Type 0
AreNamed modules names = (n : ℕ) → n < length modules → IsNaming modules n (names n)

-- what the items of the module of a number are lowered for and by
abbrev pub setting_in : Interface → ℕ → Setting
setting_in it n =
    record { backend = it.backend; support = it.backend.supports; config = it.config; catalog = it.catalog; names = it.names n }
