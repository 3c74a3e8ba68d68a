-- What the walk over all declarations comes to.
use Rattle.std.specs.Prelude.{◌≡◌, ◌++◌, ⊤, ℕ, List, Result, Ok, Err}
use Rattle.bridge_decl.specs.declared.modules.Module.{Module}
use Rattle.bridge_order.specs.declared.catalog.Catalog.{Catalog}
use Rattle.bridge_places.specs.Entries.{IsCatalog}
use Rattle.hir_backends.specs.Backend.{Backend}
use Rattle.hir_config.specs.declared.config.LoweringConfig.{LoweringConfig}
use Rattle.hir_number.specs.Naming.{Naming}
use Rattle.hir_reports.specs.Store.{Held}
use Rattle.hir_usage_notes.specs.declared.definitions.LoweredDefinitions.{LoweredDefinitions}
use Rattle.hir_lowering.specs.Interface.{Interface}
use Rattle.hir_lowering.specs.Lowered.{AreLowered, lowering_reports}

-- the declarations of modules, with a catalog
abbrev pub interface_of : List Module → Backend → LoweringConfig → (ℕ → Naming) → Catalog → Interface
interface_of modules backend config names catalog =
    record { modules = modules; backend = backend; config = config; catalog = catalog; names = names }

-- by a catalog of the modules: the store has gained all that is told of them, and these are their definitions
pub record LowersTo (modules : List Module) (backend : Backend) (config : LoweringConfig) (names : ℕ → Naming) (old new : Held) (d : LoweredDefinitions) : Type 0 where
  pub catalog : Catalog
  pub is : IsCatalog modules catalog
  pub told : new.reports ≡ old.reports ++ lowering_reports (interface_of modules backend config names catalog)
  pub made : AreLowered (interface_of modules backend config names catalog) d

-- so, where memory suffices
abbrev pub Walks : {E : Type 0} → List Module → Backend → LoweringConfig → (ℕ → Naming) → Held → Held → Result LoweredDefinitions E → Type 0
Walks modules backend config names old new (Ok d) = LowersTo modules backend config names old new d
Walks modules backend config names old new (Err e) = ⊤
