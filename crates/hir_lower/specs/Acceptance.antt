-- When declarations are accepted, and with which definitions.
use Rattle.std.specs.Prelude.{◌≡◌, ℕ, List, []}
use Rattle.bridge_decl.specs.declared.modules.Module.{Module}
use Rattle.bridge_order.specs.declared.catalog.Catalog.{Catalog}
use Rattle.bridge_places.specs.Entries.{IsCatalog}
use Rattle.hir_backends.specs.Backend.{Backend}
use Rattle.hir_config.specs.declared.config.LoweringConfig.{LoweringConfig}
use Rattle.hir_nesting.specs.Faults.{AllNestWell}
use Rattle.hir_nesting_rules.specs.LoweredContainment.{lowered_containment}
use Rattle.hir_number.specs.Naming.{Naming}
use Rattle.hir_usage_notes.specs.declared.definitions.LoweredDefinitions.{LoweredDefinitions}
use Rattle.hir_lowering.specs.Interface.{Interface}
use Rattle.hir_lowering.specs.Lowered.{AreAllLowered, lowering_reports}
use Rattle.hir_lowering.specs.Walks.{interface_of}
use Rattle.hir_lower.specs.Refusals.{TellsNestingOf}

-- something holds of declarations, by a catalog of their modules
pub record HoldsByCatalog (modules : List Module) (backend : Backend) (config : LoweringConfig) (names : ℕ → Naming) (P : Interface → Type 0) : Type 0 where
  pub catalog : Catalog
  pub is : IsCatalog modules catalog
  pub holds : P (interface_of modules backend config names catalog)

-- nothing is told of declarations, these are the definitions of all their items, and nothing is told of how structs nest, which nest well
pub record AreAccepted (it : Interface) (d : LoweredDefinitions) : Type 0 where
  pub untold : lowering_reports it ≡ []
  pub all : AreAllLowered it d
  pub quiet : TellsNestingOf it.modules d []
  pub nested : AllNestWell (lowered_containment d)
