-- What is told of declarations that are refused.
use Rattle.std.specs.Prelude.{◌≡◌, ◌≢◌, List, [], Option, length}
use Rattle.bridge_decl.specs.declared.modules.Module.{Module}
use Rattle.hir_nesting.specs.Faults.{AreNestingFaults}
use Rattle.hir_nesting.specs.declared.fault.NestingFault.{NestingFault}
use Rattle.hir_nesting_rules.specs.LoweredContainment.{lowered_containment}
use Rattle.hir_reports.specs.declared.report.LoweringReport.{LoweringReport}
use Rattle.hir_usage_notes.specs.declared.definitions.LoweredDefinitions.{LoweredDefinitions}
use Rattle.hir_lowering.specs.Interface.{Interface}
use Rattle.hir_lowering.specs.Lowered.{AreAllLowered, lowering_reports}
use Rattle.hir_lowering.specs.Nesting.{nesting_reports}

-- what is told of how the structs of definitions nest: at each that contains itself or nests too deep, that it does
pub record TellsNestingOf (modules : List Module) (d : LoweredDefinitions) (reports : List LoweringReport) : Type 0 where
  pub faults : List (Option NestingFault)
  pub are : AreNestingFaults (lowered_containment d) faults
  pub told : reports ≡ nesting_reports modules (length d.out_structs.items) faults

-- declarations are refused with all that is wrong in modules and items; or, where nothing is, and so each item is made, with all
-- that is wrong in how structs nest. It is never nothing
pub data IsRefusal (it : Interface) (told : List LoweringReport) : Type 0 where
  OfItems : told ≢ [] → told ≡ lowering_reports it → IsRefusal it told
  OfNesting :
      (d : LoweredDefinitions) → told ≢ [] → lowering_reports it ≡ [] → AreAllLowered it d → TellsNestingOf it.modules d told → IsRefusal it told
