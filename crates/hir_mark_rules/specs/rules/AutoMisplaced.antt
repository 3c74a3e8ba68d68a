-- AutoMisplaced: `auto` stands where it isn't allowed: under `not` or `all`, or, as in documents, where it is allowed nowhere.
use Rattle.std.specs.Prelude.{◌≡◌, Bool}
use Rattle.bridge_decl.specs.declared.attrs.DiplomatBackendAttrCfg.{DiplomatBackendAttrCfg}
use Rattle.hir_backends.specs.Backend.{Backend}
use Rattle.hir_backends.specs.Conditions.{condition_met}
use Rattle.hir_backends.specs.declared.conditions.CfgFault.TheVariants as fault
use Rattle.hir_backends.specs.declared.conditions.Met.TheVariants.{Faulty}

-- by whether it is allowed at the top: the first fault to which the condition comes is that
abbrev pub AutoMisplaced : Backend → Bool → DiplomatBackendAttrCfg → Type 0
AutoMisplaced backend allowed condition = condition_met backend condition allowed ≡ Faulty fault.AutoMisplaced
