-- UnknownPair: a condition asks for a pair of a name and a value that the backend doesn't know.
use Rattle.std.specs.Prelude.{◌≡◌, Bool}
use Rattle.bridge_decl.specs.declared.attrs.DiplomatBackendAttrCfg.{DiplomatBackendAttrCfg}
use Rattle.hir_backends.specs.Backend.{Backend}
use Rattle.hir_backends.specs.Conditions.{condition_met}
use Rattle.hir_backends.specs.declared.conditions.CfgFault.TheVariants as fault
use Rattle.hir_backends.specs.declared.conditions.Met.TheVariants.{Faulty}

-- by whether `auto` is allowed at the top: the first fault to which the condition comes is that
abbrev pub UnknownPair : Backend → Bool → DiplomatBackendAttrCfg → Type 0
UnknownPair backend allowed condition = condition_met backend condition allowed ≡ Faulty fault.UnknownPair
