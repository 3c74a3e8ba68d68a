-- Definitions as types, and where they are defined.
use Rattle.std.specs.Prelude.{Bool, true, false}
use Rattle.hir_ids.specs.declared.owners.InputOrOutput.{InputOrOutput}
use Rattle.hir_ids.specs.declared.owners.InputOrOutput.TheVariants as status
use Rattle.hir_context.specs.Lookups.{DefinedType, Struct, OutStruct}
use Rattle.hir_defs.specs.declared.resolving.ReturnableStructDef.{ReturnableStructDef}
use Rattle.hir_defs.specs.declared.resolving.ReturnableStructDef.TheVariants as returnable

-- a struct of either kind, which is lent
abbrev pub returnable_type : ReturnableStructDef → DefinedType
returnable_type (returnable.Struct def) = Struct def.now
returnable_type (returnable.OutStruct def) = OutStruct def.now

-- whether structs are defined at positions of this kind: those of inputs alone have none of their own
abbrev pub defines_structs : InputOrOutput → Bool
defines_structs status.Input = false
defines_structs status.Output = true
defines_structs status.InputOutput = true
