use Rattle.hir_readings.proofs.ContextLemmas.{context_enums, context_fields, context_functions, context_opaques, context_out_structs, context_structs}
use Rattle.hir_readings.proofs.contexts.contexts_are_read_as_declared.Goals as goal

pub returns-clause-fields : goal.returns-clause-fields
returns-clause-fields c = λ it defs place is_catalog stands. context_fields it defs stands is_catalog place

pub returns-clause-structs : goal.returns-clause-structs
returns-clause-structs c = λ it defs is_catalog stands. context_structs it defs stands is_catalog

pub returns-clause-out_structs : goal.returns-clause-out_structs
returns-clause-out_structs c = λ it defs is_catalog stands. context_out_structs it defs stands is_catalog

pub returns-clause-opaques : goal.returns-clause-opaques
returns-clause-opaques c = λ it defs is_catalog stands. context_opaques it defs stands is_catalog

pub returns-clause-enums : goal.returns-clause-enums
returns-clause-enums c = λ it defs is_catalog stands. context_enums it defs stands is_catalog

pub returns-clause-functions : goal.returns-clause-functions
returns-clause-functions c = λ it defs is_catalog stands. context_functions it defs stands is_catalog
