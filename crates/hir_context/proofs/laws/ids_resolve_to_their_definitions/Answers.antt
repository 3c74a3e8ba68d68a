use Rattle.std.proofs.Common.{sym, ◌∙◌}
use Rattle.hir_context.proofs.Types.{is_listed, stands, type_place}
use Rattle.hir_context.proofs.laws.ids_resolve_to_their_definitions.Goals as goal

pub returns-clause-found : goal.returns-clause-found
returns-clause-found c = λ defs place id def at. (stands defs place (id, def) at).0

pub returns-clause-complete : goal.returns-clause-complete
returns-clause-complete c = λ defs id def at. (type_place defs id, is_listed defs id def at)

pub returns-clause-once : goal.returns-clause-once
returns-clause-once c = λ defs first second id def other at also. sym (stands defs first (id, def) at).1 ∙ (stands defs second (id, other) also).1
