use Rattle.std.proofs.Common.{◌∙◌}
use Rattle.hir_skeleton.proofs.Positions.{disabled_is_empty, leads_nowhere, no_leaves}
use Rattle.hir_skeleton.proofs.laws.disabled_structs_have_no_leaves.Goals as goal

pub returns-clause-leaves : goal.returns-clause-leaves
returns-clause-leaves c = λ fields_of key def levels args given same disabled.
    no_leaves fields_of key (same ∙ disabled_is_empty def disabled) levels args given

pub returns-clause-paths : goal.returns-clause-paths
returns-clause-paths c = λ fields_of key def path d same disabled.
    leads_nowhere fields_of key (same ∙ disabled_is_empty def disabled) path d
