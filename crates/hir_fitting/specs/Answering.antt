-- What is answered of a definition.
use Rattle.std.specs.Prelude.{◌≡◌, ◌↔◌, List, Option, IsNone, IfSome}
use Rattle.hir_ids.specs.declared.ids.SymbolId.{SymbolId}
use Rattle.hir_fitting.specs.Parts.{Part, DefinitionFits, DefinitionMisfits}
use Rattle.hir_fitting.specs.declared.census.Census.{Census}
use Rattle.hir_fitting.specs.declared.definitions.Unfit.{Unfit}

-- nothing exactly where its parts fit, and else a misfit of them, with the definition as the holder
abbrev pub AnswersFitting : Census → SymbolId → List Part → Option Unfit → Type 0
AnswersFitting census id parts answer =
    (IsNone answer ↔ DefinitionFits census parts)
    × IfSome answer (λ unfit. (unfit.holder ≡ id) × DefinitionMisfits census id parts unfit.named)
