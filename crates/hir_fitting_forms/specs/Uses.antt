-- When uses fit: the results in which definitions are used name what is there. What is kept of uses stands in no environment, so
-- their lifetimes may be any.
use Rattle.std.specs.Prelude.{⊤, List, None}
use Rattle.std.specs.List.{All}
use Rattle.hir_definitions.specs.declared.usage.TypingUseInfo.{TypingUseInfo}
use Rattle.hir_fitting.specs.Fitting.{Fits}
use Rattle.hir_fitting.specs.Parts.{PartFits, free}
use Rattle.hir_fitting.specs.declared.census.Census.{Census}
use Rattle.hir_mentions.specs.Definitions.{result_mentions, usage_mentions}
use Rattle.hir_usage.specs.Tables.{Usages}
use Rattle.hir_usage.specs.Uses.{Used, Sliced, Optioned, InResult}

-- a use: the result, where it is in one
abbrev pub UseFits : Census → Used → Type 0
UseFits census (Sliced id) = ⊤
UseFits census (Optioned id) = ⊤
UseFits census (InResult id result) = All (Fits census None) (result_mentions result)

-- all that is known of how definitions are used
abbrev pub InfosFit : Census → List TypingUseInfo → Type 0
InfosFit census infos = All (λ info. PartFits census (free (usage_mentions info))) infos

-- so of the definitions of each kind
pub record UsagesFit (census : Census) (t : Usages) : Type 0 where
  pub structs : InfosFit census t.structs
  pub out_structs : InfosFit census t.out_structs
  pub opaques : InfosFit census t.opaques
  pub enums : InfosFit census t.enums
