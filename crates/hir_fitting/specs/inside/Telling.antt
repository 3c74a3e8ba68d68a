-- What the code finds first.
use Rattle.std.specs.Prelude.{List, Option, MatchOption}
use Rattle.hir_ids.specs.declared.ids.SymbolId.{SymbolId}
use Rattle.hir_fitting.specs.Parts.{Part, PartFits, PartMisfits, DefinitionFits, DefinitionMisfits}
use Rattle.hir_fitting.specs.declared.census.Census.{Census}

-- nothing, where the part fits, and else what is told of one of its misfits
abbrev pub PartTells : Census → SymbolId → Part → Option SymbolId → Type 0
PartTells census holder part told = MatchOption told (PartFits census part) (PartMisfits census holder part)

-- nothing, where the parts fit, and else what is told of one of their misfits
abbrev pub PartsTell : Census → SymbolId → List Part → Option SymbolId → Type 0
PartsTell census holder parts told = MatchOption told (DefinitionFits census parts) (DefinitionMisfits census holder parts)
