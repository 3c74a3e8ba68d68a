-- What comes of an id of anything where one of a type or of a trait is wanted.
use Rattle.std.specs.Prelude.{◌≡◌, ℕ, Result, Ok, IsErr}
use Rattle.hir_ids.specs.declared.ids.TypeId.{TypeId}
use Rattle.hir_ids.specs.declared.ids.SymbolId.{SymbolId}
use Rattle.hir_ids.specs.declared.ids.SymbolId.TheVariants as symbol

-- the type's id where the id is one of a type, and an error where it isn't
abbrev pub GivesType : SymbolId → Result TypeId (Unit {0}) → Type 0
GivesType (symbol.TypeId id) r = r ≡ Ok id
GivesType (symbol.TraitId _) r = IsErr r
GivesType (symbol.FunctionId _) r = IsErr r

-- the trait's id where the id is one of a trait, and an error where it isn't
abbrev pub GivesTrait : SymbolId → Result ℕ (Unit {0}) → Type 0
GivesTrait (symbol.TraitId id) r = r ≡ Ok id
GivesTrait (symbol.TypeId _) r = IsErr r
GivesTrait (symbol.FunctionId _) r = IsErr r
