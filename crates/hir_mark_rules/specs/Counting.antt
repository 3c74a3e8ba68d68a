-- Which marks count for a backend, and as what.
use Rattle.std.specs.Prelude.{◌≡◌, ℕ, List, [], ◌∷◌, Bool, true, false, Some}
use Rattle.bridge_decl.specs.declared.attrs.DiplomatBackendAttr.{DiplomatBackendAttr}
use Rattle.hir_backends.specs.Backend.{Backend}
use Rattle.hir_backends.specs.Conditions.{condition_met}
use Rattle.hir_backends.specs.Support.{checked, flag_on}
use Rattle.hir_backends.specs.declared.conditions.Met.TheVariants.{Holds}
use Rattle.hir_backends.specs.declared.support.flag.SupportFlag.{SupportFlag}
use Rattle.hir_attrs.specs.Marks.{mark_flag, mark_text}
use Rattle.hir_attrs.specs.Special.{special_text}
use Rattle.hir_attrs.specs.declared.names.MarkName.{MarkName}
use Rattle.hir_attrs.specs.declared.special.kind.SpecialKind.{SpecialKind}

-- its condition is met, by `auto` or without it, and its path is that one segment
pub record Counts (backend : Backend) (it : DiplomatBackendAttr) (by_auto : Bool) (name : List ℕ) : Type 0 where
  pub met : condition_met backend it.cfg true ≡ Holds by_auto
  pub named : it.meta.path ≡ name ∷ []

-- asked for the name itself, the backend says that it doesn't support it; of most names it says nothing
abbrev pub DeniesName : Backend → List ℕ → Type 0
DeniesName backend name = checked backend.supports name ≡ Some false

-- the mark needs a flag, which the backend has off
abbrev pub DeniesFlag : Backend → MarkName → Type 0
DeniesFlag backend row = (flag : SupportFlag) × ((mark_flag row ≡ Some flag) × (flag_on backend.supports flag ≡ false))

-- it counts, and the backend doesn't deny its name
pub record IsTaken (backend : Backend) (it : DiplomatBackendAttr) (by_auto : Bool) (name : List ℕ) : Type 0 where
  pub counts : Counts backend it by_auto name
  pub undenied : ¬ DeniesName backend name

-- it is taken as the mark of a special method of that kind
pub record IsSpecial (backend : Backend) (it : DiplomatBackendAttr) (kind : SpecialKind) (name : List ℕ) : Type 0 where
  pub by_auto : Bool
  pub taken : IsTaken backend it by_auto name
  pub called : name ≡ special_text kind

-- it is taken as that row of the table of marks, whose flag isn't off
pub record IsRow (backend : Backend) (it : DiplomatBackendAttr) (by_auto : Bool) (row : MarkName) (name : List ℕ) : Type 0 where
  pub taken : IsTaken backend it by_auto name
  pub called : name ≡ mark_text row
  pub supported : ¬ DeniesFlag backend row
