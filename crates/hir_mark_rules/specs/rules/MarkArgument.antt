-- MarkArgument: the argument of a mark doesn't suit it.
use Rattle.std.specs.Prelude.{ℕ, List, Bool}
use Rattle.bridge_decl.specs.declared.attrs.DiplomatBackendAttr.{DiplomatBackendAttr}
use Rattle.hir_backends.specs.Backend.{Backend}
use Rattle.hir_attrs.specs.declared.names.MarkName.{MarkName}
use Rattle.hir_attrs.specs.declared.special.kind.SpecialKind.{SpecialKind}
use Rattle.hir_mark_rules.specs.Arguments.{Suits, SuitsSpecial}
use Rattle.hir_mark_rules.specs.Counting.{IsRow, IsSpecial}

pub data MarkArgument (backend : Backend) (it : DiplomatBackendAttr) (name : List ℕ) : Type 0 where
  of_special : (kind : SpecialKind) → IsSpecial backend it kind name → ¬ SuitsSpecial kind it.meta.value
      → MarkArgument backend it name
  of_row : (row : MarkName) (by_auto : Bool) → IsRow backend it by_auto row name → ¬ Suits row it.meta.value
      → MarkArgument backend it name
