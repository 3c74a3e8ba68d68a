-- UnknownMark: a mark is taken whose name is that of no mark.
use Rattle.std.specs.Prelude.{◌≡◌, ℕ, List, Bool}
use Rattle.bridge_decl.specs.declared.attrs.DiplomatBackendAttr.{DiplomatBackendAttr}
use Rattle.hir_backends.specs.Backend.{Backend}
use Rattle.hir_attrs.specs.Marks.{mark_text}
use Rattle.hir_attrs.specs.Special.{special_text}
use Rattle.hir_attrs.specs.declared.names.MarkName.{MarkName}
use Rattle.hir_attrs.specs.declared.special.kind.SpecialKind.{SpecialKind}
use Rattle.hir_mark_rules.specs.Counting.{IsTaken}

pub record UnknownMark (backend : Backend) (it : DiplomatBackendAttr) (name : List ℕ) : Type 0 where
  pub by_auto : Bool
  pub taken : IsTaken backend it by_auto name
  pub no_special : (kind : SpecialKind) → ¬ (name ≡ special_text kind)
  pub no_row : (row : MarkName) → ¬ (name ≡ mark_text row)
