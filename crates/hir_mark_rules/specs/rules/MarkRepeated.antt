-- MarkRepeated: `disable`, `default` or `manually_disposable` stands, with no argument, where it is set already.
use Rattle.std.specs.Prelude.{◌≡◌, ℕ, List, Bool, true}
use Rattle.bridge_decl.specs.declared.attrs.DiplomatBackendAttr.{DiplomatBackendAttr}
use Rattle.hir_backends.specs.Backend.{Backend}
use Rattle.hir_attrs.specs.declared.attrs.Attrs.{Attrs}
use Rattle.hir_attrs.specs.declared.names.MarkName.{MarkName}
use Rattle.hir_attrs.specs.declared.names.MarkName.TheVariants as mark
use Rattle.hir_mark_rules.specs.Arguments.{Suits}
use Rattle.hir_mark_rules.specs.Counting.{IsRow}

-- a mark that stands once is set
pub data IsSetOnce (attrs : Attrs) : MarkName → Type 0 where
  disable : attrs.disable ≡ true → IsSetOnce attrs mark.Disable
  default : attrs.default ≡ true → IsSetOnce attrs mark.Default
  manually_disposable : attrs.manually_disposable ≡ true → IsSetOnce attrs mark.ManuallyDisposable

pub record MarkRepeated (backend : Backend) (attrs : Attrs) (it : DiplomatBackendAttr) (name : List ℕ) : Type 0 where
  pub row : MarkName
  pub by_auto : Bool
  pub is_row : IsRow backend it by_auto row name
  pub suits : Suits row it.meta.value
  pub stands : IsSetOnce attrs row
