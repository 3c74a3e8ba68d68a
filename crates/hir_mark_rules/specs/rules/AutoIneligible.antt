-- AutoIneligible: `disable`, `manually_disposable` or `rename` counts by `auto`, and its argument suits it.
use Rattle.std.specs.Prelude.{ℕ, List, true}
use Rattle.bridge_decl.specs.declared.attrs.DiplomatBackendAttr.{DiplomatBackendAttr}
use Rattle.hir_backends.specs.Backend.{Backend}
use Rattle.hir_attrs.specs.declared.names.MarkName.{MarkName}
use Rattle.hir_attrs.specs.declared.names.MarkName.TheVariants as mark
use Rattle.hir_mark_rules.specs.Arguments.{Suits}
use Rattle.hir_mark_rules.specs.Counting.{IsRow}

-- marks that don't stand under `auto`
pub data IsNeverAuto : MarkName → Type 0 where
  disable : IsNeverAuto mark.Disable
  manually_disposable : IsNeverAuto mark.ManuallyDisposable
  rename : IsNeverAuto mark.Rename

pub record AutoIneligible (backend : Backend) (it : DiplomatBackendAttr) (name : List ℕ) : Type 0 where
  pub row : MarkName
  pub is_row : IsRow backend it true row name
  pub suits : Suits row it.meta.value
  pub ineligible : IsNeverAuto row
