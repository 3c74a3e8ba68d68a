-- MarkUnsupported: a mark counts, and not by `auto`, that the backend doesn't support; by `auto` it would be left out.
use Rattle.std.specs.Prelude.{◌≡◌, ℕ, List, false}
use Rattle.bridge_decl.specs.declared.attrs.DiplomatBackendAttr.{DiplomatBackendAttr}
use Rattle.hir_backends.specs.Backend.{Backend}
use Rattle.hir_attrs.specs.Marks.{mark_text}
use Rattle.hir_attrs.specs.declared.names.MarkName.{MarkName}
use Rattle.hir_mark_rules.specs.Counting.{Counts, DeniesFlag, DeniesName, IsTaken}

pub data MarkUnsupported (backend : Backend) (it : DiplomatBackendAttr) (name : List ℕ) : Type 0 where
  -- the name itself is denied, whatever it names
  denied_name : Counts backend it false name → DeniesName backend name → MarkUnsupported backend it name
  -- it names a row of the table whose flag is off
  denied_flag : (row : MarkName) → IsTaken backend it false name → name ≡ mark_text row → DeniesFlag backend row
      → MarkUnsupported backend it name
