-- MarkMisplaced: a set has a mark that may not stand on what is marked. `Contexts` of `hir_mark_contexts` has the table.
use Rattle.std.specs.Prelude.{◌≡◌, ℕ, List, codes, true, false, Some}
use Rattle.hir_attrs.specs.Marks.{mark_text}
use Rattle.hir_attrs.specs.Special.{special_kind, special_text}
use Rattle.hir_attrs.specs.declared.attrs.Attrs.{Attrs}
use Rattle.hir_attrs.specs.declared.names.MarkName.{MarkName}
use Rattle.hir_attrs.specs.declared.special.SpecialMethod.{SpecialMethod}
use Rattle.hir_mark_contexts.specs.Contexts.{allows, is_method, may_be_renamed}
use Rattle.hir_mark_contexts.specs.Sets.{has_mark}
use Rattle.hir_mark_contexts.specs.declared.contexts.MarkContext.{MarkContext}

-- by the name of the mark
pub data MarkMisplaced (context : MarkContext) (attrs : Attrs) : List ℕ → Type 0 where
  -- a mark of the table
  mark : (it : MarkName) → has_mark it attrs ≡ true → allows it context ≡ false → MarkMisplaced context attrs (mark_text it)
  -- that of a special method, on what is no method
  special : (it : SpecialMethod) → attrs.special_method ≡ Some it → is_method context ≡ false
      → MarkMisplaced context attrs (special_text (special_kind it))
  -- a pattern for an exported symbol, on what isn't called by a name
  abi_rename : (pattern : List ℕ) → attrs.abi_rename ≡ Some pattern → may_be_renamed context ≡ false
      → MarkMisplaced context attrs (codes "abi_rename")
