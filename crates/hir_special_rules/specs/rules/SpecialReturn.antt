-- SpecialReturn: a special method returns what its kind can't.
use Rattle.std.specs.Prelude.{◌≡◌, false}
use Rattle.hir_attrs.specs.declared.special.kind.SpecialKind.{SpecialKind}
use Rattle.hir_definitions.specs.declared.methods.Method.{Method}
use Rattle.hir_ids.specs.declared.ids.TypeId.{TypeId}
use Rattle.hir_special.specs.Returns.{is_right_return}

-- by its kind and the declaring type, as the table of `hir_special` says
abbrev pub SpecialReturn : TypeId → SpecialKind → Method → Type 0
SpecialReturn owner it method = is_right_return it owner method.output ≡ false
