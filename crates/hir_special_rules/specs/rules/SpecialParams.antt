-- SpecialParams: a special method has another number of parameters, without the trailing writer, than its kind.
use Rattle.std.specs.Prelude.{◌≡◌, length, true}
use Rattle.hir_attrs.specs.declared.special.kind.SpecialKind.{SpecialKind}
use Rattle.hir_definitions.specs.declared.methods.Method.{Method}
use Rattle.hir_special.specs.Receivers.{is_wrong_count}

-- by its kind, as the table of `hir_special` says
abbrev pub SpecialParams : SpecialKind → Method → Type 0
SpecialParams it method = is_wrong_count it (length method.params) ≡ true
