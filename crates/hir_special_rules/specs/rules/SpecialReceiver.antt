-- SpecialReceiver: a special method has no receiver where it needs one, or one where it can't have it.
use Rattle.std.specs.Prelude.{◌≡◌, true}
use Rattle.hir_attrs.specs.declared.special.kind.SpecialKind.{SpecialKind}
use Rattle.hir_definitions.specs.declared.methods.Method.{Method}
use Rattle.hir_special.specs.Receivers.{is_wrong_receiver}

-- by its kind, as the table of `hir_special` says
abbrev pub SpecialReceiver : SpecialKind → Method → Type 0
SpecialReceiver it method = is_wrong_receiver it method.param_self ≡ true
