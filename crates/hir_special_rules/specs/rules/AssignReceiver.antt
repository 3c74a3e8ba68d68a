-- AssignReceiver: the receiver of an assigning operator isn't a mutably borrowed opaque.
use Rattle.std.specs.Prelude.{◌≡◌, true}
use Rattle.hir_attrs.specs.declared.special.kind.SpecialKind.{SpecialKind}
use Rattle.hir_definitions.specs.declared.methods.Method.{Method}
use Rattle.hir_special.specs.Receivers.{is_wrong_target}

-- by its kind, as the table of `hir_special` says
abbrev pub AssignReceiver : SpecialKind → Method → Type 0
AssignReceiver it method = is_wrong_target it method.param_self ≡ true
