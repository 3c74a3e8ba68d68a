-- SpecialSupport: a special method needs a flag that the backend doesn't have.
use Rattle.std.specs.Prelude.{◌≡◌, Some}
use Rattle.hir_attrs.specs.declared.special.kind.SpecialKind.{SpecialKind}
use Rattle.hir_backends.specs.declared.support.BackendAttrSupport.{BackendAttrSupport}
use Rattle.hir_backends.specs.declared.support.flag.SupportFlag.{SupportFlag}
use Rattle.hir_definitions.specs.declared.methods.Method.{Method}
use Rattle.hir_special.specs.Support.{missing_flag}

-- the flag, as the table of `hir_special` says
abbrev pub SpecialSupport : BackendAttrSupport → SpecialKind → Method → SupportFlag → Type 0
SpecialSupport supports it method flag = missing_flag supports it method.param_self method.output ≡ Some flag
