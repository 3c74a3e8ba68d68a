-- Which flag of a backend a special method needs and doesn't find.
use Rattle.std.specs.Prelude.{Bool, true, false, not, ◌&&◌, Option, Some, None, is_some, if◌then◌else◌}
use Rattle.hir_attrs.specs.declared.special.kind.SpecialKind.{SpecialKind}
use Rattle.hir_attrs.specs.declared.special.kind.SpecialKind.TheVariants as kind
use Rattle.hir_backends.specs.Support.{flag_on}
use Rattle.hir_backends.specs.declared.support.BackendAttrSupport.{BackendAttrSupport}
use Rattle.hir_backends.specs.declared.support.flag.SupportFlag.{SupportFlag}
use Rattle.hir_backends.specs.declared.support.flag.SupportFlag.TheVariants as flag
use Rattle.hir_definitions.specs.declared.methods.ParamSelf.{ParamSelf}
use Rattle.hir_types.specs.Named.{Returned}
use Rattle.hir_types.specs.declared.returns.ReturnType.TheVariants as returned
use Rattle.hir_special.specs.Partial.{is_partial}

-- it returns a value or an error
abbrev pub may_fail : Returned → Bool
may_fail (returned.Fallible s e) = true
may_fail _ = false

-- one, where it is needed and off
abbrev pub unless_on : BackendAttrSupport → Bool → SupportFlag → Option SupportFlag
unless_on supports needed it = if needed && not (flag_on supports it) then Some it else None

-- a constructor that may fail, where the backend has constructors; an accessor without a receiver; a partial comparison
unfoldable pub missing_flag : BackendAttrSupport → SpecialKind → Option ParamSelf → Returned → Option SupportFlag
missing_flag supports kind.Constructor self it = unless_on supports (may_fail it && flag_on supports flag.Constructors) flag.FallibleConstructors
missing_flag supports kind.NamedConstructor self it = unless_on supports (may_fail it && flag_on supports flag.Constructors) flag.FallibleConstructors
missing_flag supports kind.Getter self it = unless_on supports (not (is_some self)) flag.StaticAccessors
missing_flag supports kind.Setter self it = unless_on supports (not (is_some self)) flag.StaticAccessors
missing_flag supports kind.Comparison self it = unless_on supports (is_partial it) flag.PartialComparators
missing_flag supports _ self it = None
