-- SpecialRepeated: a type has a second method of a kind that stands once.
use Rattle.std.specs.Prelude.{◌≡◌, List, ◌∷◌, ◌++◌, Some, false}
use Rattle.std.specs.List.{Contains}
use Rattle.bridge_decl.specs.declared.methods.Method.{Method}
use Rattle.hir_attrs.specs.Reading.{about}
use Rattle.hir_attrs.specs.Special.{special_text}
use Rattle.hir_attrs.specs.declared.attrs.Attrs.{Attrs}
use Rattle.hir_attrs.specs.declared.special.kind.SpecialKind.{SpecialKind}
use Rattle.hir_attrs.specs.declared.special.kind.SpecialKind.TheVariants as kind
use Rattle.hir_backends.specs.Support.{flag_on}
use Rattle.hir_backends.specs.declared.support.BackendAttrSupport.{BackendAttrSupport}
use Rattle.hir_backends.specs.declared.support.flag.SupportFlag.TheVariants as flag
use Rattle.hir_items.specs.Repeated.{method_kind}
use Rattle.hir_items.specs.Setting.{Setting}
use Rattle.hir_reports.specs.declared.report.LoweringError.{LoweringError}
use Rattle.hir_reports.specs.declared.rule.Rule.TheVariants as rule

-- the kinds of which a type has one: a constructor where the backend doesn't overload methods
pub data StandsOnce (support : BackendAttrSupport) : SpecialKind → Type 0 where
  constructor : flag_on support flag.MethodOverloading ≡ false → StandsOnce support kind.Constructor
  comparison : StandsOnce support kind.Comparison
  iterator : StandsOnce support kind.Iterator
  iterable : StandsOnce support kind.Iterable

-- a method of that kind of an enabled type, in a module with that set of marks, whose methods are these; an enabled one before it has the
-- kind too
pub record SpecialRepeated (s : Setting) (set : Attrs) (methods : List Method) (it : Method) (error : LoweringError) : Type 0 where
  pub before : List Method
  pub after : List Method
  pub listed : methods ≡ before ++ it ∷ after
  pub kind : SpecialKind
  pub once : StandsOnce s.support kind
  pub is_kind : method_kind s.backend set it ≡ Some kind
  pub earlier : Method
  pub stands : Contains before earlier
  pub has_kind : method_kind s.backend set earlier ≡ Some kind
  pub says : error ≡ about rule.SpecialRepeated (special_text kind)
