-- SecondSpecial: the mark of a special method, whose argument suits it, stands where one is set already.
use Rattle.std.specs.Prelude.{◌≡◌, ℕ, List, Some}
use Rattle.bridge_decl.specs.declared.attrs.DiplomatBackendAttr.{DiplomatBackendAttr}
use Rattle.hir_backends.specs.Backend.{Backend}
use Rattle.hir_attrs.specs.declared.attrs.Attrs.{Attrs}
use Rattle.hir_attrs.specs.declared.special.SpecialMethod.{SpecialMethod}
use Rattle.hir_attrs.specs.declared.special.kind.SpecialKind.{SpecialKind}
use Rattle.hir_mark_rules.specs.Arguments.{SuitsSpecial}
use Rattle.hir_mark_rules.specs.Counting.{IsSpecial}

pub record SecondSpecial (backend : Backend) (attrs : Attrs) (it : DiplomatBackendAttr) (name : List ℕ) : Type 0 where
  pub kind : SpecialKind
  pub special : IsSpecial backend it kind name
  pub suits : SuitsSpecial kind it.meta.value
  pub earlier : SpecialMethod
  pub stands : attrs.special_method ≡ Some earlier
