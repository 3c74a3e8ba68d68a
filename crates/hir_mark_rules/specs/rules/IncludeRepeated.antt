-- IncludeRepeated: `custom_extra_code` says well what is included, and where; but the place has its code already.
use Rattle.std.specs.Prelude.{◌≡◌, ℕ, List, ◌∷◌, ◌++◌, codes, Bool}
use Rattle.std.specs.List.{Contains}
use Rattle.bridge_decl.specs.declared.attrs.Assign.{Assign}
use Rattle.bridge_decl.specs.declared.attrs.DiplomatBackendAttr.{DiplomatBackendAttr}
use Rattle.bridge_decl.specs.declared.attrs.Lit.TheVariants.{Str}
use Rattle.bridge_decl.specs.declared.attrs.MetaValue.{MetaValue}
use Rattle.bridge_decl.specs.declared.attrs.MetaValue.TheVariants.{Assignments}
use Rattle.hir_backends.specs.Backend.{Backend}
use Rattle.hir_attrs.specs.Includes.{location_word}
use Rattle.hir_attrs.specs.declared.attrs.Attrs.{Attrs}
use Rattle.hir_attrs.specs.declared.includes.IncludeLocation.{IncludeLocation}
use Rattle.hir_attrs.specs.declared.includes.IncludeSource.{IncludeSource}
use Rattle.hir_attrs.specs.declared.names.MarkName.TheVariants as mark
use Rattle.hir_mark_rules.specs.Counting.{IsRow}
use Rattle.hir_mark_rules.specs.rules.BadInclude.{IsBadInclude}

-- the last `location` among the assignments of an argument is that one
pub record IsLastLocation (value : MetaValue) (location : IncludeLocation) : Type 0 where
  pub before : List Assign
  pub last : Assign
  pub after : List Assign
  pub listed : value ≡ Assignments (before ++ last ∷ after)
  pub called : last.name ≡ codes "location"
  pub gives : last.value ≡ Str (location_word location)
  pub none_after : (later : Assign) → Contains after later → ¬ (later.name ≡ codes "location")

pub record IncludeRepeated (backend : Backend) (attrs : Attrs) (it : DiplomatBackendAttr) : Type 0 where
  pub name : List ℕ
  pub by_auto : Bool
  pub is_row : IsRow backend it by_auto mark.CustomExtraCode name
  pub good : ¬ IsBadInclude it.meta.value
  pub location : IncludeLocation
  pub asked : IsLastLocation it.meta.value location
  pub code : IncludeSource
  pub stands : Contains attrs.custom_extra_code (location, code)
