-- BadInclude: the argument of `custom_extra_code` doesn't say what is included, and where.
use Rattle.std.specs.Prelude.{◌≡◌, ℕ, List, [], codes, Bool}
use Rattle.std.specs.List.{Contains}
use Rattle.bridge_decl.specs.declared.attrs.Assign.{Assign}
use Rattle.bridge_decl.specs.declared.attrs.DiplomatBackendAttr.{DiplomatBackendAttr}
use Rattle.bridge_decl.specs.declared.attrs.Lit.TheVariants.{Str}
use Rattle.bridge_decl.specs.declared.attrs.MetaValue.{MetaValue}
use Rattle.bridge_decl.specs.declared.attrs.MetaValue.TheVariants.{Assignments}
use Rattle.hir_backends.specs.Backend.{Backend}
use Rattle.hir_attrs.specs.Includes.{location_word}
use Rattle.hir_attrs.specs.declared.includes.IncludeLocation.{IncludeLocation}
use Rattle.hir_attrs.specs.declared.names.MarkName.TheVariants as mark
use Rattle.hir_mark_rules.specs.Counting.{IsRow}

-- an assignment is no part of an include
pub data IsNoPart (assign : Assign) : Type 0 where
  -- a name other than these three
  other_name : ¬ (assign.name ≡ codes "location") → ¬ (assign.name ≡ codes "source") → ¬ (assign.name ≡ codes "file") → IsNoPart assign
  -- a value that isn't a string
  no_string : ((text : List ℕ) → ¬ (assign.value ≡ Str text)) → IsNoPart assign
  -- a location that there isn't
  unknown_location : (text : List ℕ) → assign.name ≡ codes "location" → assign.value ≡ Str text
      → ((location : IncludeLocation) → ¬ (text ≡ location_word location)) → IsNoPart assign

-- an argument says nothing that can be included
pub data IsBadInclude (value : MetaValue) : Type 0 where
  no_list : ((assigns : List Assign) → ¬ (value ≡ Assignments assigns)) → IsBadInclude value
  empty_list : value ≡ Assignments [] → IsBadInclude value
  no_part : (assigns : List Assign) (assign : Assign) → value ≡ Assignments assigns → Contains assigns assign → IsNoPart assign
      → IsBadInclude value
  no_location : (assigns : List Assign) → value ≡ Assignments assigns
      → ((assign : Assign) → Contains assigns assign → ¬ (assign.name ≡ codes "location")) → IsBadInclude value
  no_source : (assigns : List Assign) → value ≡ Assignments assigns
      → ((assign : Assign) → Contains assigns assign → (¬ (assign.name ≡ codes "source")) × (¬ (assign.name ≡ codes "file")))
      → IsBadInclude value

pub record BadInclude (backend : Backend) (it : DiplomatBackendAttr) : Type 0 where
  pub name : List ℕ
  pub by_auto : Bool
  pub is_row : IsRow backend it by_auto mark.CustomExtraCode name
  pub bad : IsBadInclude it.meta.value
