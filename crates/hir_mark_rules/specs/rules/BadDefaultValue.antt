-- BadDefaultValue: a literal gives no default value.
use Rattle.std.specs.Prelude.{◌≡◌, ◌<◌, ◌⊎◌, ℕ, List, [], Bool}
use Rattle.std.specs.List.{Contains}
use Rattle.bridge_decl.specs.declared.attrs.DiplomatBackendAttr.{DiplomatBackendAttr}
use Rattle.bridge_decl.specs.declared.attrs.Lit.{Lit}
use Rattle.bridge_decl.specs.declared.attrs.Lit.TheVariants as lit
use Rattle.bridge_decl.specs.declared.attrs.MetaValue.TheVariants.{Literal}
use Rattle.hir_backends.specs.Backend.{Backend}
use Rattle.hir_attrs.specs.Values.{most_integer, number_after}
use Rattle.hir_attrs.specs.declared.names.MarkName.TheVariants as mark
use Rattle.hir_mark_rules.specs.Counting.{IsRow}

-- a number with a point, a string, or any other literal; or a number that isn't one or more decimal digits, or is above the greatest
pub data IsBadDefault : Lit → Type 0 where
  float : IsBadDefault lit.Float
  string : (text : List ℕ) → IsBadDefault (lit.Str text)
  other : IsBadDefault lit.Other
  no_digits : IsBadDefault (lit.Int [])
  no_digit : (text : List ℕ) (byte : ℕ) → Contains text byte → (byte < 48) ⊎ (57 < byte) → IsBadDefault (lit.Int text)
  too_large : (text : List ℕ) → most_integer < number_after 0 text → IsBadDefault (lit.Int text)

pub record BadDefaultValue (backend : Backend) (it : DiplomatBackendAttr) : Type 0 where
  pub name : List ℕ
  pub by_auto : Bool
  pub is_row : IsRow backend it by_auto mark.DefaultValue name
  pub literal : Lit
  pub given : it.meta.value ≡ Literal literal
  pub bad : IsBadDefault literal
