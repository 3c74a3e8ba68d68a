-- The lifetimes in the type of a return, where lifetimes have numbers: of the success, and then of the error. A writer and `()` have none.
-- In the example of the crate's head they are 'b and 'a.
use Rattle.std.specs.Prelude.{ℕ, List, [], ◌∷◌, ◌++◌, Option, Some, None}
use Rattle.bridge_order.specs.Catalog.{entry_at}
use Rattle.bridge_order.specs.declared.catalog.Catalog.{Catalog}
use Rattle.bridge_order.specs.declared.catalog.Entry.{Entry}
use Rattle.bridge_order.specs.declared.catalog.Entry.TheVariants as entry
use Rattle.hir_life.specs.declared.maybe_static.MaybeStatic.{MaybeStatic}
use Rattle.hir_number.specs.declared.numbered.NumberedType.{NumberedType, out-NumberedType}
use Rattle.hir_number.specs.declared.numbered.NumberedType.TheOpen.{NumberedType-F}
use Rattle.hir_number.specs.declared.numbered.Target.{Target}
use Rattle.hir_types.specs.Slices.{at_most_one}
use Rattle.hir_readings.specs.NumberedSkeletons.{borrow_lifetime}

-- the generics of what is named: an enum has none
abbrev pub entry_generics : Entry → Target → List (MaybeStatic ℕ)
entry_generics (entry.Struct id has_fields) t = t.lifetimes
entry_generics (entry.OutStruct id has_fields) t = t.lifetimes
entry_generics (entry.Opaque id mark) t = t.lifetimes
entry_generics _ t = []

-- behind a reference of this lifetime: those of an opaque, and then the lifetime
abbrev pub lent_generics : MaybeStatic ℕ → Entry → Target → List (MaybeStatic ℕ)
lent_generics l (entry.Opaque id mark) t = t.lifetimes ++ l ∷ []
lent_generics l e t = entry_generics e t

module _ (catalog : Catalog) where
  -- of a name, and of nothing else
  abbrev pub level_named : NumberedType-F NumberedType → List (MaybeStatic ℕ)
  level_named (NumberedType-F.Named t) = entry_generics (entry_at catalog t.place) t
  level_named (NumberedType-F.SelfType t) = entry_generics (entry_at catalog t.place) t
  level_named _ = []

  -- of what stands behind a reference of this lifetime
  abbrev pub level_behind : MaybeStatic ℕ → NumberedType-F NumberedType → List (MaybeStatic ℕ)
  level_behind l (NumberedType-F.Named t) = lent_generics l (entry_at catalog t.place) t
  level_behind l (NumberedType-F.SelfType t) = lent_generics l (entry_at catalog t.place) t
  level_behind l _ = []

  -- of an element that may be absent, which stands behind a reference
  abbrev pub level_absent : NumberedType-F NumberedType → List (MaybeStatic ℕ)
  level_absent (NumberedType-F.Reference l m t) = level_behind l (out-NumberedType t)
  level_absent _ = []

  -- of an element of a slice
  abbrev pub level_element_named : NumberedType-F NumberedType → List (MaybeStatic ℕ)
  level_element_named (NumberedType-F.Reference l m t) = level_behind l (out-NumberedType t)
  level_element_named (NumberedType-F.Option t d) = level_absent (out-NumberedType t)
  level_element_named x = level_named x

  -- of a type that is no option: of a slice those of its elements, and then its own
  abbrev pub level_within : NumberedType-F NumberedType → List (MaybeStatic ℕ)
  level_within (NumberedType-F.Reference l m t) = level_behind l (out-NumberedType t)
  level_within (NumberedType-F.Box t) = level_named (out-NumberedType t)
  level_within (NumberedType-F.StrReference l e d) = at_most_one l
  level_within (NumberedType-F.PrimitiveSlice borrow p d) = borrow_lifetime borrow
  level_within (NumberedType-F.CustomTypeSlice borrow t d) = level_element_named (out-NumberedType t) ++ borrow_lifetime borrow
  level_within x = level_named x

  -- of a type: of an option those of what is inside
  abbrev pub level_lifetimes : NumberedType-F NumberedType → List (MaybeStatic ℕ)
  level_lifetimes (NumberedType-F.Option t d) = level_within (out-NumberedType t)
  level_lifetimes x = level_within x

  abbrev pub value_lifetimes : NumberedType → List (MaybeStatic ℕ)
  value_lifetimes ty = level_lifetimes (out-NumberedType ty)

  -- of a return: of a result those of the success, and then those of the error
  abbrev pub returned_level_lifetimes : NumberedType-F NumberedType → List (MaybeStatic ℕ)
  returned_level_lifetimes (NumberedType-F.Option t d) = value_lifetimes t
  returned_level_lifetimes (NumberedType-F.Result t e d) = value_lifetimes t ++ value_lifetimes e
  returned_level_lifetimes x = level_lifetimes x

  -- where anything is returned
  abbrev pub returned_lifetimes : Option NumberedType → List (MaybeStatic ℕ)
  returned_lifetimes None = []
  returned_lifetimes (Some ty) = returned_level_lifetimes (out-NumberedType ty)
