-- The skeletons of types whose lifetimes have numbers. Structs are known by their places. In the example of the crate's head the field
-- `page` of `Mark` is a carrier of 'x and 'y, and the parameter `mark` is the struct `Mark` with 'a and 'b.
use Rattle.std.specs.Prelude.{ℕ, List, [], ◌∷◌, ◌++◌, Bool, true, false, Option, Some, None}
use Rattle.bridge_ast.specs.declared.place.ItemPlace.{ItemPlace}
use Rattle.bridge_decl.specs.declared.types.Mutability.{Mutability}
use Rattle.bridge_order.specs.Catalog.{entry_at}
use Rattle.bridge_order.specs.declared.catalog.Catalog.{Catalog}
use Rattle.bridge_order.specs.declared.catalog.Entry.{Entry}
use Rattle.bridge_order.specs.declared.catalog.Entry.TheVariants as entry
use Rattle.hir_life.specs.declared.maybe_static.MaybeStatic.{MaybeStatic}
use Rattle.hir_number.specs.declared.numbered.NumberedType.{NumberedType, out-NumberedType}
use Rattle.hir_number.specs.declared.numbered.NumberedType.TheOpen.{NumberedType-F}
use Rattle.hir_number.specs.declared.numbered.Target.{Target}
use Rattle.hir_skeleton.specs.Lowered.{carrier_of}
use Rattle.hir_skeleton.specs.Skeletons.{Skeleton, Nothing, Carrier, Struct}
use Rattle.hir_types.specs.Slices.{at_most_one}

-- ---- what is named

-- by value: a struct that comes in, with its generics. Through an enum nothing is borrowed, and an opaque stands nowhere by value
abbrev pub value_skeleton : Entry → Target → Skeleton ItemPlace
value_skeleton (entry.Struct id has_fields) t = Struct t.place t.lifetimes
value_skeleton _ t = Nothing

-- behind a reference of this lifetime: an opaque carries the lifetime and then its generics, and a struct is as by value
abbrev pub lent_skeleton : MaybeStatic ℕ → Entry → Target → Skeleton ItemPlace
lent_skeleton l (entry.Opaque id mark) t = Carrier (l ∷ t.lifetimes)
lent_skeleton l e t = value_skeleton e t

-- the generics of a struct: an enum has none
abbrev pub struct_generics : Entry → Target → List (MaybeStatic ℕ)
struct_generics (entry.Struct id has_fields) t = t.lifetimes
struct_generics _ t = []

-- the lifetime of a borrow, where there is one
abbrev pub borrow_lifetime : Option (MaybeStatic ℕ × Mutability) → List (MaybeStatic ℕ)
borrow_lifetime None = []
borrow_lifetime (Some borrow) = borrow.0 ∷ []

-- the lifetimes of an element behind a reference: that of the reference and then its generics
abbrev pub level_lent_element : MaybeStatic ℕ → NumberedType-F NumberedType → List (MaybeStatic ℕ)
level_lent_element l (NumberedType-F.Named t) = l ∷ t.lifetimes
level_lent_element l (NumberedType-F.SelfType t) = l ∷ t.lifetimes
level_lent_element l _ = l ∷ []

-- of one that may be absent, which stands behind a reference
abbrev pub level_absent_element : NumberedType-F NumberedType → List (MaybeStatic ℕ)
level_absent_element (NumberedType-F.Reference l m t) = level_lent_element l (out-NumberedType t)
level_absent_element _ = []

module _ (catalog : Catalog) where
  -- ---- the elements of a slice

  -- the lifetimes of an element: of a struct its generics, of a reference its lifetime and then the generics of what it is to
  abbrev pub level_element_lifetimes : NumberedType-F NumberedType → List (MaybeStatic ℕ)
  level_element_lifetimes (NumberedType-F.Named t) = struct_generics (entry_at catalog t.place) t
  level_element_lifetimes (NumberedType-F.SelfType t) = struct_generics (entry_at catalog t.place) t
  level_element_lifetimes (NumberedType-F.Reference l m t) = level_lent_element l (out-NumberedType t)
  level_element_lifetimes (NumberedType-F.Option t d) = level_absent_element (out-NumberedType t)
  level_element_lifetimes _ = []

  -- ---- types

  -- what a reference of this lifetime is to
  abbrev pub level_lent : MaybeStatic ℕ → NumberedType-F NumberedType → Skeleton ItemPlace
  level_lent l (NumberedType-F.Named t) = lent_skeleton l (entry_at catalog t.place) t
  level_lent l (NumberedType-F.SelfType t) = lent_skeleton l (entry_at catalog t.place) t
  level_lent l _ = Nothing

  -- a type that is no option. A slice carries its own lifetime and then those of its elements: a text has none of these, and a list
  -- of texts has none at all
  abbrev pub level_inside : NumberedType-F NumberedType → Skeleton ItemPlace
  level_inside (NumberedType-F.Named t) = value_skeleton (entry_at catalog t.place) t
  level_inside (NumberedType-F.SelfType t) = value_skeleton (entry_at catalog t.place) t
  level_inside (NumberedType-F.Reference l m t) = level_lent l (out-NumberedType t)
  level_inside (NumberedType-F.StrReference l e d) = carrier_of (at_most_one l)
  level_inside (NumberedType-F.PrimitiveSlice borrow p d) = carrier_of (borrow_lifetime borrow)
  level_inside (NumberedType-F.CustomTypeSlice borrow t d) = carrier_of (borrow_lifetime borrow ++ level_element_lifetimes (out-NumberedType t))
  level_inside _ = Nothing

  -- an option is what is inside: no option stands in another
  abbrev pub level_skeleton : NumberedType-F NumberedType → Skeleton ItemPlace
  level_skeleton (NumberedType-F.Option t d) = level_inside (out-NumberedType t)
  level_skeleton x = level_inside x

  -- a type
  abbrev pub numbered_skeleton : NumberedType → Skeleton ItemPlace
  numbered_skeleton ty = level_skeleton (out-NumberedType ty)

  -- ---- receivers

  -- `self` of a type, or a reference to it
  abbrev pub own_skeleton : Option (MaybeStatic ℕ × Mutability) → Target → Skeleton ItemPlace
  own_skeleton None t = value_skeleton (entry_at catalog t.place) t
  own_skeleton (Some borrow) t = lent_skeleton borrow.0 (entry_at catalog t.place) t

-- whether a type stands in an option
abbrev pub level_in_option : NumberedType-F NumberedType → Bool
level_in_option (NumberedType-F.Option t d) = true
level_in_option _ = false

abbrev pub stands_in_option : NumberedType → Bool
stands_in_option ty = level_in_option (out-NumberedType ty)

-- whether a type that is no option is a slice
abbrev pub level_inside_slice : NumberedType-F NumberedType → Bool
level_inside_slice (NumberedType-F.StrReference l e d) = true
level_inside_slice (NumberedType-F.StrSlice e d) = true
level_inside_slice (NumberedType-F.PrimitiveSlice borrow p d) = true
level_inside_slice (NumberedType-F.CustomTypeSlice borrow t d) = true
level_inside_slice _ = false

-- whether a type is a slice, or an option of one
abbrev pub level_slice : NumberedType-F NumberedType → Bool
level_slice (NumberedType-F.Option t d) = level_inside_slice (out-NumberedType t)
level_slice x = level_inside_slice x

abbrev pub stands_for_slice : NumberedType → Bool
stands_for_slice ty = level_slice (out-NumberedType ty)
