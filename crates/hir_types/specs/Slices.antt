-- The lifetimes of slices.
use Rattle.std.specs.Prelude.{ℕ, List, [], ◌∷◌, ◌++◌, Option, Some, None, option_map}
use Rattle.hir_life.specs.declared.maybe_static.MaybeStatic.{MaybeStatic}
use Rattle.hir_ids.specs.Owners.{lent}
use Rattle.hir_ids.specs.declared.owners.MaybeOwn.{MaybeOwn}
use Rattle.hir_ids.specs.declared.owners.MaybeOwn.TheVariants as owner
use Rattle.hir_types.specs.declared.slices.Slice.{Slice}
use Rattle.hir_types.specs.declared.slices.Slice.TheVariants as slice

-- the lifetime of what is borrowed
abbrev pub lifetime_of : MaybeOwn → Option (MaybeStatic ℕ)
lifetime_of o = option_map (λ b. b.lifetime) (lent o)

-- a list of that, or of nothing
abbrev pub at_most_one : Option (MaybeStatic ℕ) → List (MaybeStatic ℕ)
at_most_one None = []
at_most_one (Some l) = l ∷ []

module _ {P C O I S T : Type 0} where
  -- the lifetime of the slice itself: a list of texts has none
  abbrev pub slice_own : Slice P C O I S T → Option (MaybeStatic ℕ)
  slice_own (slice.Str l _) = l
  slice_own (slice.Primitive o _) = lifetime_of o
  slice_own (slice.Strs _) = None
  slice_own (slice.Struct o _) = lifetime_of o
  slice_own (slice.Enum o _) = lifetime_of o
  slice_own (slice.Opaque o _) = lifetime_of o

  -- the same, but an owned slice of opaques has the lifetime of these
  abbrev pub slice_lifetime : Slice P C O I S T → Option (MaybeStatic ℕ)
  slice_lifetime (slice.Opaque owner.Own path) = Some path.owner.lifetime
  slice_lifetime s = slice_own s

-- over the lifetimes that a path gives its struct, and how the struct is held
module _ {P C O I S T : Type 0} (given : S → List (MaybeStatic ℕ)) (held : S → MaybeOwn) where
  -- the lifetimes of the elements: those that they give their definition, and then that of the
  -- reference, where they are behind one
  abbrev pub element_lifetimes : Slice P C O I S T → List (MaybeStatic ℕ)
  element_lifetimes (slice.Struct _ path) = given path ++ at_most_one (lifetime_of (held path))
  element_lifetimes (slice.Opaque _ path) = path.lifetimes ++ path.owner.lifetime ∷ []
  element_lifetimes _ = []

  -- those of the elements, and then that of the slice
  abbrev pub slice_lifetimes : Slice P C O I S T → List (MaybeStatic ℕ)
  slice_lifetimes s = element_lifetimes s ++ at_most_one (slice_own s)
