-- The shapes of the types of the made declarations: an opaque behind a reference, and a struct by value.
use Rattle.std.proofs.Common.{◌≡◌, ℕ, ◌<◌, List, Some, ap, ◌∙◌}
use Rattle.bridge_decl.specs.declared.types.Mutability.TheVariants.{Immutable}
use Rattle.bridge_order.specs.declared.catalog.Catalog.{Catalog}
use Rattle.bridge_rules.specs.Shapes.{item_shape, lent_for, level_entry, reference_shape, shape_of, shape_of_level}
use Rattle.bridge_rules.specs.declared.shape.Shape.TheVariants as shape
use Rattle.bridge_rules.specs.declared.shape.Value.TheVariants as value
use Rattle.hir_life.specs.declared.maybe_static.MaybeStatic.{MaybeStatic}
use Rattle.hir_number.specs.Naming.{Naming}
use Rattle.hir_number.specs.declared.numbered.NumberedType.{NumberedType, out-roll-NumberedType}
use Rattle.hir_number.specs.declared.numbered.NumberedType.TheOpen.{NumberedType-F}
use Rattle.bridge_measure.specs.inside.Made.{AreAsMade}
use Rattle.bridge_measure.proofs.FilledLemmas.{borrowed_type, named_type, opaque_target, struct_target, struct_type}

-- the outermost levels of the types
abbrev pub borrowed_level : MaybeStatic ℕ → NumberedType-F NumberedType
borrowed_level n = NumberedType-F.Reference n Immutable (named_type opaque_target)

abbrev pub struct_level : ℕ → List (MaybeStatic ℕ) → NumberedType-F NumberedType
struct_level k ns = NumberedType-F.Named (struct_target k ns)

module _ (count : ℕ) (names : Naming) (catalog : Catalog) (known : AreAsMade count names catalog) where
  -- that of `&'a O`
  pub borrowed_shape_is : (n : MaybeStatic ℕ)
      → shape_of catalog (borrowed_type n) ≡ shape.OpaqueReference (lent_for n Immutable) known.opaque_entry.0 Immutable
  borrowed_shape_is n =
      ap (shape_of_level catalog) (out-roll-NumberedType (borrowed_level n))
      ∙ ap (λ level. reference_shape (lent_for n Immutable) (level_entry catalog level)) (out-roll-NumberedType (NumberedType-F.Named opaque_target))
      ∙ ap (λ entry. reference_shape (lent_for n Immutable) (Some entry)) known.opaque_entry.1

  -- that of `S7<'a>`
  pub struct_shape_is : (k : ℕ) (within : k < count) (ns : List (MaybeStatic ℕ))
      → shape_of catalog (struct_type k ns) ≡ shape.Value (value.Struct (known.struct_entry k within).0)
  struct_shape_is k within ns =
      ap (shape_of_level catalog) (out-roll-NumberedType (struct_level k ns))
      ∙ ap item_shape (known.struct_entry k within).1
