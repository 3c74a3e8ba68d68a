-- How many leaves there are, as far as they are counted.
use Rattle.std.specs.Prelude.{◌≡◌, ◌<◌, ℕ, List, length, min, slice_index, sum_by}
use Rattle.hir_context.specs.declared.parts.Definitions.{Definitions}
use Rattle.hir_ids.specs.declared.ids.TypeId.{TypeId}
use Rattle.hir_ids.specs.declared.ids.TypeId.TheVariants as type
use Rattle.hir_life.specs.declared.maybe_static.MaybeStatic.{MaybeStatic}
use Rattle.hir_skeleton.specs.Inputs.{fields_in}
use Rattle.hir_skeleton.specs.Leaves.{deep_leaves, struct_leaves}
use Rattle.hir_skeleton.specs.Skeletons.{Skeleton}
use Rattle.bridge_leaves.specs.inside.Counting.{most_counted}

-- those in a type, whatever stands for its lifetimes
abbrev pub CountsType : Definitions → Skeleton TypeId → ℕ → Type 0
CountsType defs s count = (args : List (MaybeStatic ℕ)) → count ≡ min most_counted (length (deep_leaves (fields_in defs) 256 args s))

-- those in inputs
abbrev pub CountsInputs : Definitions → List (Skeleton TypeId) → ℕ → Type 0
CountsInputs defs inputs count =
    (args : List (MaybeStatic ℕ)) → count ≡ min most_counted (sum_by (λ s. length (deep_leaves (fields_in defs) 256 args s)) inputs)

-- those in each struct
pub record AreCounts (defs : Definitions) (counts : List ℕ) : Type 0 where
  pub each : length counts ≡ length defs.structs.defs
  pub right :
      (n : ℕ) → n < length defs.structs.defs → (args : List (MaybeStatic ℕ))
      → slice_index counts n ≡ min most_counted (length (struct_leaves (fields_in defs) 256 (type.Struct n) args))
