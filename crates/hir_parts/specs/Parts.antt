-- What of the type of an input counts, as a skeleton. In the example of the crate's head `mark` is the struct `Mark` with 'a and 'b.
use Rattle.std.specs.Prelude.{ℕ, List, ◌++◌, Bool, false, Option}
use Rattle.hir_ids.specs.declared.ids.TypeId.{TypeId}
use Rattle.hir_ids.specs.declared.ids.TypeId.TheVariants as type
use Rattle.hir_life.specs.declared.maybe_static.MaybeStatic.{MaybeStatic}
use Rattle.hir_skeleton.specs.Lowered.{carrier_of}
use Rattle.hir_skeleton.specs.Skeletons.{Skeleton, Struct}
use Rattle.hir_types.specs.Slices.{at_most_one}
use Rattle.hir_parts.specs.declared.parts.InputPart.{InputPart}
use Rattle.hir_parts.specs.declared.parts.InputPart.TheVariants as part

-- the lifetimes of a carrier: its own, that of its elements, and those that these give their definition
abbrev pub carried_by : Option (MaybeStatic ℕ) → Option (MaybeStatic ℕ) → List (MaybeStatic ℕ) → List (MaybeStatic ℕ)
carried_by own element given = at_most_one own ++ (at_most_one element ++ given)

-- its skeleton
abbrev pub input_skeleton : InputPart → Skeleton TypeId
input_skeleton (part.Carrier is_slice own element given) = carrier_of (carried_by own element given.now)
input_skeleton (part.Struct id args) = Struct (type.Struct id) args.now

-- whether it is a slice
abbrev pub part_is_slice : InputPart → Bool
part_is_slice (part.Carrier is_slice own element given) = is_slice
part_is_slice (part.Struct id args) = false
