-- What of a type a walk goes on with.
use Rattle.std.specs.Prelude.{ℕ, List, ◌++◌, Option}
use Rattle.hir_life.specs.declared.maybe_static.MaybeStatic.{MaybeStatic}
use Rattle.hir_ids.specs.declared.ids.TypeId.{TypeId}
use Rattle.hir_ids.specs.declared.ids.TypeId.TheVariants as type
use Rattle.hir_types.specs.Slices.{at_most_one}
use Rattle.hir_skeleton.specs.Skeletons.{Skeleton, Nothing, Struct}
use Rattle.hir_skeleton.specs.Lowered.{carrier_of}
use Rattle.hir_borrowing_fields.specs.declared.parts.TypePart.{TypePart}
use Rattle.hir_borrowing_fields.specs.declared.parts.TypePart.TheVariants as part

-- the lifetimes of a carrier: its own, that of its elements, and those that these give their definition
abbrev pub carrier_lifetimes : Option (MaybeStatic ℕ) → Option (MaybeStatic ℕ) → List (MaybeStatic ℕ) → List (MaybeStatic ℕ)
carrier_lifetimes own element given = at_most_one own ++ (at_most_one element ++ given)

-- its skeleton
abbrev pub part_skeleton : TypePart → Skeleton TypeId
part_skeleton part.Nothing = Nothing
part_skeleton (part.Carrier own element given) = carrier_of (carrier_lifetimes own element given.now)
part_skeleton (part.Struct path) = Struct (type.Struct path.now.tcx_id) path.now.lifetimes
