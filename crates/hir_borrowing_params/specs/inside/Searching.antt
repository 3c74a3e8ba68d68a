-- The search for lifetimes of slices, which is the same for the lifetimes of a method and for those of a struct.
use Rattle.std.specs.Prelude.{⊤, ◌≡◌, ℕ, zero, suc, nat_eq, List, [], Bool, false, Option, Some, None}
use Rattle.std.specs.List.{All, list_any}
use Rattle.std.specs.Ordering.{nat_cmp}
use Rattle.std.specs.BTreeMap as by_key
use Rattle.std.specs.BTreeMap.{BTreeMap}
use Rattle.std.specs.BTreeSet.{BTreeSet}
use Rattle.hir_ids.specs.declared.ids.TypeId.{TypeId}
use Rattle.hir_ids.specs.declared.ids.TypeId.TheVariants as type
use Rattle.hir_types.specs.Slices.{at_most_one}
use Rattle.hir_types.specs.declared.paths.StructPath.{StructPath}
use Rattle.hir_context.specs.declared.parts.Definitions.{Definitions}
use Rattle.hir_skeleton.specs.Skeletons.{Skeleton, Nothing, Carrier, Struct}
use Rattle.hir_skeleton.specs.Leaves.{number_passes, through}
use Rattle.hir_skeleton.specs.Lowered.{carrier_of}
use Rattle.hir_borrowing_params.specs.Edges.{is_in}
use Rattle.hir_borrowing_params.specs.Slices.{slices_in}
use Rattle.hir_borrowing_params.specs.declared.slices.SlicePart.{SlicePart}
use Rattle.hir_borrowing_params.specs.declared.slices.SlicePart.TheVariants as part

-- what a search goes on with
abbrev pub part_slices : SlicePart → Skeleton TypeId
part_slices (part.Slice lifetime) = carrier_of (at_most_one lifetime)
part_slices (part.Struct path) = Struct (type.Struct path.now.tcx_id) path.now.lifetimes

-- the struct that a receiver is, where it is one
abbrev pub path_slices : Option StructPath → Skeleton TypeId
path_slices None = Nothing
path_slices (Some path) = Struct (type.Struct path.tcx_id) path.lifetimes

-- the test of one number
abbrev pub is_number : ℕ → ℕ → Bool
is_number d l = nat_eq l d

-- whether a lifetime in a type passes a test, from whether one in a struct does that is given arguments
abbrev pub type_passes : {K : Type 0} → (K → (ℕ → Bool) → Bool) → (ℕ → Bool) → Skeleton K → Bool
type_passes of_struct test Nothing = false
type_passes of_struct test (Carrier lifetimes) = list_any (number_passes test) lifetimes
type_passes of_struct test (Struct key args) = of_struct key (through test args)

-- whether a lifetime of a struct passes that something in it carries, so many levels deep
abbrev pub struct_passes : {K : Type 0} → (K → List (Skeleton K)) → ℕ → K → (ℕ → Bool) → Bool
struct_passes fields_of zero key test = false
struct_passes fields_of (suc levels) key test = list_any (type_passes (struct_passes fields_of levels) test) (fields_of key)

-- the same among definitions: whether a lifetime passes that a slice in the struct has; in a type
abbrev pub slices_pass : Definitions → TypeId → (ℕ → Bool) → Bool
slices_pass defs = struct_passes (slices_in defs) 256

abbrev pub slice_passes : Definitions → (ℕ → Bool) → Skeleton TypeId → Bool
slice_passes defs = type_passes (slices_pass defs)

-- the struct has no chain of more than so many structs
abbrev pub NestsInside : {K : Type 0} → (K → Type 0) → Skeleton K → Type 0
NestsInside nests Nothing = ⊤
NestsInside nests (Carrier lifetimes) = ⊤
NestsInside nests (Struct key args) = nests key

abbrev pub NestsWithin : {K : Type 0} → (K → List (Skeleton K)) → ℕ → K → Type 0
NestsWithin fields_of zero key = fields_of key ≡ []
NestsWithin fields_of (suc levels) key = All (NestsInside (NestsWithin fields_of levels)) (fields_of key)

-- the same of what stands in an input or in a field
abbrev pub NestsAt : Definitions → ℕ → Skeleton TypeId → Type 0
NestsAt defs levels s = NestsInside (NestsWithin (slices_in defs) levels) s

-- the set has the lifetimes of a struct that slices in it have
abbrev pub AreSlicesOf : Definitions → ℕ → BTreeSet ℕ → Type 0
AreSlicesOf defs place set = (d : ℕ) → is_in set d ≡ slices_pass defs (type.Struct place) (is_number d)

-- what is known of structs, by their places, is right
abbrev pub AreKnown : Definitions → BTreeMap ℕ (BTreeSet ℕ) → Type 0
AreKnown defs known = (place : ℕ) (set : BTreeSet ℕ) → by_key.get nat_cmp known place ≡ Some set → AreSlicesOf defs place set
