-- What is answered of an input: whether it is held, and of a struct at which of its lifetimes, for which returned ones.
use Rattle.std.specs.Prelude.{◌≡◌, ◌≢◌, ⊤, ℕ, List, [], Bool, true, false, Option, Some, None, IsTrue, slice_get, nat_lt, nat_eq, ◌&&◌}
use Rattle.std.specs.Ordering.{nat_cmp}
use Rattle.std.specs.BTreeMap as by_key
use Rattle.std.specs.BTreeMap.{BTreeMap}
use Rattle.std.specs.BTreeSet.{BTreeSet}
use Rattle.hir_life.specs.Environment.{Environment}
use Rattle.hir_life.specs.declared.maybe_static.MaybeStatic.{MaybeStatic}
use Rattle.hir_life.specs.declared.maybe_static.MaybeStatic.TheVariants.{Static, NonStatic}
use Rattle.hir_ids.specs.declared.ids.TypeId.{TypeId}
use Rattle.hir_context.specs.Lookups.{environment_at}
use Rattle.hir_context.specs.declared.parts.Definitions.{Definitions}
use Rattle.hir_skeleton.specs.Leaves.{number_passes}
use Rattle.hir_skeleton.specs.Skeletons.{Skeleton, Carrier, Struct}
use Rattle.hir_borrowing_params.specs.Edges.{EdgeKind, HeldFor, is_in}
use Rattle.hir_borrowing_params.specs.declared.infos.StructBorrowInfo.{StructBorrowInfo}
use Rattle.hir_borrowing_params.specs.declared.infos.ParamBorrowInfo.{ParamBorrowInfo}
use Rattle.hir_borrowing_params.specs.declared.infos.ParamBorrowInfo.TheVariants as info

-- whether there is one, and it passes
abbrev pub some_passes : {X : Type 0} → (X → Bool) → Option X → Bool
some_passes test None = false
some_passes test (Some x) = test x

-- whether what stands at d in a list has t
abbrev pub row_at : {X : Type 0} → (X → ℕ → Bool) → List X → ℕ → ℕ → Bool
row_at row xs d t = some_passes (λ x. row x t) (slice_get xs d)

-- whether the set at d has t
abbrev pub maps_to : BTreeMap ℕ (BTreeSet ℕ) → ℕ → ℕ → Bool
maps_to sets d t = some_passes (λ set. is_in set t) (by_key.get nat_cmp sets d)

-- no set is empty
abbrev pub HasNoEmpty : BTreeMap ℕ (BTreeSet ℕ) → Type 0
HasNoEmpty sets = (d : ℕ) (set : BTreeSet ℕ) → by_key.get nat_cmp sets d ≡ Some set → (t : ℕ) × IsTrue (is_in set t)

-- at each number there is the set of what the thing at this place has, and none where it has nothing
pub record MapsRows {X : Type 0} (row : X → ℕ → Bool) (xs : List X) (sets : BTreeMap ℕ (BTreeSet ℕ)) : Type 0 where
  pub at : (d t : ℕ) → maps_to sets d t ≡ row_at row xs d t
  pub some : HasNoEmpty sets

-- something in the list has something
pub record HasRow {X : Type 0} (row : X → ℕ → Bool) (xs : List X) : Type 0 where
  pub d : ℕ
  pub t : ℕ
  pub has : IsTrue (row_at row xs d t)

-- whether the lifetime is the one of number t, among the first n: those of a definition
abbrev pub is_own_at : ℕ → MaybeStatic ℕ → ℕ → Bool
is_own_at n Static t = false
is_own_at n (NonStatic l) t = nat_eq l t && nat_lt l n

-- whether the lifetime is a number that counts for t
abbrev pub counts_for : (ℕ → Option HeldFor) → MaybeStatic ℕ → ℕ → Bool
counts_for under l t = some_passes (λ h. number_passes (is_in h.longer) l) (under t)

-- what is told of a struct: its environment, and at each of its lifetimes the set of what this has
pub record TellsStruct (env : Environment) (row : MaybeStatic ℕ → ℕ → Bool) (args : List (MaybeStatic ℕ)) (told : StructBorrowInfo) : Type 0 where
  pub environment : told.env.now ≡ env
  pub map : MapsRows row args told.borrowed_struct_lifetime_map

-- what is told of a field that is a struct of this id with these arguments, in a struct of n lifetimes: nothing exactly
-- where no argument is one of the n; and else at each position of such an argument the set of it alone
abbrev pub TellsField : Definitions → ℕ → TypeId → List (MaybeStatic ℕ) → Option StructBorrowInfo → Type 0
TellsField defs n id args None = HasRow (is_own_at n) args → ⊥
TellsField defs n id args (Some told) =
    HasRow (is_own_at n) args × (env : Environment) × (environment_at defs id ≡ Some env) × TellsStruct env (is_own_at n) args told

-- the input is held for some returned lifetime; and for none. What is kept of these is `under`
pub record IsHeld (under : ℕ → Option HeldFor) (edges : (ℕ → Bool) → List EdgeKind) : Type 0 where
  pub t : ℕ
  pub h : HeldFor
  pub here : under t ≡ Some h
  pub some : edges (is_in h.longer) ≢ []

abbrev pub IsUnheld : (ℕ → Option HeldFor) → ((ℕ → Bool) → List EdgeKind) → Type 0
IsUnheld under edges = (t : ℕ) (h : HeldFor) → under t ≡ Some h → edges (is_in h.longer) ≡ []

-- it is a carrier; and it is a struct of which this is told
abbrev pub IsCarrier : Skeleton TypeId → Type 0
IsCarrier (Carrier lifetimes) = ⊤
IsCarrier s = ⊥

abbrev pub TellsInput : Definitions → (ℕ → Option HeldFor) → Skeleton TypeId → StructBorrowInfo → Type 0
TellsInput defs under (Struct id args) told =
    (env : Environment) × (environment_at defs id ≡ Some env) × TellsStruct env (counts_for under) args told
TellsInput defs under s told = ⊥

-- the answer on an input, which is a slice or isn't: that it is held for nothing, and whether it has to be kept for the
-- call at least; or by what kind of type it is held
abbrev pub TellsParam : Definitions → (ℕ → Option HeldFor) → Bool → Skeleton TypeId → ((ℕ → Bool) → List EdgeKind) → ParamBorrowInfo → Type 0
TellsParam defs under is_slice s edges info.NotBorrowed = IsUnheld under edges × (is_slice ≡ false)
TellsParam defs under is_slice s edges info.TemporarySlice = IsUnheld under edges × (is_slice ≡ true)
TellsParam defs under is_slice s edges info.BorrowedSlice = IsHeld under edges × IsCarrier s × (is_slice ≡ true)
TellsParam defs under is_slice s edges info.BorrowedOpaque = IsHeld under edges × IsCarrier s × (is_slice ≡ false)
TellsParam defs under is_slice s edges (info.Struct told) = IsHeld under edges × TellsInput defs under s told
