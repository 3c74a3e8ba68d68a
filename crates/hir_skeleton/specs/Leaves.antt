-- The parts of an input that carry lifetimes themselves, at any depth, and which of them a lifetime may be borrowed
-- from. In the example of `Skeletons` the field `page` is the only one of `mark`: it carries 'a, and 'b.
use Rattle.std.specs.Prelude.{ℕ, zero, suc, List, [], ◌∷◌, ◌==◌, map, Bool, true, false, not, Decides}
use Rattle.std.specs.List.{flat_map, filter, list_any, enumerate_from}
use Rattle.hir_life.specs.Outlives.{Outlives}
use Rattle.hir_life.specs.Substitution.{identity, subst, subst_each}
use Rattle.hir_life.specs.declared.maybe_static.MaybeStatic.{MaybeStatic}
use Rattle.hir_life.specs.declared.maybe_static.MaybeStatic.TheVariants.{Static, NonStatic}
use Rattle.hir_skeleton.specs.Skeletons.{Skeleton, Nothing, Carrier, Struct}

-- a leaf: where it stands, as the numbers of the fields from outside to inside, and what it carries: 0 alone, with 'a and 'b
pub record DeepLeaf : Type 0 where
  pub path : List ℕ
  pub carried : List (MaybeStatic ℕ)

-- whether two lifetimes are the same
abbrev pub are_same : MaybeStatic ℕ → MaybeStatic ℕ → Bool
are_same Static Static = true
are_same (NonStatic l) (NonStatic m) = l == m
are_same _ _ = false

-- each lifetime of the list once, at its first place
abbrev pub each_once : List (MaybeStatic ℕ) → List (MaybeStatic ℕ)
each_once [] = []
each_once (l ∷ ls) = l ∷ filter (λ m. not (are_same l m)) (each_once ls)

-- the same in the field of this number
abbrev pub in_field : ℕ → DeepLeaf → DeepLeaf
in_field i leaf = record leaf { path = i ∷ leaf.path }

-- what each field gives, in order, put below the field's number
abbrev pub from_fields : {K A : Type 0} → (ℕ → A → A) → (Skeleton K → List A) → List (Skeleton K) → List A
from_fields below of_field fields = flat_map (λ field. map (below field.0) (of_field field.1)) (enumerate_from 0 fields)

-- the leaves of a type in which these arguments stand for its lifetimes, from those of structs with their arguments
abbrev pub type_leaves : {K : Type 0} → (K → List (MaybeStatic ℕ) → List DeepLeaf) → List (MaybeStatic ℕ) → Skeleton K → List DeepLeaf
type_leaves of_struct args Nothing = []
type_leaves of_struct args (Carrier lifetimes) =
    record { path = []; carried = each_once (subst_each lifetimes args) } ∷ []
type_leaves of_struct args (Struct key given) = of_struct key (subst_each given args)

-- the leaves of a struct with these arguments, so many levels deep, where it is known which fields a struct has
abbrev pub struct_leaves : {K : Type 0} → (K → List (Skeleton K)) → ℕ → K → List (MaybeStatic ℕ) → List DeepLeaf
struct_leaves fields_of zero key args = []
struct_leaves fields_of (suc levels) key args =
    from_fields in_field (type_leaves (struct_leaves fields_of levels) args) (fields_of key)

-- the leaves of anything that is given these arguments, so many levels deep
abbrev pub deep_leaves : {K : Type 0} → (K → List (Skeleton K)) → ℕ → List (MaybeStatic ℕ) → Skeleton K → List DeepLeaf
deep_leaves fields_of levels args s = type_leaves (struct_leaves fields_of levels) args s

-- the leaves of an input of a method with so many lifetimes, which stand for themselves. No struct
-- that is accepted nests deeper
abbrev pub input_leaves : {K : Type 0} → (K → List (Skeleton K)) → ℕ → Skeleton K → List DeepLeaf
input_leaves fields_of count input = deep_leaves fields_of 256 (identity count) input

-- the same leaf where these arguments stand for the lifetimes that it carries
abbrev pub given_leaf : List (MaybeStatic ℕ) → DeepLeaf → DeepLeaf
given_leaf args leaf = record leaf { carried = each_once (subst_each leaf.carried args) }

-- the test says of each lifetime whether it outlives t
abbrev pub TellsLonger : (ℕ → List ℕ) → ℕ → (ℕ → Bool) → Type 0
TellsLonger longer t test = (l : ℕ) → Decides (test l) (Outlives longer l t)

-- whether the lifetime is a number that passes: `'static` never does
abbrev pub number_passes : (ℕ → Bool) → MaybeStatic ℕ → Bool
number_passes test Static = false
number_passes test (NonStatic l) = test l

-- whether a number that it carries passes
abbrev pub leaf_passes : (ℕ → Bool) → DeepLeaf → Bool
leaf_passes test leaf = list_any (number_passes test) leaf.carried

-- where the leaves stand of which a carried number passes, in order: `page` under 'a, and under 'b
abbrev pub listed_paths : (ℕ → Bool) → List DeepLeaf → List (List ℕ)
listed_paths test leaves = map (λ leaf. leaf.path) (filter (leaf_passes test) leaves)

-- the test of what stands for the lifetimes of a definition as a test of these: the method's test of what outlives 'b
-- is one that 'y passes in `Mark`, and 'x doesn't
abbrev pub through : (ℕ → Bool) → List (MaybeStatic ℕ) → ℕ → Bool
through test args l = number_passes test (subst (NonStatic l) args)
