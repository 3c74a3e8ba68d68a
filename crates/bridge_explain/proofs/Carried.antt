-- What leaves of the inputs of a method carry are lifetimes of the method.
use Rattle.std.proofs.Common.{◌≡◌, ◌+◌, ℕ, zero, suc, Bool, true, false, cond, List, [], ◌∷◌, map, arith}
use Rattle.std.specs.Prelude.{not, slice_index_or}
use Rattle.std.specs.List.{All, enumerate_from, filter, flat_map, range_with_len}
use Rattle.std.proofs.lemmas.List.Elements.{All-append, All-cons, All-head, All-nil, All-tail}
use Rattle.hir_context.specs.declared.parts.Definitions.{Definitions}
use Rattle.hir_definitions.specs.declared.methods.Method.{Method}
use Rattle.hir_life.specs.Substitution.{AreBelow, IsBelow, identity, subst_each}
use Rattle.hir_life.specs.declared.maybe_static.MaybeStatic.{MaybeStatic}
use Rattle.hir_life.specs.declared.maybe_static.MaybeStatic.TheVariants.{Static, NonStatic}
use Rattle.hir_skeleton.specs.Inputs.{fields_in, method_inputs, method_leaves, path_names}
use Rattle.hir_skeleton.specs.Leaves.{DeepLeaf, are_same, each_once, in_field, input_leaves, struct_leaves, type_leaves}
use Rattle.hir_skeleton.specs.NamedLeaves.{NamedLeaf, borrowing_leaves, leaf_named}
use Rattle.hir_skeleton.specs.Skeletons.{Skeleton, Nothing, Carrier, Struct}

module _ (n : ℕ) where
  abbrev Below : DeepLeaf → Type 0
  Below leaf = AreBelow n leaf.carried

  filtered : (test : MaybeStatic ℕ → Bool) (ls : List (MaybeStatic ℕ)) → AreBelow n ls → AreBelow n (filter test ls)
  filtered test [] all = All-nil (IsBelow n)
  filtered test (l ∷ ls) all = by_test (test l) (filtered test ls (All-tail (IsBelow n) l ls all)) where
    by_test : (b : Bool) → AreBelow n (filter test ls) → AreBelow n (cond b (l ∷ filter test ls) (filter test ls))
    by_test true rest = All-cons (IsBelow n) l (filter test ls) (All-head (IsBelow n) l ls all) rest
    by_test false rest = rest

  once_below : (ls : List (MaybeStatic ℕ)) → AreBelow n ls → AreBelow n (each_once ls)
  once_below [] all = All-nil (IsBelow n)
  once_below (l ∷ ls) all =
      All-cons (IsBelow n) l (filter (λ m. not (are_same l m)) (each_once ls)) (All-head (IsBelow n) l ls all)
      (filtered (λ m. not (are_same l m)) (each_once ls) (once_below ls (All-tail (IsBelow n) l ls all)))

  -- what stands for a lifetime is an argument, or `'static`
  arg_below : (args : List (MaybeStatic ℕ)) → AreBelow n args → (l : ℕ) → IsBelow n (slice_index_or args l Static)
  arg_below [] all l = tt
  arg_below (a ∷ args) all zero = All-head (IsBelow n) a args all
  arg_below (a ∷ args) all (suc l) = arg_below args (All-tail (IsBelow n) a args all) l

  given_below : (args : List (MaybeStatic ℕ)) → AreBelow n args → (ls : List (MaybeStatic ℕ)) → AreBelow n (subst_each ls args)
  given_below args all [] = All-nil (IsBelow n)
  given_below args all (Static ∷ ls) = All-cons (IsBelow n) Static (subst_each ls args) tt (given_below args all ls)
  given_below args all (NonStatic l ∷ ls) =
      All-cons (IsBelow n) (slice_index_or args l Static) (subst_each ls args) (arg_below args all l) (given_below args all ls)

  -- ---- at any depth

  in_below : (i : ℕ) (leaves : List DeepLeaf) → All Below leaves → All Below (map (in_field i) leaves)
  in_below i [] all = All-nil Below
  in_below i (leaf ∷ leaves) all =
      All-cons Below (in_field i leaf) (map (in_field i) leaves) (All-head Below leaf leaves all) (in_below i leaves (All-tail Below leaf leaves all))

  fields_below : {K : Type 0} (of_field : Skeleton K → List DeepLeaf) → ((s : Skeleton K) → All Below (of_field s)) → (i : ℕ) (fields : List (Skeleton K))
      → All Below (flat_map (λ field. map (in_field field.0) (of_field field.1)) (enumerate_from i fields))
  fields_below of_field each i [] = All-nil Below
  fields_below of_field each i (s ∷ fields) =
      All-append Below (map (in_field i) (of_field s)) (flat_map (λ field. map (in_field field.0) (of_field field.1)) (enumerate_from (i + 1) fields))
      (in_below i (of_field s) (each s)) (fields_below of_field each (i + 1) fields)

  type_below : {K : Type 0} (of_struct : K → List (MaybeStatic ℕ) → List DeepLeaf) → ((key : K) (args : List (MaybeStatic ℕ)) → AreBelow n args → All Below (of_struct key args))
      → (args : List (MaybeStatic ℕ)) → AreBelow n args → (s : Skeleton K) → All Below (type_leaves of_struct args s)
  type_below of_struct each args all Nothing = All-nil Below
  type_below of_struct each args all (Carrier ls) =
      All-cons Below (record { path = []; carried = each_once (subst_each ls args) }) [] (once_below (subst_each ls args) (given_below args all ls)) (All-nil Below)
  type_below of_struct each args all (Struct key own) = each key (subst_each own args) (given_below args all own)

  struct_below : {K : Type 0} (fields_of : K → List (Skeleton K)) (levels : ℕ) (key : K) (args : List (MaybeStatic ℕ)) → AreBelow n args
      → All Below (struct_leaves fields_of levels key args)
  struct_below fields_of zero key args all = All-nil Below
  struct_below fields_of (suc levels) key args all =
      fields_below (type_leaves (struct_leaves fields_of levels) args) (type_below (struct_leaves fields_of levels) (struct_below fields_of levels) args all) 0 (fields_of key)

  -- ---- the lifetimes of a method stand for themselves

  range_below : (from len : ℕ) → from + len ≡ n → AreBelow n (map (λ l. NonStatic l) (range_with_len from len))
  range_below from zero all = All-nil (IsBelow n)
  range_below from (suc len) all =
      All-cons (IsBelow n) (NonStatic from) (map (λ l. NonStatic l) (range_with_len (from + 1) len)) (omega (arith, all)) (range_below (from + 1) len (omega (arith, all)))

  identity_below : AreBelow n (identity n)
  identity_below = range_below 0 n (omega arith)

named_below : (n : ℕ) (names : List ℕ → List (List ℕ)) (leaves : List DeepLeaf) → All (Below n) leaves → All (λ (leaf : NamedLeaf). AreBelow n leaf.carried) (map (leaf_named names) leaves)
named_below n names [] all = All-nil (λ (leaf : NamedLeaf). AreBelow n leaf.carried)
named_below n names (leaf ∷ leaves) all =
    All-cons (λ (leaf : NamedLeaf). AreBelow n leaf.carried) (leaf_named names leaf) (map (leaf_named names) leaves) (All-head (Below n) leaf leaves all)
    (named_below n names leaves (All-tail (Below n) leaf leaves all))

-- so it is of each leaf of a method
pub carried_below : (defs : Definitions) (name : List ℕ) (m : Method) → All (λ (leaf : NamedLeaf). AreBelow m.lifetime_env.count leaf.carried) (borrowing_leaves defs name m)
carried_below defs name m =
    let n = m.lifetime_env.count in
    named_below n (path_names defs name m) (method_leaves defs m)
    (fields_below n (input_leaves (fields_in defs) n)
    (type_below n (struct_leaves (fields_in defs) 256) (struct_below n (fields_in defs) 256) (identity n) (identity_below n)) 0 (method_inputs m))
