-- Lifetimes that stand for themselves.
use Rattle.std.proofs.Common.{◌≡◌, ℕ, ◌<◌, ◌+◌, Bool, cond, ◌||◌, Some, None, List, [], ◌∷◌, map, length, get_or, refl, sym, ap, ◌∙◌, arith, ext_get_or}
use Rattle.std.specs.List.{range_with_len, list_any, filter_map, cons_option, enumerate_from}
use Rattle.std.proofs.lemmas.List.Elements.{All-head, All-tail}
use Rattle.std.proofs.lemmas.List.FromFn.{get_or-map-range_with_len, length-map-range_with_len}
use Rattle.hir_life.specs.Substitution.{subst_each, identity, IsBelow, AreBelow}
use Rattle.hir_life.specs.declared.maybe_static.MaybeStatic.{MaybeStatic}
use Rattle.hir_life.specs.declared.maybe_static.MaybeStatic.TheVariants.{Static, NonStatic}
use Rattle.hir_skeleton.specs.Skeletons.{Skeleton, Nothing, Carrier, Struct, HasLifetimesBelow}
use Rattle.hir_skeleton.specs.Edges.{Whole, Position, edge_at, shallow_edges}
use Rattle.hir_skeleton.specs.Leaves.{deep_leaves, listed_paths, number_passes, through}
use Rattle.hir_skeleton.proofs.Passing.{through_twice}
use Rattle.hir_skeleton.proofs.Nesting.{type_paths, struct_paths, lists, lists_in}

substituted_range : (args : List (MaybeStatic ℕ)) (ns : List ℕ) → subst_each (map (λ l. NonStatic l) ns) args ≡ map (λ n. get_or args n Static) ns
substituted_range args [] = refl
substituted_range args (n ∷ ns) = ap (λ rest. get_or args n Static ∷ rest) (substituted_range args ns)

read_in_order : (args : List (MaybeStatic ℕ)) → map (λ n. get_or args n Static) (range_with_len 0 (length args)) ≡ args
read_in_order args =
    ext_get_or Static _ args (length-map-range_with_len (λ n. get_or args n Static) 0 (length args))
    (λ i within. let there : i < length args = subst_length i within in get_or-map-range_with_len (λ n. get_or args n Static) 0 (length args) i i Static there (omega arith))
  where
    subst_length : (i : ℕ) → i < length (map (λ n. get_or args n Static) (range_with_len 0 (length args))) → i < length args
    subst_length i within = omega (arith, within, length-map-range_with_len (λ n. get_or args n Static) 0 (length args))

-- arguments that stand for lifetimes that stand for themselves
own_given : (args : List (MaybeStatic ℕ)) → subst_each (identity (length args)) args ≡ args
own_given args = substituted_range args (range_with_len 0 (length args)) ∙ read_in_order args

pub lists_through : {K : Type 0} (fields_of : K → List (Skeleton K)) (levels : ℕ) (args : List (MaybeStatic ℕ)) (s : Skeleton K) (test : ℕ → Bool)
    → listed_paths test (deep_leaves fields_of levels args s) ≡ listed_paths (through test args) (deep_leaves fields_of levels (identity (length args)) s)
lists_through fields_of levels args s test =
    lists_in fields_of test levels (lists fields_of test levels) args s
    ∙ ap (λ tested. type_paths fields_of (struct_paths fields_of levels) tested s) (ap (through test) (sym (own_given args)) ∙ sym (through_twice test args (identity (length args))))
    ∙ sym (lists_in fields_of (through test args) levels (lists fields_of (through test args) levels) (identity (length args)) s)

-- a method's lifetimes stand for themselves
module _ (count : ℕ) (test : ℕ → Bool) where
  own_passes : (l : MaybeStatic ℕ) → IsBelow count l → number_passes (through test (identity count)) l ≡ number_passes test l
  own_passes Static within = refl
  own_passes (NonStatic l) within =
      ap (number_passes test) (get_or-map-range_with_len (λ n. NonStatic n) 0 count l l Static within (omega arith))

  any_own : (ls : List (MaybeStatic ℕ)) → AreBelow count ls → list_any (number_passes (through test (identity count))) ls ≡ list_any (number_passes test) ls
  any_own [] within = refl
  any_own (l ∷ ls) within =
      λ i. own_passes l (All-head (IsBelow count) l ls within) i || any_own ls (All-tail (IsBelow count) l ls within) i

  positions_own : {K : Type 0} (optional : Bool) (key : K) (m : ℕ) (args : List (MaybeStatic ℕ)) → AreBelow count args
      → filter_map (edge_at (through test (identity count)) optional key) (enumerate_from m args) ≡ filter_map (edge_at test optional key) (enumerate_from m args)
  positions_own optional key m [] within = refl
  positions_own optional key m (a ∷ args) within =
      λ i. cons_option (cond (own_passes a (All-head (IsBelow count) a args within) i) (Some (Position key m optional)) None)
      (positions_own optional key (m + 1) args (All-tail (IsBelow count) a args within) i)

  pub edges_own : {K : Type 0} (optional : Bool) (s : Skeleton K) → HasLifetimesBelow count s → shallow_edges (through test (identity count)) optional s ≡ shallow_edges test optional s
  edges_own optional Nothing within = refl
  edges_own optional (Carrier ls) within = ap (λ b. cond b (Whole ∷ []) []) (any_own ls within)
  edges_own optional (Struct key args) within = positions_own optional key 0 args within
