-- The edges of a struct, and all edges followed down.
use Rattle.std.proofs.Common.{◌≡◌, ◌↔◌, inl, inr, ℕ, zero, suc, ◌≤◌, ◌+◌, Bool, true, false, true≢false, cond, List, [], ◌∷◌, length, Some, None, refl, sym, ap, ◌∙◌, subst, arith}
use Rattle.std.specs.List.{Contains, filter_map, cons_option, list_any, enumerate_from}
use Rattle.hir_life.specs.Substitution.{identity}
use Rattle.hir_life.specs.declared.maybe_static.MaybeStatic.{MaybeStatic}
use Rattle.hir_skeleton.specs.Skeletons.{HasLifetimesBelow, Skeleton, Nothing, Carrier, Struct}
use Rattle.hir_skeleton.specs.Leaves.{number_passes, deep_leaves, listed_paths, through}
use Rattle.hir_skeleton.specs.Edges.{ShallowEdge, Whole, Position, edge_at, shallow_edges, LeadsDown, Unfolds}
use Rattle.hir_skeleton.proofs.Members.{none_in_nothing, first_is_there, later_is_there, member_cases}
use Rattle.hir_skeleton.proofs.Nesting.{type_paths, struct_paths, lists, lists_in}
use Rattle.hir_skeleton.proofs.Own.{edges_own}
use Rattle.hir_skeleton.proofs.Unfolding.{the_empty_path, empty_path_there, short_enough, the_whole, whole_there, leads}

module _ {K : Type 0} (test : ℕ → Bool) (optional : Bool) (key : K) where
  -- the edges of the arguments from the number m on
  abbrev pub edges_from : ℕ → List (MaybeStatic ℕ) → List (ShallowEdge K)
  edges_from m args = filter_map (edge_at test optional key) (enumerate_from m args)

  -- an edge at a position whose argument passes
  pub record AtPosition (m : ℕ) (args : List (MaybeStatic ℕ)) (edge : ShallowEdge K) : Type 0 where
    pub number : ℕ
    pub passes : through test args number ≡ true
    pub is : edge ≡ Position key (m + number) optional

  next_position : (m : ℕ) (a : MaybeStatic ℕ) (args : List (MaybeStatic ℕ)) (edge : ShallowEdge K) → AtPosition (m + 1) args edge → AtPosition m (a ∷ args) edge
  next_position m a args edge at =
      let same : m + 1 + at.number ≡ m + suc at.number = omega arith in
      record { number = suc at.number; passes = at.passes; is = at.is ∙ ap (λ n. Position key n optional) same }

  first_or_later : (m : ℕ) (a : MaybeStatic ℕ) (args : List (MaybeStatic ℕ)) (edge : ShallowEdge K) (b : Bool) → number_passes test a ≡ b
      → Contains (cons_option (cond b (Some (Position key m optional)) None) (edges_from (m + 1) args)) edge → (Contains (edges_from (m + 1) args) edge → AtPosition (m + 1) args edge)
      → AtPosition m (a ∷ args) edge
  first_or_later m a args edge true passes h later =
      elim (member_cases (Position key m optional) edge (edges_from (m + 1) args) h) [
        | inl is ↦ let same : m ≡ m + 0 = omega arith in
            record { number = 0; passes = passes; is = sym is ∙ ap (λ n. Position key n optional) same }
        | inr more ↦ next_position m a args edge (later more)
      ]
  first_or_later m a args edge false fails h later = next_position m a args edge (later h)

  pub position_of : (m : ℕ) (args : List (MaybeStatic ℕ)) (edge : ShallowEdge K) → Contains (edges_from m args) edge → AtPosition m args edge
  position_of m [] edge h = absurd (none_in_nothing edge h)
  position_of m (a ∷ args) edge h = first_or_later m a args edge (number_passes test a) refl h (position_of (m + 1) args edge)

  first_there : (m : ℕ) (rest : List (ShallowEdge K)) (b : Bool) → b ≡ true → Contains (cons_option (cond b (Some (Position key m optional)) None) rest) (Position key m optional)
  first_there m rest true holds = first_is_there (Position key m optional) rest
  first_there m rest false holds = absurd (true≢false (sym holds))

  later_there : (m : ℕ) (rest : List (ShallowEdge K)) (b : Bool) (edge : ShallowEdge K) → Contains rest edge → Contains (cons_option (cond b (Some (Position key m optional)) None) rest) edge
  later_there m rest true edge h = later_is_there (Position key m optional) edge rest h
  later_there m rest false edge h = h

  pub position_there : (m : ℕ) (args : List (MaybeStatic ℕ)) (d : ℕ) → through test args d ≡ true → Contains (edges_from m args) (Position key (m + d) optional)
  position_there m [] d holds = absurd (true≢false (sym holds))
  position_there m (a ∷ args) zero holds =
      let same : m ≡ m + 0 = omega arith in
      subst (λ n. Contains (edges_from m (a ∷ args)) (Position key n optional)) same (first_there m (edges_from (m + 1) args) (number_passes test a) holds)
  position_there m (a ∷ args) (suc d) holds =
      let same : m + 1 + d ≡ m + suc d = omega arith in
      later_there m (edges_from (m + 1) args) (number_passes test a) (Position key (m + suc d) optional)
      (subst (λ n. Contains (edges_from (m + 1) args) (Position key n optional)) same (position_there (m + 1) args d holds))

module _ {K : Type 0} (fields_of : K → List (Skeleton K)) where
  -- an edge stands for the path
  abbrev pub IsUnfolded : ℕ → (ℕ → Bool) → Bool → Skeleton K → List ℕ → Type 0
  IsUnfolded n test optional s path = (length path ≤ n) × (edge : ShallowEdge K) × Contains (shallow_edges test optional s) edge × Unfolds fields_of edge path

  unfolds : (n : ℕ) (test : ℕ → Bool) (optional : Bool) (s : Skeleton K) (path : List ℕ) → Contains (type_paths fields_of (struct_paths fields_of n) test s) path → IsUnfolded n test optional s path
  unfolds n test optional Nothing path h = absurd (none_in_nothing path h)
  unfolds n test optional (Carrier ls) path h =
      let found = the_empty_path (list_any (number_passes test) ls) path h in
      (short_enough path n found.1, Whole, whole_there K (list_any (number_passes test) ls) found.0, found.1)
  unfolds n test optional (Struct key args) path h =
      let found = (leads fields_of n key (through test args) path).0 h in
      let same : 0 + found.1 ≡ found.1 = omega arith in (
        found.0,
        Position key found.1 optional,
        subst (λ d. Contains (shallow_edges test optional (Struct key args)) (Position key d optional)) same (position_there test optional key 0 args found.1 found.2),
        found.3,
      )

  unfolded : (n : ℕ) (test : ℕ → Bool) (optional : Bool) (s : Skeleton K) (path : List ℕ) → IsUnfolded n test optional s path → Contains (type_paths fields_of (struct_paths fields_of n) test s) path
  unfolded n test optional Nothing path h = absurd (none_in_nothing h.1 h.2)
  unfolded n test optional (Carrier ls) path h =
      let found = the_whole (list_any (number_passes test) ls) h.1 h.2 in
      empty_path_there (list_any (number_passes test) ls) path found.0 (subst (λ edge. Unfolds fields_of edge path) found.1 h.3)
  unfolded n test optional (Struct key args) path h =
      let at = position_of test optional key 0 args h.1 h.2 in
      let same : 0 + at.number ≡ at.number = omega arith in
      let leads_there : LeadsDown fields_of path key at.number =
      subst (λ edge. Unfolds fields_of edge path) (at.is ∙ ap (λ n. Position key n optional) same) h.3 in
      (leads fields_of n key (through test args) path).1 (h.0, at.number, at.passes, leads_there)

  pub list_is_unfolded : (n : ℕ) (test : ℕ → Bool) (optional : Bool) (args : List (MaybeStatic ℕ)) (s : Skeleton K) (path : List ℕ)
      → Contains (listed_paths test (deep_leaves fields_of n args s)) path ↔ IsUnfolded n (through test args) optional s path
  list_is_unfolded n test optional args s path =
      let same = lists_in fields_of test n (lists fields_of test n) args s in (
        λ h. unfolds n (through test args) optional s path (subst (λ paths. Contains paths path) same h),
        λ h. subst (λ paths. Contains paths path) (sym same) (unfolded n (through test args) optional s path h),
      )

  -- the same of a method's own lifetimes
  pub list_is_own : (n count : ℕ) (optional : Bool) (s : Skeleton K) (test : ℕ → Bool) (path : List ℕ) → HasLifetimesBelow count s
      → Contains (listed_paths test (deep_leaves fields_of n (identity count) s)) path ↔ IsUnfolded n test optional s path
  list_is_own n count optional s test path within =
      subst (λ edges. Contains (listed_paths test (deep_leaves fields_of n (identity count) s)) path ↔ (length path ≤ n) × (edge : ShallowEdge K) × Contains edges edge × Unfolds fields_of edge path)
      (edges_own count test optional s within) (list_is_unfolded n test optional (identity count) s path)
