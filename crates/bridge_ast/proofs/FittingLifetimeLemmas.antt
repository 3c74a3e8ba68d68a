-- The nodes of lifetimes pass the tests exactly where the lifetimes fit together.
use Rattle.std.proofs.Common.{◌≡◌, ℕ, ◌<◌, Bool, true, false, ◌||◌, List, [], ◌++◌, length, map, take, get_or, sym, refl, ap, ◌∙◌, arith, subst, inl, inr, Option, Some}
use Rattle.std.specs.Prelude.{nat_le, nat_lt, slice_get, option_map}
use Rattle.std.specs.List.{Contains, list_all}
use Rattle.std.proofs.lemmas.Bool.{leb-true, ltb-true, lt-ltb, cases_lt}
use Rattle.std.proofs.lemmas.List.{get_or-map, get_or_past, length-map, length-take-le}
use Rattle.std.proofs.lemmas.List.Elements.{Contains-get_or}
use Rattle.std.proofs.lemmas.Option.{slice_get_within, get_or_from_slice_get, slice_get-map}
use Rattle.std.proofs.lemmas.List.Sums.{AllPass-from_list_all, list_all-from_AllPass}
use Rattle.bridge_ast.specs.declared.bounds.Side.{Side}
use Rattle.bridge_ast.specs.declared.bounds.Side.TheVariants.{Longer, Shorter}
use Rattle.bridge_ast.specs.declared.fault.EnvPart.TheVariants as part
use Rattle.bridge_decl.specs.declared.lifetimes.LifetimeEnv.{LifetimeEnv}
use Rattle.bridge_decl.specs.declared.lifetimes.LifetimeNode.{LifetimeNode}
use Rattle.bridge_ast.specs.Bounds.{answered, has_number, in_range, listed, listed_at, opposite_of}
use Rattle.bridge_ast.specs.EnvFaults.{nodes_named, Named}
use Rattle.bridge_ast.specs.inside.Fitting.{FitNodes, FitsNode}
use Rattle.bridge_decl.specs.Lifetimes.{IsSoundEnvironment}
use Rattle.bridge_ast.proofs.AnsweredLemmas.{has}
use Rattle.bridge_ast.proofs.DistinctLemmas.{after_at, after_from, absent_from, none_of_names, names_after, distinct_after, named_apart}

-- a list that has something is one of the lists
in_lists : (lists : List (List ℕ)) (i n : ℕ) → Contains (get_or lists i []) n → i < length lists
in_lists lists i n h =
    elim (cases_lt i (length lists)) [
      | inl w ↦ w
      | inr w ↦ absurd (let P : List ℕ → Type 0 = λ list. Contains list n in let found = subst P (get_or_past lists i [] w) h in let none : found.0 < 0 = found.1 in omega arith)
    ]

passes : (p : ℕ → Bool) (xs : List ℕ) (x : ℕ) → list_all p xs ≡ true → Contains xs x → p x ≡ true
passes p xs x all h = subst (λ y. p y ≡ true) h.2 (AllPass-from_list_all p xs all h.0 x h.1)

or_else : (a b : Bool) → (a || b) ≡ true → ¬ (a ≡ true) → b ≡ true
or_else true b h never = absurd (never refl)
or_else false b h never = h

-- ---- bounds

-- any node
pub nameless : LifetimeNode
nameless = record { name = []; longer = []; shorter = [] }

module _ (side : Side) (nodes : List LifetimeNode) (from to : ℕ) where
  listed_within : Contains (listed_at side nodes from) to → from < length nodes
  listed_within h = let lt = in_lists (map (listed side) nodes) from to h in omega (arith, length-map nodes (listed side))

  -- what is listed at a place is listed by the node there
  listed_there : Contains (listed_at side nodes from) to → Contains (listed side (get_or nodes from nameless)) to
  listed_there h = subst (λ ls. Contains ls to) (get_or-map (listed side) nodes from nameless [] (listed_within h)) h

  range_there : in_range side nodes (get_or nodes from nameless) ≡ true → Contains (listed_at side nodes from) to → to < length nodes
  range_there ranged h =
      ltb-true to (length nodes) (passes (λ n. nat_lt n (length nodes)) (listed side (get_or nodes from nameless)) to ranged (listed_there h))

  answered_there : (number : ℕ) → number ≡ from → to < length nodes → answered side nodes number (get_or nodes from nameless) ≡ true
      → Contains (listed_at side nodes from) to → Contains (listed_at (opposite_of side) nodes to) from
  answered_there number is within answers h =
      let passed = passes (λ n. nat_le (length nodes) n || has_number number (listed_at (opposite_of side) nodes n))
      (listed side (get_or nodes from nameless)) to answers (listed_there h) in
      let there : has_number number (listed_at (opposite_of side) nodes to) ≡ true =
      or_else (nat_le (length nodes) to) (has_number number (listed_at (opposite_of side) nodes to)) passed
      (λ past. let le = leb-true (length nodes) to past in omega arith) in
      subst (Contains (listed_at (opposite_of side) nodes to)) is ((has number (listed_at (opposite_of side) nodes to)).0 there)

-- ---- lifetimes

module _ (item : ℕ) (method : Option ℕ) (env : LifetimeEnv) where
  abbrev name_of_node : LifetimeNode → List ℕ
  name_of_node node = node.name

  names_of_nodes : (nodes : List LifetimeNode) → map (λ (n : Named). n.0) (nodes_named item method nodes) ≡ map name_of_node nodes
  names_of_nodes nodes = names_after name_of_node (λ n. part.Node item method n) [] nodes

  node_absent : (before : List LifetimeNode) (node : LifetimeNode) → FitsNode item method env.nodes before node
      → ¬ Contains ([] ++ map name_of_node before) node.name
  node_absent before node fits =
      subst (λ names. ¬ Contains names node.name) (names_of_nodes before)
      (absent_from (nodes_named item method before) node.name fits.new)

  module _ (fit : FitNodes item method env.nodes) where
    node_at : (n : ℕ) → n < length env.nodes → FitsNode item method env.nodes (take n env.nodes) (get_or env.nodes n nameless)
    node_at n lt = after_at (FitsNode item method env.nodes) [] env.nodes n nameless fit lt

    number_at : (n : ℕ) → n < length env.nodes → length (take n env.nodes) ≡ n
    number_at n lt = omega (arith, length-take-le n env.nodes)

    longer_in_range : (s l : ℕ) → Contains (listed_at Longer env.nodes s) l → l < length env.nodes
    longer_in_range s l h = range_there Longer env.nodes s l (node_at s (listed_within Longer env.nodes s l h)).longer_declared h

    shorter_in_range : (l s : ℕ) → Contains (listed_at Shorter env.nodes l) s → s < length env.nodes
    shorter_in_range l s h = range_there Shorter env.nodes l s (node_at l (listed_within Shorter env.nodes l s h)).shorter_declared h

    -- lifetimes whose nodes pass the tests fit together
    pub lifetimes_from : IsSoundEnvironment env
    lifetimes_from = record {
      distinct =
          distinct_after name_of_node [] (FitsNode item method env.nodes) node_absent [] env.nodes
          (λ i j d less lt. absurd (omega arith)) fit;
      bounds = record {
        longer_named = λ s l h. longer_in_range s l h;
        shorter_named = λ l s h. shorter_in_range l s h;
        longer_has_shorter = λ l s h.
            let lt = listed_within Longer env.nodes s l h in
            answered_there Longer env.nodes s l (length (take s env.nodes)) (number_at s lt) (longer_in_range s l h) (node_at s lt).longer_has_shorter h;
        shorter_has_longer = λ l s h.
            let lt = listed_within Shorter env.nodes l s h in
            answered_there Shorter env.nodes l s (length (take l env.nodes)) (number_at l lt) (shorter_in_range l s h) (node_at l lt).shorter_has_longer h;
      };
    }

  module _ (n : ℕ) (node : LifetimeNode) (h : slice_get env.nodes n ≡ Some node) where
    listed_here : (side : Side) (to : ℕ) → Contains (listed side node) to → Contains (listed_at side env.nodes n) to
    listed_here side to there =
        subst (λ ls. Contains ls to)
        (sym (get_or_from_slice_get (map (listed side) env.nodes) n (listed side node) []
        (slice_get-map (listed side) env.nodes n ∙ ap (option_map (listed side)) h)))
        there

    in_range_from : (side : Side) → ((to : ℕ) → Contains (listed_at side env.nodes n) to → to < length env.nodes)
        → in_range side env.nodes node ≡ true
    in_range_from side within =
        list_all-from_AllPass (λ to. nat_lt to (length env.nodes)) (listed side node)
        (λ k d lt. let to = get_or (listed side node) k d in lt-ltb to (length env.nodes)
        (within to (listed_here side to (Contains-get_or (listed side node) k d lt))))

    answered_from : (side : Side) (number : ℕ) → number ≡ n
        → ((to : ℕ) → Contains (listed_at side env.nodes n) to → Contains (listed_at (opposite_of side) env.nodes to) n)
        → answered side env.nodes number node ≡ true
    answered_from side number is back =
        list_all-from_AllPass (λ to. nat_le (length env.nodes) to || has_number number (listed_at (opposite_of side) env.nodes to)) (listed side node)
        (λ k d lt. let to = get_or (listed side node) k d in
        or_right (nat_le (length env.nodes) to) (has_number number (listed_at (opposite_of side) env.nodes to))
        ((has number (listed_at (opposite_of side) env.nodes to)).1
        (subst (Contains (listed_at (opposite_of side) env.nodes to)) (sym is)
        (back to (listed_here side to (Contains-get_or (listed side node) k d lt))))))
      where
        or_right : (a b : Bool) → b ≡ true → (a || b) ≡ true
        or_right true b e = refl
        or_right false b e = e

  -- and the nodes of lifetimes that fit together pass the tests
  pub lifetimes_to : IsSoundEnvironment env → FitNodes item method env.nodes
  lifetimes_to sound =
      after_from (FitsNode item method env.nodes) [] env.nodes
      (λ n node h.
      let count : length (take n env.nodes) ≡ n = (let lt = slice_get_within env.nodes n node h in omega (arith, length-take-le n env.nodes)) in
      record {
        new =
            none_of_names (nodes_named item method (take n env.nodes)) node.name
            (subst (λ names. ¬ Contains names node.name) (sym (names_of_nodes (take n env.nodes)))
            (named_apart name_of_node [] env.nodes n node sound.distinct h));
        longer_declared = in_range_from n node h Longer (λ to there. sound.bounds.longer_named n to there);
        shorter_declared = in_range_from n node h Shorter (λ to there. sound.bounds.shorter_named n to there);
        longer_has_shorter = answered_from n node h Longer (length (take n env.nodes)) count (λ to there. sound.bounds.longer_has_shorter to n there);
        shorter_has_longer = answered_from n node h Shorter (length (take n env.nodes)) count (λ to there. sound.bounds.shorter_has_longer n to there);
      })
