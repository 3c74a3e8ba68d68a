-- Modules by their paths, with one module more.
use Rattle.std.proofs.Common.{◌≡◌, ℕ, zero, suc, Bool, true, false, cond, List, [], ◌∷◌, ◌++◌, length, map, Option, Some}
use Rattle.std.proofs.Common.{None, length-append, append_assoc, refl, sym, ap, ◌∙◌, arith, inl, inr, ◌⊎◌}
use Rattle.std.specs.Prelude.{option_map, slice_get}
use Rattle.std.proofs.lemmas.List.{append-nil}
use Rattle.std.proofs.lemmas.Option.{slice_get-map, get_or_from_slice_get}
use Rattle.std.proofs.lemmas.Slice.Eq.{bytes_eq-Decides, slice_eq-Decides}
use Rattle.bridge_decl.specs.declared.modules.Module.{Module}
use Rattle.bridge_ast.specs.EnvFaults.{path_eq, module_at, parent_and_last, named_at, named_in}
use Rattle.bridge_ast.specs.inside.Scopes.{ArePaths, IsUnder, IsParent}

pub same_path : (a b : List (List ℕ)) → path_eq a b ≡ true → a ≡ b
same_path a b h = (slice_eq-Decides bytes_eq-Decides a b (path_eq a b) refl).0 h

pub path_itself : (a : List (List ℕ)) → path_eq a a ≡ true
path_itself a = (slice_eq-Decides bytes_eq-Decides a a (path_eq a a) refl).1 refl

other_bool : (b : Bool) → (b ≡ true → ⊥) → b ≡ false
other_bool true apart = absurd (apart refl)
other_bool false apart = refl

pub other_path : (a b : List (List ℕ)) → (a ≡ b → ⊥) → path_eq a b ≡ false
other_path a b apart = other_bool (path_eq a b) (λ h. apart (same_path a b h))

-- ---- the ends of paths

pub parent_and_last-snoc : (path : List (List ℕ)) (name : List ℕ) → parent_and_last (path ++ name ∷ []) ≡ Some (path, name)
parent_and_last-snoc [] name = refl
parent_and_last-snoc (s ∷ []) name = refl
parent_and_last-snoc (s ∷ t ∷ path) name =
    ap (λ o. option_map (λ (split : List (List ℕ) × List ℕ). (s ∷ split.0, split.1)) o) (parent_and_last-snoc (t ∷ path) name)

pub snoc_same : (a b : List (List ℕ)) (x y : List ℕ) → a ++ x ∷ [] ≡ b ++ y ∷ [] → (a ≡ b) × (x ≡ y)
snoc_same a b x y e =
    let pairs : Some (a, x) ≡ Some (b, y) = sym (parent_and_last-snoc a x) ∙ ap parent_and_last e ∙ parent_and_last-snoc b y in
    let pair : (a, x) ≡ (b, y) = cc in
    (ap (λ (p : List (List ℕ) × List ℕ). p.0) pair, ap (λ (p : List (List ℕ) × List ℕ). p.1) pair)

snoc_not_nil : (a : List (List ℕ)) (x : List ℕ) → a ++ x ∷ [] ≡ [] → ⊥
snoc_not_nil a x e = let n : length (a ++ x ∷ []) ≡ 0 = ap length e in omega (arith, length-append a (x ∷ []))

snoc_not_same : (a : List (List ℕ)) (x : List ℕ) → a ≡ a ++ x ∷ [] → ⊥
snoc_not_same a x e = let n : length a ≡ length (a ++ x ∷ []) = ap length e in omega (arith, length-append a (x ∷ []))

-- ---- the first module of a path

pub none_before_and_after : (first : Bool) (others : Option ℕ) → cond first (Some 0) (option_map suc others) ≡ None
    → (first ≡ false) × (others ≡ None)
none_before_and_after true others h = absurd cc
none_before_and_after false None h = (refl, refl)
none_before_and_after false (Some k) h = absurd cc

push_step : (first_q new_q : Bool) (others_q : Option ℕ) (k : ℕ) → (first_q ≡ true → new_q ≡ true → ⊥)
    → cond first_q (Some 0) (option_map suc (cond new_q (Some k) others_q)) ≡ cond new_q (Some (suc k))
    (cond first_q (Some 0) (option_map suc others_q))
push_step true true others_q k apart = absurd (apart refl refl)
push_step true false others_q k apart = refl
push_step false true others_q k apart = refl
push_step false false others_q k apart = refl

-- a module with a path that is new, at the end
pub module_at-push : (modules : List Module) (m : Module) (path : List (List ℕ)) → module_at modules m.path ≡ None
    → module_at (modules ++ m ∷ []) path ≡ cond (path_eq m.path path) (Some (length modules)) (module_at modules path)
module_at-push [] m path h = refl
module_at-push (first ∷ others) m path h =
    let parts = none_before_and_after (path_eq first.path m.path) (module_at others m.path) h in
    let apart : path_eq first.path path ≡ true → path_eq m.path path ≡ true → ⊥ = λ a b.
    (let e : path_eq first.path m.path ≡ true = ap (λ p. path_eq first.path p)
    (same_path m.path path b ∙ sym (same_path first.path path a)) ∙ path_itself first.path in
    let f : path_eq first.path m.path ≡ false = parts.0 in
    cc) in
    ap (λ o. cond (path_eq first.path path) (Some 0) (option_map suc o)) (module_at-push others m path parts.1)
    ∙ push_step (path_eq first.path path) (path_eq m.path path) (module_at others path) (length others) apart

-- the module of the path that is new
pub module_at-new : (modules : List Module) (m : Module) → module_at modules m.path ≡ None
    → module_at (modules ++ m ∷ []) m.path ≡ Some (length modules)
module_at-new modules m h =
    module_at-push modules m m.path h ∙ ap (λ b. cond b (Some (length modules)) (module_at modules m.path)) (path_itself m.path)

-- and those of other paths
pub module_at-old : (modules : List Module) (m : Module) (path : List (List ℕ)) → module_at modules m.path ≡ None
    → (m.path ≡ path → ⊥) → module_at (modules ++ m ∷ []) path ≡ module_at modules path
module_at-old modules m path h apart =
    module_at-push modules m path h ∙ ap (λ b. cond b (Some (length modules)) (module_at modules path))
    (other_path m.path path apart)

some_parts : (first : Bool) (others : Option ℕ) (k : ℕ) → cond first (Some 0) (option_map suc others) ≡ Some k
    → ((first ≡ true) × (k ≡ 0)) ⊎ ((j : ℕ) × (others ≡ Some j) × (k ≡ suc j))
some_parts true others k h = inl (refl, cc)
some_parts false None k h = absurd cc
some_parts false (Some j) k h = inr (j, refl, cc)

-- the module that is found has the path
pub module_at_some : (modules : List Module) (path : List (List ℕ)) (n : ℕ) → module_at modules path ≡ Some n → (m : Module)
    × (slice_get modules n ≡ Some m) × (m.path ≡ path)
module_at_some [] path n h = absurd cc
module_at_some (first ∷ others) path n h =
    elim (some_parts (path_eq first.path path) (module_at others path) n h) [
      | inl w ↦ (first, ap (slice_get (first ∷ others)) w.1, same_path first.path path w.0)
      | inr (j, found, at_place) ↦ let rest =
          module_at_some others path j found in (rest.0, ap (slice_get (first ∷ others)) at_place ∙ rest.1, rest.2)
    ]

-- ---- elements of a list with one more

pub slice_get_left : {A : Type 0} (xs ys : List A) (n : ℕ) (x : A) → slice_get xs n ≡ Some x → slice_get (xs ++ ys) n ≡ Some x
slice_get_left [] ys n x h = absurd cc
slice_get_left (y ∷ xs) ys zero x h = h
slice_get_left (y ∷ xs) ys (suc n) x h = slice_get_left xs ys n x h

pub slice_get_push : {A : Type 0} (xs : List A) (y : A) (n : ℕ) (x : A) → slice_get (xs ++ y ∷ []) n ≡ Some x
    → (slice_get xs n ≡ Some x) ⊎ ((n ≡ length xs) × (y ≡ x))
slice_get_push [] y zero x h = inr (refl, cc)
slice_get_push [] y (suc n) x h = absurd cc
slice_get_push (z ∷ xs) y zero x h = inl h
slice_get_push (z ∷ xs) y (suc n) x h = elim (slice_get_push xs y n x h) [ inl w ↦ inl w | inr w ↦ inr (ap suc w.0, w.1) ]

pub slice_get_last : {A : Type 0} (xs : List A) (y : A) → slice_get (xs ++ y ∷ []) (length xs) ≡ Some y
slice_get_last [] y = refl
slice_get_last (x ∷ xs) y = slice_get_last xs y

pub named_at_module : (modules : List Module) (n : ℕ) (m : Module) → slice_get modules n ≡ Some m
    → named_at modules n ≡ named_in m
named_at_module modules n m h =
    get_or_from_slice_get (map named_in modules) n (named_in m) [] (slice_get-map named_in modules n ∙ ap (option_map named_in) h)

-- ---- paths that are distinct and closed

pub under_more : (modules : List Module) (m : Module) (number : ℕ) (name : List ℕ) (path : List (List ℕ))
    → IsUnder modules number name path → IsUnder (modules ++ m ∷ []) number name path
under_more modules m number name path under =
    record { above = under.above; stands = slice_get_left modules (m ∷ []) number under.above under.stands; ends = under.ends }

pub parent_more : (modules : List Module) (m : Module) (parent : Option ℕ) (path : List (List ℕ)) → IsParent modules parent path
    → IsParent (modules ++ m ∷ []) parent path
parent_more modules m None path h = h
parent_more modules m (Some number) path (name, under) = (name, under_more modules m number name path under)

no_element : (xs : List Module) (n : ℕ) (x : Module) → 0 ≡ length xs → slice_get xs n ≡ Some x → ⊥
no_element [] n x e h = cc
no_element (y ∷ ys) n x e h = omega arith

-- a path that no module has is the beginning of none
pub absent_longer : (modules : List Module) → ArePaths modules → (path rest : List (List ℕ)) → module_at modules path ≡ None
    → module_at modules (path ++ rest) ≡ None
absent_longer modules are path [] none = ap (module_at modules) (append-nil path) ∙ none
absent_longer modules are path (name ∷ rest) none =
    ap (module_at modules) (sym (append_assoc path (name ∷ []) rest)) ∙ absent_longer modules are (path ++ name ∷ []) rest
    (are.closed path name none)

module _ (modules : List Module) (m : Module) (are : ArePaths modules) (absent : module_at modules m.path ≡ None) where
  -- no module stands under the new one yet
  pub none_under : (name : List ℕ) → module_at (modules ++ m ∷ []) (m.path ++ name ∷ []) ≡ None
  none_under name =
      module_at-old modules m (m.path ++ name ∷ []) absent (λ e. snoc_not_same m.path name e) ∙ are.closed m.path name absent

  pub old_path : (n : ℕ) (other : Module) → slice_get modules n ≡ Some other → m.path ≡ other.path → ⊥
  old_path n other stands e =
      let found = are.distinct n other stands in let none : module_at modules other.path ≡ None =
      ap (module_at modules) (sym e) ∙ absent in cc

  distinct_more : (n : ℕ) (other : Module) → slice_get (modules ++ m ∷ []) n ≡ Some other
      → module_at (modules ++ m ∷ []) other.path ≡ Some n
  distinct_more n other stands =
      elim (slice_get_push modules m n other stands) [
        | inl w ↦ module_at-old modules m other.path absent (old_path n other w) ∙ are.distinct n other w
        | inr (at_end, same) ↦ ap (λ (x : Module). module_at (modules ++ m ∷ []) x.path) (sym same)
            ∙ module_at-new modules m absent ∙ ap Some (sym at_end)
      ]

  -- the new path is no name under a path that no module has
  not_under : (parent : Option ℕ) → IsParent modules parent m.path → (path : List (List ℕ)) (name : List ℕ)
      → module_at modules path ≡ None → m.path ≡ path ++ name ∷ [] → ⊥
  not_under None empty path name none e = snoc_not_nil path name (sym e ∙ empty)
  not_under (Some number) (last, under) path name none e =
      let same = (snoc_same path under.above.path name last (sym e ∙ under.ends)).0 in
      let found = are.distinct number under.above under.stands in
      let missing : module_at modules under.above.path ≡ None = ap (module_at modules) (sym same) ∙ none in
      cc

  none_before : (path : List (List ℕ)) → module_at (modules ++ m ∷ []) path ≡ None → (m.path ≡ path → ⊥)
      × (module_at modules path ≡ None)
  none_before path none =
      let apart : m.path ≡ path → ⊥ = λ e. (let found : module_at (modules ++ m ∷ []) path ≡ Some (length modules) =
      ap (module_at (modules ++ m ∷ [])) (sym e) ∙ module_at-new modules m absent in cc) in
      (apart, sym (module_at-old modules m path absent apart) ∙ none)

  closed_more : (parent : Option ℕ) → IsParent modules parent m.path → (path : List (List ℕ)) (name : List ℕ)
      → module_at (modules ++ m ∷ []) path ≡ None → module_at (modules ++ m ∷ []) (path ++ name ∷ []) ≡ None
  closed_more parent is_parent path name none =
      let before = none_before path none in
      module_at-old modules m (path ++ name ∷ []) absent (not_under parent is_parent path name before.1)
      ∙ are.closed path name before.1

  pub paths_more : (parent : Option ℕ) → IsParent modules parent m.path → ArePaths (modules ++ m ∷ [])
  paths_more parent is_parent = record {
    distinct = distinct_more;
    closed = closed_more parent is_parent;
    root = λ first stands.
        elim (slice_get_push modules m 0 first stands) [
          | inl w ↦ are.root first w
          | inr (at_end, same) ↦ ap (λ (x : Module). x.path) (sym same) ∙ root_path parent is_parent at_end
        ];
  }
    where
      root_path : (above : Option ℕ) → IsParent modules above m.path → 0 ≡ length modules → m.path ≡ []
      root_path None empty at_end = empty
      root_path (Some number) (last, under) at_end = absurd (no_element modules number under.above at_end under.stands)
