-- What scopes say of the modules that they are of.
use Rattle.std.proofs.Common.{◌≡◌, ℕ, zero, suc, ◌+◌, ◌<◌, ◌≤◌, Bool, true, false, cond, List, [], ◌∷◌, ◌++◌, length, map, take}
use Rattle.std.proofs.Common.{drop, get_or, set, Option, Some, None, length-append, take-append-drop, refl, sym, ap, ◌∙◌, arith}
use Rattle.std.proofs.Common.{subst, inl, inr, nat_eq}
use Rattle.std.specs.Prelude.{MatchOption, option_map, slice_get}
use Rattle.std.specs.Ordering.{nat_cmp, is_eq}
use Rattle.std.specs.Cmp.Lexicographic.{slice_cmp}
use Rattle.std.specs.BTreeMap.{get}
use Rattle.std.specs.Str.{bytes_eq}
use Rattle.std.proofs.lemmas.Map.Text.{is_eq-slice_cmp}
use Rattle.std.proofs.lemmas.List.{length-map, take_more, get_or_past, length-set, get_or-set_same, get_or-set_other}
use Rattle.std.proofs.lemmas.Option.{slice_get_within, slice_get-get_or, get_or_from_slice_get}
use Rattle.bridge_decl.specs.declared.modules.Module.{Module}
use Rattle.bridge_ast.specs.declared.fault.EnvPart.{EnvPart}
use Rattle.bridge_ast.specs.declared.scopes.Scope.{Scope}
use Rattle.bridge_ast.specs.declared.fault.EnvFault.{EnvFault}
use Rattle.bridge_ast.specs.declared.fault.EnvFaultKind.TheVariants.{DuplicateModule}
use Rattle.bridge_ast.specs.declared.fault.EnvPart.TheVariants as part
use Rattle.bridge_ast.specs.EnvFaults.{IsFirst, module_at, named_at, named_in, parent_and_last, parent_faults}
use Rattle.bridge_ast.specs.EnvFaults.{submodule_faults, path_faults, repeats, place, path_eq}
use Rattle.bridge_text.specs.NameIndex.{HasMeanings, meaning_of}
use Rattle.bridge_ast.specs.Paths.{IsSubmodule}
use Rattle.bridge_ast.specs.inside.Scopes.{ArePaths, IsUnder, IsParent, IsScope, Knows, AddsSubmodule, AddsUnder, Enters}
use Rattle.bridge_ast.proofs.PathLemmas.{module_at_some, module_at-push, module_at-old, named_at_module, absent_longer}
use Rattle.bridge_ast.proofs.PathLemmas.{parent_and_last-snoc, snoc_same, slice_get_push, parent_more, paths_more, none_under}
use Rattle.bridge_ast.proofs.PathLemmas.{path_itself, other_path}
use Rattle.bridge_ast.proofs.EachLemmas.{first_after, none_after}
use Rattle.bridge_text.proofs.NameIndexLemmas.{same_text, text_itself}
use Rattle.std.proofs.lemmas.Bool.{eqb-true}
use Rattle.std.proofs.lemmas.Bool.Decides.{eqb_tells}
use Rattle.std.specs.BTreeMap.{is_at}
use Rattle.std.specs.Map.{lookup}

-- an element of a list that is as long
same_place : {A B : Type 0} (xs : List A) (ys : List B) (n : ℕ) (x : A) → length xs ≡ length ys → slice_get xs n ≡ Some x
    → (y : B) × (slice_get ys n ≡ Some y)
same_place [] ys n x e h = absurd cc
same_place (x' ∷ xs) [] n x e h = absurd (omega arith)
same_place (x' ∷ xs) (y ∷ ys) zero x e h = (y, refl)
same_place (x' ∷ xs) (y ∷ ys) (suc n) x e h = same_place xs ys n x (omega arith) h

none_past : {A : Type 0} (xs : List A) (n : ℕ) → slice_get xs n ≡ None → length xs ≤ n
none_past [] n h = omega arith
none_past (x ∷ xs) zero h = absurd cc
none_past (x ∷ xs) (suc n) h = let rest = none_past xs n h in omega arith

pub module_of : (scopes : List Scope) (modules : List Module) (n : ℕ) (scope : Scope) → Knows scopes modules
    → slice_get scopes n ≡ Some scope → (m : Module) × (slice_get modules n ≡ Some m)
module_of scopes modules n scope known at_place = same_place scopes modules n scope known.count at_place

pub scope_at : (scopes : List Scope) (modules : List Module) (n : ℕ) (m : Module) → Knows scopes modules
    → slice_get modules n ≡ Some m → (scope : Scope) × (slice_get scopes n ≡ Some scope)
scope_at scopes modules n m known at_place = same_place modules scopes n m (sym known.count) at_place

pub found_submodule : (scopes : List Scope) (modules : List Module) (n : ℕ) (m : Module) (scope : Scope) (name : List ℕ)
    (r : Option ℕ) → Knows scopes modules → slice_get modules n ≡ Some m → Some scope ≡ slice_get scopes n
    → r ≡ get (slice_cmp nat_cmp) scope.submodules name → r ≡ module_at modules (m.path ++ name ∷ [])
found_submodule scopes modules n m scope name r known stands at_place is =
    is ∙ (known.scope_of n m scope stands (sym at_place)).submodules name

pub found_part : (scopes : List Scope) (modules : List Module) (n : ℕ) (scope : Scope) (name : List ℕ) (r : Option EnvPart)
    → Knows scopes modules → Some scope ≡ slice_get scopes n
    → r ≡ get (slice_cmp nat_cmp) scope.names name → r ≡ meaning_of (named_at modules n) name
found_part scopes modules n scope name r known at_place is =
    let m = module_of scopes modules n scope known (sym at_place) in
    is ∙ (known.scope_of n m.0 scope m.1 (sym at_place)).names.finds name ∙ ap (λ names. meaning_of names name)
    (sym (named_at_module modules n m.0 m.1))

pub no_part : (scopes : List Scope) (modules : List Module) (n : ℕ) (name : List ℕ) → Knows scopes modules
    → None ≡ slice_get scopes n → None ≡ meaning_of (named_at modules n) name
no_part scopes modules n name known past =
    let le = none_past scopes n (sym past) in
    ap (λ names. meaning_of names name) (sym (get_or_past (map named_in modules) n []
    (omega (arith, length-map modules named_in, known.count))))

pub root_stands : (scopes : List Scope) (modules : List Module) → Knows scopes modules → nat_eq (length scopes) 0 ≡ false
    → (m : Module) × (slice_get modules 0 ≡ Some m) × (m.path ≡ [])
root_stands [] modules known some = absurd cc
root_stands (scope ∷ scopes) modules known some =
    let m = module_of (scope ∷ scopes) modules 0 scope known refl in (m.0, m.1, known.paths.root m.0 m.1)

pub no_root : (scopes : List Scope) (modules : List Module) (path : List (List ℕ)) → Knows scopes modules
    → nat_eq (length scopes) 0 ≡ true → None ≡ module_at modules path
no_root [] [] path known none = refl
no_root [] (m ∷ modules) path known none = absurd (omega (arith, known.count))
no_root (scope ∷ scopes) modules path known none =
    absurd (let e : length (scope ∷ scopes) ≡ 0 = eqb-true (length (scope ∷ scopes)) 0 none in omega arith)

module _ (modules : List Module) (are : ArePaths modules) (path : List (List ℕ)) (i : ℕ) (segment : List ℕ) (m : Module)
    (within : i < length path) (is : segment ≡ get_or path i segment) (come : m.path ≡ take i path) where
  path_so_far : m.path ++ segment ∷ [] ≡ take (i + 1) path
  path_so_far = ap (λ p. p ++ segment ∷ []) come ∙ ap (λ s. take i path ++ s ∷ []) is ∙ sym (take_more path i segment within)

  -- a trail from the root along a path, one segment further
  pub walked : (next : ℕ) → Some next ≡ module_at modules (m.path ++ segment ∷ []) → (m' : Module)
      × (slice_get modules next ≡ Some m') × (m'.path ≡ take (i + 1) path)
  walked next found =
      let there = module_at_some modules (m.path ++ segment ∷ []) next (sym found) in (there.0, there.1, there.2 ∙ path_so_far)

  -- and where it stops
  pub stopped : None ≡ module_at modules (m.path ++ segment ∷ []) → None ≡ module_at modules path
  stopped none =
      sym (ap (module_at modules) (sym (take-append-drop (i + 1) path)) ∙ absent_longer modules are (take (i + 1) path)
      (drop (i + 1) path) (ap (module_at modules) (sym path_so_far) ∙ sym none))

-- ---- a scope with a submodule more

pub added_under : (old : List Scope) (above : ℕ) (was is : Scope) (name : List ℕ) (number : ℕ) → above < length old
    → slice_get old above ≡ Some was → AddsSubmodule was is name number → AddsUnder old (set old above is) above name number
added_under old above was is name number within at_place adds = record {
  count = length-set old above is;
  others = λ n scope apart stands.
      let inside : n < length old = omega (arith, slice_get_within (set old above is) n scope stands, length-set old above is) in
      slice_get-get_or old n scope inside ∙ ap Some (sym (get_or-set_other old above n is scope apart)
      ∙ get_or_from_slice_get (set old above is) n scope scope stands);
  added = λ was' is' before after.
      let same_was : was ≡ was' = (let e : Some was ≡ Some was' = sym at_place ∙ before in cc) in
      let same_is : is ≡ is' = sym (get_or-set_same old above is is within)
      ∙ get_or_from_slice_get (set old above is) above is' is after in
      subst (λ x. AddsSubmodule x is' name number) same_was (subst (λ x. AddsSubmodule was x name number) same_is adds);
}

pub adds_submodule : (was is : Scope) (key name : List ℕ) (number : ℕ) → key ≡ name → is.names ≡ was.names
    → is.parent ≡ was.parent
    → ((q : List ℕ) → get (slice_cmp nat_cmp) is.submodules q ≡ cond {A = Option ℕ} (is_eq (slice_cmp nat_cmp key q))
    (Some number) (get (slice_cmp nat_cmp) was.submodules q))
    → AddsSubmodule was is name number
adds_submodule was is key name number same names parent updates = record {
  names = names;
  parent = parent;
  submodules =
      λ q. updates q ∙ ap (λ b. cond b (Some number) (get (slice_cmp nat_cmp) was.submodules q))
      (ap (λ k. is_eq (slice_cmp nat_cmp k q)) same ∙ is_eq-slice_cmp name q);
}

-- ---- a path and its ends

split_faults : (before : List Module) (path parent : List (List ℕ)) (name : List ℕ) → path ≡ parent ++ name ∷ []
    → parent_faults before (parent_and_last path) ≡ submodule_faults before (parent, name)
split_faults before path parent name e = ap (parent_faults before) (ap parent_and_last e ∙ parent_and_last-snoc parent name)

-- the fault of a path that no earlier module has
abbrev pub repeated_path : List Module → List (List ℕ) → List EnvFault
repeated_path before path =
    repeats DuplicateModule (place (length before) part.Module) (option_map (λ earlier. place earlier part.Module)
    (module_at before path))

pub path_stopped : (fault : EnvFault) (before : List Module) (path parent : List (List ℕ)) (name : List ℕ)
    → path ≡ parent ++ name ∷ [] → repeated_path before path ≡ [] → IsFirst fault (submodule_faults before (parent, name))
    → IsFirst fault (path_faults before path)
path_stopped fault before path parent name e none first =
    first_after fault (repeated_path before path) (parent_faults before (parent_and_last path)) none
    (subst (IsFirst fault) (sym (split_faults before path parent name e)) first)

pub path_passed : (before : List Module) (path parent : List (List ℕ)) (name : List ℕ) → path ≡ parent ++ name ∷ []
    → repeated_path before path ≡ [] → submodule_faults before (parent, name) ≡ [] → path_faults before path ≡ []
path_passed before path parent name e none passed =
    none_after (repeated_path before path) (parent_faults before (parent_and_last path)) none
    (split_faults before path parent name e ∙ passed)

pub is_under : (before : List Module) (path parent : List (List ℕ)) (name : List ℕ) (above : ℕ) → path ≡ parent ++ name ∷ []
    → module_at before parent ≡ Some above → IsUnder before above name path
is_under before path parent name above e found =
    let there = module_at_some before parent above found in record {
      above = there.0;
      stands = there.1;
      ends =
          e ∙ ap (λ p. p ++ name ∷ []) (sym there.2);
    }

-- ---- one module more

-- whether two paths under one module are one
last_decides : (path : List (List ℕ)) (x y : List ℕ) (b : Bool) → bytes_eq x y ≡ b → path_eq (path ++ x ∷ []) (path ++ y ∷ []) ≡ b
last_decides path x y true h =
    ap (λ z. path_eq (path ++ x ∷ []) (path ++ z ∷ [])) (sym (same_text x y h)) ∙ path_itself (path ++ x ∷ [])
last_decides path x y false h =
    other_path (path ++ x ∷ []) (path ++ y ∷ []) (λ e. (let same = (snoc_same path path x y e).1 in let t : bytes_eq x y ≡ true =
    ap (bytes_eq x) (sym same) ∙ text_itself x in cc))

-- a scope whose module has no new submodule
scope_kept : (modules : List Module) (m x : Module) (scope : Scope) → module_at modules m.path ≡ None
    → ((name : List ℕ) → m.path ≡ x.path ++ name ∷ [] → ⊥) → IsScope modules x scope → IsScope (modules ++ m ∷ []) x scope
scope_kept modules m x scope absent apart is_scope = record {
  names = is_scope.names;
  submodules = λ name. is_scope.submodules name ∙ sym (module_at-old modules m (x.path ++ name ∷ []) absent (apart name));
  parent = parent_more modules m scope.parent x.path is_scope.parent;
}

-- and one whose module has
scope_added : (modules : List Module) (m x : Module) (was scope : Scope) (last : List ℕ) → module_at modules m.path ≡ None
    → m.path ≡ x.path ++ last ∷ [] → AddsSubmodule was scope last (length modules) → IsScope modules x was
    → IsScope (modules ++ m ∷ []) x scope
scope_added modules m x was scope last absent ends adds is_scope = record {
  names = subst (λ names. HasMeanings names (named_in x)) (sym adds.names) is_scope.names;
  submodules = λ name.
      adds.submodules name
      ∙ ap (λ o. cond (bytes_eq last name) (Some (length modules)) o) (is_scope.submodules name)
      ∙ ap (λ b. cond b (Some (length modules)) (module_at modules (x.path ++ name ∷ [])))
      (sym (ap (λ p. path_eq p (x.path ++ name ∷ [])) ends ∙ last_decides x.path last name (bytes_eq last name) refl))
      ∙ sym (module_at-push modules m (x.path ++ name ∷ []) absent);
  parent = parent_more modules m scope.parent x.path (subst (λ p. IsParent modules p x.path) (sym adds.parent) is_scope.parent);
}

not_nil : (a : List (List ℕ)) (x : List ℕ) → a ++ x ∷ [] ≡ [] → ⊥
not_nil a x e = let n : length (a ++ x ∷ []) ≡ 0 = ap length e in omega (arith, length-append a (x ∷ []))

module _ (old new : List Scope) (modules : List Module) (m : Module) (known : Knows old modules)
    (absent : module_at modules m.path ≡ None) where
  same_number : (n : ℕ) (x : Module) (k : ℕ) (y : Module) → slice_get modules n ≡ Some x → slice_get modules k ≡ Some y
      → x.path ≡ y.path → n ≡ k
  same_number n x k y at_n at_k same =
      let found_n = known.paths.distinct n x at_n in
      let found_k = known.paths.distinct k y at_k in
      let e : Some n ≡ Some k = sym found_n ∙ ap (module_at modules) same ∙ found_k in
      cc

  old_scope : (parent : Option ℕ) → IsParent modules parent m.path → Enters old new parent m.path (length modules)
      → (n : ℕ) (x : Module) (scope : Scope) → slice_get modules n ≡ Some x → slice_get new n ≡ Some scope
      → IsScope (modules ++ m ∷ []) x scope
  old_scope None empty same n x scope stands at_place =
      scope_kept modules m x scope absent (λ name e. not_nil x.path name (sym e ∙ empty))
      (known.scope_of n x scope stands (ap (λ xs. slice_get xs n) same ∙ at_place))
  old_scope (Some above) (last, under) enters n x scope stands at_place =
      let added = enters under.above.path last under.ends in
      elim (eqb_tells n above) [
        | inl w ↦
            let here : slice_get modules above ≡ Some x = ap (slice_get modules) (sym w.1) ∙ stands in
            let same : under.above ≡ x = (let e : Some under.above ≡ Some x = sym under.stands ∙ here in cc) in
            let was = scope_at old modules above x known here in
            scope_added modules m x was.0 scope last absent (under.ends ∙ ap (λ (a : Module). a.path ++ last ∷ []) same)
            (added.added was.0 scope was.1 (ap (slice_get new) (sym w.1) ∙ at_place))
            (known.scope_of above x was.0 here was.1)
        | inr w ↦ scope_kept modules m x scope absent (λ name e. w.1 (same_number n x above under.above stands under.stands
            (sym (snoc_same under.above.path x.path last name (sym under.ends ∙ e)).0)))
            (known.scope_of n x scope stands (added.others n scope w.1 at_place))
      ]

  count_kept : (parent : Option ℕ) → IsParent modules parent m.path → Enters old new parent m.path (length modules)
      → length new ≡ length modules
  count_kept None empty same = ap length (sym same) ∙ known.count
  count_kept (Some above) (last, under) enters = (enters under.above.path last under.ends).count ∙ known.count

  pub knows_more : (parent : Option ℕ) (scope : Scope) → IsParent modules parent m.path
      → Enters old new parent m.path (length modules)
      → HasMeanings scope.names (named_in m) → scope.submodules.entries ≡ [] → scope.parent ≡ parent
      → Knows (new ++ scope ∷ []) (modules ++ m ∷ [])
  knows_more parent scope is_parent enters names empty parent_is = record {
    count = omega (arith, count_kept parent is_parent enters, length-append new (scope ∷ []), length-append modules (m ∷ []));
    paths = paths_more modules m known.paths absent parent is_parent;
    scope_of = λ n x other stands at_place.
        let is_there : n < length (modules ++ m ∷ []) = slice_get_within (modules ++ m ∷ []) n x stands in
        elim (slice_get_push modules m n x stands) [
          | inl a ↦
              elim (slice_get_push new scope n other at_place) [
                | inl b ↦ old_scope parent is_parent enters n x other a b
                | inr b ↦ absurd (let inside : n < length modules = slice_get_within modules n x a in let e : n ≡ length new =
                    b.0 in omega (arith, count_kept parent is_parent enters))
              ]
          | inr a ↦
              elim (slice_get_push new scope n other at_place) [
                | inl b ↦ absurd (let inside : n < length new = slice_get_within new n other b in let e : n ≡ length modules =
                    a.0 in omega (arith, count_kept parent is_parent enters))
                | inr b ↦ subst (λ (y : Module). IsScope (modules ++ m ∷ []) y other) a.1
                    (subst (λ (s : Scope). IsScope (modules ++ m ∷ []) m s) b.1 new_scope)
              ]
        ];
  }
    where
      new_scope : IsScope (modules ++ m ∷ []) m scope
      new_scope = record {
        names = names;
        submodules =
            λ name. ap (lookup (is_at (slice_cmp nat_cmp name))) empty ∙ sym (none_under modules m known.paths absent name);
        parent =
            subst (λ p. IsParent (modules ++ m ∷ []) p m.path) (sym parent_is) (parent_more modules m parent m.path is_parent);
      }

-- the parent of a module's path is a module that it is a submodule of
pub around_by_name : (modules : List Module) (n : ℕ) (m : Module) (parent : Option ℕ) → slice_get modules n ≡ Some m
    → IsParent modules parent m.path
    → MatchOption parent (m.path ≡ []) (λ outer. (name : List ℕ) × IsSubmodule modules outer name n)
around_by_name modules n m None stands root = root
around_by_name modules n m (Some outer) stands (name, u) =
    (name, record { parent = u.above; child = m; outer_is = u.stands; inner_is = stands; ends = u.ends })
