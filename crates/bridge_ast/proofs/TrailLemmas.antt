-- Trails along paths.
use Rattle.std.proofs.Common.{◌≡◌, ℕ, zero, suc, ◌+◌, ◌<◌, ◌≤◌, ◌^◌, List, [], ◌∷◌, ◌++◌, length, map, get_or, Option, Some, None}
use Rattle.std.proofs.Common.{refl, sym, ap, ◌∙◌, arith, subst, Bool, true, false, cond, codes}
use Rattle.std.specs.Prelude.{option_map, option_and_then, unwrap_or, slice_get}
use Rattle.std.specs.BTreeMap.{BTreeMap}
use Rattle.std.proofs.lemmas.Option.{slice_get-map, get_or_from_slice_get, unwrap_or-slice_get}
use Rattle.bridge_decl.specs.declared.modules.Module.{Module}
use Rattle.bridge_ast.specs.declared.fault.EnvPart.{EnvPart}
use Rattle.bridge_ast.specs.declared.fault.EnvPart.TheVariants as part
use Rattle.std.specs.Str.{bytes_eq}
use Rattle.bridge_ast.specs.declared.scopes.Scope.{Scope}
use Rattle.bridge_ast.specs.declared.trail.Head.{Head}
use Rattle.bridge_ast.specs.declared.trail.Head.TheVariants.{Start, Supers, Names}
use Rattle.bridge_ast.specs.declared.trail.Next.{Next}
use Rattle.bridge_ast.specs.declared.trail.Next.TheVariants as next
use Rattle.bridge_ast.specs.declared.place.ItemPlace.{ItemPlace}
use Rattle.bridge_ast.specs.declared.trail.Stand.TheVariants as stand
use Rattle.bridge_ast.specs.declared.trail.Trail.{Trail}
use Rattle.bridge_text.specs.NameIndex.{meaning_of}
use Rattle.bridge_ast.specs.AliasCount.{alias_count}
use Rattle.bridge_ast.specs.EnvFaults.{module_at, named_at, parent_and_last}
use Rattle.bridge_ast.specs.inside.Resolution.{path_at, by_name, to_part, to_submodule, to_module, to_parent, named_within, named_item}
use Rattle.bridge_ast.specs.inside.Resolution.{next_of}
use Rattle.bridge_ast.specs.inside.Scopes.{IsParent, Knows}
use Rattle.bridge_ast.specs.inside.AliasEnds.{KnowsEnds}
use Rattle.bridge_ast.specs.inside.Trails.{leads_within, carried_to_end, stands_at, IsModule}
use Rattle.bridge_ast.proofs.StepLemmas.{taking_too_many, taking_enough}
use Rattle.bridge_ast.proofs.PathLemmas.{parent_and_last-snoc, module_at_some}
use Rattle.bridge_ast.proofs.ScopeLemmas.{scope_at}

pub path_at_module : (modules : List Module) (n : ℕ) (m : Module) → slice_get modules n ≡ Some m → path_at modules n ≡ m.path
path_at_module modules n m h =
    get_or_from_slice_get (map (λ x. x.path) modules) n m.path [] (slice_get-map (λ x. x.path) modules n
    ∙ ap (option_map (λ x. x.path)) h)

-- a name that leads to a submodule, and one that doesn't
pub by_submodule : (modules : List Module) (number : ℕ) (m : Module) (name : List ℕ) (found : Option ℕ)
    → slice_get modules number ≡ Some m → found ≡ module_at modules (m.path ++ name ∷ [])
    → to_submodule found (meaning_of (named_at modules number) name) ≡ by_name modules number name
by_submodule modules number m name found stands is =
    ap (λ o. to_submodule o (meaning_of (named_at modules number) name)) (is
    ∙ ap (λ p. module_at modules (p ++ name ∷ [])) (sym (path_at_module modules number m stands)))

pub by_part : (modules : List Module) (number : ℕ) (m : Module) (name : List ℕ) (named : Option EnvPart)
    → slice_get modules number ≡ Some m → None ≡ module_at modules (m.path ++ name ∷ [])
    → named ≡ meaning_of (named_at modules number) name → to_part named ≡ by_name modules number name
by_part modules number m name named stands none is = ap to_part is ∙ by_submodule modules number m name None stands none

-- the parent of a module
pub by_super : (scopes : List Scope) (modules : List Module) (number : ℕ) (m : Module) (scope : Scope) (parent : Option ℕ)
    → Knows scopes modules → slice_get modules number ≡ Some m → Some scope ≡ slice_get scopes number → parent ≡ scope.parent
    → to_module parent ≡ to_parent modules (parent_and_last (path_at modules number))
by_super scopes modules number m scope parent known stands at_place is =
    by_parent parent (subst (λ p. IsParent modules p m.path) (sym is) (known.scope_of number m scope stands
    (sym at_place)).parent) ∙ ap (λ p. to_parent modules (parent_and_last p)) (sym (path_at_module modules number m stands))
  where
    by_parent : (above : Option ℕ) → IsParent modules above m.path → to_module above ≡ to_parent modules (parent_and_last m.path)
    by_parent None empty = ap (λ p. to_parent modules (parent_and_last p)) (sym empty)
    by_parent (Some above) (name, under) =
        ap to_module (sym (known.paths.distinct above under.above under.stands))
        ∙ ap (to_parent modules) (sym (ap parent_and_last under.ends ∙ parent_and_last-snoc under.above.path name))

pub no_scope : (scopes : List Scope) (modules : List Module) (number : ℕ) (m : Module) → Knows scopes modules
    → slice_get modules number ≡ Some m → None ≡ slice_get scopes number → ⊥
no_scope scopes modules number m known stands none =
    let there = scope_at scopes modules number m known stands in let e : None ≡ Some there.0 = none ∙ there.1 in cc

-- a path that is begun is a trail from its start
pub begun : (steps : ℕ) (modules : List Module) (number : ℕ) (path : List (List ℕ))
    → named_within steps modules number path ≡ leads_within steps modules number Start path
begun zero modules number path = refl
begun (suc steps) modules number path = refl

pub none_mapped : {A B : Type 0} (f : A → List B) (xs : List A) (n : ℕ) → None ≡ slice_get xs n → [] ≡ get_or (map f xs) n []
none_mapped f xs n none =
    ap (λ o. unwrap_or (option_map f o) []) none ∙ ap (λ o. unwrap_or o []) (sym (slice_get-map f xs n))
    ∙ unwrap_or-slice_get (map f xs) n []

-- ---- a trail stays inside the modules

abbrev StaysInside : List Module → Next → Type 0
StaysInside modules step = (to : ℕ) (after : Head) → step ≡ next.Goes to after → IsModule modules to

same_module : (modules : List Module) (n k : ℕ) (a b : Head) → next.Goes n a ≡ next.Goes k b → IsModule modules n
    → IsModule modules k
same_module modules n k a b e is_module = let same : n ≡ k = cc in subst (IsModule modules) same is_module

part_inside : (modules : List Module) (named : Option EnvPart) → StaysInside modules (to_part named)
part_inside modules (Some (part.Item i)) to after e = absurd cc
part_inside modules (Some (part.Alias i)) to after e = absurd cc
part_inside modules (Some part.Module) to after e = absurd cc
part_inside modules (Some (part.Node i method n)) to after e = absurd cc
part_inside modules None to after e = absurd cc

found_module : (modules : List Module) (path : List (List ℕ)) (n : ℕ) → module_at modules path ≡ Some n → IsModule modules n
found_module modules path n found = let there = module_at_some modules path n found in (there.0, there.1)

submodule_inside : (modules : List Module) (path : List (List ℕ)) (found : Option ℕ) (named : Option EnvPart)
    → module_at modules path ≡ found → StaysInside modules (to_submodule found named)
submodule_inside modules path (Some n) named found to after e =
    same_module modules n to Names after e (found_module modules path n found)
submodule_inside modules path None named found to after e = part_inside modules named to after e

module_inside : (modules : List Module) (path : List (List ℕ)) (found : Option ℕ) → module_at modules path ≡ found
    → StaysInside modules (to_module found)
module_inside modules path (Some n) found to after e = same_module modules n to Supers after e (found_module modules path n found)
module_inside modules path None found to after e = absurd cc

parent_inside : (modules : List Module) (split : Option (List (List ℕ) × List ℕ)) → StaysInside modules (to_parent modules split)
parent_inside modules None to after e = absurd cc
parent_inside modules (Some (parent, last)) to after e = module_inside modules parent (module_at modules parent) refl to after e

name_inside : (modules : List Module) (number : ℕ) (name : List ℕ) → StaysInside modules (by_name modules number name)
name_inside modules number name =
    submodule_inside modules (path_at modules number ++ name ∷ []) (module_at modules (path_at modules number ++ name ∷ []))
    (meaning_of (named_at modules number) name) refl

either : (P : Next → Type 0) (b : Bool) (x y : Next) → P x → P y → P (cond b x y)
either P true x y p q = p
either P false x y p q = q

root_module : (modules : List Module) (n : ℕ) → IsModule modules n → IsModule modules 0
root_module [] n (m, h) = absurd cc
root_module (first ∷ others) n (m, h) = (first, refl)

pub next_inside : (modules : List Module) (number : ℕ) (head : Head) (segment : List ℕ) → IsModule modules number
    → StaysInside modules (next_of modules number head segment)
next_inside modules number Start segment is_module =
    either (StaysInside modules) (bytes_eq segment (codes "crate")) _ _ (λ to after e. same_module modules 0 to Supers after e
    (root_module modules number is_module))
    (either (StaysInside modules) (bytes_eq segment (codes "self")) _ _ (λ to after e. same_module modules number to Supers after
    e is_module)
    (either (StaysInside modules) (bytes_eq segment (codes "super")) _ _ (parent_inside modules
    (parent_and_last (path_at modules number))) (name_inside modules number segment)))
next_inside modules number Supers segment is_module =
    either (StaysInside modules) (bytes_eq segment (codes "super")) _ _ (parent_inside modules
    (parent_and_last (path_at modules number))) (name_inside modules number segment)
next_inside modules number Names segment is_module = name_inside modules number segment

-- ---- a whole trail

pub within_module : (modules : List Module) (n : ℕ) → n < length modules → IsModule modules n
within_module [] n h = absurd (omega arith)
within_module (m ∷ modules) zero h = (m, refl)
within_module (m ∷ modules) (suc n) h = within_module modules n (omega arith)

-- what a trail along a path names, with as many steps as there are aliases and segments
pub trail_named : (modules kept : List Module) (scopes lent : List Scope) (ends : BTreeMap (ℕ × ℕ) Trail) (aliases number : ℕ)
    (path segments : List (List ℕ)) (trail : Option Trail)
    → kept ≡ modules → lent ≡ scopes → Knows scopes kept → KnowsEnds ends kept → aliases ≡ alias_count kept → segments ≡ path
    → number < length modules → aliases + length segments < 2 ^ 128
    → ((ms : List Module) → Knows lent ms → KnowsEnds ends ms → IsModule ms number → (steps : ℕ) → steps < 2 ^ 128
    → leads_within steps ms number Start segments ≡ carried_to_end steps ms trail)
    → carried_to_end (aliases + length segments) modules trail ≡ named_item modules number path
trail_named modules kept scopes lent ends aliases number path segments trail keeps lends known ended counted these within few
    follows =
    sym (follows modules (subst (λ s. Knows s modules) (sym lends) (subst (Knows scopes) keeps known))
    (subst (KnowsEnds ends) keeps ended) (within_module modules number within) (aliases + length segments) few)
    ∙ ap (λ p. leads_within (aliases + length segments) modules number Start p) these
    ∙ ap (λ n. leads_within n modules number Start path) (ap (λ n. n + length segments) (counted ∙ ap alias_count keeps)
    ∙ ap (λ p. alias_count modules + length p) these)
    ∙ sym (begun (alias_count modules + length path) modules number path)

-- a trail that has followed too many aliases
pub too_many : (steps : ℕ) (modules : List Module) (trail : Trail) → steps < trail.steps
    → None ≡ carried_to_end steps modules (Some trail)
too_many steps modules trail over =
    ap (λ o. option_and_then (λ left. stands_at left modules trail.stand []) o) (sym (taking_too_many trail.steps steps over))

ended_at : (steps : ℕ) (modules : List Module) (trail : Trail) (found : Option ItemPlace) → trail.steps ≤ steps
    → ((left : ℕ) → stands_at left modules trail.stand [] ≡ found) → found ≡ carried_to_end steps modules (Some trail)
ended_at steps modules trail found enough stands =
    let left = taking_enough trail.steps steps enough in
    sym (ap (λ o. option_and_then (λ n. stands_at n modules trail.stand []) o) left.1 ∙ stands left.0)

pub stood_at_item : (steps : ℕ) (modules : List Module) (trail : Trail) (place : ItemPlace) → trail.steps ≤ steps
    → trail.stand ≡ stand.Item place → Some place ≡ carried_to_end steps modules (Some trail)
stood_at_item steps modules trail place enough is =
    ended_at steps modules trail (Some place) enough (λ left. ap (λ s. stands_at left modules s []) is)

pub stood_at_module : (steps : ℕ) (modules : List Module) (trail : Trail) (number : ℕ) (head : Head) → trail.steps ≤ steps
    → trail.stand ≡ stand.Module number head → None ≡ carried_to_end steps modules (Some trail)
stood_at_module steps modules trail number head enough is =
    ended_at steps modules trail None enough (λ left. ap (λ s. stands_at left modules s []) is)
