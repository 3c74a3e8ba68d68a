-- What paths name, case by case, is what they lead to.
use Rattle.std.proofs.Common.{◌≡◌, ℕ, zero, suc, ◌+◌, Bool, true, false, cond, List, [], ◌∷◌, ◌++◌, length, Option, Some, None, refl, sym, ap, ◌∙◌, subst, codes, inl, inr, ◌⊎◌, ◌↔◌}
use Rattle.std.specs.Prelude.{option_and_then, ◌||◌}
use Rattle.std.specs.Str.{bytes_eq}
use Rattle.bridge_decl.specs.declared.modules.Module.{Module}
use Rattle.bridge_ast.specs.declared.fault.EnvPart.{EnvPart}
use Rattle.bridge_ast.specs.declared.fault.EnvPart.TheVariants as part
use Rattle.bridge_ast.specs.declared.trail.Head.{Head}
use Rattle.bridge_ast.specs.declared.trail.Head.TheVariants as head
use Rattle.bridge_ast.specs.declared.place.ItemPlace.{ItemPlace}
use Rattle.bridge_ast.specs.declared.trail.Next.{Next}
use Rattle.bridge_ast.specs.declared.trail.Next.TheVariants as next
use Rattle.bridge_text.specs.NameIndex.{meaning_of}
use Rattle.bridge_ast.specs.AliasCount.{alias_count}
use Rattle.bridge_ast.specs.EnvFaults.{module_at, named_at, parent_and_last}
use Rattle.bridge_ast.specs.Paths.{PathNames, NamesItem, in_root, in_itself, in_parent, in_submodule, by_alias, by_item, is_reserved}
use Rattle.bridge_ast.specs.inside.Resolution.{path_at, target_at, by_name, to_part, to_submodule, to_module, to_parent, next_of, item_last, named_item, again_within}
use Rattle.bridge_ast.specs.inside.Scopes.{ArePaths}
use Rattle.bridge_ast.specs.inside.Fitting.{FitInOrder}
use Rattle.bridge_ast.specs.inside.Trails.{leads_within, IsModule}
use Rattle.bridge_ast.proofs.AdvanceLemmas.{led, leads_by}
use Rattle.bridge_text.proofs.NameIndexLemmas.{same_text}
use Rattle.bridge_ast.proofs.NamedLemmas.{submodule_found, submodule_from, parent_found, parent_from, item_found, item_from, alias_found, alias_from}
use Rattle.bridge_ast.proofs.TrailLemmas.{begun, next_inside}

-- ---- one segment

name_at : (modules : List Module) (number : ℕ) (at : Head) (name : List ℕ) → is_reserved at name ≡ false → next_of modules number at name ≡ by_name modules number name
name_at modules number head.Start name h = neither (bytes_eq name (codes "crate")) (bytes_eq name (codes "self")) (bytes_eq name (codes "super")) _ _ _ (by_name modules number name) h
  where
    neither : (a b c : Bool) (x y z w : Next) → (a || (b || c)) ≡ false → cond a x (cond b y (cond c z w)) ≡ w
    neither true b c x y z w h = absurd cc
    neither false true c x y z w h = absurd cc
    neither false false true x y z w h = absurd cc
    neither false false false x y z w h = refl
name_at modules number head.Supers name h = ap (λ b. cond b (to_parent modules (parent_and_last (path_at modules number))) (by_name modules number name)) h
name_at modules number head.Names name h = refl

parent_step : (modules : List Module) (number : ℕ) (at : Head) → is_reserved at (codes "super") ≡ true → next_of modules number at (codes "super") ≡ to_parent modules (parent_and_last (path_at modules number))
parent_step modules number head.Start h = refl
parent_step modules number head.Supers h = refl
parent_step modules number head.Names h = absurd cc

abbrev parent_of : List Module → Option (List (List ℕ) × List ℕ) → Option ℕ
parent_of modules split = option_and_then (λ s. module_at modules s.0) split

parent_goes : (modules : List Module) (split : Option (List (List ℕ) × List ℕ)) (above : ℕ) → parent_of modules split ≡ Some above → to_parent modules split ≡ next.Goes above head.Supers
parent_goes modules None above h = absurd cc
parent_goes modules (Some (parent, last)) above h = ap to_module h

parent_of_goes : (modules : List Module) (split : Option (List (List ℕ) × List ℕ)) → (to_parent modules split ≡ next.Nothing) ⊎ ((above : ℕ) × (parent_of modules split ≡ Some above) × (to_parent modules split ≡ next.Goes above head.Supers))
parent_of_goes modules None = inl refl
parent_of_goes modules (Some (parent, last)) = found (module_at modules parent) refl
  where
    found : (o : Option ℕ) → module_at modules parent ≡ o → (to_module (module_at modules parent) ≡ next.Nothing) ⊎ ((above : ℕ) × (module_at modules parent ≡ Some above) × (to_module (module_at modules parent) ≡ next.Goes above head.Supers))
    found None e = inl (ap to_module e)
    found (Some above) e = inr (above, e, ap to_module e)

module _ (modules : List Module) (are : ArePaths modules) (sound : FitInOrder modules) (place : ItemPlace) where
  -- ---- what is named is led to

  leads_as_named : (steps number : ℕ) (at : Head) (path : List (List ℕ)) → PathNames modules place steps number at path → leads_within steps modules number at path ≡ Some place
  leads_as_named steps number at path (in_root _ _ rest names) = leads_as_named steps 0 head.Supers rest names
  leads_as_named steps number at path (in_itself _ _ rest names) = leads_as_named steps number head.Supers rest names
  leads_as_named steps number at path (in_parent _ _ above _ last rest may is names) =
      leads_by (again_within steps modules) modules number at (codes "super") rest (next.Goes above head.Supers)
      (parent_step modules number at may ∙ parent_goes modules (parent_and_last (path_at modules number)) above (parent_found modules are sound above last number is))
      ∙ leads_as_named steps above head.Supers rest names
  leads_as_named steps number at path (in_submodule _ _ below _ name rest may is names) =
      leads_by (again_within steps modules) modules number at name rest (next.Goes below head.Names)
      (name_at modules number at name may ∙ ap (λ o. to_submodule o (meaning_of (named_at modules number) name)) (submodule_found modules are sound number name below is))
      ∙ leads_as_named steps below head.Names rest names
  leads_as_named steps number at path (by_alias fewer _ _ name target rest may has names) =
      let (alias, none, is, its) = alias_found modules are sound number name target has in
      leads_by (again_within (suc fewer) modules) modules number at name rest (next.Alias alias)
      (name_at modules number at name may ∙ ap (λ o. to_submodule o (meaning_of (named_at modules number) name)) none ∙ ap to_part is)
      ∙ begun fewer modules number (target_at modules number alias ++ rest)
      ∙ ap (λ t. leads_within fewer modules number head.Start (t ++ rest)) its
      ∙ leads_as_named fewer number head.Start (target ++ rest) names
  leads_as_named steps number at path (by_item _ _ item _ name may has here) =
      let (none, is) = item_found modules are sound number name item has in
      leads_by (again_within steps modules) modules number at name [] (next.Item item)
      (name_at modules number at name may ∙ ap (λ o. to_submodule o (meaning_of (named_at modules number) name)) none ∙ ap to_part is)
      ∙ ap Some (sym here)

  -- ---- what is led to is named

  -- what a path names that is begun anew, with a step taken
  abbrev BegunNames : ℕ → Type 0
  BegunNames steps = (number : ℕ) (path : List (List ℕ)) → IsModule modules number → again_within steps modules number path ≡ Some place → (fewer : ℕ) × (steps ≡ suc fewer) × PathNames modules place fewer number head.Start path

  module _ (steps : ℕ) (anew : BegunNames steps) (number : ℕ) (is_module : IsModule modules number) (rest : List (List ℕ)) (later : (to : ℕ) (after : Head) → IsModule modules to → leads_within steps modules to after rest ≡ Some place → PathNames modules place steps to after rest) where
    abbrev NamesBy : Head → List ℕ → Next → Type 0
    NamesBy at segment step = led (again_within steps modules) modules number rest step ≡ Some place → PathNames modules place steps number at (segment ∷ rest)

    pick : (at : Head) (segment : List ℕ) (b : Bool) (x y : Next) → (b ≡ true → NamesBy at segment x) → (b ≡ false → NamesBy at segment y) → NamesBy at segment (cond b x y)
    pick at segment true x y p q = p refl
    pick at segment false x y p q = q refl

    item_by : (at : Head) (name : List ℕ) (item : ℕ) (after : List (List ℕ)) → is_reserved at name ≡ false → meaning_of (named_at modules number) name ≡ Some (part.Item item)
        → item_last number item after ≡ Some place → PathNames modules place steps number at (name ∷ after)
    item_by at name item [] may is h = by_item steps number item at name may (item_from modules are sound number name item is_module is) cc
    item_by at name item (segment ∷ after) may is h = absurd cc

    part_by : (at : Head) (name : List ℕ) → is_reserved at name ≡ false → (named : Option EnvPart) → meaning_of (named_at modules number) name ≡ named → NamesBy at name (to_part named)
    part_by at name may (Some (part.Item item)) is h = item_by at name item rest may is h
    part_by at name may (Some (part.Alias alias)) is h =
        let begins = anew number (target_at modules number alias ++ rest) is_module h in
        subst (λ n. PathNames modules place n number at (name ∷ rest)) (sym begins.1)
        (by_alias begins.0 number at name (target_at modules number alias) rest may (alias_from modules are sound number name alias is_module is) begins.2)
    part_by at name may (Some part.Module) is h = absurd cc
    part_by at name may (Some (part.Node i method n)) is h = absurd cc
    part_by at name may None is h = absurd cc

    submodule_by : (at : Head) (name : List ℕ) → is_reserved at name ≡ false → (found : Option ℕ) → module_at modules (path_at modules number ++ name ∷ []) ≡ found → NamesBy at name (to_submodule found (meaning_of (named_at modules number) name))
    submodule_by at name may (Some below) is h =
        let sub = submodule_from modules are sound number name below is_module is in
        in_submodule steps number below at name rest may sub (later below head.Names (sub.child, sub.inner_is) h)
    submodule_by at name may None is h = part_by at name may (meaning_of (named_at modules number) name) refl h

    name_by : (at : Head) (name : List ℕ) → is_reserved at name ≡ false → NamesBy at name (by_name modules number name)
    name_by at name may = submodule_by at name may (module_at modules (path_at modules number ++ name ∷ [])) refl

    super_by : (at : Head) (segment : List ℕ) → is_reserved at (codes "super") ≡ true → bytes_eq segment (codes "super") ≡ true → NamesBy at segment (to_parent modules (parent_and_last (path_at modules number)))
    super_by at segment may is h =
        elim (parent_of_goes modules (parent_and_last (path_at modules number))) [
          | inl none ↦ absurd (let e : None ≡ Some place = sym (ap (led (again_within steps modules) modules number rest) none) ∙ h in cc)
          | inr (above, found, goes) ↦
              let (last, sub) = parent_from modules are sound above number is_module found in
              subst (λ s. PathNames modules place steps number at (s ∷ rest)) (sym (same_text segment (codes "super") is))
              (in_parent steps number above at last rest may sub (later above head.Supers (sub.parent, sub.outer_is) (sym (ap (led (again_within steps modules) modules number rest) goes) ∙ h)))
        ]

    segment_by : (at : Head) (segment : List ℕ) → NamesBy at segment (next_of modules number at segment)
    segment_by head.Start segment =
        pick head.Start segment (bytes_eq segment (codes "crate")) _ _
        (λ is h. subst (λ s. PathNames modules place steps number head.Start (s ∷ rest)) (sym (same_text segment (codes "crate") is))
        (in_root steps number rest (later 0 head.Supers (next_inside modules number head.Start (codes "crate") is_module 0 head.Supers refl) h)))
        (λ no_crate. pick head.Start segment (bytes_eq segment (codes "self")) _ _
        (λ is h. subst (λ s. PathNames modules place steps number head.Start (s ∷ rest)) (sym (same_text segment (codes "self") is)) (in_itself steps number rest (later number head.Supers is_module h)))
        (λ no_self. pick head.Start segment (bytes_eq segment (codes "super")) _ _
        (λ is. super_by head.Start segment refl is)
        (λ no_super. name_by head.Start segment (ap (λ a. a || (bytes_eq segment (codes "self") || bytes_eq segment (codes "super"))) no_crate ∙ ap (λ b. b || bytes_eq segment (codes "super")) no_self ∙ no_super))))
    segment_by head.Supers segment =
        pick head.Supers segment (bytes_eq segment (codes "super")) _ _ (λ is. super_by head.Supers segment refl is) (λ no_super. name_by head.Supers segment no_super)
    segment_by head.Names segment = name_by head.Names segment refl

  named_as_led : (steps : ℕ) → BegunNames steps → (path : List (List ℕ)) (number : ℕ) (at : Head) → IsModule modules number → leads_within steps modules number at path ≡ Some place → PathNames modules place steps number at path
  named_as_led steps anew [] number at is_module h = absurd cc
  named_as_led steps anew (segment ∷ rest) number at is_module h =
      segment_by steps anew number is_module rest (λ to after inside led_on. named_as_led steps anew rest to after inside led_on) at segment
      (sym (leads_by (again_within steps modules) modules number at segment rest (next_of modules number at segment) refl) ∙ h)

  begun_names : (steps : ℕ) → BegunNames steps
  begun_names zero = λ number path is_module h. absurd cc
  begun_names (suc steps) = λ number path is_module h. (steps, refl, named_as_led steps (begun_names steps) path number head.Start is_module (sym (begun steps modules number path) ∙ h))

  -- a path names an item, case by case, exactly where it leads to it
  pub names_where_led : (number : ℕ) (path : List (List ℕ)) → IsModule modules number → named_item modules number path ≡ Some place ↔ NamesItem modules number path place
  names_where_led number path is_module = (
    λ h. named_as_led (alias_count modules + length path) (begun_names (alias_count modules + length path)) path number head.Start is_module (sym (begun (alias_count modules + length path) modules number path) ∙ h),
    λ names. begun (alias_count modules + length path) modules number path ∙ leads_as_named (alias_count modules + length path) number head.Start path names,
  )

-- a path names one item at most
pub named_once : (modules : List Module) → ArePaths modules → FitInOrder modules → (number : ℕ) (path : List (List ℕ)) (one other : ItemPlace)
    → NamesItem modules number path one → NamesItem modules number path other → one ≡ other
named_once modules are sound number path one other names also =
    let steps = alias_count modules + length path in
    let both : Some one ≡ Some other =
    (sym (leads_as_named modules are sound one steps number head.Start path names) ∙ leads_as_named modules are sound other steps number head.Start path also)
    in
    cc

-- and it is decided whether it names any
pub named_or_not : (modules : List Module) → ArePaths modules → FitInOrder modules → (number : ℕ) (path : List (List ℕ))
    → IsModule modules number
    → ((place : ItemPlace) × NamesItem modules number path place) ⊎ ((place : ItemPlace) → ¬ NamesItem modules number path place)
named_or_not modules are sound number path is_module = by (named_item modules number path) refl
  where
    by : (found : Option ItemPlace) → named_item modules number path ≡ found
        → ((place : ItemPlace) × NamesItem modules number path place) ⊎ ((place : ItemPlace) → ¬ NamesItem modules number path place)
    by (Some place) e = inl (place, (names_where_led modules are sound place number path is_module).0 e)
    by None e = inr (λ place names. let there = (names_where_led modules are sound place number path is_module).1 names in absurd cc)
