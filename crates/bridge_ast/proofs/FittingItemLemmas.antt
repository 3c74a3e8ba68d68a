-- The lifetimes of items and of their methods pass the tests exactly where they fit together; the names of items and aliases.
use Rattle.std.proofs.Common.{◌≡◌, ℕ, List, [], ◌∷◌, ◌++◌, length, map, ap, ◌∙◌, subst, Some, None}
use Rattle.std.specs.List.{AllByRecursion, Contains}
use Rattle.std.proofs.lemmas.List.{map-append}
use Rattle.bridge_ast.specs.declared.fault.EnvPart.TheVariants as part
use Rattle.bridge_decl.specs.declared.methods.Method.{Method}
use Rattle.bridge_decl.specs.declared.traits.TraitMethod.{TraitMethod}
use Rattle.bridge_decl.specs.declared.modules.Alias.{Alias}
use Rattle.bridge_decl.specs.declared.modules.Item.{Item}
use Rattle.bridge_decl.specs.declared.modules.Item.TheVariants.{Struct, Opaque, Enum, Trait, Function}
use Rattle.bridge_decl.specs.declared.lifetimes.LifetimeEnv.{LifetimeEnv}
use Rattle.bridge_decl.specs.declared.lifetimes.LifetimeNode.{LifetimeNode}
use Rattle.bridge_ast.specs.EnvFaults.{items_named, aliases_named, nodes_of, method_nodes_of, Named}
use Rattle.bridge_ast.specs.Sound.{lifetimes_of}
use Rattle.bridge_decl.specs.Names.{item_name}
use Rattle.bridge_ast.specs.inside.Fitting.{AllAfter, FitNodes, FitsItem, FitsAlias}
use Rattle.bridge_decl.specs.Lifetimes.{IsSoundEnvironment}
use Rattle.bridge_ast.proofs.DistinctLemmas.{absent_from, names_after}
use Rattle.bridge_ast.proofs.FittingLifetimeLemmas.{lifetimes_from, lifetimes_to}

-- ---- items

module _ {M : Type 0} (lifetimes : M → LifetimeEnv) (item : ℕ) where
  methods_from : (before : List (List LifetimeNode)) (methods : List M)
      → AllAfter (λ earlier nodes. FitNodes item (Some (length earlier)) nodes) before (map (λ m. (lifetimes m).nodes) methods)
      → AllByRecursion IsSoundEnvironment (map lifetimes methods)
  methods_from before [] all = tt
  methods_from before (m ∷ methods) all =
      (lifetimes_from item (Some (length before)) (lifetimes m) all.0, methods_from (before ++ (lifetimes m).nodes ∷ []) methods all.1)

  methods_to : (before : List (List LifetimeNode)) (methods : List M) → AllByRecursion IsSoundEnvironment (map lifetimes methods)
      → AllAfter (λ earlier nodes. FitNodes item (Some (length earlier)) nodes) before (map (λ m. (lifetimes m).nodes) methods)
  methods_to before [] all = tt
  methods_to before (m ∷ methods) all =
      (lifetimes_to item (Some (length before)) (lifetimes m) all.0, methods_to (before ++ (lifetimes m).nodes ∷ []) methods all.1)

pub item_from : (before : List Item) (item : Item) → FitsItem before item → AllByRecursion IsSoundEnvironment (lifetimes_of item)
item_from before (Struct item) fits =
    (lifetimes_from (length before) None item.lifetimes fits.lifetimes, methods_from (λ (m : Method). m.lifetime_env) (length before) [] item.methods fits.methods)
item_from before (Opaque item) fits =
    (lifetimes_from (length before) None item.lifetimes fits.lifetimes, methods_from (λ (m : Method). m.lifetime_env) (length before) [] item.methods fits.methods)
item_from before (Enum item) fits = methods_from (λ (m : Method). m.lifetime_env) (length before) [] item.methods fits.methods
item_from before (Trait item) fits =
    (lifetimes_from (length before) None item.lifetimes fits.lifetimes, methods_from (λ (m : TraitMethod). m.lifetimes) (length before) [] item.methods fits.methods)
item_from before (Function item) fits = (lifetimes_from (length before) None item.lifetimes fits.lifetimes, tt)

pub own_to : (number : ℕ) (item : Item) → AllByRecursion IsSoundEnvironment (lifetimes_of item) → FitNodes number None (nodes_of item)
own_to number (Struct item) all = lifetimes_to number None item.lifetimes all.0
own_to number (Opaque item) all = lifetimes_to number None item.lifetimes all.0
own_to number (Enum item) all = tt
own_to number (Trait item) all = lifetimes_to number None item.lifetimes all.0
own_to number (Function item) all = lifetimes_to number None item.lifetimes all.0

pub theirs_to : (number : ℕ) (item : Item) → AllByRecursion IsSoundEnvironment (lifetimes_of item)
    → AllAfter (λ earlier nodes. FitNodes number (Some (length earlier)) nodes) [] (method_nodes_of item)
theirs_to number (Struct item) all = methods_to (λ (m : Method). m.lifetime_env) number [] item.methods all.1
theirs_to number (Opaque item) all = methods_to (λ (m : Method). m.lifetime_env) number [] item.methods all.1
theirs_to number (Enum item) all = methods_to (λ (m : Method). m.lifetime_env) number [] item.methods all
theirs_to number (Trait item) all = methods_to (λ (m : TraitMethod). m.lifetimes) number [] item.methods all.1
theirs_to number (Function item) all = tt

pub item_absent : (before : List Item) (item : Item) → FitsItem before item → ¬ Contains ([] ++ map item_name before) (item_name item)
item_absent before item fits =
    subst (λ names. ¬ Contains names (item_name item)) (names_after item_name (λ n. part.Item n) [] before)
    (absent_from (items_named before) (item_name item) fits.new)

pub names_of_both : (items : List Item) (aliases : List Alias)
    → map (λ (n : Named). n.0) (items_named items ++ aliases_named aliases) ≡ map item_name items ++ map (λ (a : Alias). a.name) aliases
names_of_both items aliases =
    map-append (λ (n : Named). n.0) (items_named items) (aliases_named aliases)
    ∙ ap (λ names. names ++ map (λ (n : Named). n.0) (aliases_named aliases)) (names_after item_name (λ n. part.Item n) [] items)
    ∙ ap (λ names. map item_name items ++ names) (names_after (λ (a : Alias). a.name) (λ n. part.Alias n) [] aliases)

pub alias_absent : (items : List Item) (before : List Alias) (alias : Alias) → FitsAlias items before alias
    → ¬ Contains (map item_name items ++ map (λ (a : Alias). a.name) before) alias.name
alias_absent items before alias fits =
    subst (λ names. ¬ Contains names alias.name) (names_of_both items before) (absent_from (items_named items ++ aliases_named before) alias.name fits)
