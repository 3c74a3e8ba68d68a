-- Each fault between declarations is told of a place that there is.
use Rattle.std.proofs.Common.{◌≡◌, ℕ, zero, suc, ◌<◌, Bool, true, false, List, [], ◌∷◌, ◌++◌, length, Option, Some, None, append_assoc, refl, subst, ◌∙◌, arith}
use Rattle.std.specs.Prelude.{not, ◌&&◌, option_map, slice_get}
use Rattle.std.specs.List.{All}
use Rattle.std.proofs.lemmas.List.Elements.{All-append}
use Rattle.bridge_decl.specs.declared.lifetimes.LifetimeNode.{LifetimeNode}
use Rattle.bridge_decl.specs.declared.modules.Alias.{Alias}
use Rattle.bridge_decl.specs.declared.modules.Item.{Item}
use Rattle.bridge_decl.specs.declared.modules.Module.{Module}
use Rattle.bridge_ast.specs.declared.bounds.Side.TheVariants.{Longer, Shorter}
use Rattle.bridge_ast.specs.declared.fault.EnvFault.{EnvFault}
use Rattle.bridge_ast.specs.declared.fault.EnvFault.TheVariants.{Bad}
use Rattle.bridge_ast.specs.declared.fault.EnvFaultKind.{EnvFaultKind}
use Rattle.bridge_ast.specs.declared.fault.EnvFaultKind.TheVariants.{DuplicateModule, ParentMissing, DuplicateItem, DuplicateLifetime, BoundOutOfRange, BoundOneSided}
use Rattle.bridge_ast.specs.declared.fault.EnvPart.{EnvPart}
use Rattle.bridge_ast.specs.declared.fault.EnvPart.TheVariants as part
use Rattle.bridge_ast.specs.declared.fault.EnvPlace.{EnvPlace}
use Rattle.bridge_ast.specs.Bounds.{in_range, answered}
use Rattle.bridge_ast.specs.Each.{each, each_after}
use Rattle.bridge_text.specs.NameIndex.{meaning_of}
use Rattle.bridge_ast.specs.EnvFaults.{Named, aliases_named, items_named, named_at, nodes_named, place, module_at, parent_and_last, where_so, repeats, repeats_name, bound_faults, node_faults, lifetime_faults, method_nodes_of, nodes_of, method_faults, item_faults, alias_faults, faults_under, parent_faults, content_faults, module_faults, faults_of, path_faults}
use Rattle.bridge_decl.specs.Names.{item_name}
use Rattle.bridge_read.specs.TruePlaces.{HasLifetime, HasPart, HasPlace, IsPlaced}

-- ---- elements and their numbers

got_here : {X : Type 0} (before : List X) (x : X) (xs : List X) → slice_get (before ++ x ∷ xs) (length before) ≡ Some x
got_here [] x xs = refl
got_here (y ∷ before) x xs = got_here before x xs

got_below : {X : Type 0} (xs : List X) (n : ℕ) (x : X) → slice_get xs n ≡ Some x → n < length xs
got_below [] n x e = absurd cc
got_below (y ∷ xs) zero x e = omega arith
got_below (y ∷ xs) (suc n) x e = let lt = got_below xs n x e in omega (arith, lt)

module _ (P : EnvFault → Type 0) where
  none_placed : All P []
  none_placed k d lt = absurd (omega (arith, lt))

  one_placed : (fault : EnvFault) → P fault → All P (fault ∷ [])
  one_placed fault p zero d lt = p
  one_placed fault p (suc k) d lt = absurd (omega (arith, lt))

  each_placed : {X : Type 0} (f : List X → X → List EnvFault) (all : List X) → ((before : List X) (x : X) → slice_get all (length before) ≡ Some x → All P (f before x))
      → (before xs : List X) → before ++ xs ≡ all → All P (each_after f before xs)
  each_placed f all step before [] e = none_placed
  each_placed f all step before (x ∷ xs) e =
      All-append P (f before x) (each_after f (before ++ x ∷ []) xs) (step before x (subst (λ l. slice_get l (length before) ≡ Some x) e (got_here before x xs)))
      (each_placed f all step (before ++ x ∷ []) xs (append_assoc before (x ∷ []) xs ∙ e))

module _ (modules : List Module) where
  abbrev Placed : List EnvFault → Type 0
  Placed faults = All (IsPlaced modules) faults

  both_placed : (xs ys : List EnvFault) → Placed xs → Placed ys → Placed (xs ++ ys)
  both_placed xs ys = All-append (IsPlaced modules) xs ys

  repeats_placed : (kind : EnvFaultKind) (at : EnvPlace) (earlier : Option EnvPlace) → HasPlace modules at → Placed (repeats kind at earlier)
  repeats_placed kind at None has = none_placed (IsPlaced modules)
  repeats_placed kind at (Some earlier) has = one_placed (IsPlaced modules) (Bad kind at (Some earlier)) has

  where_placed : (b : Bool) (kind : EnvFaultKind) (at : EnvPlace) → HasPlace modules at → Placed (where_so b (Bad kind at None))
  where_placed true kind at has = one_placed (IsPlaced modules) (Bad kind at None) has
  where_placed false kind at has = none_placed (IsPlaced modules)

  module _ (number : ℕ) (m : Module) (here : slice_get modules number ≡ Some m) where
    there : (what : EnvPart) → HasPart m what → HasPlace modules (place number what)
    there what has = (m, here, has)

    named_placed : (kind : EnvFaultKind) (earlier : List Named) (name : List ℕ) (what : EnvPart) → HasPart m what → Placed (repeats_name kind number earlier name what)
    named_placed kind earlier name what has = repeats_placed kind (place number what) (option_map (place number) (meaning_of earlier name)) (there what has)

    bound_placed : (what : EnvPart) (nodes : List LifetimeNode) (n : ℕ) (node : LifetimeNode) → HasPart m what → Placed (bound_faults (place number what) nodes n node)
    bound_placed what nodes n node has =
        let range : Bool = not (in_range Longer nodes node && in_range Shorter nodes node) in
        let side : Bool = not (answered Longer nodes n node && answered Shorter nodes n node) in
        both_placed (where_so range (Bad BoundOutOfRange (place number what) None)) (where_so side (Bad BoundOneSided (place number what) None))
        (where_placed range BoundOutOfRange (place number what) (there what has)) (where_placed side BoundOneSided (place number what) (there what has))

    module _ (holder : ℕ) (it : Item) (held : slice_get m.items holder ≡ Some it) where
      lifetimes_placed : (method : Option ℕ) (nodes : List LifetimeNode) → ((n : ℕ) → n < length nodes → HasLifetime it method n) → Placed (lifetime_faults number holder method nodes)
      lifetimes_placed method nodes has =
          each_placed (IsPlaced modules) (node_faults number holder method nodes) nodes
          (λ before node at.
          let what : EnvPart = part.Node holder method (length before) in
          let is : HasPart m (part.Node holder method (length before)) = (it, held, has (length before) (got_below nodes (length before) node at)) in
          both_placed (repeats_name DuplicateLifetime number (nodes_named holder method before) node.name what) (bound_faults (place number what) nodes (length before) node)
          (named_placed DuplicateLifetime (nodes_named holder method before) node.name what is) (bound_placed what nodes (length before) node is))
          [] nodes refl

      methods_placed : Placed (each (method_faults number holder) (method_nodes_of it))
      methods_placed =
          each_placed (IsPlaced modules) (method_faults number holder) (method_nodes_of it)
          (λ before nodes at. lifetimes_placed (Some (length before)) nodes (λ n lt. (nodes, at, lt)))
          [] (method_nodes_of it) refl

    item_placed : (before : List Item) (it : Item) → slice_get m.items (length before) ≡ Some it → Placed (item_faults number before it)
    item_placed before it at =
        let n : ℕ = length before in
        both_placed (repeats_name DuplicateItem number (items_named before) (item_name it) (part.Item n))
        (lifetime_faults number n None (nodes_of it) ++ each (method_faults number n) (method_nodes_of it))
        (named_placed DuplicateItem (items_named before) (item_name it) (part.Item n) (got_below m.items n it at))
        (both_placed (lifetime_faults number n None (nodes_of it)) (each (method_faults number n) (method_nodes_of it))
        (lifetimes_placed n it at None (nodes_of it) (λ k lt. lt)) (methods_placed n it at))

    alias_placed : (before : List Alias) (alias : Alias) → slice_get m.aliases (length before) ≡ Some alias → Placed (alias_faults number m.items before alias)
    alias_placed before alias at =
        named_placed DuplicateItem (items_named m.items ++ aliases_named before) alias.name (part.Alias (length before)) (got_below m.aliases (length before) alias at)

    content_placed : Placed (content_faults number m)
    content_placed =
        both_placed (each (item_faults number) m.items) (each (alias_faults number m.items) m.aliases)
        (each_placed (IsPlaced modules) (item_faults number) m.items item_placed [] m.items refl)
        (each_placed (IsPlaced modules) (alias_faults number m.items) m.aliases alias_placed [] m.aliases refl)

  module _ (before : List Module) (m : Module) (here : slice_get modules (length before) ≡ Some m) where
    under_placed : (o : Option ℕ) (name : List ℕ) → Placed (faults_under before o name)
    under_placed None name = one_placed (IsPlaced modules) (Bad ParentMissing (place (length before) part.Module) None) (there (length before) m here part.Module tt)
    under_placed (Some n) name =
        repeats_placed DuplicateItem (place (length before) part.Module) (option_map (place n) (meaning_of (named_at before n) name)) (there (length before) m here part.Module tt)

    parent_placed : (split : Option (List (List ℕ) × List ℕ)) → Placed (parent_faults before split)
    parent_placed None = none_placed (IsPlaced modules)
    parent_placed (Some (parent, name)) = under_placed (module_at before parent) name

    module_placed : Placed (module_faults before m)
    module_placed =
        both_placed (path_faults before m.path) (content_faults (length before) m)
        (both_placed (repeats DuplicateModule (place (length before) part.Module) (option_map (λ earlier. place earlier part.Module) (module_at before m.path)))
        (parent_faults before (parent_and_last m.path))
        (repeats_placed DuplicateModule (place (length before) part.Module) (option_map (λ earlier. place earlier part.Module) (module_at before m.path)) (there (length before) m here part.Module tt))
        (parent_placed (parent_and_last m.path)))
        (content_placed (length before) m here)

  -- each fault between the modules
  pub all_placed : All (IsPlaced modules) (faults_of modules)
  all_placed = each_placed (IsPlaced modules) module_faults modules module_placed [] modules refl
