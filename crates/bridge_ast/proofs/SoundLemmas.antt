-- Modules fit together exactly where they have no fault.
use Rattle.std.proofs.Common.{◌≡◌, ℕ, Bool, true, false, ◌&&◌, not, List, [], ◌∷◌, ◌++◌, length, Option, Some, None, refl, ap}
use Rattle.std.proofs.Common.{◌∙◌}
use Rattle.std.specs.Prelude.{option_map, slice_get}
use Rattle.bridge_decl.specs.declared.lifetimes.LifetimeNode.{LifetimeNode}
use Rattle.bridge_decl.specs.declared.modules.Alias.{Alias}
use Rattle.bridge_decl.specs.declared.modules.Item.{Item}
use Rattle.bridge_decl.specs.declared.modules.Module.{Module}
use Rattle.bridge_ast.specs.declared.bounds.Side.TheVariants.{Longer, Shorter}
use Rattle.bridge_ast.specs.declared.fault.EnvFault.{EnvFault}
use Rattle.bridge_ast.specs.declared.fault.EnvFault.TheVariants.{Bad}
use Rattle.bridge_ast.specs.declared.fault.EnvFaultKind.{EnvFaultKind}
use Rattle.bridge_ast.specs.declared.fault.EnvPlace.{EnvPlace}
use Rattle.bridge_text.specs.NameIndex.{meaning_of}
use Rattle.bridge_ast.specs.Bounds.{in_range, answered}
use Rattle.bridge_ast.specs.Each.{each_after}
use Rattle.bridge_ast.specs.declared.fault.EnvFault.TheVariants.{NoMemory}
use Rattle.bridge_ast.specs.declared.fault.EnvFaultKind.TheVariants.{DuplicateModule, DuplicateItem}
use Rattle.bridge_ast.specs.declared.fault.EnvFaultKind.TheVariants.{DuplicateLifetime, BoundOutOfRange}
use Rattle.bridge_ast.specs.declared.fault.EnvFaultKind.TheVariants.{BoundOneSided}
use Rattle.bridge_ast.specs.declared.fault.EnvPart.TheVariants as part
use Rattle.bridge_decl.specs.Names.{item_name}
use Rattle.bridge_ast.specs.EnvFaults.{IsBad, IsFirst, repeats, repeats_name, where_so, node_faults, lifetime_faults, item_faults}
use Rattle.bridge_ast.specs.EnvFaults.{alias_faults, method_faults, faults_under, parent_faults, path_faults, content_faults}
use Rattle.bridge_ast.specs.EnvFaults.{module_faults, faults_of, parent_and_last, module_at, named_at, nodes_named}
use Rattle.bridge_ast.specs.EnvFaults.{items_named, aliases_named, nodes_of, method_nodes_of, place}
use Rattle.bridge_ast.specs.inside.Fitting.{AllAfter, FitNodes, FitsNode, FitsItem, FitsAlias, IsFree, FitsUnder}
use Rattle.bridge_ast.specs.inside.Fitting.{FitsModule, FitInOrder}

nil_parts : {A : Type 0} (xs ys : List A) → xs ++ ys ≡ [] → (xs ≡ []) × (ys ≡ [])
nil_parts [] ys h = (refl, h)
nil_parts (x ∷ xs) ys h = absurd cc

nil_both : {A : Type 0} (xs ys : List A) → xs ≡ [] → ys ≡ [] → xs ++ ys ≡ []
nil_both xs ys e h = ap (λ zs. zs ++ ys) e ∙ h

module _ {X : Type 0} (f : List X → X → List EnvFault) (P : List X → X → Type 0) where
  all_from : ((before : List X) (x : X) → f before x ≡ [] → P before x) → (before xs : List X) → each_after f before xs ≡ []
      → AllAfter P before xs
  all_from holds before [] none = tt
  all_from holds before (x ∷ xs) none =
      let parts = nil_parts (f before x) (each_after f (before ++ x ∷ []) xs) none in
      (holds before x parts.0, all_from holds (before ++ x ∷ []) xs parts.1)

  none_from : ((before : List X) (x : X) → P before x → f before x ≡ []) → (before xs : List X) → AllAfter P before xs
      → each_after f before xs ≡ []
  none_from nothing before [] all = refl
  none_from nothing before (x ∷ xs) all =
      nil_both (f before x) (each_after f (before ++ x ∷ []) xs) (nothing before x all.0)
      (none_from nothing (before ++ x ∷ []) xs all.1)

not_repeated : {A : Type 0} (kind : EnvFaultKind) (here : EnvPlace) (f : A → EnvPlace) (found : Option A)
    → repeats kind here (option_map f found) ≡ [] → found ≡ None
not_repeated kind here f None h = refl
not_repeated kind here f (Some x) h = absurd cc

no_repeat : {A : Type 0} (kind : EnvFaultKind) (here : EnvPlace) (f : A → EnvPlace) (found : Option A) → found ≡ None
    → repeats kind here (option_map f found) ≡ []
no_repeat kind here f None h = refl
no_repeat kind here f (Some x) h = absurd cc

both_so : (a b : Bool) (fault : EnvFault) → where_so (not (a && b)) fault ≡ [] → (a ≡ true) × (b ≡ true)
both_so true true fault h = (refl, refl)
both_so true false fault h = absurd cc
both_so false b fault h = absurd cc

not_both : (a b : Bool) (fault : EnvFault) → a ≡ true → b ≡ true → where_so (not (a && b)) fault ≡ []
not_both true true fault h g = refl
not_both true false fault h g = absurd cc
not_both false b fault h g = absurd cc

-- ---- nodes

module _ (number item : ℕ) (method : Option ℕ) (nodes before : List LifetimeNode) (node : LifetimeNode) where
  abbrev name_faults : List EnvFault
  name_faults =
      repeats_name DuplicateLifetime number (nodes_named item method before) node.name (part.Node item method (length before))

  abbrev range_faults : List EnvFault
  range_faults =
      where_so (not (in_range Longer nodes node && in_range Shorter nodes node))
      (Bad BoundOutOfRange (place number (part.Node item method (length before))) None)

  abbrev side_faults : List EnvFault
  side_faults =
      where_so (not (answered Longer nodes (length before) node && answered Shorter nodes (length before) node))
      (Bad BoundOneSided (place number (part.Node item method (length before))) None)

  node_sound : node_faults number item method nodes before node ≡ [] → FitsNode item method nodes before node
  node_sound none =
      let parts = nil_parts name_faults (range_faults ++ side_faults) none in
      let bounds = nil_parts range_faults side_faults parts.1 in
      let ranged = both_so (in_range Longer nodes node) (in_range Shorter nodes node)
      (Bad BoundOutOfRange (place number (part.Node item method (length before))) None) bounds.0 in
      let two_sided = both_so (answered Longer nodes (length before) node) (answered Shorter nodes (length before) node)
      (Bad BoundOneSided (place number (part.Node item method (length before))) None) bounds.1 in
      record {
        new =
            not_repeated DuplicateLifetime (place number (part.Node item method (length before))) (place number)
            (meaning_of (nodes_named item method before) node.name) parts.0;
        longer_declared = ranged.0;
        shorter_declared = ranged.1;
        longer_has_shorter = two_sided.0;
        shorter_has_longer = two_sided.1;
      }

  node_clean : FitsNode item method nodes before node → node_faults number item method nodes before node ≡ []
  node_clean sound =
      nil_both name_faults (range_faults ++ side_faults) (no_repeat DuplicateLifetime
      (place number (part.Node item method (length before))) (place number)
      (meaning_of (nodes_named item method before) node.name) sound.new)
      (nil_both range_faults side_faults (not_both (in_range Longer nodes node) (in_range Shorter nodes node)
      (Bad BoundOutOfRange (place number (part.Node item method (length before))) None) sound.longer_declared
      sound.shorter_declared)
      (not_both (answered Longer nodes (length before) node) (answered Shorter nodes (length before) node)
      (Bad BoundOneSided (place number (part.Node item method (length before))) None) sound.longer_has_shorter
      sound.shorter_has_longer))

-- ---- items and aliases

-- the lifetimes of a declaration
nodes_sound : (number item : ℕ) (method : Option ℕ) (nodes : List LifetimeNode) → lifetime_faults number item method nodes ≡ []
    → FitNodes item method nodes
nodes_sound number item method nodes none =
    all_from (node_faults number item method nodes) (FitsNode item method nodes)
    (node_sound number item method nodes) [] nodes none

nodes_clean : (number item : ℕ) (method : Option ℕ) (nodes : List LifetimeNode) → FitNodes item method nodes
    → lifetime_faults number item method nodes ≡ []
nodes_clean number item method nodes sound =
    none_from (node_faults number item method nodes) (FitsNode item method nodes)
    (node_clean number item method nodes) [] nodes sound

module _ (number : ℕ) (before : List Item) (item : Item) where
  abbrev item_name_faults : List EnvFault
  item_name_faults = repeats_name DuplicateItem number (items_named before) (item_name item) (part.Item (length before))

  item_sound : item_faults number before item ≡ [] → FitsItem before item
  item_sound none =
      let parts = nil_parts item_name_faults (lifetime_faults number (length before) None (nodes_of item) ++ each_after
      (method_faults number (length before)) [] (method_nodes_of item)) none in
      let inner = nil_parts (lifetime_faults number (length before) None (nodes_of item))
      (each_after (method_faults number (length before)) [] (method_nodes_of item)) parts.1 in
      record {
        new =
            not_repeated DuplicateItem (place number (part.Item (length before))) (place number)
            (meaning_of (items_named before) (item_name item)) parts.0;
        lifetimes = nodes_sound number (length before) None (nodes_of item) inner.0;
        methods =
            all_from (method_faults number (length before)) (λ earlier nodes. FitNodes (length before)
            (Some (length earlier)) nodes)
            (λ earlier nodes h. nodes_sound number (length before) (Some (length earlier)) nodes h) []
            (method_nodes_of item) inner.1;
      }

  item_clean : FitsItem before item → item_faults number before item ≡ []
  item_clean sound =
      nil_both item_name_faults (lifetime_faults number (length before) None (nodes_of item) ++ each_after
      (method_faults number (length before)) [] (method_nodes_of item))
      (no_repeat DuplicateItem (place number (part.Item (length before))) (place number)
      (meaning_of (items_named before) (item_name item)) sound.new)
      (nil_both (lifetime_faults number (length before) None (nodes_of item))
      (each_after (method_faults number (length before)) [] (method_nodes_of item))
      (nodes_clean number (length before) None (nodes_of item) sound.lifetimes)
      (none_from (method_faults number (length before)) (λ earlier nodes. FitNodes (length before)
      (Some (length earlier)) nodes)
      (λ earlier nodes h. nodes_clean number (length before) (Some (length earlier)) nodes h) []
      (method_nodes_of item) sound.methods))

alias_sound : (number : ℕ) (items : List Item) (before : List Alias) (alias : Alias) → alias_faults number items before alias ≡ []
    → FitsAlias items before alias
alias_sound number items before alias none =
    not_repeated DuplicateItem (place number (part.Alias (length before))) (place number)
    (meaning_of (items_named items ++ aliases_named before) alias.name) none

alias_clean : (number : ℕ) (items : List Item) (before : List Alias) (alias : Alias) → FitsAlias items before alias
    → alias_faults number items before alias ≡ []
alias_clean number items before alias sound =
    no_repeat DuplicateItem (place number (part.Alias (length before))) (place number)
    (meaning_of (items_named items ++ aliases_named before) alias.name) sound

-- ---- modules

free_from : (before : List Module) (found : Option ℕ) (name : List ℕ) → faults_under before found name ≡ []
    → IsFree before found name
free_from before None name none = absurd cc
free_from before (Some number) name none =
    not_repeated DuplicateItem (place (length before) part.Module) (place number) (meaning_of (named_at before number) name) none

clean_under : (before : List Module) (found : Option ℕ) (name : List ℕ) → IsFree before found name
    → faults_under before found name ≡ []
clean_under before None name free = absurd free
clean_under before (Some number) name free =
    no_repeat DuplicateItem (place (length before) part.Module) (place number) (meaning_of (named_at before number) name) free

parent_from : (before : List Module) (split : Option (List (List ℕ) × List ℕ)) → parent_faults before split ≡ []
    → FitsUnder before split
parent_from before None none = tt
parent_from before (Some (parent, name)) none = free_from before (module_at before parent) name none

parent_clean : (before : List Module) (split : Option (List (List ℕ) × List ℕ)) → FitsUnder before split
    → parent_faults before split ≡ []
parent_clean before None has = refl
parent_clean before (Some (parent, name)) has = clean_under before (module_at before parent) name has

module_sound : (before : List Module) (m : Module) → module_faults before m ≡ [] → FitsModule before m
module_sound before m none =
    let parts = nil_parts (path_faults before m.path) (content_faults (length before) m) none in
    let path = nil_parts (repeats DuplicateModule (place (length before) part.Module)
    (option_map (λ earlier. place earlier part.Module) (module_at before m.path)))
    (parent_faults before (parent_and_last m.path)) parts.0 in
    let contents = nil_parts (each_after (item_faults (length before)) [] m.items)
    (each_after (alias_faults (length before) m.items) [] m.aliases) parts.1 in
    record {
      new =
          not_repeated DuplicateModule (place (length before) part.Module) (λ earlier. place earlier part.Module)
          (module_at before m.path) path.0;
      parent = parent_from before (parent_and_last m.path) path.1;
      items = all_from (item_faults (length before)) FitsItem (item_sound (length before)) [] m.items contents.0;
      aliases =
          all_from (alias_faults (length before) m.items) (FitsAlias m.items)
          (alias_sound (length before) m.items) [] m.aliases contents.1;
    }

module_clean : (before : List Module) (m : Module) → FitsModule before m → module_faults before m ≡ []
module_clean before m sound =
    nil_both (path_faults before m.path) (content_faults (length before) m)
    (nil_both (repeats DuplicateModule (place (length before) part.Module) (option_map (λ earlier. place earlier part.Module)
    (module_at before m.path))) (parent_faults before (parent_and_last m.path))
    (no_repeat DuplicateModule (place (length before) part.Module) (λ earlier. place earlier part.Module)
    (module_at before m.path) sound.new) (parent_clean before (parent_and_last m.path) sound.parent))
    (nil_both (each_after (item_faults (length before)) [] m.items) (each_after
    (alias_faults (length before) m.items) [] m.aliases)
    (none_from (item_faults (length before)) FitsItem (item_clean (length before)) [] m.items sound.items)
    (none_from (alias_faults (length before) m.items) (FitsAlias m.items)
    (alias_clean (length before) m.items) [] m.aliases sound.aliases))

-- modules fit together exactly where they have no fault
pub sound_from : (modules : List Module) → faults_of modules ≡ [] → FitInOrder modules
sound_from modules none = all_from module_faults FitsModule module_sound [] modules none

pub clean_from : (modules : List Module) → FitInOrder modules → faults_of modules ≡ []
clean_from modules sound = none_from module_faults FitsModule module_clean [] modules sound

pub broken_by : (fault : EnvFault) (modules : List Module) → IsBad fault → IsFirst fault (faults_of modules) → ¬ FitInOrder modules
broken_by NoMemory modules bad first sound = bad
broken_by (Bad kind here earlier) modules bad first sound =
    let e : slice_get (faults_of modules) 0 ≡ None = ap (λ faults. slice_get faults 0) (clean_from modules sound) in cc
