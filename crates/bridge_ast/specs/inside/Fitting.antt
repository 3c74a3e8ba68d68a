-- When modules fit together, as each part is tested after the parts before it.
use Rattle.std.specs.Prelude.{◌≡◌, ℕ, List, [], ◌∷◌, ◌++◌, length, Option, Some, None, true, ⊤}
use Rattle.bridge_decl.specs.declared.lifetimes.LifetimeNode.{LifetimeNode}
use Rattle.bridge_decl.specs.declared.modules.Alias.{Alias}
use Rattle.bridge_decl.specs.declared.modules.Item.{Item}
use Rattle.bridge_decl.specs.declared.modules.Module.{Module}
use Rattle.bridge_ast.specs.declared.bounds.Side.TheVariants.{Longer, Shorter}
use Rattle.bridge_text.specs.NameIndex.{meaning_of}
use Rattle.bridge_ast.specs.Bounds.{in_range, answered}
use Rattle.bridge_ast.specs.EnvFaults.{module_at, parent_and_last, named_at, nodes_named, items_named, aliases_named}
use Rattle.bridge_ast.specs.EnvFaults.{nodes_of, method_nodes_of}
use Rattle.bridge_decl.specs.Names.{item_name}

-- P holds of each element of a list that goes on after others; it is told the elements that stand before
abbrev pub AllAfter : {X : Type 0} → (List X → X → Type 0) → List X → List X → Type 0
AllAfter P before [] = ⊤
AllAfter P before (x ∷ xs) = P before x × AllAfter P (before ++ x ∷ []) xs

-- no earlier lifetime has its name; its bounds are with lifetimes of the environment, and stand at their other ends too
pub record FitsNode (item : ℕ) (method : Option ℕ) (nodes before : List LifetimeNode) (node : LifetimeNode) : Type 0 where
  pub new : meaning_of (nodes_named item method before) node.name ≡ None
  pub longer_declared : in_range Longer nodes node ≡ true
  pub shorter_declared : in_range Shorter nodes node ≡ true
  pub longer_has_shorter : answered Longer nodes (length before) node ≡ true
  pub shorter_has_longer : answered Shorter nodes (length before) node ≡ true

-- the lifetimes of a declaration fit together
abbrev pub FitNodes : ℕ → Option ℕ → List LifetimeNode → Type 0
FitNodes item method nodes = AllAfter (FitsNode item method nodes) [] nodes

-- no earlier item has its name, and its lifetimes and those of its methods fit together
pub record FitsItem (before : List Item) (item : Item) : Type 0 where
  pub new : meaning_of (items_named before) (item_name item) ≡ None
  pub lifetimes : FitNodes (length before) None (nodes_of item)
  pub methods : AllAfter (λ earlier nodes. FitNodes (length before) (Some (length earlier)) nodes) [] (method_nodes_of item)

-- no item and no earlier alias has its name
abbrev pub FitsAlias : List Item → List Alias → Alias → Type 0
FitsAlias items before alias = meaning_of (items_named items ++ aliases_named before) alias.name ≡ None

-- the module of a number has no item and no alias of the name; there is such a module
abbrev pub IsFree : List Module → Option ℕ → List ℕ → Type 0
IsFree before None name = ⊥
IsFree before (Some number) name = meaning_of (named_at before number) name ≡ None

-- the root has no parent; another module's is an earlier module, in which its name is free
abbrev pub FitsUnder : List Module → Option (List (List ℕ) × List ℕ) → Type 0
FitsUnder before None = ⊤
FitsUnder before (Some (parent, name)) = IsFree before (module_at before parent) name

-- no earlier module has its path, its parent stands earlier, and its items and aliases have names of their own
pub record FitsModule (before : List Module) (m : Module) : Type 0 where
  pub new : module_at before m.path ≡ None
  pub parent : FitsUnder before (parent_and_last m.path)
  pub items : AllAfter FitsItem [] m.items
  pub aliases : AllAfter (FitsAlias m.items) [] m.aliases

-- the modules fit together
abbrev pub FitInOrder : List Module → Type 0
FitInOrder modules = AllAfter FitsModule [] modules
