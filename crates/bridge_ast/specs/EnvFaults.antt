-- What keeps modules from being an environment: their faults, in the order in which the modules list what is at fault.
use Rattle.std.specs.Prelude.{◌≡◌, ℕ, suc, List, [], ◌∷◌, ◌++◌, length, map, slice_get, slice_index_or, Bool, true, false, not}
use Rattle.std.specs.Prelude.{◌&&◌, if◌then◌else◌, Option, Some, None, option_map, Result, Ok, Err}
use Rattle.std.specs.Str.{bytes_eq}
use Rattle.std.specs.Cmp.Lexicographic.{pointwise}
use Rattle.bridge_decl.specs.declared.lifetimes.LifetimeNode.{LifetimeNode}
use Rattle.bridge_decl.specs.declared.modules.Alias.{Alias}
use Rattle.bridge_decl.specs.declared.modules.Item.{Item}
use Rattle.bridge_decl.specs.declared.modules.Item.TheVariants.{Struct, Opaque, Enum, Trait, Function}
use Rattle.bridge_decl.specs.declared.modules.Module.{Module}
use Rattle.bridge_ast.specs.declared.bounds.Side.TheVariants.{Longer, Shorter}
use Rattle.bridge_ast.specs.declared.fault.EnvFault.{EnvFault}
use Rattle.bridge_ast.specs.declared.fault.EnvFault.TheVariants.{Bad, NoMemory}
use Rattle.bridge_ast.specs.declared.fault.EnvFaultKind.{EnvFaultKind}
use Rattle.bridge_ast.specs.declared.fault.EnvFaultKind.TheVariants.{DuplicateModule, ParentMissing, DuplicateItem}
use Rattle.bridge_ast.specs.declared.fault.EnvFaultKind.TheVariants.{DuplicateLifetime, BoundOutOfRange}
use Rattle.bridge_ast.specs.declared.fault.EnvFaultKind.TheVariants.{BoundOneSided}
use Rattle.bridge_ast.specs.declared.fault.EnvPart.{EnvPart}
use Rattle.bridge_ast.specs.declared.fault.EnvPart.TheVariants as part
use Rattle.bridge_ast.specs.declared.fault.EnvPlace.{EnvPlace}
use Rattle.bridge_text.specs.NameIndex.{meaning_of}
use Rattle.bridge_ast.specs.Bounds.{in_range, answered}
use Rattle.bridge_ast.specs.Each.{each, each_numbered}
use Rattle.bridge_decl.specs.Names.{item_name}

-- ---- names and what they stand for

-- a name with the part of a module that it stands for
abbrev pub Named : Type 0
Named = List ℕ × EnvPart

-- the items of a module by their names
abbrev pub items_named : List Item → List Named
items_named items = each_numbered (λ i item. (item_name item, part.Item i)) items

-- and its aliases
abbrev pub aliases_named : List Alias → List Named
aliases_named aliases = each_numbered (λ i alias. (alias.name, part.Alias i)) aliases

-- the items and then the aliases of a module
abbrev pub named_in : Module → List Named
named_in m = items_named m.items ++ aliases_named m.aliases

-- the nodes of an environment of lifetimes: that of the method of an item, or its own
abbrev pub nodes_named : ℕ → Option ℕ → List LifetimeNode → List Named
nodes_named item method nodes = each_numbered (λ n node. (node.name, part.Node item method n)) nodes

-- ---- modules and their paths

-- whether two paths are one
abbrev pub path_eq : List (List ℕ) → List (List ℕ) → Bool
path_eq one other = pointwise bytes_eq one other

-- the number of the first module of the path
abbrev pub module_at : List Module → List (List ℕ) → Option ℕ
module_at [] path = None
module_at (first ∷ others) path = if path_eq first.path path then Some 0 else option_map suc (module_at others path)

-- a path that isn't empty, as that of its parent and its last segment
abbrev pub parent_and_last : List (List ℕ) → Option (List (List ℕ) × List ℕ)
parent_and_last [] = None
parent_and_last (segment ∷ []) = Some ([], segment)
parent_and_last (segment ∷ next ∷ segments) =
    option_map (λ split. (segment ∷ split.0, split.1)) (parent_and_last (next ∷ segments))

-- what stands in the module of a number under names of its own
abbrev pub named_at : List Module → ℕ → List Named
named_at modules number = slice_index_or (map named_in modules) number []

-- ---- faults

-- the place of a part of the module of a number
abbrev pub place : ℕ → EnvPart → EnvPlace
place number what = record { «module» = number; part = what }

-- a fault, where something is so
abbrev pub where_so : Bool → EnvFault → List EnvFault
where_so true fault = fault ∷ []
where_so false fault = []

-- a fault, where something stands at an earlier place already
abbrev pub repeats : EnvFaultKind → EnvPlace → Option EnvPlace → List EnvFault
repeats kind here None = []
repeats kind here (Some earlier) = Bad kind here (Some earlier) ∷ []

-- a fault, where a part of a module has a name that stands for an earlier one already
abbrev pub repeats_name : EnvFaultKind → ℕ → List Named → List ℕ → EnvPart → List EnvFault
repeats_name kind number earlier name what =
    repeats kind (place number what) (option_map (place number) (meaning_of earlier name))

-- the faults in the bounds of a node
abbrev pub bound_faults : EnvPlace → List LifetimeNode → ℕ → LifetimeNode → List EnvFault
bound_faults here nodes number node =
    where_so (not (in_range Longer nodes node && in_range Shorter nodes node)) (Bad BoundOutOfRange here None)
    ++ where_so (not (answered Longer nodes number node && answered Shorter nodes number node)) (Bad BoundOneSided here None)

-- those of a node after the nodes before it
abbrev pub node_faults : ℕ → ℕ → Option ℕ → List LifetimeNode → List LifetimeNode → LifetimeNode → List EnvFault
node_faults number item method nodes before node =
    repeats_name DuplicateLifetime number (nodes_named item method before) node.name (part.Node item method (length before))
    ++ bound_faults (place number (part.Node item method (length before))) nodes (length before) node

-- those of an environment of lifetimes
abbrev pub lifetime_faults : ℕ → ℕ → Option ℕ → List LifetimeNode → List EnvFault
lifetime_faults number item method nodes = each (node_faults number item method nodes) nodes

-- the lifetimes that an item declares itself
abbrev pub nodes_of : Item → List LifetimeNode
nodes_of (Struct item) = item.lifetimes.nodes
nodes_of (Opaque item) = item.lifetimes.nodes
nodes_of (Enum item) = []
nodes_of (Trait item) = item.lifetimes.nodes
nodes_of (Function item) = item.lifetimes.nodes

-- those that its methods declare, method by method
abbrev pub method_nodes_of : Item → List (List LifetimeNode)
method_nodes_of (Struct item) = map (λ method. method.lifetime_env.nodes) item.methods
method_nodes_of (Opaque item) = map (λ method. method.lifetime_env.nodes) item.methods
method_nodes_of (Enum item) = map (λ method. method.lifetime_env.nodes) item.methods
method_nodes_of (Trait item) = map (λ method. method.lifetimes.nodes) item.methods
method_nodes_of (Function item) = []

-- those of the lifetimes of a method after the methods before it
abbrev pub method_faults : ℕ → ℕ → List (List LifetimeNode) → List LifetimeNode → List EnvFault
method_faults number item before nodes = lifetime_faults number item (Some (length before)) nodes

-- those of an item after the items before it: its name, then its own lifetimes, then those of its methods
abbrev pub item_faults : ℕ → List Item → Item → List EnvFault
item_faults number before item =
    repeats_name DuplicateItem number (items_named before) (item_name item) (part.Item (length before))
    ++ (lifetime_faults number (length before) None (nodes_of item) ++ each (method_faults number (length before))
    (method_nodes_of item))

-- those of an alias after the items and the aliases before it
abbrev pub alias_faults : ℕ → List Item → List Alias → Alias → List EnvFault
alias_faults number items before alias =
    repeats_name DuplicateItem number (items_named items ++ aliases_named before) alias.name (part.Alias (length before))

-- those of a submodule of the module of a number, or of none: no earlier module is its parent, or that has an item or alias of
-- its name
abbrev pub faults_under : List Module → Option ℕ → List ℕ → List EnvFault
faults_under before None name = Bad ParentMissing (place (length before) part.Module) None ∷ []
faults_under before (Some number) name =
    repeats DuplicateItem (place (length before) part.Module) (option_map (place number)
    (meaning_of (named_at before number) name))

-- those of a submodule, by the path of its parent and its last segment
abbrev pub submodule_faults : List Module → List (List ℕ) × List ℕ → List EnvFault
submodule_faults before (parent, name) = faults_under before (module_at before parent) name

-- those of a path by what is left of it without its last segment; the root has none
abbrev pub parent_faults : List Module → Option (List (List ℕ) × List ℕ) → List EnvFault
parent_faults before None = []
parent_faults before (Some split) = submodule_faults before split

-- those of a path after the modules before it
abbrev pub path_faults : List Module → List (List ℕ) → List EnvFault
path_faults before path =
    repeats DuplicateModule (place (length before) part.Module) (option_map (λ earlier. place earlier part.Module)
    (module_at before path))
    ++ parent_faults before (parent_and_last path)

-- those of the items of a module and then of its aliases
abbrev pub content_faults : ℕ → Module → List EnvFault
content_faults number m = each (item_faults number) m.items ++ each (alias_faults number m.items) m.aliases

-- those of a module after the modules before it: its path, its items, its aliases
abbrev pub module_faults : List Module → Module → List EnvFault
module_faults before m = path_faults before m.path ++ content_faults (length before) m

-- all faults of modules, in order
abbrev pub faults_of : List Module → List EnvFault
faults_of modules = each module_faults modules

-- ---- what a test answers

-- the fault is the first of the list; want of memory says nothing of it
abbrev pub IsFirst : EnvFault → List EnvFault → Type 0
IsFirst (Bad kind here earlier) faults = slice_get faults 0 ≡ Some (Bad kind here earlier)
IsFirst NoMemory faults = Unit {0}

-- a test answers so: Ok where there is no fault, else the first one
abbrev pub Tells : {X : Type 0} → Result X EnvFault → List EnvFault → Type 0
Tells (Ok _) faults = faults ≡ []
Tells (Err fault) faults = IsFirst fault faults

-- the fault is none of memory
abbrev pub IsBad : EnvFault → Type 0
IsBad (Bad kind here earlier) = Unit {0}
IsBad NoMemory = ⊥
