-- Where the parts of modules are that faults between declarations are told of.
use Rattle.std.specs.Prelude.{◌≡◌, ℕ, ◌<◌, List, length, slice_get, Option, Some, None}
use Rattle.bridge_decl.specs.declared.lifetimes.LifetimeNode.{LifetimeNode}
use Rattle.bridge_decl.specs.declared.modules.Item.{Item}
use Rattle.bridge_decl.specs.declared.modules.Module.{Module}
use Rattle.bridge_ast.specs.EnvFaults.{method_nodes_of, nodes_of}
use Rattle.bridge_ast.specs.declared.fault.EnvFault.{EnvFault}
use Rattle.bridge_ast.specs.declared.fault.EnvFault.TheVariants.{Bad, NoMemory}
use Rattle.bridge_ast.specs.declared.fault.EnvPart.{EnvPart}
use Rattle.bridge_ast.specs.declared.fault.EnvPart.TheVariants as part
use Rattle.bridge_ast.specs.declared.fault.EnvPlace.{EnvPlace}

-- the item has a lifetime of that number: itself, or the method of a number
abbrev pub HasLifetime : Item → Option ℕ → ℕ → Type 0
HasLifetime it None node = node < length (nodes_of it)
HasLifetime it (Some method) node = (nodes : List LifetimeNode) × (slice_get (method_nodes_of it) method ≡ Some nodes) × (node < length nodes)

-- the module has the part
abbrev pub HasPart : Module → EnvPart → Type 0
HasPart m part.Module = Unit {0}
HasPart m (part.Item n) = n < length m.items
HasPart m (part.Alias n) = n < length m.aliases
HasPart m (part.Node holder method node) = (it : Item) × (slice_get m.items holder ≡ Some it) × HasLifetime it method node

-- there is a module of that number among the modules, and it has the part
abbrev pub HasPlace : List Module → EnvPlace → Type 0
HasPlace modules at = (m : Module) × (slice_get modules at.«module» ≡ Some m) × HasPart m at.part

-- the fault is told of a place that there is
abbrev pub IsPlaced : List Module → EnvFault → Type 0
IsPlaced modules (Bad kind at other) = HasPlace modules at
IsPlaced modules NoMemory = ⊥
