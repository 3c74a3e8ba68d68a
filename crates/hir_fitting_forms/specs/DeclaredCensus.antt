-- Which definitions declarations make, and how many lifetimes each has. The id of a definition is the number of its item among
-- those of its kind.
use Rattle.std.specs.Prelude.{ℕ, List, length, map, Option, Some, None}
use Rattle.bridge_ast.specs.Types.{item_of}
use Rattle.bridge_decl.specs.declared.modules.Item.{Item}
use Rattle.bridge_decl.specs.declared.modules.Item.TheVariants as item
use Rattle.bridge_decl.specs.declared.modules.Module.{Module}
use Rattle.bridge_places.specs.Places.{places_of}
use Rattle.bridge_places.specs.declared.kinds.Kind.{Kind}
use Rattle.bridge_places.specs.declared.kinds.Kind.TheVariants as kind
use Rattle.hir_fitting.specs.declared.census.Census.{Census}

-- how many lifetimes an item declares that a path to it gives: an enum and a function have none
abbrev pub lifetimes_declared : Item → ℕ
lifetimes_declared (item.Struct s) = length s.lifetimes.nodes
lifetimes_declared (item.Opaque o) = length o.lifetimes.nodes
lifetimes_declared (item.Enum e) = 0
lifetimes_declared (item.Trait t) = length t.lifetimes.nodes
lifetimes_declared (item.Function f) = 0

-- the same of what is found at a place
abbrev pub lifetimes_found : Option Item → ℕ
lifetimes_found None = 0
lifetimes_found (Some it) = lifetimes_declared it

-- the same of each item of a kind, by its id
abbrev pub lifetimes_of_kind : List Module → Kind → List ℕ
lifetimes_of_kind modules k = map (λ place. lifetimes_found (item_of modules place)) (places_of modules k)

abbrev pub declared_census : List Module → Census
declared_census modules = record {
  out_structs = lifetimes_of_kind modules kind.OutStruct;
  structs = lifetimes_of_kind modules kind.Struct;
  opaques = lifetimes_of_kind modules kind.Opaque;
  traits = lifetimes_of_kind modules kind.Trait;
  enums = length (places_of modules kind.Enum);
  functions = length (places_of modules kind.Function);
}
