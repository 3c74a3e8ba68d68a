-- Whether definitions fit together: all that they name is there, and their structs nest well.
use Rattle.std.specs.Prelude.{◌≡◌, ℕ, ◌<◌, List, [], length, map, Option, Some, slice_get}
use Rattle.hir_ids.specs.Owners.{lent}
use Rattle.hir_ids.specs.declared.ids.SymbolId.{SymbolId}
use Rattle.hir_ids.specs.declared.ids.SymbolId.TheVariants as symbol
use Rattle.hir_ids.specs.declared.ids.TypeId.TheVariants as type
use Rattle.hir_types.specs.Paths.{returnable_id}
use Rattle.hir_mentions.specs.Types.{returnable_mentions, struct_path_mentions, type_mentions}
use Rattle.hir_definitions.specs.declared.methods.Method.{Method}
use Rattle.hir_fitting.specs.Parts.{Part, DefinitionFits, DefinitionMisfits, PartFits, method_part, parts_of_enum, parts_of_function, parts_of_opaque, parts_of_struct, parts_of_trait}
use Rattle.hir_fitting.specs.declared.census.Census.{Census}
use Rattle.hir_fitting.specs.declared.definitions.Unfit.{Unfit}
use Rattle.hir_nesting.specs.Faults.{AllNestWell, HasFault}
use Rattle.hir_nesting.specs.Structs.{containment, each_contained, struct_of_number}
use Rattle.hir_nesting.specs.declared.fault.NestingFault.{NestingFault}
use Rattle.hir_context.specs.declared.parts.Definitions.{Definitions}

-- how many definitions there are of each kind, and how many lifetimes each has
abbrev pub census_of : Definitions → Census
census_of defs = record {
  out_structs = map (λ def. def.lifetimes.count) defs.out_structs.defs;
  structs = map (λ def. def.lifetimes.count) defs.structs.defs;
  opaques = map (λ def. def.lifetimes.count) defs.opaques.defs;
  traits = map (λ def. def.lifetimes.count) defs.traits.defs;
  enums = length defs.enums.defs;
  functions = length defs.functions.defs;
}

-- the parts of the definitions of each kind, in their order
abbrev pub out_struct_parts : Definitions → List (List Part)
out_struct_parts defs = map (parts_of_struct (type_mentions lent returnable_mentions (λ _. []) (λ _. []))) defs.out_structs.defs

abbrev pub plain_struct_parts : Definitions → List (List Part)
plain_struct_parts defs = map (parts_of_struct (type_mentions Some struct_path_mentions (λ _. []) (λ _. []))) defs.structs.defs

-- the parts of the definition of an id, where there is one
abbrev pub parts_at : Definitions → SymbolId → Option (List Part)
parts_at defs (symbol.TypeId (type.OutStruct place)) = slice_get (out_struct_parts defs) place
parts_at defs (symbol.TypeId (type.Struct place)) = slice_get (plain_struct_parts defs) place
parts_at defs (symbol.TypeId (type.Opaque place)) = slice_get (map parts_of_opaque defs.opaques.defs) place
parts_at defs (symbol.TypeId (type.Enum place)) = slice_get (map parts_of_enum defs.enums.defs) place
parts_at defs (symbol.TraitId place) = slice_get (map parts_of_trait defs.traits.defs) place
parts_at defs (symbol.FunctionId place) = slice_get (map parts_of_function defs.functions.defs) place

-- the structs as a graph: an edge leads from each to those that it contains
abbrev pub nesting_of : Definitions → List (List ℕ)
nesting_of defs = containment (each_contained returnable_id defs.out_structs.defs) (each_contained (λ path. type.Struct path.tcx_id) defs.structs.defs)

-- all that each definition names is there: each id is one of a definition, each path has as many lifetimes as its definition,
-- and each lifetime is one of its environment
abbrev pub AllNamed : Definitions → Type 0
AllNamed defs = (id : SymbolId) (parts : List Part) → parts_at defs id ≡ Some parts → DefinitionFits (census_of defs) parts

-- and structs nest well
pub record AllFit (defs : Definitions) : Type 0 where
  pub named : AllNamed defs
  pub nested : AllNestWell (nesting_of defs)

-- what doesn't fit: something that a definition names, or how a struct nests, where the holder is told twice
pub data IsUnfit (defs : Definitions) (unfit : Unfit) : Type 0 where
  Names : (parts : List Part) → parts_at defs unfit.holder ≡ Some parts → DefinitionMisfits (census_of defs) unfit.holder parts unfit.named → IsUnfit defs unfit
  Nests :
      (number : ℕ) (f : NestingFault) → number < length (nesting_of defs) → HasFault (nesting_of defs) number f
      → unfit.holder ≡ symbol.TypeId (struct_of_number (length defs.out_structs.defs) number) → unfit.named ≡ unfit.holder → IsUnfit defs unfit

-- all that a method names is there
abbrev pub MethodFits : Definitions → Method → Type 0
MethodFits defs m = PartFits (census_of defs) (method_part m)
