-- What is told of all kinds.
use Rattle.std.proofs.Common.{◌≡◌, ℕ, List, map, Option, Some, None, Ok, Err, Result, true, false, refl, ap, length, subst, sym, ◌∙◌}
use Rattle.std.specs.Prelude.{IfOk, is_some, slice_get}
use Rattle.hir_ids.specs.declared.ids.SymbolId.{SymbolId}
use Rattle.hir_ids.specs.declared.ids.SymbolId.TheVariants as symbol
use Rattle.hir_ids.specs.declared.ids.TypeId.{TypeId}
use Rattle.hir_ids.specs.declared.ids.TypeId.TheVariants as type
use Rattle.hir_fitting.specs.Parts.{DefinitionFits, DefinitionMisfits, Part, parts_of_enum, parts_of_function, parts_of_opaque, parts_of_trait}
use Rattle.hir_fitting.specs.declared.census.Census.{Census}
use Rattle.hir_fitting.specs.declared.definitions.Unfit.{Unfit}
use Rattle.hir_fitting.proofs.Deciding.{definition_fits}
use Rattle.hir_nesting.specs.Faults.{TellsMisfit}
use Rattle.hir_nesting.proofs.Judging.{no_fault}
use Rattle.hir_context.specs.Fitness.{AllFit, IsUnfit, Names, Nests, census_of, nesting_of, out_struct_parts, parts_at, plain_struct_parts}
use Rattle.hir_context.specs.inside.Telling.{TellsNamed}
use Rattle.hir_context.specs.inside.Telling.{TellsOfKind}
use Rattle.hir_context.specs.declared.parts.Definitions.{Definitions}

module _ (defs : Definitions) where
  -- what doesn't fit in a definition of a kind is told of all
  pub kind_unfit : (census : Census) (symbol_at : ℕ → SymbolId) (each : List (List Part)) → census ≡ census_of defs
      → ((place : ℕ) → parts_at defs (symbol_at place) ≡ slice_get each place)
      → (unfit : Unfit) → TellsOfKind census symbol_at each (Some unfit) → IsUnfit defs unfit
  kind_unfit census symbol_at each counted same unfit (place, (parts, holder, is, misfits)) =
      Names parts (ap (parts_at defs) holder ∙ same place ∙ is) (subst (λ c. DefinitionMisfits c unfit.holder parts unfit.named) counted misfits)

  pub some_unfit : (census : Census) (symbol_at : ℕ → SymbolId) (each : List (List Part)) → census ≡ census_of defs
      → ((place : ℕ) → parts_at defs (symbol_at place) ≡ slice_get each place)
      → (answer : Option Unfit) → TellsOfKind census symbol_at each answer → true ≡ is_some answer → TellsNamed defs answer
  some_unfit census symbol_at each counted same (Some unfit) told h = kind_unfit census symbol_at each counted same unfit told
  some_unfit census symbol_at each counted same None told h = absurd cc

  module _ (census : Census) (counted : census ≡ census_of defs)
      (outs : TellsOfKind census (λ place. symbol.TypeId (type.OutStruct place)) (out_struct_parts defs) None)
      (structs : TellsOfKind census (λ place. symbol.TypeId (type.Struct place)) (plain_struct_parts defs) None)
      (opaques : TellsOfKind census (λ place. symbol.TypeId (type.Opaque place)) (map parts_of_opaque defs.opaques.defs) None)
      (enums : TellsOfKind census (λ place. symbol.TypeId (type.Enum place)) (map parts_of_enum defs.enums.defs) None)
      (traits : TellsOfKind census (λ place. symbol.TraitId place) (map parts_of_trait defs.traits.defs) None)
    where
      by_id : TellsOfKind census (λ place. symbol.FunctionId place) (map parts_of_function defs.functions.defs) None
          → (id : SymbolId) (parts : List Part) → parts_at defs id ≡ Some parts → DefinitionFits census parts
      by_id functions (symbol.TypeId (type.OutStruct place)) parts is = outs place parts is
      by_id functions (symbol.TypeId (type.Struct place)) parts is = structs place parts is
      by_id functions (symbol.TypeId (type.Opaque place)) parts is = opaques place parts is
      by_id functions (symbol.TypeId (type.Enum place)) parts is = enums place parts is
      by_id functions (symbol.TraitId place) parts is = traits place parts is
      by_id functions (symbol.FunctionId place) parts is = functions place parts is

      pub all_named : (answer : Option Unfit) → TellsOfKind census (λ place. symbol.FunctionId place) (map parts_of_function defs.functions.defs) answer → TellsNamed defs answer
      all_named None functions = λ id parts is. subst (λ c. DefinitionFits c parts) counted (by_id functions id parts is)
      all_named (Some unfit) functions = kind_unfit census (λ place. symbol.FunctionId place) (map parts_of_function defs.functions.defs) counted (λ place. refl) unfit functions

pub none_told : (census : Census) (symbol_at : ℕ → SymbolId) (each : List (List Part)) (answer : Option Unfit) → TellsOfKind census symbol_at each answer → false ≡ is_some answer → TellsOfKind census symbol_at each None
none_told census symbol_at each None told h = told
none_told census symbol_at each (Some unfit) told h = absurd cc

pub if_ok_so : {A E : Type 0} {P Q : A → Type 0} (r : Result A E) → IfOk r P → ((x : A) → P x → Q x) → IfOk r Q
if_ok_so (Ok x) h k = k x h
if_ok_so (Err e) h k = tt

-- a struct that doesn't nest well
pub nests_unfit : (defs : Definitions) (id : TypeId) (unfit : Unfit) → unfit ≡ record { holder = symbol.TypeId id; named = symbol.TypeId id }
    → TellsMisfit (nesting_of defs) (length defs.out_structs.defs) (Some id) → IsUnfit defs unfit
nests_unfit defs id unfit is (number, within, at, (f, has)) =
    subst (IsUnfit defs) (sym is) (Nests number f within has (ap symbol.TypeId at) refl)

-- nothing is told
pub all_fit : (defs : Definitions) (named : Option Unfit) → TellsNamed defs named → false ≡ is_some named
    → TellsMisfit (nesting_of defs) (length defs.out_structs.defs) None → AllFit defs
all_fit defs None named is nested = record { named = named; nested = nested }
all_fit defs (Some unfit) named is nested = absurd cc

-- what fits has nothing that doesn't
pub none_unfit : (defs : Definitions) (unfit : Unfit) → AllFit defs → IsUnfit defs unfit → ⊥
none_unfit defs unfit fit (Names parts at misfits) =
    (definition_fits (census_of defs) unfit.holder parts).0 (fit.named unfit.holder parts at) unfit.named misfits
none_unfit defs unfit fit (Nests number f within has holder named) = no_fault (nesting_of defs) number f fit.nested within has
