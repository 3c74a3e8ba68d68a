-- What stands in a context fits it.
use Rattle.std.proofs.Common.{◌≡◌, ◌∙◌, ℕ, List, [], map, Option, Some, None, option_map, slice_get, refl, ap, subst, sym}
use Rattle.std.specs.Coded.{Coded-set, coded_option, coded_ℕ, ×_prop, Unit-prop, le_prop}
use Rattle.std.specs.List.{Contains}
use Rattle.std.proofs.Math.Logic.{∥∥₁_elim}
use Rattle.std.proofs.lemmas.List.Elements.{All-contains, Contains-append_left}
use Rattle.std.proofs.lemmas.Option.{none-some, same_Some, slice_get-map}
use Rattle.hir_life.specs.declared.maybe_static.MaybeStatic.{MaybeStatic}
use Rattle.hir_life.specs.declared.maybe_static.MaybeStatic.TheVariants.{Static, NonStatic}
use Rattle.hir_ids.specs.declared.ids.SymbolId.{SymbolId}
use Rattle.hir_ids.specs.declared.ids.SymbolId.TheVariants as symbol
use Rattle.hir_ids.specs.declared.ids.TypeId.{TypeId}
use Rattle.hir_ids.specs.declared.ids.TypeId.TheVariants as type
use Rattle.hir_ids.specs.declared.owners.Borrow.{Borrow as Loan}
use Rattle.hir_ids.specs.Owners.{lent}
use Rattle.hir_definitions.specs.declared.methods.Method.{Method}
use Rattle.hir_mentions.specs.Mentions.{Mentioned, Path, Plain, Borrow}
use Rattle.hir_mentions.specs.Types.{returnable_mentions, struct_path_mentions, type_mentions}
use Rattle.hir_fitting.specs.Census.{IsThere}
use Rattle.hir_fitting.specs.Fitting.{Fits, IsKnown}
use Rattle.hir_fitting.specs.Parts.{Part, PartFits, method_part, parts_of_enum, parts_of_function, parts_of_opaque, parts_of_struct}
use Rattle.hir_fitting.specs.declared.census.Census.{Census}
use Rattle.hir_context.specs.Fitness.{AllFit, MethodFits, census_of, parts_at}
use Rattle.hir_context.specs.Lookups.{DefinedType, Enum, InputStruct, Opaque, OutStruct, OutputStruct, Struct, defined_at, type_methods}
use Rattle.hir_context.specs.declared.context.TypeContext.{TypeContext}
use Rattle.hir_context.specs.declared.parts.Definitions.{Definitions}
use Rattle.hir_skeleton.proofs.Members.{first_is_there, later_is_there, mapped_is_there}

-- ---- whether a method fits has one proof at most

known_prop : (n : ℕ) (l : MaybeStatic ℕ) → IsProp (IsKnown (Some n) l)
known_prop n Static = Unit-prop
known_prop n (NonStatic l) = hlevel le_prop

there_prop : (census : Census) (id : SymbolId) → IsProp (IsThere census id)
there_prop census (symbol.TypeId (type.OutStruct place)) = hlevel le_prop
there_prop census (symbol.TypeId (type.Struct place)) = hlevel le_prop
there_prop census (symbol.TypeId (type.Opaque place)) = hlevel le_prop
there_prop census (symbol.TypeId (type.Enum place)) = hlevel le_prop
there_prop census (symbol.TraitId place) = hlevel le_prop
there_prop census (symbol.FunctionId place) = hlevel le_prop

fits_prop : (census : Census) (n : ℕ) (m : Mentioned) → IsProp (Fits census (Some n) m)
fits_prop census n (Path id ls) = ×_prop (Coded-set (coded_option coded_ℕ) _ _) (hlevel (known_prop n))
fits_prop census n (Plain id) = there_prop census id
fits_prop census n (Borrow l) = known_prop n l

method_prop : (defs : Definitions) (m : Method) → IsProp (MethodFits defs m)
method_prop defs m = hlevel (λ (mention : Mentioned). fits_prop (census_of defs) m.lifetime_env.count mention)

-- ---- where all fits, so does each method

module _ (defs : Definitions) (fit : AllFit defs) (m : Method) where
  part_fits : (id : SymbolId) (parts : List Part) → parts_at defs id ≡ Some parts → Contains parts (method_part m) → MethodFits defs m
  part_fits id parts is h = All-contains (PartFits (census_of defs)) parts (method_part m) (fit.named id parts is) h

  function_fits : (place : ℕ) → slice_get defs.functions.defs place ≡ Some m → MethodFits defs m
  function_fits place is =
      part_fits (symbol.FunctionId place) (parts_of_function m) (slice_get-map parts_of_function defs.functions.defs place ∙ ap (option_map parts_of_function) is)
      (first_is_there (method_part m) [])

  -- a definition of one kind, by its parts
  module _ {X : Type 0} (kind : X → DefinedType) (parts_of : X → List Part) (xs : List X) (place : ℕ) (id : TypeId)
      (at : parts_at defs (symbol.TypeId id) ≡ slice_get (map parts_of xs) place) (there : (x : X) → Contains (type_methods (kind x)) m → Contains (parts_of x) (method_part m)) where
    kind_fits : (o : Option X) → slice_get xs place ≡ o → (def : DefinedType) → option_map kind o ≡ Some def → Contains (type_methods def) m → MethodFits defs m
    kind_fits None is def of h = absurd (none-some def of)
    kind_fits (Some x) is def of h =
        part_fits (symbol.TypeId id) (parts_of x) (at ∙ slice_get-map parts_of xs place ∙ ap (option_map parts_of) is)
        (there x (subst (λ d. Contains (type_methods d) m) (sym (same_Some (kind x) def of)) h))

  abbrev of_out : OutputStruct → List Part
  of_out = parts_of_struct (type_mentions lent returnable_mentions (λ _. []) (λ _. []))

  abbrev of_struct : InputStruct → List Part
  of_struct = parts_of_struct (type_mentions (λ (b : Loan). Some b) struct_path_mentions (λ _. []) (λ _. []))

  method_fits : (id : TypeId) (def : DefinedType) → defined_at defs id ≡ Some def → Contains (type_methods def) m → MethodFits defs m
  method_fits (type.OutStruct place) def is h =
      kind_fits OutStruct of_out defs.out_structs.defs place (type.OutStruct place) refl
      (λ x there. later_is_there _ _ _ (Contains-append_left _ _ _ (mapped_is_there method_part x.methods m there))) (slice_get defs.out_structs.defs place) refl def is h
  method_fits (type.Struct place) def is h =
      kind_fits Struct of_struct defs.structs.defs place (type.Struct place) refl
      (λ x there. later_is_there _ _ _ (Contains-append_left _ _ _ (mapped_is_there method_part x.methods m there))) (slice_get defs.structs.defs place) refl def is h
  method_fits (type.Opaque place) def is h =
      kind_fits Opaque parts_of_opaque defs.opaques.defs place (type.Opaque place) refl
      (λ x there. Contains-append_left _ _ _ (mapped_is_there method_part x.methods m there)) (slice_get defs.opaques.defs place) refl def is h
  method_fits (type.Enum place) def is h =
      kind_fits Enum parts_of_enum defs.enums.defs place (type.Enum place) refl
      (λ x there. Contains-append_left _ _ _ (mapped_is_there method_part x.methods m there)) (slice_get defs.enums.defs place) refl def is h

pub functions_fit : (tcx : TypeContext) (place : ℕ) (m : Method) → slice_get tcx.definitions.functions.defs place ≡ Some m → MethodFits tcx.definitions m
functions_fit tcx place m is = ∥∥₁_elim tcx.fits (method_prop tcx.definitions m) (λ (fit : AllFit tcx.definitions). function_fits tcx.definitions fit m place is)

pub methods_fit : (tcx : TypeContext) (id : TypeId) (def : DefinedType) (m : Method) → defined_at tcx.definitions id ≡ Some def → Contains (type_methods def) m → MethodFits tcx.definitions m
methods_fit tcx id def m is h = ∥∥₁_elim tcx.fits (method_prop tcx.definitions m) (λ (fit : AllFit tcx.definitions). method_fits tcx.definitions fit m id def is h)
