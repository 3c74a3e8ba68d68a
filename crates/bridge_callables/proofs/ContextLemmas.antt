-- The callables of a context that stands for declarations are those of the declarations, kind by kind.
use Rattle.std.proofs.Common.{◌≡◌, ℕ, zero, suc, ◌+◌, List, [], ◌∷◌, ◌++◌, map, Some, refl, sym, ap, subst, ◌∙◌, arith}
use Rattle.std.specs.Prelude.{slice_get, slice_index_or}
use Rattle.std.specs.List.{AllZip, enumerate_from, flat_map}
use Rattle.std.proofs.lemmas.Option.{none-some, same_Some}
use Rattle.bridge_ast.specs.declared.place.ItemPlace.{ItemPlace}
use Rattle.bridge_places.specs.Entries.{IsCatalog}
use Rattle.bridge_places.specs.Places.{places_of}
use Rattle.bridge_places.specs.declared.kinds.Kind.{Kind}
use Rattle.bridge_places.specs.declared.kinds.Kind.TheVariants as kind
use Rattle.bridge_report.specs.Callables.{Callable}
use Rattle.bridge_report.specs.InContext.{callables, enum_callables, function_callables, opaque_callables, out_struct_callables, struct_callables, type_callables}
use Rattle.hir_context.specs.Lookups.{InputStruct, OutputStruct}
use Rattle.hir_context.specs.declared.parts.Definitions.{Definitions}
use Rattle.hir_definitions.specs.declared.definitions.EnumDef.{EnumDef}
use Rattle.hir_definitions.specs.declared.definitions.OpaqueDef.{OpaqueDef}
use Rattle.hir_definitions.specs.declared.methods.Method.{Method}
use Rattle.hir_ids.specs.declared.ids.TypeId.{TypeId}
use Rattle.hir_ids.specs.declared.ids.TypeId.TheVariants as type
use Rattle.hir_lower.specs.Contexts.{StandForItems}
use Rattle.hir_lower.specs.Placing.{path_of_place}
use Rattle.hir_lowering.specs.Interface.{Interface}
use Rattle.hir_lowering.specs.Kinds.{enum_made, function_made, opaque_made, out_struct_made, struct_made}
use Rattle.hir_lowering.specs.Placing.{each_form, form_at, found_at}
use Rattle.hir_mentions.specs.Mentions.{where_any}
use Rattle.hir_skeleton.specs.Inputs.{fields_in, input_struct}
use Rattle.hir_usage_notes.specs.Notes.{enum_used, opaque_used, struct_used, usages_among}
use Rattle.hir_readings.specs.Knowing.{id_there}
use Rattle.hir_readings.specs.Readings.{AreReadAsDeclared, IsFunctionRead}
use Rattle.hir_readings.proofs.ContextLemmas.{context_enums, context_fields, context_functions, context_opaques, context_out_structs, context_structs, enums_are, functions_are, opaques_are, out_structs_are, structs_are, used_zipped}
use Rattle.hir_readings.proofs.JoinLemmas.{all_zipped, known_made}
use Rattle.bridge_callables.specs.Declared.{declared_callables, declared_function_callable, kind_callables, type_callables_at}
use Rattle.bridge_callables.specs.Names.{declared_field_names}
use Rattle.bridge_callables.proofs.CallableLemmas.{by_path, function_same, methods_same}
use Rattle.bridge_callables.proofs.FieldNames.{field_names_at, names_in, names_there}
use Rattle.bridge_callables.proofs.ItemNames.{IsFoundFunction, IsNamedThere, enum_named_at, function_named_at, opaque_named_at, out_struct_named_at, struct_named_at}

-- ---- lists with numbers

both_zipped : {A B : Type 0} (R S : A → B → Type 0) (xs : List A) (ys : List B) → AllZip R xs ys → AllZip S xs ys → AllZip (λ a b. R a b × S a b) xs ys
both_zipped R S [] [] r s = tt
both_zipped R S [] (y ∷ ys) r s = absurd r
both_zipped R S (x ∷ xs) [] r s = absurd r
both_zipped R S (x ∷ xs) (y ∷ ys) r s = ((r.0, s.0), both_zipped R S xs ys r.1 s.1)

-- the path of each place, by its number
paths_at : (path : ItemPlace → List (List ℕ)) (places : List ItemPlace) (i : ℕ) (place : ItemPlace) → slice_get places i ≡ Some place → slice_index_or (map path places) i [] ≡ path place
paths_at path [] i place at = absurd (none-some place at)
paths_at path (p ∷ places) zero place at = ap path (same_Some p place at)
paths_at path (p ∷ places) (suc i) place at = paths_at path places i place at

at_start : (k : ℕ) → k + 0 ≡ k
at_start k = omega arith

one_on : (k i : ℕ) → k + suc i ≡ (k + 1) + i
one_on k i = omega arith

from_zero : (i : ℕ) → i ≡ 0 + i
from_zero i = omega arith

-- what is read of definitions, each by the path of its module and its number, is what is read of the places beside them
module _ {D : Type 0} (modules : List (List (List ℕ))) (path : ItemPlace → List (List ℕ)) (R : D → ItemPlace → Type 0) (f : List (List ℕ) → ℕ → D → List Callable) (g : ℕ × ItemPlace → List Callable)
    (same : (k : ℕ) (def : D) (place : ItemPlace) → R def place → f (path place) k def ≡ g (k, place))
  where
    abbrev AreFrom : ℕ → List ItemPlace → Type 0
    AreFrom k places = (i : ℕ) (place : ItemPlace) → slice_get places i ≡ Some place → slice_index_or modules (k + i) [] ≡ path place

    walked : (k : ℕ) (ds : List D) (places : List ItemPlace) → AllZip R ds places → AreFrom k places
        → flat_map (λ (numbered : ℕ × D). f (slice_index_or modules numbered.0 []) numbered.0 numbered.1) (enumerate_from k ds) ≡ flat_map g (enumerate_from k places)
    walked k [] [] all from = refl
    walked k [] (place ∷ places) all from = absurd all
    walked k (d ∷ ds) [] all from = absurd all
    walked k (d ∷ ds) (place ∷ places) all from =
        let rest = flat_map (λ (numbered : ℕ × D). f (slice_index_or modules numbered.0 []) numbered.0 numbered.1) (enumerate_from (k + 1) ds) in
        ap (λ p. f p k d ++ rest) (subst (λ n. slice_index_or modules n [] ≡ path place) (at_start k) (from 0 place refl))
        ∙ ap (λ first. first ++ rest) (same k d place all.0)
        ∙ ap (λ more. g (k, place) ++ more)
        (walked (k + 1) ds places all.1 (λ i p at. subst (λ n. slice_index_or modules n [] ≡ path p) (one_on k i) (from (suc i) p at)))

module _ (it : Interface) (defs : Definitions) (is_catalog : IsCatalog it.modules it.catalog) (stands : StandForItems it defs) where
  abbrev path : ItemPlace → List (List ℕ)
  path = path_of_place it.modules

  -- ---- names of what stands in the context

  abbrev NamesFields : InputStruct → ItemPlace → Type 0
  NamesFields def place = names_in def ≡ declared_field_names it place

  abbrev StructNamed : InputStruct → ItemPlace → Type 0
  StructNamed def place = IsNamedThere it place def.name.0 def.methods

  abbrev OutStructNamed : OutputStruct → ItemPlace → Type 0
  OutStructNamed def place = IsNamedThere it place def.name.0 def.methods

  abbrev OpaqueNamed : OpaqueDef → ItemPlace → Type 0
  OpaqueNamed def place = IsNamedThere it place def.name.0 def.methods

  abbrev EnumNamed : EnumDef → ItemPlace → Type 0
  EnumNamed def place = IsNamedThere it place def.name.0 def.methods

  abbrev FunctionFound : Method → ItemPlace → Type 0
  FunctionFound m place = IsFoundFunction it place (found_at it.modules place) m

  field_names_stand : AllZip NamesFields defs.structs.defs (places_of it.modules kind.Struct)
  field_names_stand =
      subst (λ list. AllZip NamesFields list (places_of it.modules kind.Struct)) (sym (structs_are it defs stands))
      (used_zipped struct_used NamesFields (λ u def place has. has) (usages_among stands.lowered).structs stands.lowered.structs.items (places_of it.modules kind.Struct)
      (known_made (λ list. AllZip NamesFields list (places_of it.modules kind.Struct)) (each_form it struct_made (places_of it.modules kind.Struct)) stands.lowered.structs.items stands.accepted.all.structs
      (all_zipped (form_at it struct_made) NamesFields (field_names_at it) (places_of it.modules kind.Struct))))

  structs_named : AllZip StructNamed defs.structs.defs (places_of it.modules kind.Struct)
  structs_named =
      subst (λ list. AllZip StructNamed list (places_of it.modules kind.Struct)) (sym (structs_are it defs stands))
      (used_zipped struct_used StructNamed (λ u def place has. has) (usages_among stands.lowered).structs stands.lowered.structs.items (places_of it.modules kind.Struct)
      (known_made (λ list. AllZip StructNamed list (places_of it.modules kind.Struct)) (each_form it struct_made (places_of it.modules kind.Struct)) stands.lowered.structs.items stands.accepted.all.structs
      (all_zipped (form_at it struct_made) StructNamed (struct_named_at it) (places_of it.modules kind.Struct))))

  out_structs_named : AllZip OutStructNamed defs.out_structs.defs (places_of it.modules kind.OutStruct)
  out_structs_named =
      subst (λ list. AllZip OutStructNamed list (places_of it.modules kind.OutStruct)) (sym (out_structs_are it defs stands))
      (used_zipped struct_used OutStructNamed (λ u def place has. has) (usages_among stands.lowered).out_structs stands.lowered.out_structs.items (places_of it.modules kind.OutStruct)
      (known_made (λ list. AllZip OutStructNamed list (places_of it.modules kind.OutStruct)) (each_form it out_struct_made (places_of it.modules kind.OutStruct)) stands.lowered.out_structs.items stands.accepted.all.out_structs
      (all_zipped (form_at it out_struct_made) OutStructNamed (out_struct_named_at it) (places_of it.modules kind.OutStruct))))

  opaques_named : AllZip OpaqueNamed defs.opaques.defs (places_of it.modules kind.Opaque)
  opaques_named =
      subst (λ list. AllZip OpaqueNamed list (places_of it.modules kind.Opaque)) (sym (opaques_are it defs stands))
      (used_zipped opaque_used OpaqueNamed (λ u def place has. has) (usages_among stands.lowered).opaques stands.lowered.opaques.items (places_of it.modules kind.Opaque)
      (known_made (λ list. AllZip OpaqueNamed list (places_of it.modules kind.Opaque)) (each_form it opaque_made (places_of it.modules kind.Opaque)) stands.lowered.opaques.items stands.accepted.all.opaques
      (all_zipped (form_at it opaque_made) OpaqueNamed (opaque_named_at it) (places_of it.modules kind.Opaque))))

  enums_named : AllZip EnumNamed defs.enums.defs (places_of it.modules kind.Enum)
  enums_named =
      subst (λ list. AllZip EnumNamed list (places_of it.modules kind.Enum)) (sym (enums_are it defs stands))
      (used_zipped enum_used EnumNamed (λ u def place has. has) (usages_among stands.lowered).enums stands.lowered.enums.items (places_of it.modules kind.Enum)
      (known_made (λ list. AllZip EnumNamed list (places_of it.modules kind.Enum)) (each_form it enum_made (places_of it.modules kind.Enum)) stands.lowered.enums.items stands.accepted.all.enums
      (all_zipped (form_at it enum_made) EnumNamed (enum_named_at it) (places_of it.modules kind.Enum))))

  functions_found : AllZip FunctionFound defs.functions.defs (places_of it.modules kind.Function)
  functions_found =
      subst (λ list. AllZip FunctionFound list (places_of it.modules kind.Function)) (sym (functions_are it defs stands))
      (known_made (λ list. AllZip FunctionFound list (places_of it.modules kind.Function)) (each_form it function_made (places_of it.modules kind.Function)) stands.lowered.functions.items stands.accepted.all.functions
      (all_zipped (form_at it function_made) FunctionFound (function_named_at it) (places_of it.modules kind.Function)))

  names_agree : (place : ItemPlace) → where_any names_in (input_struct defs (id_there it.catalog place)) ≡ declared_field_names it place
  names_agree = names_there it defs field_names_stand is_catalog

  -- ---- types

  of_type : (id : ℕ → TypeId) (name : List ℕ) (methods : List Method) (k : ℕ) (place : ItemPlace) → AreReadAsDeclared it (fields_in defs) methods place → IsNamedThere it place name methods
      → type_callables defs (id k) (path place) name methods ≡ type_callables_at it id (k, place)
  of_type id name methods k place read named =
      methods_same it defs (context_fields it defs stands is_catalog) names_agree (id k) (path place) name place refl named.name_is 0 methods _ read named.methods_are

  numbered_paths : (k : Kind) (modules : List (List (List ℕ))) → modules ≡ map path (places_of it.modules k) → (i : ℕ) (place : ItemPlace) → slice_get (places_of it.modules k) i ≡ Some place
      → slice_index_or modules (0 + i) [] ≡ path place
  numbered_paths k modules are i place at =
      ap (λ list. slice_index_or list (0 + i) []) are
      ∙ subst (λ n. slice_index_or (map path (places_of it.modules k)) n [] ≡ path place) (from_zero i) (paths_at path (places_of it.modules k) i place at)

  -- of all definitions of a kind
  of_kind : {D : Type 0} (name : D → List ℕ) (methods : D → List Method) (id : ℕ → TypeId) (k : Kind) (ds : List D) (modules : List (List (List ℕ))) → modules ≡ map path (places_of it.modules k)
      → AllZip (λ def place. AreReadAsDeclared it (fields_in defs) (methods def) place) ds (places_of it.modules k) → AllZip (λ def place. IsNamedThere it place (name def) (methods def)) ds (places_of it.modules k)
      → flat_map (λ (numbered : ℕ × D). type_callables defs (id numbered.0) (slice_index_or modules numbered.0 []) (name numbered.1) (methods numbered.1)) (enumerate_from 0 ds) ≡ kind_callables it k id
  of_kind {D} name methods id k ds modules modules_are read named =
      walked modules path (λ (def : D) place. AreReadAsDeclared it (fields_in defs) (methods def) place × IsNamedThere it place (name def) (methods def))
      (λ p n def. type_callables defs (id n) p (name def) (methods def)) (type_callables_at it id) (λ n def place both. of_type id (name def) (methods def) n place both.0 both.1) 0 ds (places_of it.modules k)
      (both_zipped (λ (def : D) place. AreReadAsDeclared it (fields_in defs) (methods def) place) (λ (def : D) place. IsNamedThere it place (name def) (methods def)) ds (places_of it.modules k) read named)
      (numbered_paths k modules modules_are)

  structs_same : flat_map (struct_callables defs) (enumerate_from 0 defs.structs.defs) ≡ kind_callables it kind.Struct type.Struct
  structs_same =
      of_kind (λ (def : InputStruct). def.name.0) (λ def. def.methods) type.Struct kind.Struct defs.structs.defs defs.structs.modules stands.listed.structs.paths
      (context_structs it defs stands is_catalog) structs_named

  out_structs_same : flat_map (out_struct_callables defs) (enumerate_from 0 defs.out_structs.defs) ≡ kind_callables it kind.OutStruct type.OutStruct
  out_structs_same =
      of_kind (λ (def : OutputStruct). def.name.0) (λ def. def.methods) type.OutStruct kind.OutStruct defs.out_structs.defs defs.out_structs.modules stands.listed.out_structs.paths
      (context_out_structs it defs stands is_catalog) out_structs_named

  opaques_same : flat_map (opaque_callables defs) (enumerate_from 0 defs.opaques.defs) ≡ kind_callables it kind.Opaque type.Opaque
  opaques_same =
      of_kind (λ (def : OpaqueDef). def.name.0) (λ def. def.methods) type.Opaque kind.Opaque defs.opaques.defs defs.opaques.modules stands.listed.opaques.paths
      (context_opaques it defs stands is_catalog) opaques_named

  enums_same : flat_map (enum_callables defs) (enumerate_from 0 defs.enums.defs) ≡ kind_callables it kind.Enum type.Enum
  enums_same =
      of_kind (λ (def : EnumDef). def.name.0) (λ def. def.methods) type.Enum kind.Enum defs.enums.defs defs.enums.modules stands.listed.enums.paths
      (context_enums it defs stands is_catalog) enums_named

  -- ---- functions

  functions_same : flat_map (function_callables defs) (enumerate_from 0 defs.functions.defs) ≡ flat_map (declared_function_callable it) (enumerate_from 0 (places_of it.modules kind.Function))
  functions_same =
      walked defs.functions.modules path (λ m place. IsFunctionRead it (fields_in defs) m place × FunctionFound m place) (by_path defs) (declared_function_callable it)
      (λ n m place both. function_same it defs (context_fields it defs stands is_catalog) names_agree n m place both.0 both.1) 0 defs.functions.defs (places_of it.modules kind.Function)
      (both_zipped (IsFunctionRead it (fields_in defs)) FunctionFound defs.functions.defs (places_of it.modules kind.Function) (context_functions it defs stands is_catalog) functions_found)
      (numbered_paths kind.Function defs.functions.modules stands.listed.functions.paths)

  -- ---- all of them

  pub callables_same : callables defs ≡ declared_callables it
  callables_same i = structs_same i ++ out_structs_same i ++ opaques_same i ++ enums_same i ++ functions_same i
