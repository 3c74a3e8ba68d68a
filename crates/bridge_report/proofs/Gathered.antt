-- The ids that are gathered are those of the callables, in order.
use Rattle.std.proofs.Common.{◌≡◌, ℕ, ◌+◌, zero, suc, List, [], ◌∷◌, ◌++◌, Bool, true, false, Option, Some, cond, map, refl, sym, ap, subst, ◌∙◌, append_assoc, arith, slice_get, option_map}
use Rattle.std.specs.Prelude.{slice_index_or}
use Rattle.std.specs.List.{enumerate_from, flat_map}
use Rattle.std.proofs.lemmas.List.{map-append}
use Rattle.std.proofs.lemmas.List.Concat.{flat_map-append}
use Rattle.std.proofs.lemmas.List.Folds.{flat_map-map}
use Rattle.hir_context.specs.Iterating.{all_types, enum_entry, opaque_entry, out_struct_entry, struct_entry}
use Rattle.hir_context.specs.Lookups.{DefinedType, Struct, OutStruct, Opaque, Enum, InputStruct, OutputStruct, defined_at, module_path_at, name_at, type_methods}
use Rattle.hir_context.specs.declared.parts.Definitions.{Definitions}
use Rattle.hir_definitions.specs.declared.definitions.EnumDef.{EnumDef}
use Rattle.hir_definitions.specs.declared.definitions.OpaqueDef.{OpaqueDef}
use Rattle.hir_definitions.specs.declared.methods.Method.{Method}
use Rattle.hir_ids.specs.declared.ids.SymbolId.TheVariants as symbol
use Rattle.hir_ids.specs.declared.ids.TypeId.{TypeId}
use Rattle.hir_ids.specs.declared.ids.TypeId.TheVariants as type
use Rattle.hir_mentions.specs.Mentions.{where_any}
use Rattle.bridge_report.specs.Callables.{Callable}
use Rattle.bridge_report.specs.InContext.{callable_at, callables, enum_callables, function_callable, function_callables, opaque_callables, out_struct_callables, struct_callables, type_callable, type_callables}
use Rattle.bridge_report.specs.declared.report.CallableId.{CallableId}
use Rattle.bridge_report.specs.declared.report.CallableId.TheVariants as callable
use Rattle.bridge_report.specs.inside.Ids.{function_ids, ids_of, method_ids, type_ids}
use Rattle.bridge_report.proofs.There.{function_gives, method_gives}

-- the ids give these, in order
abbrev Give : {A B : Type 0} → (A → Option B) → List A → List B → Type 0
Give f ids cs = map f ids ≡ map Some cs

-- two lists after one another
both : {A B : Type 0} (f : A → Option B) (xs ys : List A) (cs ds : List B) → Give f xs cs → Give f ys ds → Give f (xs ++ ys) (cs ++ ds)
both f xs ys cs ds first next = map-append f xs ys ∙ ap (λ os. os ++ map f ys) first ∙ ap (λ os. map Some cs ++ os) next ∙ sym (map-append Some cs ds)

-- where each place gives one, and where each gives some
module _ {A B X : Type 0} (f : A → Option B) where
  each_one : (id_of : ℕ × X → A) (made : ℕ × X → B) (n : ℕ) (xs : List X)
      → ((i e : ℕ) (x : X) → n + i ≡ e → slice_get xs i ≡ Some x → f (id_of (e, x)) ≡ Some (made (e, x)))
      → Give f (map id_of (enumerate_from n xs)) (map made (enumerate_from n xs))
  each_one id_of made n [] each = refl
  each_one id_of made n (x ∷ xs) each =
      ap (λ o. o ∷ map f (map id_of (enumerate_from (n + 1) xs))) (each 0 n x (omega arith) refl)
      ∙ ap (λ os. Some (made (n, x)) ∷ os) (each_one id_of made (n + 1) xs (λ i e y is at. each (suc i) e y (omega arith) at))

  each_some : (ids_in : ℕ × X → List A) (made : ℕ × X → List B) (n : ℕ) (xs : List X)
      → ((i e : ℕ) (x : X) → n + i ≡ e → slice_get xs i ≡ Some x → Give f (ids_in (e, x)) (made (e, x)))
      → Give f (flat_map ids_in (enumerate_from n xs)) (flat_map made (enumerate_from n xs))
  each_some ids_in made n [] each = refl
  each_some ids_in made n (x ∷ xs) each =
      both f (ids_in (n, x)) (flat_map ids_in (enumerate_from (n + 1) xs)) (made (n, x)) (flat_map made (enumerate_from (n + 1) xs))
      (each 0 n x (omega arith) refl) (each_some ids_in made (n + 1) xs (λ i e y is at. each (suc i) e y (omega arith) at))

-- counted from 0 a number is a place
at_same : {X : Type 0} (xs : List X) (i e : ℕ) (x : X) → 0 + i ≡ e → slice_get xs i ≡ Some x → slice_get xs e ≡ Some x
at_same xs i e x is at = let place : e ≡ i = omega arith in ap (slice_get xs) place ∙ at

-- the element at a place, and the empty one where there is none
or_empty : {A : Type 0} (xs : List (List A)) (i : ℕ) → where_any (λ x. x) (slice_get xs i) ≡ slice_index_or xs i []
or_empty [] i = refl
or_empty (x ∷ xs) zero = refl
or_empty (x ∷ xs) (suc i) = or_empty xs i

module _ (defs : Definitions) where
  -- the methods of a type, by its path and its name
  of_type : (id : TypeId) (def : DefinedType) (path : List (List ℕ)) (name : List ℕ) → defined_at defs id ≡ Some def
      → where_any (λ path. path) (module_path_at defs (symbol.TypeId id)) ≡ path → where_any (λ name. name) (name_at defs (symbol.TypeId id)) ≡ name
      → Give (callable_at defs) (method_ids id 0 (type_methods def)) (type_callables defs id path name (type_methods def))
  of_type id def path name is of_path named =
      each_one (callable_at defs) (λ numbered. callable.Method id numbered.0) (type_callable defs id path name) 0 (type_methods def)
      (λ i e m at there. method_gives defs id e def m path name is (at_same (type_methods def) i e m at there) of_path named)

  -- the types of each kind
  structs_give : Give (callable_at defs) (flat_map (λ numbered. type_ids (struct_entry numbered)) (enumerate_from 0 defs.structs.defs)) (flat_map (struct_callables defs) (enumerate_from 0 defs.structs.defs))
  structs_give = each_some (callable_at defs) (λ numbered. type_ids (struct_entry numbered)) (struct_callables defs) 0 defs.structs.defs
      (λ i e def at there.
      let here = at_same defs.structs.defs i e def at there in
      of_type (type.Struct e) (Struct def) (slice_index_or defs.structs.modules e []) def.name.0 (ap (option_map Struct) here)
      (or_empty defs.structs.modules e) (ap (λ o. where_any (λ name. name) (option_map (λ (d : InputStruct). d.name.0) o)) here))

  out_structs_give : Give (callable_at defs) (flat_map (λ numbered. type_ids (out_struct_entry numbered)) (enumerate_from 0 defs.out_structs.defs)) (flat_map (out_struct_callables defs) (enumerate_from 0 defs.out_structs.defs))
  out_structs_give = each_some (callable_at defs) (λ numbered. type_ids (out_struct_entry numbered)) (out_struct_callables defs) 0 defs.out_structs.defs
      (λ i e def at there.
      let here = at_same defs.out_structs.defs i e def at there in
      of_type (type.OutStruct e) (OutStruct def) (slice_index_or defs.out_structs.modules e []) def.name.0 (ap (option_map OutStruct) here)
      (or_empty defs.out_structs.modules e) (ap (λ o. where_any (λ name. name) (option_map (λ (d : OutputStruct). d.name.0) o)) here))

  opaques_give : Give (callable_at defs) (flat_map (λ numbered. type_ids (opaque_entry numbered)) (enumerate_from 0 defs.opaques.defs)) (flat_map (opaque_callables defs) (enumerate_from 0 defs.opaques.defs))
  opaques_give = each_some (callable_at defs) (λ numbered. type_ids (opaque_entry numbered)) (opaque_callables defs) 0 defs.opaques.defs
      (λ i e def at there.
      let here = at_same defs.opaques.defs i e def at there in
      of_type (type.Opaque e) (Opaque def) (slice_index_or defs.opaques.modules e []) def.name.0 (ap (option_map Opaque) here)
      (or_empty defs.opaques.modules e) (ap (λ o. where_any (λ name. name) (option_map (λ (d : OpaqueDef). d.name.0) o)) here))

  enums_give : Give (callable_at defs) (flat_map (λ numbered. type_ids (enum_entry numbered)) (enumerate_from 0 defs.enums.defs)) (flat_map (enum_callables defs) (enumerate_from 0 defs.enums.defs))
  enums_give = each_some (callable_at defs) (λ numbered. type_ids (enum_entry numbered)) (enum_callables defs) 0 defs.enums.defs
      (λ i e def at there.
      let here = at_same defs.enums.defs i e def at there in
      of_type (type.Enum e) (Enum def) (slice_index_or defs.enums.modules e []) def.name.0 (ap (option_map Enum) here)
      (or_empty defs.enums.modules e) (ap (λ o. where_any (λ name. name) (option_map (λ (d : EnumDef). d.name.0) o)) here))

  -- a function: none where it is disabled
  of_function : (e : ℕ) (m : Method) (disabled : Bool) → m.attrs.disable ≡ disabled → slice_get defs.functions.defs e ≡ Some m
      → Give (callable_at defs) (cond disabled [] (callable.Function e ∷ [])) (cond disabled [] (function_callable defs (e, m) ∷ []))
  of_function e m true is there = refl
  of_function e m false is there = ap (λ o. o ∷ []) (function_gives defs e m there is)

  functions_give : Give (callable_at defs) (flat_map function_ids (enumerate_from 0 defs.functions.defs)) (flat_map (function_callables defs) (enumerate_from 0 defs.functions.defs))
  functions_give = each_some (callable_at defs) function_ids (function_callables defs) 0 defs.functions.defs
      (λ i e m at there. of_function e m m.attrs.disable refl (at_same defs.functions.defs i e m at there))

  -- entries of one kind before others
  entries_give : {X : Type 0} (entry : ℕ × X → TypeId × DefinedType) (xs : List (ℕ × X)) (rest : List (TypeId × DefinedType)) (cs ds : List Callable)
      → Give (callable_at defs) (flat_map (λ numbered. type_ids (entry numbered)) xs) cs → Give (callable_at defs) (flat_map type_ids rest) ds
      → Give (callable_at defs) (flat_map type_ids (map entry xs ++ rest)) (cs ++ ds)
  entries_give entry xs rest cs ds first next =
      subst (λ ids. Give (callable_at defs) ids (cs ++ ds))
      (ap (λ ids. ids ++ flat_map type_ids rest) (sym (flat_map-map type_ids entry xs)) ∙ sym (flat_map-append type_ids (map entry xs) rest))
      (both (callable_at defs) (flat_map (λ numbered. type_ids (entry numbered)) xs) (flat_map type_ids rest) cs ds first next)

  -- the ids of all give all callables
  all_give : Give (callable_at defs) (ids_of defs) (callables defs)
  all_give =
      let structs = flat_map (struct_callables defs) (enumerate_from 0 defs.structs.defs) in
      let outs = flat_map (out_struct_callables defs) (enumerate_from 0 defs.out_structs.defs) in
      let opaques = flat_map (opaque_callables defs) (enumerate_from 0 defs.opaques.defs) in
      let enums = flat_map (enum_callables defs) (enumerate_from 0 defs.enums.defs) in
      let functions = flat_map (function_callables defs) (enumerate_from 0 defs.functions.defs) in
      let of_enums : Give (callable_at defs) (flat_map type_ids (map enum_entry (enumerate_from 0 defs.enums.defs))) enums =
      ap (map (callable_at defs)) (flat_map-map type_ids enum_entry (enumerate_from 0 defs.enums.defs)) ∙ enums_give in
      let of_types : Give (callable_at defs) (flat_map type_ids (all_types defs)) (structs ++ (outs ++ (opaques ++ enums))) =
      entries_give struct_entry (enumerate_from 0 defs.structs.defs) _ structs (outs ++ (opaques ++ enums)) structs_give
      (entries_give out_struct_entry (enumerate_from 0 defs.out_structs.defs) _ outs (opaques ++ enums) out_structs_give
      (entries_give opaque_entry (enumerate_from 0 defs.opaques.defs) _ opaques enums opaques_give of_enums)) in
      let nested : structs ++ (outs ++ (opaques ++ enums)) ≡ ((structs ++ outs) ++ opaques) ++ enums =
      sym (append_assoc structs outs (opaques ++ enums)) ∙ sym (append_assoc (structs ++ outs) opaques enums) in
      both (callable_at defs) (flat_map type_ids (all_types defs)) (flat_map function_ids (enumerate_from 0 defs.functions.defs))
      (((structs ++ outs) ++ opaques) ++ enums) functions (of_types ∙ ap (map Some) nested) functions_give

  -- as they are gathered one after the other
  pub gathered_give : (types all : List CallableId) → types ≡ flat_map type_ids (all_types defs)
      → all ≡ types ++ flat_map function_ids (enumerate_from 0 defs.functions.defs) → Give (callable_at defs) all (callables defs)
  gathered_give types all is of_all =
      ap (map (callable_at defs)) (of_all ∙ ap (λ ids. ids ++ flat_map function_ids (enumerate_from 0 defs.functions.defs)) is) ∙ all_give
