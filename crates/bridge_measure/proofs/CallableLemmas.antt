-- The callables of the made declarations are the functions, in order.
use Rattle.std.proofs.Common.{◌≡◌, ℕ, zero, suc, ◌+◌, ◌<◌, ◌≤◌, List, [], ◌∷◌, ◌++◌, map, Bool, true, false, Option, Some, refl, ap, ◌∙◌, arith, if◌then◌else◌}
use Rattle.std.specs.Prelude.{None}
use Rattle.std.specs.List.{enumerate_from, flat_map, range_with_len}
use Rattle.bridge_ast.specs.declared.place.ItemPlace.{ItemPlace}
use Rattle.bridge_decl.specs.declared.attrs.Attrs.{Attrs}
use Rattle.bridge_decl.specs.declared.modules.Item.{Item}
use Rattle.bridge_decl.specs.declared.modules.Item.TheVariants as item
use Rattle.bridge_decl.specs.declared.modules.Module.{Module}
use Rattle.bridge_generate.specs.Generated.{function_name, function_numbered, generated_module, params_of, plain_attrs}
use Rattle.bridge_callables.specs.Declared.{declared_callables, declared_function_callable, found_function_callable, kind_callables, method_callable, numbered_callable, signature_callable, type_callables_at}
use Rattle.bridge_order.specs.declared.catalog.Catalog.{Catalog}
use Rattle.bridge_places.specs.Places.{places_of}
use Rattle.bridge_places.specs.declared.kinds.Kind.{Kind}
use Rattle.bridge_places.specs.declared.kinds.Kind.TheVariants as kind
use Rattle.bridge_report.specs.Callables.{Callable}
use Rattle.bridge_report.specs.declared.report.CallableId.TheVariants as callable
use Rattle.hir_backends.specs.Backend.{Backend}
use Rattle.hir_config.specs.declared.config.LoweringConfig.{LoweringConfig}
use Rattle.hir_ids.specs.declared.ids.TypeId.{TypeId}
use Rattle.hir_ids.specs.declared.ids.TypeId.TheVariants as type
use Rattle.hir_items.specs.Inheriting.{item_marks}
use Rattle.hir_lower.specs.Placing.{path_of_place}
use Rattle.hir_lowering.specs.Interface.{Interface}
use Rattle.hir_lowering.specs.Placing.{found_at}
use Rattle.hir_lowering.specs.Walks.{interface_of}
use Rattle.hir_mentions.specs.Mentions.{where_any}
use Rattle.hir_modules.specs.ModuleMarks.{module_marks}
use Rattle.hir_number.specs.Naming.{Naming}
use Rattle.hir_number.specs.Signatures.{without_writer}
use Rattle.hir_readings.specs.Declared.{declared_methods, enabled_methods_of, found_methods}
use Rattle.hir_reports.specs.Store.{at_place}
use Rattle.bridge_measure.specs.Measured.{measured}
use Rattle.bridge_measure.specs.inside.Made.{AreAsMade, IsMadeAt, function_place}
use Rattle.bridge_measure.proofs.SignatureLemmas.{made_signature, signature_is}
use Rattle.bridge_measure.proofs.OrderLemmas.{functions_stand}

flat_none : {A B : Type 0} (f : A → List B) (xs : List A) → ((x : A) → f x ≡ []) → flat_map f xs ≡ []
flat_none f [] none = refl
flat_none f (x ∷ xs) none = ap (λ ys. ys ++ flat_map f xs) (none x) ∙ flat_none f xs none

either_way : {A : Type 0} (b : Bool) (x : A) → (if b then x else x) ≡ x
either_way true x = refl
either_way false x = refl

module _ (count : ℕ) (backend : Backend) (config : LoweringConfig) (names : ℕ → Naming) (catalog : Catalog) where
  abbrev it : Interface
  it = interface_of (measured count) backend config names catalog

  -- the callable of the function of a number
  abbrev pub made_callable : ℕ → Callable
  made_callable k =
      signature_callable it (callable.Function k) (at_place (path_of_place (measured count) (function_place count k)) (function_name k) None) None
      (without_writer (params_of k)) (made_signature k)

  module _ (known : AreAsMade count (names 0) catalog)
      (found_is : (place : ItemPlace) (found : Module × Item) → found_at (measured count) place ≡ Some found
      → (found.0 ≡ generated_module count) × IsMadeAt count place found.1)
      (function_found : (k : ℕ) → k < count
      → found_at (measured count) (function_place count k) ≡ Some (generated_module count, item.Function (function_numbered k)))
    where
      -- ---- types have no methods

      none_enabled : (owner : Module) (attrs : Attrs) → enabled_methods_of it owner attrs [] ≡ []
      none_enabled owner attrs = either_way (item_marks backend (module_marks backend (measured count) owner) attrs).disable []

      found_none : (place : ItemPlace) (found : Module × Item) → IsMadeAt count place found.1 → found_methods it found ≡ []
      found_none place (owner, found) (IsMadeAt.opaque place_is is) = ap (λ i. found_methods it (owner, i)) is ∙ none_enabled owner plain_attrs
      found_none place (owner, found) (IsMadeAt.struct k within place_is is) = ap (λ i. found_methods it (owner, i)) is ∙ none_enabled owner plain_attrs
      found_none place (owner, found) (IsMadeAt.function k within place_is is) = ap (λ i. found_methods it (owner, i)) is

      where_none : (place : ItemPlace) (o : Option (Module × Item)) → found_at (measured count) place ≡ o → where_any (found_methods it) o ≡ []
      where_none place None is = refl
      where_none place (Some found) is = found_none place found (found_is place found is).1

      no_methods : (place : ItemPlace) → declared_methods it place ≡ []
      no_methods place = where_none place (found_at (measured count) place) refl

      none_of_kind : (k : Kind) (id : ℕ → TypeId) → kind_callables it k id ≡ []
      none_of_kind k id =
          flat_none (type_callables_at it id) (enumerate_from 0 (places_of (measured count) k))
          (λ numbered. ap (λ methods. flat_map (method_callable it (id numbered.0) numbered.1) (enumerate_from 0 methods)) (no_methods numbered.1))

      -- ---- functions

      function_here : (k : ℕ) → k < count → declared_function_callable it (k, function_place count k) ≡ made_callable k ∷ []
      function_here k within =
          ap (where_any (found_function_callable it k (function_place count k))) (function_found k within)
          ∙ ap (numbered_callable it (callable.Function k) (at_place (path_of_place (measured count) (function_place count k)) (function_name k) None) None
          (without_writer (params_of k))) (signature_is count (names 0) catalog known k within)

      functions_here : (a n : ℕ) → a + n ≤ count
          → flat_map (declared_function_callable it) (enumerate_from a (map (function_place count) (range_with_len a n)))
          ≡ map made_callable (range_with_len a n)
      functions_here a zero within = refl
      functions_here a (suc n) within =
          ap (λ cs. cs ++ flat_map (declared_function_callable it) (enumerate_from (a + 1) (map (function_place count) (range_with_len (a + 1) n))))
          (function_here a (omega arith))
          ∙ ap (λ cs. made_callable a ∷ cs) (functions_here (a + 1) n (omega arith))

      pub callables_are : declared_callables it ≡ map made_callable (range_with_len 0 count)
      callables_are =
          let functions = flat_map (declared_function_callable it) (enumerate_from 0 (places_of (measured count) kind.Function)) in
          let enums = kind_callables it kind.Enum type.Enum in
          let opaques = kind_callables it kind.Opaque type.Opaque in
          let out_structs = kind_callables it kind.OutStruct type.OutStruct in
          ap (λ cs. cs ++ out_structs ++ opaques ++ enums ++ functions) (none_of_kind kind.Struct type.Struct)
          ∙ ap (λ cs. cs ++ opaques ++ enums ++ functions) (none_of_kind kind.OutStruct type.OutStruct)
          ∙ ap (λ cs. cs ++ enums ++ functions) (none_of_kind kind.Opaque type.Opaque)
          ∙ ap (λ cs. cs ++ functions) (none_of_kind kind.Enum type.Enum)
          ∙ ap (λ places. flat_map (declared_function_callable it) (enumerate_from 0 places)) (functions_stand count)
          ∙ functions_here 0 count (omega arith)
