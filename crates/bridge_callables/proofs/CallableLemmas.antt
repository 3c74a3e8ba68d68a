-- What is said of a lowered method or function is what is said of its declaration.
use Rattle.std.proofs.Common.{◌≡◌, ℕ, ◌+◌, List, [], ◌∷◌, ◌++◌, map, Bool, true, false, cond, Option, Some, None, if◌then◌else◌, refl, sym, ap, ◌∙◌}
use Rattle.std.specs.Prelude.{is_some, option_and_then}
use Rattle.std.specs.List.{AllZip, enumerate_from, flat_map, zip}
use Rattle.bridge_ast.specs.declared.place.ItemPlace.{ItemPlace}
use Rattle.bridge_decl.specs.declared.functions.Function.{Function}
use Rattle.bridge_decl.specs.declared.methods.Method.{Method as DeclaredMethod}
use Rattle.bridge_decl.specs.declared.methods.Param.{Param as DeclaredParam}
use Rattle.bridge_decl.specs.declared.methods.SelfParam.{SelfParam}
use Rattle.bridge_decl.specs.declared.modules.Item.{Item}
use Rattle.bridge_decl.specs.declared.modules.Item.TheVariants as item
use Rattle.bridge_decl.specs.declared.modules.Module.{Module}
use Rattle.bridge_report.specs.Callables.{Callable, CallableInput}
use Rattle.bridge_report.specs.InContext.{callable_of, callable_inputs, outline, param_input, receiver_input, receiver_name, type_callable}
use Rattle.bridge_report.specs.declared.report.CallableId.{CallableId}
use Rattle.bridge_report.specs.declared.report.CallableId.TheVariants as callable
use Rattle.hir_context.specs.declared.parts.Definitions.{Definitions}
use Rattle.hir_definitions.specs.declared.methods.Method.{Method}
use Rattle.hir_definitions.specs.declared.methods.Param.{Param}
use Rattle.hir_definitions.specs.declared.methods.ParamSelf.{ParamSelf}
use Rattle.hir_ids.specs.declared.ids.TypeId.{TypeId}
use Rattle.hir_items.specs.Inheriting.{item_marks}
use Rattle.hir_lower.specs.Placing.{path_of_place}
use Rattle.hir_lowering.specs.Interface.{Interface}
use Rattle.hir_lowering.specs.Placing.{found_at}
use Rattle.hir_mentions.specs.Mentions.{where_any}
use Rattle.hir_modules.specs.ModuleMarks.{module_marks}
use Rattle.hir_number.specs.Signatures.{without_writer}
use Rattle.hir_number.specs.declared.signature.NumberedSignature.{NumberedSignature}
use Rattle.hir_reports.specs.Store.{at_place}
use Rattle.hir_reports.specs.declared.places.ErrorContext.{ErrorContext}
use Rattle.hir_skeleton.specs.Inputs.{fields_in, input_names, input_struct, method_inputs, method_leaves, path_names}
use Rattle.hir_skeleton.specs.Leaves.{DeepLeaf}
use Rattle.hir_skeleton.specs.NamedLeaves.{borrowing_leaves, leaf_named}
use Rattle.hir_skeleton.specs.Skeletons.{Skeleton, Nothing, Carrier, Struct}
use Rattle.hir_readings.specs.Declared.{declared_fields, found_function, method_signature}
use Rattle.hir_readings.specs.Inputs.{Input, input_known_as, lowered_input, lowered_inputs, numbered_inputs, lowered_receiver}
use Rattle.hir_readings.specs.Knowing.{id_there, known_as}
use Rattle.hir_readings.specs.Readings.{IsFunctionRead, IsReadAsDeclared, IsReadLike}
use Rattle.hir_readings.proofs.AgreeLemmas.{input_skeletons}
use Rattle.bridge_callables.specs.Declared.{declared_name, declared_named_leaves, found_function_callable, method_callable, named_input, numbered_callable, signature_callable}
use Rattle.bridge_callables.specs.Names.{declared_field_names, declared_input_names, declared_path_names}
use Rattle.bridge_callables.proofs.FieldNames.{names_in}
use Rattle.bridge_callables.proofs.ItemNames.{IsFoundFunction}
use Rattle.bridge_callables.proofs.MethodNames.{IsNamed, IsNamedMethod}
use Rattle.bridge_callables.proofs.PathLemmas.{path_same}

-- ---- lists

same_map : {A B : Type 0} (f g : A → B) → ((x : A) → f x ≡ g x) → (xs : List A) → map f xs ≡ map g xs
same_map f g same [] = refl
same_map f g same (x ∷ xs) = ap (λ y. y ∷ map f xs) (same x) ∙ ap (λ ys. g x ∷ ys) (same_map f g same xs)

true_false : true ≡ false → ⊥
true_false is = cc

-- what stands where there is something stands where there is something else
same_there : {A B C : Type 0} (c : C) (o : Option A) (p : Option B) → is_some o ≡ is_some p → where_any (λ a. c ∷ []) o ≡ where_any (λ b. c ∷ []) p
same_there c None None same = refl
same_there c None (Some b) same = absurd (true_false (sym same))
same_there c (Some a) None same = absurd (true_false same)
same_there c (Some a) (Some b) same = refl

-- a function, by its number and the path of its module: one that is disabled is none
abbrev pub by_path : Definitions → List (List ℕ) → ℕ → Method → List Callable
by_path defs path k m = cond m.attrs.disable [] (callable_of defs (callable.Function k) (at_place path m.name.0 None) m ∷ [])

-- ---- inputs

module _ {K L : Type 0} (f : K → L) where
  outline_known : (s : Skeleton K) → outline (known_as f s) ≡ outline s
  outline_known Nothing = refl
  outline_known (Carrier lifetimes) = refl
  outline_known (Struct key args) = refl

  abbrev of_outline : List ℕ → Input K → Skeleton (Unit {0}) → CallableInput
  of_outline name input s = record { name = name; skeleton = s; optional = input.optional; slice = input.slice }

  inputs_known : (names : List (List ℕ)) (inputs : List (Input K)) → map named_input (zip names (map (input_known_as f) inputs)) ≡ map named_input (zip names inputs)
  inputs_known [] inputs = refl
  inputs_known (name ∷ names) [] = refl
  inputs_known (name ∷ names) (input ∷ inputs) =
      ap (λ s. of_outline name input s ∷ map named_input (zip names (map (input_known_as f) inputs))) (outline_known input.skeleton)
      ∙ ap (λ rest. of_outline name input (outline input.skeleton) ∷ rest) (inputs_known names inputs)

  skeletons_known : (inputs : List (Input K)) → map (λ (input : Input L). input.skeleton) (map (input_known_as f) inputs) ≡ map (known_as f) (map (λ (input : Input K). input.skeleton) inputs)
  skeletons_known [] = refl
  skeletons_known (input ∷ inputs) = ap (λ rest. known_as f input.skeleton ∷ rest) (skeletons_known inputs)

param_inputs : (params : List Param) → map param_input params ≡ map named_input (zip (map (λ param. param.name) params) (map (λ param. lowered_input param.ty) params))
param_inputs [] = refl
param_inputs (param ∷ params) = ap (λ rest. param_input param ∷ rest) (param_inputs params)

own_inputs : (o : Option ParamSelf) (params : List Param) → where_any (λ receiver. receiver_input receiver.ty ∷ []) o ++ map param_input params
    ≡ map named_input (zip (where_any (λ receiver. receiver_name ∷ []) o ++ map (λ param. param.name) params) (where_any (λ receiver. lowered_receiver receiver.ty ∷ []) o ++ map (λ param. lowered_input param.ty) params))
own_inputs None params = param_inputs params
own_inputs (Some receiver) params = ap (λ rest. receiver_input receiver.ty ∷ rest) (param_inputs params)

module _ (it : Interface) (defs : Definitions)
    (fields_agree : (place : ItemPlace) → fields_in defs (id_there it.catalog place) ≡ map (known_as (id_there it.catalog)) (declared_fields it place))
    (names_agree : (place : ItemPlace) → where_any names_in (input_struct defs (id_there it.catalog place)) ≡ declared_field_names it place)
  where
    abbrev known_input : Input ItemPlace → Input TypeId
    known_input = input_known_as (id_there it.catalog)

    abbrev skeletons_of : NumberedSignature → List (Skeleton ItemPlace)
    skeletons_of n = map (λ (input : Input ItemPlace). input.skeleton) (numbered_inputs it.catalog n)

    module _ (m : Method) (name : List ℕ) (receiver : Option SelfParam) (params : List DeclaredParam) (named : IsNamed m name receiver params) (n : NumberedSignature) (reads : IsReadLike it (fields_in defs) m n) where
      abbrev names : List (List ℕ)
      names = declared_input_names receiver params

      names_are : input_names receiver_name m ≡ names
      names_are =
          ap (λ first. first ++ map (λ param. param.name) m.params) (same_there receiver_name m.param_self receiver named.receiver_is)
          ∙ ap (λ rest. where_any (λ own. receiver_name ∷ []) receiver ++ rest) named.params_are

      inputs_are : callable_inputs m ≡ map named_input (zip names (numbered_inputs it.catalog n))
      inputs_are =
          own_inputs m.param_self m.params
          ∙ ap (λ all. map named_input (zip all (lowered_inputs m))) names_are
          ∙ ap (λ inputs. map named_input (zip names inputs)) reads.inputs
          ∙ inputs_known (id_there it.catalog) names (numbered_inputs it.catalog n)

      skeletons_are : method_inputs m ≡ map (known_as (id_there it.catalog)) (skeletons_of n)
      skeletons_are =
          input_skeletons it (fields_in defs) fields_agree m
          ∙ ap (λ inputs. map (λ (input : Input TypeId). input.skeleton) inputs) reads.inputs
          ∙ skeletons_known (id_there it.catalog) (numbered_inputs it.catalog n)

      leaf_same : (leaf : DeepLeaf) → leaf_named (path_names defs receiver_name m) leaf ≡ leaf_named (declared_path_names it names (skeletons_of n)) leaf
      leaf_same leaf =
          ap (λ along. record { path = leaf.path; names = along; carried = leaf.carried })
          (path_same it defs fields_agree names_agree receiver_name m names (skeletons_of n) names_are skeletons_are leaf.path)

      leaves_are : borrowing_leaves defs receiver_name m ≡ declared_named_leaves it names n
      leaves_are =
          same_map (leaf_named (path_names defs receiver_name m)) (leaf_named (declared_path_names it names (skeletons_of n))) leaf_same (method_leaves defs m)
          ∙ ap (λ leaves. map (leaf_named (declared_path_names it names (skeletons_of n))) leaves) reads.leaves

      callable_same : (id : CallableId) (here there : ErrorContext) → here ≡ there → callable_of defs id here m ≡ signature_callable it id there receiver params n
      callable_same id here there same i =
          record {
            id = id;
            place = same i;
            receiver = named.receiver_is i;
            environment = reads.lifetimes i;
            named = reads.named i;
            inputs = inputs_are i;
            leaves = leaves_are i;
          }

    -- ---- what is declared

    declared_same : (id : CallableId) (here there : ErrorContext) → here ≡ there → (m : Method) (name : List ℕ) (receiver : Option SelfParam) (params : List DeclaredParam) (o : Option NumberedSignature)
        → IsReadAsDeclared it (fields_in defs) m o → IsNamed m name receiver params → callable_of defs id here m ∷ [] ≡ numbered_callable it id there receiver params o
    declared_same id here there same m name receiver params o read named =
        ap (λ c. c ∷ []) (callable_same m name receiver params named read.signature read.reads id here there same)
        ∙ sym (ap (numbered_callable it id there receiver params) read.has)

    -- ---- methods

    module _ (id : TypeId) (path : List (List ℕ)) (name : List ℕ) (place : ItemPlace) (path_is : path ≡ path_of_place it.modules place) (name_is : name ≡ declared_name it place) where
      abbrev Reads : Method → DeclaredMethod → Type 0
      Reads m method = IsReadAsDeclared it (fields_in defs) m (method_signature (it.names place.«module») method)

      one_method : (k : ℕ) (m : Method) (method : DeclaredMethod) → Reads m method → IsNamedMethod m method → type_callable defs id path name (k, m) ∷ [] ≡ method_callable it id place (k, method)
      one_method k m method read named =
          declared_same (callable.Method id k) (at_place path name (Some m.name.0)) (at_place (path_of_place it.modules place) (declared_name it place) (Some method.name))
          (λ i. at_place (path_is i) (name_is i) (Some (named.name_is i))) m method.name method.self_param (without_writer method.params) (method_signature (it.names place.«module») method) read named

      pub methods_same : (k : ℕ) (ms : List Method) (methods : List DeclaredMethod) → AllZip Reads ms methods → AllZip IsNamedMethod ms methods
          → map (type_callable defs id path name) (enumerate_from k ms) ≡ flat_map (method_callable it id place) (enumerate_from k methods)
      methods_same k [] [] read named = refl
      methods_same k [] (method ∷ methods) read named = absurd read
      methods_same k (m ∷ ms) [] read named = absurd read
      methods_same k (m ∷ ms) (method ∷ methods) read named =
          ap (λ rest. type_callable defs id path name (k, m) ∷ rest) (methods_same (k + 1) ms methods read.1 named.1)
          ∙ ap (λ first. first ++ flat_map (method_callable it id place) (enumerate_from (k + 1) methods)) (one_method k m method read.0 named.0)

    -- ---- functions

    module _ (k : ℕ) (m : Method) (place : ItemPlace) where
      function_here : (owner : Module) (declared : Function) (b : Bool) → m.attrs.disable ≡ b → (item_marks it.backend (module_marks it.backend it.modules owner) declared.attrs).disable ≡ b
          → (m.attrs.disable ≡ false → IsReadAsDeclared it (fields_in defs) m (found_function it place (owner, item.Function declared)))
          → IsFoundFunction it place (Some (owner, item.Function declared)) m
          → by_path defs (path_of_place it.modules place) k m ≡ found_function_callable it k place (owner, item.Function declared)
      function_here owner declared true here there read found =
          ap (λ b. cond b [] (callable_of defs (callable.Function k) (at_place (path_of_place it.modules place) m.name.0 None) m ∷ [])) here
          ∙ sym (ap (λ b. if b then [] else numbered_callable it (callable.Function k) (at_place (path_of_place it.modules place) declared.name None)
          None (without_writer declared.params) (found_function it place (owner, item.Function declared))) there)
      function_here owner declared false here there read found =
          let named = found.named there in
          ap (λ b. cond b [] (callable_of defs (callable.Function k) (at_place (path_of_place it.modules place) m.name.0 None) m ∷ [])) here
          ∙ declared_same (callable.Function k) (at_place (path_of_place it.modules place) m.name.0 None) (at_place (path_of_place it.modules place) declared.name None)
          (ap (λ name. at_place (path_of_place it.modules place) name None) named.name_is) m declared.name None (without_writer declared.params) (found_function it place (owner, item.Function declared)) (read here) named
          ∙ sym (ap (λ b. if b then [] else numbered_callable it (callable.Function k) (at_place (path_of_place it.modules place) declared.name None)
          None (without_writer declared.params) (found_function it place (owner, item.Function declared))) there)

      function_found : (o : Option (Module × Item)) → (m.attrs.disable ≡ false → IsReadAsDeclared it (fields_in defs) m (option_and_then (found_function it place) o)) → IsFoundFunction it place o m
          → by_path defs (path_of_place it.modules place) k m ≡ where_any (found_function_callable it k place) o
      function_found None read found = absurd found
      function_found (Some (owner, item.Struct declared)) read found = absurd found
      function_found (Some (owner, item.Opaque declared)) read found = absurd found
      function_found (Some (owner, item.Enum declared)) read found = absurd found
      function_found (Some (owner, item.Trait declared)) read found = absurd found
      function_found (Some (owner, item.Function declared)) read found =
          function_here owner declared m.attrs.disable refl (sym found.disabled_so) read found

      pub function_same : IsFunctionRead it (fields_in defs) m place → IsFoundFunction it place (found_at it.modules place) m
          → by_path defs (path_of_place it.modules place) k m ≡ where_any (found_function_callable it k place) (found_at it.modules place)
      function_same read found = function_found (found_at it.modules place) read.enabled found
