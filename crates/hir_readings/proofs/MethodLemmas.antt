-- What methods and functions are lowered to has the inputs of their numbered signatures.
use Rattle.std.proofs.Common.{◌≡◌, ℕ, List, [], ◌∷◌, ◌++◌, map, Bool, true, false, Option, Some, None, Result, Ok, Err, if◌then◌else◌, refl, sym, ap, subst, ◌∙◌}
use Rattle.std.specs.Prelude.{IfSome, option_map}
use Rattle.std.proofs.lemmas.List.{map-append}
use Rattle.std.proofs.lemmas.Option.{same_Some}
use Rattle.bridge_ast.specs.declared.place.ItemPlace.{ItemPlace}
use Rattle.bridge_decl.specs.declared.functions.Function.{Function}
use Rattle.bridge_decl.specs.declared.lifetimes.LifetimeEnv.{LifetimeEnv}
use Rattle.bridge_decl.specs.declared.methods.Method.{Method as DeclaredMethod}
use Rattle.bridge_decl.specs.declared.methods.Param.{Param as DeclaredParam}
use Rattle.bridge_decl.specs.declared.methods.SelfParam.{SelfParam}
use Rattle.bridge_decl.specs.declared.types.Mutability.{Mutability}
use Rattle.bridge_decl.specs.declared.types.TypeName.{TypeName}
use Rattle.bridge_decl.specs.declared.types.WriteType.{WriteType}
use Rattle.bridge_order.specs.declared.catalog.Catalog.{Catalog}
use Rattle.hir_attrs.specs.Attrs.{empty_attrs}
use Rattle.hir_attrs.specs.Reading.{marks_of}
use Rattle.hir_attrs.specs.declared.attrs.Attrs.{Attrs}
use Rattle.hir_backends.specs.Backend.{Backend}
use Rattle.hir_definitions.specs.declared.methods.Method.{Method}
use Rattle.hir_form.specs.ParamForms.{ParamType, param_form, params_form}
use Rattle.hir_form.specs.ReceiverForms.{receiver_form}
use Rattle.hir_form.specs.ReturnForms.{both_given}
use Rattle.hir_form.specs.SignatureForms.{lowered_signature, output_form, own_form}
use Rattle.hir_heads.specs.Heads.{lifetime_errors}
use Rattle.hir_ids.specs.declared.ids.TypeId.{TypeId}
use Rattle.hir_life.specs.declared.maybe_static.MaybeStatic.{MaybeStatic}
use Rattle.hir_mentions.specs.Mentions.{where_any}
use Rattle.hir_methods.specs.Functions.{callable_form, disabled_form, function_form}
use Rattle.hir_methods.specs.Joining.{completed}
use Rattle.hir_methods.specs.Methods.{enabled_form, method_form}
use Rattle.hir_methods.specs.Types.{stage_form, typed_param, typed_receiver, whole_of}
use Rattle.hir_methods.specs.Untyped.{heading_form, receiver_marks, untyped_forms}
use Rattle.hir_methods.specs.Writers.{trailing_writer}
use Rattle.hir_methods.specs.declared.headings.Heading.{Heading}
use Rattle.hir_number.specs.Breaches.{Broken, function_breaches, method_breaches}
use Rattle.hir_number.specs.Naming.{Naming}
use Rattle.hir_number.specs.Numbers.{signature_numbers}
use Rattle.hir_number.specs.Numbered.{receiver_shape}
use Rattle.hir_number.specs.Shapes.{NumberLists, borrow_shape, shape}
use Rattle.hir_number.specs.Signatures.{Placed, function_uses, method_uses, receiver_borrow, without_writer}
use Rattle.hir_number.specs.declared.fault.NumberFault.{NumberFault}
use Rattle.hir_number.specs.declared.numbered.Target.{Target}
use Rattle.hir_number.specs.declared.signature.NumberedSignature.{NumberedSignature}
use Rattle.hir_reports.specs.declared.report.LoweringError.{LoweringError}
use Rattle.hir_signatures.specs.Stages.{types_form}
use Rattle.hir_signatures.specs.declared.signatures.SignatureTypes.{SignatureTypes}
use Rattle.hir_stages.specs.Filling.{fill_borrow, fill_own}
use Rattle.hir_stages.specs.Given.{breached_stage, named_stage, numbered_stage}
use Rattle.hir_stages.specs.Numbering.{filled_function, filled_method, filled_signature}
use Rattle.hir_types.specs.Named.{Returned, lifetimes_named}
use Rattle.hir_types.specs.declared.self_types.SelfType.{SelfType}
use Rattle.hir_readings.specs.Declared.{function_signature, method_signature, numbered_as}
use Rattle.hir_readings.specs.Inputs.{Input, input_known_as, lowered_input, lowered_inputs, numbered_input, numbered_inputs, own_input, lowered_receiver}
use Rattle.hir_readings.specs.Knowing.{id_there}
use Rattle.hir_readings.specs.NamedLifetimes.{returned_lifetimes}
use Rattle.hir_readings.proofs.JoinLemmas.{all_joined, known_made}
use Rattle.hir_readings.proofs.ReturnLemmas.{output_named}
use Rattle.hir_readings.proofs.TypeLemmas.{if_some, input_received, param_has}

-- it has the inputs and the lifetimes of the signature
pub record HasInputs (catalog : Catalog) (m : Method) (n : NumberedSignature) : Type 0 where
  pub lifetimes : m.lifetime_env ≡ n.lifetimes
  pub inputs : lowered_inputs m ≡ map (input_known_as (id_there catalog)) (numbered_inputs catalog n)
  pub named : lifetimes_named m.output ≡ returned_lifetimes catalog n.output

-- there is a signature, and it does
pub record HasDeclared (catalog : Catalog) (m : Method) (declared : Option NumberedSignature) : Type 0 where
  pub signature : NumberedSignature
  pub has : declared ≡ Some signature
  pub inputs : HasInputs catalog m signature

true_false : true ≡ false → ⊥
true_false is = cc

-- an enabled function has what is declared, and a disabled one takes nothing
pub record HasFunction (catalog : Catalog) (m : Method) (declared : Option NumberedSignature) : Type 0 where
  pub enabled : m.attrs.disable ≡ false → HasDeclared catalog m declared
  pub disabled : m.attrs.disable ≡ true → lowered_inputs m ≡ []

pub known_twice : {A B C : Type 0} (f : B → C) (g : A → B) (xs : List A) → map (λ x. f (g x)) xs ≡ map f (map g xs)
known_twice f g [] = refl
known_twice f g (x ∷ xs) = ap (λ ys. f (g x) ∷ ys) (known_twice f g xs)

-- ---- receivers

abbrev received : Option SelfType → List (Input TypeId)
received own = where_any (λ r. lowered_receiver r ∷ []) own

abbrev with_marks : Option SelfType → Option Attrs → List (Input TypeId)
with_marks own marks = where_any (λ receiver. lowered_receiver receiver.ty ∷ []) (both_given typed_receiver own marks)

module _ (catalog : Catalog) where
  abbrev known_input : Input ItemPlace → Input TypeId
  known_input = input_known_as (id_there catalog)

  abbrev own_known : Option (MaybeStatic ℕ × Mutability) → Option Target → List (Input TypeId)
  own_known borrow own = map known_input (where_any (λ target. own_input catalog borrow target ∷ []) own)

  one_received : (borrow : Option (MaybeStatic ℕ × Mutability)) (t : Target) (o : Option SelfType)
      → IfSome o (λ r. lowered_receiver r ≡ known_input (own_input catalog borrow t)) → IfSome (option_map (λ r. Some r) o) (λ own. received own ≡ own_known borrow (Some t))
  one_received borrow t None h = tt
  one_received borrow t (Some r) h = ap (λ input. input ∷ []) h

  own_has : (borrow : Option (MaybeStatic ℕ × Mutability)) (own : Option Target) → IfSome (own_form catalog borrow own) (λ made. received made ≡ own_known borrow own)
  own_has borrow None = refl
  own_has borrow (Some t) =
      one_received borrow t (receiver_form catalog borrow t)
      (input_received catalog borrow t)

  -- a receiver that is made has marks, since one is declared
  abbrev KeepsOwn : NumberedSignature → Option Attrs → Type 0
  KeepsOwn n marks = (made : Option SelfType) → own_form catalog n.borrow n.own ≡ Some made → with_marks made marks ≡ received made

  marked_own : (made : Option SelfType) (marks : Attrs) → with_marks made (Some marks) ≡ received made
  marked_own None marks = refl
  marked_own (Some r) marks = refl

  -- ---- parameters

  module _ (backend : Backend) (names : Naming) where
    abbrev params_joined : List DeclaredParam → List ParamType → List (Input TypeId)
    params_joined ps ts = map (λ param. lowered_input param.ty) (completed typed_param (untyped_forms backend ps) ts)

    abbrev KeepsParams : NumberedSignature → List DeclaredParam → Type 0
    KeepsParams n ps = (ts : List ParamType) → params_form catalog n.params ≡ Some ts → params_joined ps ts ≡ map known_input (map (numbered_input catalog) n.params)

    -- ---- the whole

    module _ (attrs : Attrs) (heading : Heading) (marks : Option Attrs) (ps : List DeclaredParam) (written : Option WriteType) where
      parts_made : (n : NumberedSignature) → KeepsOwn n marks → KeepsParams n ps
          → (own : Option (Option SelfType)) (params : Option (List ParamType)) (output : Option Returned) → own_form catalog n.borrow n.own ≡ own → params_form catalog n.params ≡ params
          → IfSome output (λ r. lifetimes_named r ≡ returned_lifetimes catalog n.output)
          → IfSome (option_map (whole_of attrs heading marks (untyped_forms backend ps)) (option_map (λ types. record { types = types; lifetimes = n.lifetimes })
          (both_given (λ make made. make made) (both_given (λ receiver types. lowered_signature receiver types) own params) output))) (λ m. HasInputs catalog m n)
      parts_made n keeps_own keeps_params (Some own) (Some params) (Some output) own_is params_are named =
          record {
            lifetimes = refl;
            inputs = ap (λ first. first ++ params_joined ps params) (keeps_own own own_is ∙ known_made (λ made. received made ≡ own_known n.borrow n.own) (own_form catalog n.borrow n.own) own own_is (own_has n.borrow n.own))
                ∙ ap (λ rest. own_known n.borrow n.own ++ rest) (keeps_params params params_are)
                ∙ sym (map-append known_input (where_any (λ target. own_input catalog n.borrow target ∷ []) n.own) (map (numbered_input catalog) n.params));
            named = named;
          }
      parts_made n keeps_own keeps_params (Some own) (Some params) None own_is params_are named = tt
      parts_made n keeps_own keeps_params (Some own) None output own_is params_are named = tt
      parts_made n keeps_own keeps_params None params output own_is params_are named = tt

      whole_made : (n : NumberedSignature) → KeepsOwn n marks → KeepsParams n ps → IfSome (option_map (whole_of attrs heading marks (untyped_forms backend ps)) (types_form catalog written n)) (λ m. HasInputs catalog m n)
      whole_made n keeps_own keeps_params =
          parts_made n keeps_own keeps_params (own_form catalog n.borrow n.own) (params_form catalog n.params) (output_form catalog written n.output) refl refl
          (output_named catalog written n.output)

      staged : (filled : NumberLists → NumberedSignature) → ((ns : NumberLists) → KeepsOwn (filled ns) marks) → ((ns : NumberLists) → KeepsParams (filled ns) ps)
          → (breaches : List Broken) (told : List LoweringError) (numbers : Result NumberLists NumberFault)
          → IfSome (option_map (whole_of attrs heading marks (untyped_forms backend ps)) (stage_form (types_form catalog written) (breached_stage (named_stage (numbered_stage filled numbers) told) breaches)))
          (λ m. HasDeclared catalog m (numbered_as filled numbers))
      staged filled keeps_own keeps_params (b ∷ bs) told numbers = tt
      staged filled keeps_own keeps_params [] (e ∷ es) numbers = tt
      staged filled keeps_own keeps_params [] [] (Err fault) = tt
      staged filled keeps_own keeps_params [] [] (Ok ns) =
          if_some (λ m. HasInputs catalog m (filled ns)) (λ m. HasDeclared catalog m (Some (filled ns))) (λ m has. record { signature = filled ns; has = refl; inputs = has })
          (option_map (whole_of attrs heading marks (untyped_forms backend ps)) (types_form catalog written (filled ns))) (whole_made (filled ns) (keeps_own ns) (keeps_params ns))

    -- ---- filled signatures

    module _ (declared : LifetimeEnv) (ps : List DeclaredParam) (returned : Option TypeName) (us : List Placed) where
      keeps_params : (receiver : Option SelfParam) (ns : NumberLists) → KeepsParams (filled_signature names declared receiver ps returned us ns) ps
      keeps_params receiver ns ts all =
          all_joined (λ param. shape names param.ty) (param_form catalog) lowered_input (λ ty. known_input (numbered_input catalog ty)) (param_has catalog) params_joined refl (λ p rest t more. refl) ps
          (fill_own (receiver_shape names receiver) (fill_borrow (borrow_shape (receiver_borrow receiver)) ns).1).1 ts all
          ∙ known_twice known_input (numbered_input catalog) (filled_signature names declared receiver ps returned us ns).params

      keeps_own : (receiver : Option SelfParam) (ns : NumberLists) → KeepsOwn (filled_signature names declared receiver ps returned us ns) (receiver_marks backend receiver)
      keeps_own None ns made is = subst (λ own. with_marks own None ≡ received own) (same_Some None made is) refl
      keeps_own (Some receiver) ns made is = marked_own made (marks_of backend receiver.attrs empty_attrs)

    -- ---- methods and functions

    unless : {A : Type 0} (P : A → Type 0) (b : Bool) (o : Option A) → IfSome o P → IfSome (if b then None else o) P
    unless P true o h = tt
    unless P false o h = h

    pub method_has : (place : ItemPlace) (parent : Attrs) (method : DeclaredMethod) → IfSome (method_form backend catalog names place parent method) (λ m. HasDeclared catalog m (method_signature names method))
    method_has place parent method =
        let marks = marks_of backend method.attrs parent in
        unless (λ m. HasDeclared catalog m (method_signature names method)) marks.disable (enabled_form backend catalog names place marks method)
        (staged marks (heading_form backend method.docs method.name method.abi_name) (receiver_marks backend method.self_param) (without_writer method.params) (trailing_writer method.params) (filled_method names method)
        (keeps_own method.lifetime_env (without_writer method.params) method.return_type (method_uses names method) method.self_param)
        (keeps_params method.lifetime_env (without_writer method.params) method.return_type (method_uses names method) method.self_param)
        (method_breaches names place method) (lifetime_errors method.lifetime_env) (signature_numbers method.lifetime_env (method_uses names method)))

    whole_marks : (attrs : Attrs) (heading : Heading) (marks : Option Attrs) (ps : List DeclaredParam) (o : Option SignatureTypes)
        → IfSome (option_map (whole_of attrs heading marks (untyped_forms backend ps)) o) (λ m. m.attrs.disable ≡ attrs.disable)
    whole_marks attrs heading marks ps None = tt
    whole_marks attrs heading marks ps (Some types) = refl

    unless_disabled : (attrs : Attrs) (heading : Heading) (declared : Option NumberedSignature) (b : Bool) → attrs.disable ≡ b
        → (o : Option Method) → IfSome o (λ m. m.attrs.disable ≡ attrs.disable) → IfSome o (λ m. HasDeclared catalog m declared)
        → IfSome (if b then Some (disabled_form attrs heading) else o) (λ m. HasFunction catalog m declared)
    unless_disabled attrs heading declared true is o marked has = record { enabled = λ not. absurd (true_false (sym is ∙ not)); disabled = λ so. refl }
    unless_disabled attrs heading declared false is None marked has = tt
    unless_disabled attrs heading declared false is (Some m) marked has =
        record { enabled = λ so. has; disabled = λ so. absurd (true_false (sym so ∙ marked ∙ is)) }

    pub function_has : (parent : Attrs) (function : Function) → IfSome (function_form backend catalog names parent function) (λ m. HasFunction catalog m (function_signature names function))
    function_has parent function =
        let marks = marks_of backend function.attrs parent in
        let heading = heading_form backend function.docs function.name function.abi_name in
        unless_disabled marks heading (function_signature names function) marks.disable refl (callable_form backend catalog names marks heading function)
        (whole_marks marks heading None (without_writer function.params) _)
        (staged marks heading None (without_writer function.params) (trailing_writer function.params) (filled_function names function)
        (keeps_own function.lifetimes (without_writer function.params) function.output_type (function_uses names function) None)
        (keeps_params function.lifetimes (without_writer function.params) function.output_type (function_uses names function) None)
        (function_breaches names function) (lifetime_errors function.lifetimes) (signature_numbers function.lifetimes (function_uses names function)))
