-- What methods and functions are lowered to has the declared names.
use Rattle.std.proofs.Common.{◌≡◌, ℕ, List, [], ◌∷◌, map, Bool, true, false, Option, Some, None, Result, Ok, Err, if◌then◌else◌, refl, sym, ap, ◌∙◌}
use Rattle.std.specs.Prelude.{⊤, IfSome, is_some, option_map}
use Rattle.std.specs.List.{AllZip}
use Rattle.bridge_ast.specs.declared.place.ItemPlace.{ItemPlace}
use Rattle.bridge_decl.specs.declared.functions.Function.{Function}
use Rattle.bridge_decl.specs.declared.lifetimes.LifetimeEnv.{LifetimeEnv}
use Rattle.bridge_decl.specs.declared.methods.Method.{Method as DeclaredMethod}
use Rattle.bridge_decl.specs.declared.methods.Param.{Param as DeclaredParam}
use Rattle.bridge_decl.specs.declared.methods.SelfParam.{SelfParam}
use Rattle.bridge_decl.specs.declared.types.Mutability.{Mutability}
use Rattle.bridge_decl.specs.declared.types.TypeName.{TypeName}
use Rattle.bridge_decl.specs.declared.types.WriteType.{WriteType}
use Rattle.bridge_order.specs.declared.catalog.Catalog.{Catalog}
use Rattle.hir_attrs.specs.Reading.{marks_of}
use Rattle.hir_attrs.specs.declared.attrs.Attrs.{Attrs}
use Rattle.hir_backends.specs.Backend.{Backend}
use Rattle.hir_definitions.specs.declared.methods.Method.{Method}
use Rattle.hir_form.specs.ParamForms.{ParamType, param_form, params_form}
use Rattle.hir_form.specs.ReceiverForms.{receiver_form}
use Rattle.hir_form.specs.ReturnForms.{both_given}
use Rattle.hir_form.specs.SignatureForms.{lowered_signature, output_form, own_form}
use Rattle.hir_heads.specs.Heads.{lifetime_errors}
use Rattle.hir_life.specs.Environment.{Environment}
use Rattle.hir_life.specs.declared.maybe_static.MaybeStatic.{MaybeStatic}
use Rattle.hir_methods.specs.Functions.{callable_form, disabled_form, function_form}
use Rattle.hir_methods.specs.Joining.{completed}
use Rattle.hir_methods.specs.Methods.{enabled_form, method_form}
use Rattle.hir_methods.specs.Types.{stage_form, typed_param, typed_receiver, whole_of}
use Rattle.hir_methods.specs.Untyped.{heading_form, receiver_marks, untyped_forms}
use Rattle.hir_methods.specs.Writers.{trailing_writer}
use Rattle.hir_methods.specs.declared.headings.Heading.{Heading}
use Rattle.hir_number.specs.Breaches.{Broken, function_breaches, method_breaches}
use Rattle.hir_number.specs.Naming.{Naming}
use Rattle.hir_number.specs.Numbers.{signature_numbers}
use Rattle.hir_number.specs.Numbered.{receiver_shape}
use Rattle.hir_number.specs.Shapes.{NumberLists, borrow_shape, shape}
use Rattle.hir_number.specs.Signatures.{Placed, function_uses, method_uses, receiver_borrow, without_writer}
use Rattle.hir_number.specs.declared.fault.NumberFault.{NumberFault}
use Rattle.hir_number.specs.declared.numbered.NumberedType.{NumberedType}
use Rattle.hir_number.specs.declared.numbered.Target.{Target}
use Rattle.hir_reports.specs.declared.report.LoweringError.{LoweringError}
use Rattle.hir_signatures.specs.Stages.{types_form}
use Rattle.hir_signatures.specs.declared.signatures.SignatureTypes.{SignatureTypes}
use Rattle.hir_stages.specs.Filling.{fill_borrow, fill_each, fill_own, fill_target, fill_type}
use Rattle.hir_stages.specs.Given.{breached_stage, named_stage, numbered_stage}
use Rattle.hir_stages.specs.Numbering.{filled_signature}
use Rattle.hir_types.specs.Named.{Returned}
use Rattle.hir_types.specs.declared.self_types.SelfType.{SelfType}
use Rattle.hir_readings.proofs.JoinLemmas.{all_zipped}
use Rattle.hir_readings.proofs.TypeLemmas.{if_mapped, if_some}
use Rattle.bridge_callables.proofs.BreachLemmas.{receiver_there}

-- it has this name, a receiver where there is one, and parameters of these names
pub record IsNamed (m : Method) (name : List ℕ) (receiver : Option SelfParam) (params : List DeclaredParam) : Type 0 where
  pub name_is : m.name.0 ≡ name
  pub receiver_is : is_some m.param_self ≡ is_some receiver
  pub params_are : map (λ param. param.name) m.params ≡ map (λ param. param.name) params

abbrev pub IsNamedMethod : Method → DeclaredMethod → Type 0
IsNamedMethod m method = IsNamed m method.name method.self_param (without_writer method.params)

abbrev pub IsNamedFunction : Method → Function → Type 0
IsNamedFunction m function = IsNamed m function.name None (without_writer function.params)

-- these marks disable it or not, and unless they do it has the declared names
pub record IsMarkedFunction (m : Method) (marks : Attrs) (function : Function) : Type 0 where
  pub disabled_so : m.attrs.disable ≡ marks.disable
  pub named : marks.disable ≡ false → IsNamedFunction m function

true_false : true ≡ false → ⊥
true_false is = cc

pub any_at_all : {T : Type 0} (o : Option T) → IfSome o (λ t. ⊤)
any_at_all None = tt
any_at_all (Some t) = tt

module _ (catalog : Catalog) (backend : Backend) (names : Naming) where
  -- ---- parameters

  abbrev filled_params : List DeclaredParam → NumberLists → List NumberedType
  filled_params ps ns = (fill_each (map fill_type (map (λ param. shape names param.ty) ps)) ns).0

  abbrev NamesParams : List DeclaredParam → List ParamType → Type 0
  NamesParams ps ts = map (λ param. param.name) (completed typed_param (untyped_forms backend ps) ts) ≡ map (λ param. param.name) ps

  joined_names : (ps : List DeclaredParam) (ns : NumberLists) (ts : List ParamType) → AllZip (λ t ty. ⊤) ts (filled_params ps ns) → NamesParams ps ts
  joined_names [] ns ts all = refl
  joined_names (p ∷ ps) ns [] all = absurd all
  joined_names (p ∷ ps) ns (t ∷ ts) all = ap (λ rest. p.name ∷ rest) (joined_names ps (fill_type (shape names p.ty) ns).1 ts all.1)

  params_named : (ps : List DeclaredParam) (ns : NumberLists) → IfSome (params_form catalog (filled_params ps ns)) (NamesParams ps)
  params_named ps ns =
      if_some (λ ts. AllZip (λ t ty. ⊤) ts (filled_params ps ns)) (NamesParams ps) (joined_names ps ns) (params_form catalog (filled_params ps ns))
      (all_zipped (param_form catalog) (λ t ty. ⊤) (λ ty. any_at_all (param_form catalog ty)) (filled_params ps ns))

  -- ---- receivers

  -- there is one with its marks where one is declared
  abbrev OwnThere : Option SelfParam → Option SelfType → Type 0
  OwnThere receiver made = is_some (both_given typed_receiver made (receiver_marks backend receiver)) ≡ is_some receiver

  own_there : (borrow : Option (MaybeStatic ℕ × Mutability)) (receiver : Option SelfParam) (o : Option Target) (ns : NumberLists) → is_some o ≡ is_some receiver
      → IfSome (own_form catalog borrow (fill_own o ns).0) (OwnThere receiver)
  own_there borrow None None ns same = refl
  own_there borrow None (Some t) ns same = absurd (true_false same)
  own_there borrow (Some receiver) None ns same = same
  own_there borrow (Some receiver) (Some t) ns same = if_mapped (OwnThere (Some receiver)) (λ r. Some r) (λ r. refl) (receiver_form catalog borrow (fill_target t ns).0)

  -- ---- the whole

  module _ (attrs : Attrs) (heading : Heading) (receiver : Option SelfParam) (ps : List DeclaredParam) (written : Option WriteType) where
    abbrev whole : SignatureTypes → Method
    whole types = whole_of attrs heading (receiver_marks backend receiver) (untyped_forms backend ps) types

    parts_named : (lifetimes : Environment) (own : Option (Option SelfType)) (params : Option (List ParamType)) (output : Option Returned)
        → IfSome own (OwnThere receiver) → IfSome params (NamesParams ps)
        → IfSome (option_map whole (option_map (λ types. record { types = types; lifetimes = lifetimes })
        (both_given (λ make made. make made) (both_given (λ r types. lowered_signature r types) own params) output))) (λ m. IsNamed m heading.name receiver ps)
    parts_named lifetimes (Some own) (Some ts) (Some output) own_is params_are = record { name_is = refl; receiver_is = own_is; params_are = params_are }
    parts_named lifetimes (Some own) (Some ts) None own_is params_are = tt
    parts_named lifetimes (Some own) None output own_is params_are = tt
    parts_named lifetimes None params output own_is params_are = tt

    staged : (declared : LifetimeEnv) (returned : Option TypeName) (us : List Placed) (breaches : List Broken) → (breaches ≡ [] → is_some (receiver_shape names receiver) ≡ is_some receiver)
        → (told : List LoweringError) (numbers : Result NumberLists NumberFault)
        → IfSome (option_map whole (stage_form (types_form catalog written)
        (breached_stage (named_stage (numbered_stage (filled_signature names declared receiver ps returned us) numbers) told) breaches))) (λ m. IsNamed m heading.name receiver ps)
    staged declared returned us (b ∷ bs) there told numbers = tt
    staged declared returned us [] there (e ∷ es) numbers = tt
    staged declared returned us [] there [] (Err fault) = tt
    staged declared returned us [] there [] (Ok ns) =
        let n = filled_signature names declared receiver ps returned us ns in
        let borrowed = fill_borrow (borrow_shape (receiver_borrow receiver)) ns in
        parts_named n.lifetimes (own_form catalog n.borrow n.own) (params_form catalog n.params) (output_form catalog written n.output)
        (own_there borrowed.0 receiver (receiver_shape names receiver) borrowed.1 (there refl))
        (params_named ps (fill_own (receiver_shape names receiver) borrowed.1).1)

  -- ---- methods and functions

  unless : {A : Type 0} (P : A → Type 0) (b : Bool) (o : Option A) → IfSome o P → IfSome (if b then None else o) P
  unless P true o h = tt
  unless P false o h = h

  pub method_named : (place : ItemPlace) (parent : Attrs) (method : DeclaredMethod) → IfSome (method_form backend catalog names place parent method) (λ m. IsNamedMethod m method)
  method_named place parent method =
      let marks = marks_of backend method.attrs parent in
      unless (λ m. IsNamedMethod m method) marks.disable (enabled_form backend catalog names place marks method)
      (staged marks (heading_form backend method.docs method.name method.abi_name) method.self_param (without_writer method.params) (trailing_writer method.params)
      method.lifetime_env method.return_type (method_uses names method) (method_breaches names place method) (receiver_there names place method)
      (lifetime_errors method.lifetime_env) (signature_numbers method.lifetime_env (method_uses names method)))

  whole_marks : (attrs : Attrs) (heading : Heading) (ps : List DeclaredParam) (o : Option SignatureTypes) → IfSome (option_map (whole attrs heading None ps None) o) (λ m. m.attrs.disable ≡ attrs.disable)
  whole_marks attrs heading ps None = tt
  whole_marks attrs heading ps (Some types) = refl

  unless_disabled : (marks : Attrs) (heading : Heading) (function : Function) (b : Bool) → marks.disable ≡ b → (o : Option Method) → IfSome o (λ m. m.attrs.disable ≡ marks.disable) → IfSome o (λ m. IsNamedFunction m function)
      → IfSome (if b then Some (disabled_form marks heading) else o) (λ m. IsMarkedFunction m marks function)
  unless_disabled marks heading function true is o marked named = record { disabled_so = refl; named = λ so. absurd (true_false (sym is ∙ so)) }
  unless_disabled marks heading function false is None marked named = tt
  unless_disabled marks heading function false is (Some m) marked named = record { disabled_so = marked; named = λ so. named }

  pub function_named : (parent : Attrs) (function : Function) → IfSome (function_form backend catalog names parent function) (λ m. IsMarkedFunction m (marks_of backend function.attrs parent) function)
  function_named parent function =
      let marks = marks_of backend function.attrs parent in
      let heading = heading_form backend function.docs function.name function.abi_name in
      unless_disabled marks heading function marks.disable refl (callable_form backend catalog names marks heading function)
      (whole_marks marks heading (without_writer function.params) _)
      (staged marks heading None (without_writer function.params) (trailing_writer function.params)
      function.lifetimes function.output_type (function_uses names function) (function_breaches names function) (λ is. refl)
      (lifetime_errors function.lifetimes) (signature_numbers function.lifetimes (function_uses names function)))
