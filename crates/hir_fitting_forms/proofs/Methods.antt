-- A method that is made of types that fit does.
use Rattle.std.proofs.Common.{ℕ, List, [], ◌∷◌, ◌++◌, Bool, true, false, Option, Some, None}
use Rattle.std.specs.Prelude.{IfSome, option_map, if◌then◌else◌}
use Rattle.std.specs.List.{flat_map}
use Rattle.std.proofs.lemmas.List.Elements.{All-nil}
use Rattle.bridge_ast.specs.declared.place.ItemPlace.{ItemPlace}
use Rattle.bridge_decl.specs.declared.functions.Function.{Function}
use Rattle.bridge_decl.specs.declared.methods.Method.{Method as DeclaredMethod}
use Rattle.bridge_decl.specs.declared.types.WriteType.{WriteType}
use Rattle.bridge_order.specs.declared.catalog.Catalog.{Catalog}
use Rattle.hir_attrs.specs.Reading.{marks_of}
use Rattle.hir_attrs.specs.declared.attrs.Attrs.{Attrs}
use Rattle.hir_backends.specs.Backend.{Backend}
use Rattle.hir_definitions.specs.declared.methods.Method.{Method}
use Rattle.hir_definitions.specs.declared.methods.Param.{Param}
use Rattle.hir_definitions.specs.declared.methods.ParamSelf.{ParamSelf}
use Rattle.hir_elide.proofs.BelowLemmas.{Each, each_all}
use Rattle.hir_fitting.specs.Fitting.{Fits}
use Rattle.hir_fitting.specs.Parts.{PartFits, method_part}
use Rattle.hir_fitting.specs.declared.census.Census.{Census}
use Rattle.hir_form.specs.ParamForms.{ParamType}
use Rattle.hir_form.specs.ReturnForms.{both_given}
use Rattle.hir_form.specs.SignatureForms.{signature_form}
use Rattle.hir_form.specs.declared.signatures.LoweredSignature.{LoweredSignature}
use Rattle.hir_mentions.specs.Callbacks.{input_mentions, output_mentions}
use Rattle.hir_mentions.specs.Mentions.{Mentioned, where_any}
use Rattle.hir_mentions.specs.Types.{receiver_mentions, return_mentions}
use Rattle.hir_methods.specs.Functions.{callable_form, disabled_form, function_form}
use Rattle.hir_methods.specs.Joining.{completed}
use Rattle.hir_methods.specs.Methods.{enabled_form, method_form}
use Rattle.hir_methods.specs.Types.{stage_form, typed_param, typed_receiver, whole_of}
use Rattle.hir_methods.specs.Untyped.{heading_form, receiver_marks, untyped_forms}
use Rattle.hir_methods.specs.Writers.{trailing_writer}
use Rattle.hir_methods.specs.declared.headings.Heading.{Heading}
use Rattle.hir_methods.specs.declared.params.UntypedParam.{UntypedParam}
use Rattle.hir_number.proofs.FaultLemmas.{each_both}
use Rattle.hir_number.specs.Naming.{Naming}
use Rattle.hir_number.specs.Signatures.{without_writer}
use Rattle.hir_number.specs.declared.signature.NumberedSignature.{NumberedSignature}
use Rattle.hir_signatures.specs.Stages.{Stage, Breached, Misnamed, Unnumbered, Judged, types_form}
use Rattle.hir_stages.specs.Given.{function_stage, method_stage}
use Rattle.hir_types.specs.declared.self_types.SelfType.{SelfType}
use Rattle.hir_fitting_forms.specs.Lowered.{signature_mentions}
use Rattle.hir_fitting_forms.specs.Names.{names_in_signature}
use Rattle.hir_fitting_forms.specs.NumberedFits.{NameFits, SignatureFits, StageFits}
use Rattle.hir_fitting_forms.proofs.Formed.{Fitting}
use Rattle.hir_fitting_forms.proofs.Lists.{each_back, each_from_all, each_front}
use Rattle.hir_fitting_forms.proofs.Positions.{in_receiver, signature_made}

abbrev in_marked_receiver : Option ParamSelf → List Mentioned
in_marked_receiver r = where_any (λ (s : ParamSelf). receiver_mentions s.ty) r

abbrev in_params : List Param → List Mentioned
in_params ps = flat_map (λ (p : Param). input_mentions p.ty) ps

module _ (census : Census) (count : ℕ) where
  receiver_joined : (r : Option SelfType) (marks : Option Attrs) → Each (Fitting census count) (in_receiver r) → Each (Fitting census count) (in_marked_receiver (both_given typed_receiver r marks))
  receiver_joined (Some r) (Some marks) h = h
  receiver_joined (Some r) None h = tt
  receiver_joined None marks h = tt

  params_joined : (params : List UntypedParam) (types : List ParamType) → Each (Fitting census count) (flat_map input_mentions types) → Each (Fitting census count) (in_params (completed typed_param params types))
  params_joined [] types h = tt
  params_joined (p ∷ params) [] h = tt
  params_joined (p ∷ params) (t ∷ types) h =
      each_both (Fitting census count) (input_mentions t) (in_params (completed typed_param params types)) (each_front (Fitting census count) (input_mentions t) (flat_map input_mentions types) h)
      (params_joined params types (each_back (Fitting census count) (input_mentions t) (flat_map input_mentions types) h))

  joined : (receiver : Option Attrs) (params : List UntypedParam) (s : LoweredSignature) → Each (Fitting census count) (signature_mentions s)
      → Each (Fitting census count) ((in_marked_receiver (both_given typed_receiver s.param_self receiver) ++ in_params (completed typed_param params s.params)) ++ return_mentions output_mentions s.output)
  joined receiver params s h =
      let fits = Fitting census count in
      let inputs = each_front fits (in_receiver s.param_self ++ flat_map input_mentions s.params) (return_mentions output_mentions s.output) h in
      each_both fits (in_marked_receiver (both_given typed_receiver s.param_self receiver) ++ in_params (completed typed_param params s.params)) (return_mentions output_mentions s.output)
      (each_both fits (in_marked_receiver (both_given typed_receiver s.param_self receiver)) (in_params (completed typed_param params s.params))
      (receiver_joined s.param_self receiver (each_front fits (in_receiver s.param_self) (flat_map input_mentions s.params) inputs))
      (params_joined params s.params (each_back fits (in_receiver s.param_self) (flat_map input_mentions s.params) inputs)))
      (each_back fits (in_receiver s.param_self ++ flat_map input_mentions s.params) (return_mentions output_mentions s.output) h)

module _ (census : Census) (catalog : Catalog) where
  abbrev MethodPartFits : Method → Type 0
  MethodPartFits m = PartFits census (method_part m)

  -- what is made of a signature, with its lifetimes
  types_made : (attrs : Attrs) (heading : Heading) (receiver : Option Attrs) (params : List UntypedParam) (n : NumberedSignature) (form : Option LoweredSignature)
      → IfSome form (λ s. Each (Fitting census n.lifetimes.count) (signature_mentions s))
      → IfSome (option_map (whole_of attrs heading receiver params) (option_map (λ types. record { types = types; lifetimes = n.lifetimes }) form)) MethodPartFits
  types_made attrs heading receiver params n (Some s) h = each_all (Fits census (Some n.lifetimes.count)) _ (joined census n.lifetimes.count receiver params s h)
  types_made attrs heading receiver params n None h = tt

  pub whole_fits : (written : Option WriteType) (n : NumberedSignature) (attrs : Attrs) (heading : Heading) (receiver : Option Attrs) (params : List UntypedParam) → SignatureFits census catalog n
      → IfSome (option_map (whole_of attrs heading receiver params) (types_form catalog written n)) MethodPartFits
  whole_fits written n attrs heading receiver params all =
      types_made attrs heading receiver params n (signature_form catalog written n)
      (signature_made census n.lifetimes.count catalog written n (each_from_all (NameFits census catalog n.lifetimes.count) (names_in_signature n) all))

  staged_fits : (written : Option WriteType) (attrs : Attrs) (heading : Heading) (receiver : Option Attrs) (params : List UntypedParam) (stage : Stage) → StageFits census catalog stage
      → IfSome (option_map (whole_of attrs heading receiver params) (stage_form (types_form catalog written) stage)) MethodPartFits
  staged_fits written attrs heading receiver params (Judged n) all = whole_fits written n attrs heading receiver params all
  staged_fits written attrs heading receiver params Breached all = tt
  staged_fits written attrs heading receiver params Misnamed all = tt
  staged_fits written attrs heading receiver params (Unnumbered fault) all = tt

  unless : (b : Bool) (x y : Option Method) → IfSome x MethodPartFits → IfSome y MethodPartFits → IfSome (if b then x else y) MethodPartFits
  unless true x y h k = h
  unless false x y h k = k

  pub method_form_fits : (backend : Backend) (names : Naming) (owner : ItemPlace) (parent : Attrs) (method : DeclaredMethod) → StageFits census catalog (method_stage names owner method)
      → IfSome (method_form backend catalog names owner parent method) MethodPartFits
  method_form_fits backend names owner parent method all =
      let marks = marks_of backend method.attrs parent in
      unless marks.disable None (enabled_form backend catalog names owner marks method) tt
      (staged_fits (trailing_writer method.params) marks (heading_form backend method.docs method.name method.abi_name) (receiver_marks backend method.self_param)
      (untyped_forms backend (without_writer method.params)) (method_stage names owner method) all)

  disabled_fits : (attrs : Attrs) (heading : Heading) → MethodPartFits (disabled_form attrs heading)
  disabled_fits attrs heading = All-nil (Fits census (Some 0))

  pub function_form_fits : (backend : Backend) (names : Naming) (parent : Attrs) (function : Function) → StageFits census catalog (function_stage names function)
      → IfSome (function_form backend catalog names parent function) MethodPartFits
  function_form_fits backend names parent function all =
      let marks = marks_of backend function.attrs parent in
      let heading = heading_form backend function.docs function.name function.abi_name in
      unless marks.disable (Some (disabled_form marks heading)) (callable_form backend catalog names marks heading function) (disabled_fits marks heading)
      (staged_fits (trailing_writer function.params) marks heading None (untyped_forms backend (without_writer function.params)) (function_stage names function) all)
