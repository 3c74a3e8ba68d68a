-- What is told of methods, functions and traits' methods is what the rules on them say.
use Rattle.std.proofs.Common.{◌≡◌, ◌⊎◌, List, [], ◌∷◌, ◌++◌, map, Option, Some, None, refl, subst, sym}
use Rattle.std.specs.Prelude.{⊤}
use Rattle.std.specs.List.{Contains}
use Rattle.bridge_ast.specs.declared.place.ItemPlace.{ItemPlace}
use Rattle.bridge_decl.specs.declared.functions.Function.{Function}
use Rattle.bridge_decl.specs.declared.methods.Method.{Method}
use Rattle.bridge_decl.specs.declared.traits.TraitMethod.{TraitMethod}
use Rattle.bridge_grid.proofs.CellLemmas.{tells_denied}
use Rattle.bridge_grid.specs.ItemBreaks.{FreeFunctionBreaks}
use Rattle.bridge_grid.specs.Items.{free_function_faults}
use Rattle.bridge_grid.specs.Telling.{fault_error}
use Rattle.bridge_order.specs.Catalog.{entry_at}
use Rattle.bridge_telling.specs.Telling.{TellsExactly}
use Rattle.bridge_telling.specs.inside.Given.{TellsGiven}
use Rattle.bridge_telling.proofs.ExactLemmas.{exactly_both, in_none}
use Rattle.bridge_telling.proofs.GivenLemmas.{given_after, given_both, given_exactly, given_more, given_unless}
use Rattle.hir_attrs.specs.Reading.{marks_errors, marks_of}
use Rattle.hir_attrs.specs.declared.attrs.Attrs.{Attrs}
use Rattle.hir_backends.specs.declared.support.flag.SupportFlag.TheVariants as flag
use Rattle.hir_definitions.specs.declared.methods.Method.{Method as LoweredMethod}
use Rattle.hir_docs.specs.Docs.{docs_errors}
use Rattle.hir_heads.specs.Heads.{lifetime_errors}
use Rattle.hir_heads.specs.Names.{name_errors}
use Rattle.hir_ids.specs.declared.ids.TypeId.{TypeId}
use Rattle.hir_items.specs.Setting.{Setting}
use Rattle.hir_mark_contexts.specs.Told.{tested_errors}
use Rattle.hir_mark_contexts.specs.declared.contexts.MarkContext.TheVariants as marked
use Rattle.hir_mark_rules.proofs.DocsLemmas.{docs_exactly}
use Rattle.hir_mark_rules.proofs.ContextLemmas.{tested_exactly}
use Rattle.hir_mark_rules.proofs.MarksLemmas.{marks_exactly}
use Rattle.hir_mark_rules.specs.ContextBreaks.{TestedMarksBreak}
use Rattle.hir_mark_rules.specs.MarkBreaks.{DocsBreak, MarksBreak}
use Rattle.hir_methods.specs.Functions.{callable_errors, function_errors}
use Rattle.hir_methods.specs.Methods.{enabled_errors, made_errors, method_errors, method_form, owner_id, plain_method_errors}
use Rattle.hir_methods.specs.Required.{method_param_errors}
use Rattle.hir_methods.specs.Types.{function_type_errors, method_type_errors, unless_told}
use Rattle.hir_methods.specs.Untyped.{each_untyped_errors, heading_errors, receiver_mark_errors, unless_disabled}
use Rattle.hir_number.specs.Signatures.{without_writer}
use Rattle.hir_reports.specs.declared.report.LoweringError.{LoweringError}
use Rattle.hir_traits.specs.TraitMethods.{enabled_trait_method_errors, param_name_errors, trait_method_errors, trait_method_head_errors}
use Rattle.hir_traits.specs.TraitTypes.{trait_method_type_errors}
use Rattle.hir_special_rules.specs.SpecialBreaks.{SpecialBreaks}
use Rattle.hir_special_rules.proofs.SpecialLemmas.{special_exactly}
use Rattle.hir_rules.specs.Callables.{EnabledFunctionBreaks, EnabledMethodBreaks, EnabledTraitMethodBreaks, FunctionBreaks, MethodBreaks, PlainMethodBreaks, SpecialMethodBreaks, TraitMethodBreaks}
use Rattle.hir_rules.specs.Heads.{HeadingBreaks, IsEnabled, ParamHeadsBreak, ParamNamesBreak, ReceiverMarksBreak}
use Rattle.hir_rules.specs.Types.{AsFaultErrors, FunctionTypesBreak, MethodTypesBreak, TraitMethodTypesBreak}
use Rattle.hir_rules.specs.rules.BadIdent.{BadIdent, BadLifetimeIdent}
use Rattle.hir_rules.specs.rules.RequiredAfterDefault.{RequiredAfterDefault}
use Rattle.hir_rules.proofs.AppendLemmas.{first_none, in_four, in_three, second_none}
use Rattle.hir_rules.proofs.HeadLemmas.{heading_exactly, lifetimes_exactly, name_exactly, param_names_exactly, params_exactly, receiver_exactly}
use Rattle.hir_rules.proofs.RequiredLemmas.{method_params_exactly}
use Rattle.hir_rules.proofs.TypeLemmas.{as_faults, function_types_told, method_types_told, trait_types_told}

module _ (s : Setting) where
  -- ---- methods

  enabled_told : (owner : ItemPlace) (method : Method) → TellsGiven ⊤ (enabled_errors s.backend s.support s.config s.catalog s.names owner method) (EnabledMethodBreaks s owner method)
  enabled_told owner method =
      let heading = heading_errors s.backend method.docs method.name method.abi_name method.lifetime_env in
      let receiver = receiver_mark_errors s.backend method.self_param in
      let params = method_param_errors s.backend (without_writer method.params) in
      let types = method_type_errors s.support s.config s.catalog s.names owner method in
      let Heading : LoweringError → Type 0 = HeadingBreaks s.backend method.docs method.name method.abi_name method.lifetime_env in
      let Receiver : LoweringError → Type 0 = ReceiverMarksBreak s.backend method.self_param in
      let Params : LoweringError → Type 0 = λ e. ParamHeadsBreak s.backend (without_writer method.params) e ⊎ RequiredAfterDefault s.backend (without_writer method.params) e in
      let Types : LoweringError → Type 0 = MethodTypesBreak s.support s.config s.catalog s.names owner method in
      let Given : Type 0 = ⊤ × (heading ≡ []) in
      in_four (λ told. TellsGiven ⊤ told (EnabledMethodBreaks s owner method)) heading receiver params types
      (given_after ⊤ heading (receiver ++ (params ++ types)) Heading (λ e. Receiver e ⊎ (Params e ⊎ Types e))
      (given_exactly ⊤ heading Heading (heading_exactly s.backend method.docs method.name method.abi_name method.lifetime_env))
      (given_both Given receiver (params ++ types) Receiver (λ e. Params e ⊎ Types e) (given_exactly Given receiver Receiver (receiver_exactly s.backend method.self_param))
      (given_both Given params types Params Types (given_exactly Given params Params (method_params_exactly s.backend (without_writer method.params)))
      (given_more (lifetime_errors method.lifetime_env ≡ []) Given types Types
      (λ g. second_none ((docs_errors s.backend method.docs ++ name_errors method.name) ++ name_errors method.abi_name) (lifetime_errors method.lifetime_env) g.1)
      (method_types_told s.support s.config s.catalog s.names owner method)))))

  plain_told : (owner : ItemPlace) (start : Attrs) (method : Method)
      → TellsGiven ⊤ (plain_method_errors s.backend s.support s.config s.catalog s.names owner start method) (PlainMethodBreaks s owner start method)
  plain_told owner start method =
      let marks = marks_of s.backend method.attrs start in
      let enabled = enabled_errors s.backend s.support s.config s.catalog s.names owner method in
      given_both ⊤ (tested_errors s.backend marked.Method method.attrs start) (unless_disabled marks enabled) (TestedMarksBreak s.backend marked.Method method.attrs start) (λ e. IsEnabled marks × EnabledMethodBreaks s owner method e)
      (given_exactly ⊤ (tested_errors s.backend marked.Method method.attrs start) (TestedMarksBreak s.backend marked.Method method.attrs start) (tested_exactly s.backend marked.Method method.attrs start))
      (given_unless ⊤ marks.disable enabled (EnabledMethodBreaks s owner method) (enabled_told owner method))

  -- what is told of one that was made, given that nothing else is
  abbrev Special : TypeId → Option LoweredMethod → LoweringError → Type 0
  Special id form e = (made : LoweredMethod) × ((form ≡ Some made) × SpecialBreaks s.support id made e)

  special_each : (id : TypeId) (told : List LoweringError) (form : Option LoweredMethod) (e : LoweringError) → Contains (made_errors s.support id (unless_told told form)) e → Special id form e
  special_each id [] None e h = absurd (in_none e h)
  special_each id [] (Some made) e h = (made, (refl, (special_exactly s.support id made e).0 h))
  special_each id (x ∷ xs) form e h = absurd (in_none e h)

  special_some : (id : TypeId) (told : List LoweringError) (form : Option LoweredMethod) → told ≡ [] → (e : LoweringError) → Special id form e
      → (one : LoweringError) × Contains (made_errors s.support id (unless_told told form)) one
  special_some id told form none e h = (
    e,
    subst (λ es. Contains (made_errors s.support id (unless_told es form)) e) (sym none)
        (subst (λ f. Contains (made_errors s.support id f) e) (sym h.1.0) ((special_exactly s.support id h.0 e).1 h.1.1)),
  )

  pub method_told : (owner : ItemPlace) (start : Attrs) (method : Method) → TellsGiven ⊤ (method_errors s.backend s.support s.config s.catalog s.names owner start method) (MethodBreaks s owner start method)
  unfolding method_errors
  method_told owner start method =
      let plain = plain_method_errors s.backend s.support s.config s.catalog s.names owner start method in
      let form = method_form s.backend s.catalog s.names owner start method in
      let id = owner_id (entry_at s.catalog owner) in
      given_after ⊤ plain (made_errors s.support id (unless_told plain form)) (PlainMethodBreaks s owner start method) (SpecialMethodBreaks s owner start method) (plain_told owner start method)
      (record { each = λ e h. special_each id plain form e h; some = λ g e h. special_some id plain form g.1 e h })

  -- ---- functions

  callable_told : (function : Function) → TellsGiven (lifetime_errors function.lifetimes ≡ []) (callable_errors s.backend s.support s.config s.catalog s.names function) (EnabledFunctionBreaks s function)
  callable_told function =
      let Given : Type 0 = lifetime_errors function.lifetimes ≡ [] in
      let free = map fault_error (free_function_faults s.support) in
      let params = each_untyped_errors s.backend (without_writer function.params) in
      let types = function_type_errors s.support s.config s.catalog s.names function in
      let Free : LoweringError → Type 0 = AsFaultErrors (FreeFunctionBreaks s.support) in
      let Params : LoweringError → Type 0 = ParamHeadsBreak s.backend (without_writer function.params) in
      let Types : LoweringError → Type 0 = FunctionTypesBreak s.support s.config s.catalog s.names function in
      in_three (λ told. TellsGiven Given told (EnabledFunctionBreaks s function)) free params types
      (given_both Given free (params ++ types) Free (λ e. Params e ⊎ Types e)
      (given_more ⊤ Given free Free (λ _. tt) (as_faults (free_function_faults s.support) (FreeFunctionBreaks s.support) (tells_denied s.support flag.FreeFunctions)))
      (given_both Given params types Params Types (given_exactly Given params Params (params_exactly s.backend (without_writer function.params)))
      (function_types_told s.support s.config s.catalog s.names function)))

  pub function_told : (start : Attrs) (function : Function) → TellsGiven ⊤ (function_errors s.backend s.support s.config s.catalog s.names start function) (FunctionBreaks s start function)
  function_told start function =
      let marks = marks_of s.backend function.attrs start in
      let heading = heading_errors s.backend function.docs function.name function.abi_name function.lifetimes in
      let callable = callable_errors s.backend s.support s.config s.catalog s.names function in
      let Marks : LoweringError → Type 0 = TestedMarksBreak s.backend marked.Function function.attrs start in
      let Heading : LoweringError → Type 0 = HeadingBreaks s.backend function.docs function.name function.abi_name function.lifetimes in
      let Given : Type 0 = ⊤ × (heading ≡ []) in
      in_three (λ told. TellsGiven ⊤ told (FunctionBreaks s start function)) (tested_errors s.backend marked.Function function.attrs start) heading (unless_disabled marks callable)
      (given_both ⊤ (tested_errors s.backend marked.Function function.attrs start) (heading ++ unless_disabled marks callable) Marks (λ e. Heading e ⊎ (IsEnabled marks × EnabledFunctionBreaks s function e))
      (given_exactly ⊤ (tested_errors s.backend marked.Function function.attrs start) Marks (tested_exactly s.backend marked.Function function.attrs start))
      (given_after ⊤ heading (unless_disabled marks callable) Heading (λ e. IsEnabled marks × EnabledFunctionBreaks s function e)
      (given_exactly ⊤ heading Heading (heading_exactly s.backend function.docs function.name function.abi_name function.lifetimes))
      (given_unless Given marks.disable callable (EnabledFunctionBreaks s function)
      (given_more (lifetime_errors function.lifetimes ≡ []) Given callable (EnabledFunctionBreaks s function)
      (λ g. second_none ((docs_errors s.backend function.docs ++ name_errors function.name) ++ name_errors function.abi_name) (lifetime_errors function.lifetimes) g.1)
      (callable_told function)))))

  -- ---- methods of traits

  trait_enabled_told : (owner : ItemPlace) (method : TraitMethod)
      → TellsGiven ⊤ (enabled_trait_method_errors s.backend s.support s.config s.catalog s.names owner method) (EnabledTraitMethodBreaks s owner method)
  trait_enabled_told owner method =
      let head = trait_method_head_errors s.backend method in
      let types = trait_method_type_errors s.support s.config s.catalog s.names owner method in
      let names = lifetime_errors method.lifetimes ++ param_name_errors method.params in
      let Names : LoweringError → Type 0 = λ e. BadLifetimeIdent method.lifetimes e ⊎ ParamNamesBreak method.params e in
      let Head : LoweringError → Type 0 = λ e. DocsBreak s.backend method.docs e ⊎ (BadIdent method.name e ⊎ Names e) in
      let Types : LoweringError → Type 0 = TraitMethodTypesBreak s.support s.config s.catalog s.names owner method in
      let Given : Type 0 = ⊤ × (head ≡ []) in
      given_after ⊤ head types Head Types
      (given_exactly ⊤ head Head (in_four (λ told. TellsExactly told Head) (docs_errors s.backend method.docs) (name_errors method.name) (lifetime_errors method.lifetimes) (param_name_errors method.params)
      (exactly_both (docs_errors s.backend method.docs) (name_errors method.name ++ names) (DocsBreak s.backend method.docs) (λ e. BadIdent method.name e ⊎ Names e) (docs_exactly s.backend method.docs)
      (exactly_both (name_errors method.name) names (BadIdent method.name) Names (name_exactly method.name)
      (exactly_both (lifetime_errors method.lifetimes) (param_name_errors method.params) (BadLifetimeIdent method.lifetimes) (ParamNamesBreak method.params) (lifetimes_exactly method.lifetimes) (param_names_exactly method.params))))))
      (given_more (lifetime_errors method.lifetimes ≡ []) Given types Types
      (λ g. second_none (docs_errors s.backend method.docs ++ name_errors method.name) (lifetime_errors method.lifetimes)
      (first_none ((docs_errors s.backend method.docs ++ name_errors method.name) ++ lifetime_errors method.lifetimes) (param_name_errors method.params) g.1))
      (trait_types_told s.support s.config s.catalog s.names owner method))

  pub trait_method_told : (owner : ItemPlace) (start : Attrs) (method : TraitMethod)
      → TellsGiven ⊤ (trait_method_errors s.backend s.support s.config s.catalog s.names owner start method) (TraitMethodBreaks s owner start method)
  trait_method_told owner start method =
      let marks = marks_of s.backend method.attrs start in
      let enabled = enabled_trait_method_errors s.backend s.support s.config s.catalog s.names owner method in
      given_both ⊤ (marks_errors s.backend method.attrs start) (unless_disabled marks enabled) (MarksBreak s.backend method.attrs start) (λ e. IsEnabled marks × EnabledTraitMethodBreaks s owner method e)
      (given_exactly ⊤ (marks_errors s.backend method.attrs start) (MarksBreak s.backend method.attrs start) (marks_exactly s.backend method.attrs start))
      (given_unless ⊤ marks.disable enabled (EnabledTraitMethodBreaks s owner method) (trait_enabled_told owner method))
