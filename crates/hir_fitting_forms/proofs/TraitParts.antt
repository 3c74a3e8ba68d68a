-- A method of a trait that is made of types that fit does, and so does the trait.
use Rattle.std.proofs.Common.{ℕ, List, [], ◌∷◌, ◌++◌, map, Option, Some, None}
use Rattle.std.specs.Prelude.{⊤, IfSome, option_map}
use Rattle.std.specs.List.{flat_map}
use Rattle.bridge_ast.specs.declared.place.ItemPlace.{ItemPlace}
use Rattle.bridge_decl.specs.declared.traits.Trait.{Trait}
use Rattle.bridge_decl.specs.declared.traits.TraitMethod.{TraitMethod}
use Rattle.bridge_order.specs.Catalog.{entry_at}
use Rattle.bridge_order.specs.declared.catalog.Catalog.{Catalog}
use Rattle.hir_attrs.specs.Reading.{marks_of}
use Rattle.hir_attrs.specs.declared.attrs.Attrs.{Attrs}
use Rattle.hir_backends.specs.Backend.{Backend}
use Rattle.hir_definitions.specs.declared.definitions.TraitDef.{TraitDef}
use Rattle.hir_elide.proofs.BelowLemmas.{Each, each_all, weaker}
use Rattle.hir_fitting.specs.Fitting.{Fits}
use Rattle.hir_fitting.specs.Parts.{PartFits, free}
use Rattle.hir_fitting.specs.declared.census.Census.{Census}
use Rattle.hir_form.specs.ParamForms.{all_given, out_type_form}
use Rattle.hir_mentions.specs.Callbacks.{callback_mentions, callback_return_mentions, output_mentions}
use Rattle.hir_mentions.specs.Definitions.{trait_mentions}
use Rattle.hir_mentions.specs.Mentions.{Mentioned, where_any}
use Rattle.hir_mentions.specs.Types.{return_mentions, trait_path_mentions}
use Rattle.hir_methods.specs.Joining.{completed}
use Rattle.hir_number.proofs.FaultLemmas.{each_both}
use Rattle.hir_number.specs.Naming.{Naming}
use Rattle.hir_number.specs.Uses.{concatenated}
use Rattle.hir_number.specs.declared.numbered.NumberedType.{NumberedType}
use Rattle.hir_number.specs.declared.numbered.TraitTarget.{TraitTarget}
use Rattle.hir_number.specs.declared.trait_methods.NumberedTraitMethod.{NumberedTraitMethod}
use Rattle.hir_traits.specs.TraitMethods.{callback_param, method_callback, trait_method_form, trait_method_head}
use Rattle.hir_traits.specs.TraitStages.{TraitMethodStage, TraitBreached, TraitMisnamed, TraitUnnumbered, TraitJudged, trait_method_stage, trait_stage_form}
use Rattle.hir_traits.specs.TraitTypes.{trait_output_form, trait_params_form, trait_receiver_form, trait_types_form, trait_types_with}
use Rattle.hir_traits.specs.Traits.{enabled_methods, trait_form, trait_methods_form, trait_with}
use Rattle.hir_traits.specs.declared.heads.NamedParam.{NamedParam}
use Rattle.hir_traits.specs.declared.heads.TraitMethodHead.{TraitMethodHead}
use Rattle.hir_traits.specs.declared.judging.TraitMethodTypes.{TraitMethodTypes}
use Rattle.hir_types.specs.Named.{ReturnedType}
use Rattle.hir_types.specs.declared.callbacks.Callback.{Callback}
use Rattle.hir_types.specs.declared.callbacks.CallbackParam.{CallbackParam}
use Rattle.hir_types.specs.declared.callbacks.TraitParamSelf.{TraitParamSelf}
use Rattle.hir_fitting_forms.specs.Names.{borrow_names, names_in_trait_method, names_in_type, names_in_types, output_names, trait_own_names}
use Rattle.hir_fitting_forms.specs.NumberedFits.{NameFits, TraitStageFits}
use Rattle.hir_fitting_forms.proofs.Formed.{Fitting}
use Rattle.hir_fitting_forms.proofs.Lists.{all_made, each_back, each_from_all, each_front, if_both, if_made}
use Rattle.hir_fitting_forms.proofs.Positions.{callback_return_made, output_made}
use Rattle.hir_fitting_forms.proofs.Shaped.{Known, trait_fits}
use Rattle.hir_fitting_forms.proofs.Using.{unbound}

abbrev in_trait_receiver : Option TraitParamSelf → List Mentioned
in_trait_receiver r = where_any (λ (s : TraitParamSelf). trait_path_mentions s.trait_path) r

abbrev in_callback_params : List CallbackParam → List Mentioned
in_callback_params ps = flat_map (λ (p : CallbackParam). output_mentions p.ty) ps

module _ (census : Census) (count : ℕ) (catalog : Catalog) where
  -- the types of a trait's method name what fits
  abbrev TypesGood : TraitMethodTypes → Type 0
  TypesGood t = Each (Fitting census count) ((in_trait_receiver t.param_self ++ flat_map output_mentions t.params) ++ return_mentions callback_return_mentions t.output)

  own_good : (own : Option TraitTarget) → Each (Known census count catalog) (trait_own_names own) → Each (Fitting census count) (in_trait_receiver (option_map (trait_receiver_form catalog) own))
  own_good None h = tt
  own_good (Some target) h = (trait_fits census count target.lifetimes (entry_at catalog target.place) h.0, tt)

  output_good : (output : Option NumberedType) → Each (Known census count catalog) (output_names output)
      → IfSome (trait_output_form catalog output) (λ r. Each (Fitting census count) (return_mentions callback_return_mentions r))
  output_good None h = tt
  output_good (Some ty) h = callback_return_made census count catalog ty h

  types_good : (n : NumberedTraitMethod) → Each (Known census count catalog) (names_in_trait_method n) → IfSome (trait_types_form catalog n) TypesGood
  types_good n h =
      let known = Known census count catalog in
      let fits = Fitting census count in
      let first = borrow_names n.borrow in
      let second = trait_own_names n.own in
      let third = names_in_types n.params in
      let last = output_names n.output in
      let inputs = each_front known ((first ++ second) ++ third) last h in
      let receiver = option_map (trait_receiver_form catalog) n.own in
      if_both (λ ts. Each fits (flat_map output_mentions ts)) (λ r. Each fits (return_mentions callback_return_mentions r)) TypesGood (trait_types_with receiver)
      (λ ts r g k. each_both fits (in_trait_receiver receiver ++ flat_map output_mentions ts) (return_mentions callback_return_mentions r)
      (each_both fits (in_trait_receiver receiver) (flat_map output_mentions ts) (own_good n.own (each_back known first second (each_front known (first ++ second) third inputs))) g) k)
      (trait_params_form catalog n.params) (trait_output_form catalog n.output)
      (all_made known fits names_in_type (out_type_form catalog) output_mentions (output_made census count catalog) n.params (each_back known (first ++ second) third inputs))
      (output_good n.output (each_back known ((first ++ second) ++ third) last h))

  params_good : (params : List NamedParam) (types : List ReturnedType) → Each (Fitting census count) (flat_map output_mentions types)
      → Each (Fitting census count) (in_callback_params (completed callback_param params types))
  params_good [] types h = tt
  params_good (p ∷ params) [] h = tt
  params_good (p ∷ params) (t ∷ types) h =
      each_both (Fitting census count) (output_mentions t) (in_callback_params (completed callback_param params types)) (each_front (Fitting census count) (output_mentions t) (flat_map output_mentions types) h)
      (params_good params types (each_back (Fitting census count) (output_mentions t) (flat_map output_mentions types) h))

  whole_good : (attrs : Attrs) (head : TraitMethodHead) (t : TraitMethodTypes) → TypesGood t → Each (Fits census None) (callback_mentions (method_callback attrs head t))
  whole_good attrs head t h =
      let fits = Fitting census count in
      let inputs = each_front fits (in_trait_receiver t.param_self ++ flat_map output_mentions t.params) (return_mentions callback_return_mentions t.output) h in
      weaker fits (Fits census None) (unbound census (Some count)) (callback_mentions (method_callback attrs head t))
      (each_both fits (in_trait_receiver t.param_self ++ in_callback_params (completed callback_param head.params t.params)) (return_mentions callback_return_mentions t.output)
      (each_both fits (in_trait_receiver t.param_self) (in_callback_params (completed callback_param head.params t.params))
      (each_front fits (in_trait_receiver t.param_self) (flat_map output_mentions t.params) inputs) (params_good head.params t.params (each_back fits (in_trait_receiver t.param_self) (flat_map output_mentions t.params) inputs)))
      (each_back fits (in_trait_receiver t.param_self ++ flat_map output_mentions t.params) (return_mentions callback_return_mentions t.output) h))

module _ (census : Census) (catalog : Catalog) where
  -- a method of a trait, in no environment
  abbrev pub CallbackFree : Callback → Type 0
  CallbackFree c = Each (Fits census None) (callback_mentions c)

  staged_good : (attrs : Attrs) (head : TraitMethodHead) (stage : TraitMethodStage) → TraitStageFits census catalog stage
      → IfSome (option_map (method_callback attrs head) (trait_stage_form (trait_types_form catalog) stage)) CallbackFree
  staged_good attrs head (TraitJudged n) all =
      if_made (TypesGood census n.lifetimes.count catalog) CallbackFree (method_callback attrs head) (whole_good census n.lifetimes.count catalog attrs head) (trait_types_form catalog n)
      (types_good census n.lifetimes.count catalog n (each_from_all (NameFits census catalog n.lifetimes.count) (names_in_trait_method n) all))
  staged_good attrs head TraitBreached all = tt
  staged_good attrs head TraitMisnamed all = tt
  staged_good attrs head (TraitUnnumbered fault) all = tt

  pub trait_method_good : (backend : Backend) (names : Naming) (owner : ItemPlace) (parent : Attrs) (method : TraitMethod) → TraitStageFits census catalog (trait_method_stage names owner method)
      → IfSome (trait_method_form backend catalog names owner parent method) CallbackFree
  trait_method_good backend names owner parent method all =
      staged_good (marks_of backend method.attrs parent) (trait_method_head backend method) (trait_method_stage names owner method) all

  -- all of which a list is made
  none_asked : {A : Type 0} (xs : List A) → Each {A = Unit {0}} (λ _. ⊤) (concatenated (map (λ _. []) xs))
  none_asked [] = tt
  none_asked (x ∷ xs) = none_asked xs

  callbacks_good : {A : Type 0} (form : A → Option Callback) → ((x : A) → IfSome (form x) CallbackFree) → (xs : List A) → IfSome (all_given (map form xs)) (λ cs. Each (Fits census None) (flat_map callback_mentions cs))
  callbacks_good form good xs = all_made {N = Unit {0}} (λ _. ⊤) (Fits census None) (λ _. []) form callback_mentions (λ x h. good x) xs (none_asked xs)

  module _ (backend : Backend) (names : Naming) (owner : ItemPlace) (all : (method : TraitMethod) → TraitStageFits census catalog (trait_method_stage names owner method)) where
    pub trait_methods_good : (attrs : Attrs) (methods : List TraitMethod) → IfSome (trait_methods_form backend catalog names owner attrs methods) (λ cs. Each (Fits census None) (flat_map callback_mentions cs))
    trait_methods_good attrs methods =
        callbacks_good (trait_method_form backend catalog names owner attrs) (λ method. trait_method_good backend names owner attrs method (all method)) (enabled_methods backend attrs methods)

    -- what holds of a trait with methods that fit holds of what the trait is lowered to
    pub trait_form_made : (P : TraitDef → Type 0) (start : Attrs) (item : Trait)
        → ((cs : List Callback) → Each (Fits census None) (flat_map callback_mentions cs) → P (trait_with backend (marks_of backend item.attrs start) item cs))
        → IfSome (trait_form backend catalog names owner start item) P
    trait_form_made P start item makes =
        let marks = marks_of backend item.attrs start in
        if_made (λ cs. Each (Fits census None) (flat_map callback_mentions cs)) P (trait_with backend marks item) makes _ (search (trait_methods_good marks))

    pub trait_form_good : (start : Attrs) (item : Trait) → IfSome (trait_form backend catalog names owner start item) (λ def. PartFits census (free (trait_mentions def)))
    trait_form_good start item =
        trait_form_made (λ def. PartFits census (free (trait_mentions def))) start item (λ cs h. each_all (Fits census None) (flat_map callback_mentions cs) h)
