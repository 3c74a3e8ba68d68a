-- What comes of a signature as it is gone through has the numbers of its uses, in order, and is of its shape.
use Rattle.std.proofs.Common.{◌≡◌, List, [], ◌∷◌, ◌++◌, map, true, Option, Some, None, Ok, Err, Result, refl, sym, ap, subst, ◌∙◌}
use Rattle.std.specs.Prelude.{⊤, option_map}
use Rattle.std.specs.List.{flat_map}
use Rattle.std.proofs.lemmas.List.{append-nil}
use Rattle.bridge_decl.specs.declared.methods.Param.{Param}
use Rattle.bridge_decl.specs.declared.methods.SelfParam.{SelfParam}
use Rattle.bridge_decl.specs.declared.structs.Field.{Field}
use Rattle.bridge_decl.specs.declared.traits.TraitMethod.{TraitMethod}
use Rattle.bridge_decl.specs.declared.traits.TraitSelfParam.{TraitSelfParam}
use Rattle.bridge_decl.specs.declared.types.TypeName.{TypeName}
use Rattle.hir_elide.specs.Occurrences.{Borrow, Counting, Signature}
use Rattle.hir_elide.specs.Phases.{Phase, Using, Returning}
use Rattle.hir_elide.specs.Signature.{environment_of}
use Rattle.hir_life.specs.Environment.{Environment}
use Rattle.hir_number.specs.declared.fault.NumberFault.{NumberFault}
use Rattle.hir_number.specs.declared.numbered.NumberedType.{NumberedType}
use Rattle.hir_number.specs.declared.numbered.Target.{Target}
use Rattle.hir_number.specs.declared.numbered.TraitTarget.{TraitTarget}
use Rattle.hir_number.specs.declared.signature.NumberedSignature.{NumberedSignature}
use Rattle.hir_number.specs.declared.trait_methods.NumberedTraitMethod.{NumberedTraitMethod}
use Rattle.hir_number.specs.Naming.{Naming, trait_found, type_found}
use Rattle.hir_number.specs.Numbered.{numbers_of, numbers_of_each, output_numbers, receiver_numbers, receiver_shape, target_of, trait_numbers_of, trait_receiver_numbers, trait_receiver_shape, trait_target_of}
use Rattle.hir_number.specs.Shapes.{NumberLists, bare, bare_borrow, bare_target, bare_trait, borrow_numbers, borrow_shape, numbers_in, shape}
use Rattle.hir_number.specs.Signatures.{Section, Placed, TraitReturn, Usual, output_uses, param_uses, phase_of, placed, receiver_borrow, receiver_uses, signature_uses, trait_borrow, trait_receiver_uses}
use Rattle.hir_number.specs.Uses.{Use, borrow_uses, type_uses}
use Rattle.hir_number.specs.inside.Runs.{finished, inputs_run, output_run, params_run, receiver_run, returned_run, signature_run, trait_inputs_run, trait_method_run, trait_receiver_run}
use Rattle.hir_number.specs.inside.Threads.{Run, ◌>>◌, borrow_run, given, in_order, path_run, trait_run, type_run, run_next}
use Rattle.hir_number.proofs.FlatLemmas.{placed_run}
use Rattle.hir_number.proofs.ShapeLemmas.{Bears, OkIs, bears_at, bears_each, bears_given, bears_next, borrow_bears, target_bears, trait_bears, type_bears}
use Rattle.hir_number.proofs.UsesLemmas.{FlatBy, Flat, assoc, flat_borrow, flat_each_of, flat_given, flat_one, flat_path, flat_trait, flat_two, flat_type, same_next, use_run}

-- ---- numbers

placed_same : (part : Section) (us : List Use) → map placed_run (placed part us) ≡ map (use_run (phase_of part)) us
placed_same part [] = refl
placed_same part (u ∷ us) = ap (λ rs. use_run (phase_of part) u ∷ rs) (placed_same part us)

pub flat_placed : {A : Type 0} (part : Section) (of : A → NumberLists) (run : Run A) (us : List Use) → Flat (phase_of part) of run us → FlatBy placed_run of run (placed part us)
flat_placed part of run us flat s = ap (λ rs. in_order rs s) (placed_same part us) ∙ flat s

-- three parts, one after another
flat_three : {A B C D : Type 0} (of : A → NumberLists) (of' : B → NumberLists) (of'' : C → NumberLists) (all : D → NumberLists) (run : Run A) (run' : Run B) (run'' : Run C) (make : A → B → C → D)
    (us vs ws : List Placed) → FlatBy placed_run of run us → FlatBy placed_run of' run' vs → FlatBy placed_run of'' run'' ws → ((x : A) (y : B) (z : C) → all (make x y z) ≡ (of x ++ of' y) ++ of'' z)
    → FlatBy placed_run all (run >> (λ x. run' >> (λ y. run'' >> (λ z. given (make x y z))))) ((us ++ vs) ++ ws)
flat_three {A = A} {B = B} of of' of'' all run run' run'' make us vs ws flat flat' flat'' h s =
    let both : Run (A × B) = run >> (λ x. run' >> (λ y. given (x, y))) in
    flat_two placed_run (λ (p : A × B). of p.0 ++ of' p.1) of'' all both run'' (λ p z. make p.0 p.1 z) (us ++ vs) ws
    (flat_two placed_run of of' (λ (p : A × B). of p.0 ++ of' p.1) run run' (λ x y. (x, y)) us vs flat flat' (λ x y. refl)) flat'' (λ p z. h p.0 p.1 z) s
    ∙ ap (λ r. run_next r (λ x. given (all x)))
    (assoc (run s) (λ x. run' >> (λ y. given (x, y))) (λ p. run'' >> (λ z. given (make p.0 p.1 z)))
    ∙ same_next (run s) _ _ (λ x t. assoc (run' t) (λ y. given (x, y)) (λ p. run'' >> (λ z. given (make p.0 p.1 z)))))

module _ (names : Naming) where
  flat_receiver : (phase : Phase) (receiver : Option SelfParam) → Flat phase receiver_numbers (receiver_run phase names receiver) (receiver_uses names receiver)
  flat_receiver phase None = flat_given (use_run phase) receiver_numbers None refl
  flat_receiver phase (Some receiver) =
      flat_one (use_run phase) (λ (t : Target). t.lifetimes ∷ []) receiver_numbers (path_run phase names true receiver.path_type) (λ t. Some t)
      (receiver_uses names (Some receiver)) (flat_path phase names true receiver.path_type) (λ t. refl)

  flat_trait_receiver : (phase : Phase) (receiver : Option TraitSelfParam) → Flat phase trait_receiver_numbers (trait_receiver_run phase names receiver) (trait_receiver_uses names receiver)
  flat_trait_receiver phase None = flat_given (use_run phase) trait_receiver_numbers None refl
  flat_trait_receiver phase (Some receiver) =
      flat_one (use_run phase) (λ (t : TraitTarget). t.lifetimes ∷ []) trait_receiver_numbers (trait_run phase names true receiver.path_trait) (λ t. Some t)
      (trait_receiver_uses names (Some receiver)) (flat_trait phase names true receiver.path_trait) (λ t. refl)

  flat_params : (phase : Phase) (params : List Param) → Flat phase numbers_of_each (params_run phase names params) (param_uses names params)
  flat_params phase params =
      flat_each_of (use_run phase) numbers_in (λ (param : Param). type_run phase names param.ty) (λ (param : Param). type_uses names param.ty) (λ param. flat_type phase names param.ty) params

  pub flat_fields : (phase : Phase) (fields : List Field) → Flat phase numbers_of_each (in_order (map (λ (field : Field). type_run phase names field.ty) fields)) (flat_map (λ (field : Field). type_uses names field.ty) fields)
  flat_fields phase fields =
      flat_each_of (use_run phase) numbers_in (λ (field : Field). type_run phase names field.ty) (λ (field : Field). type_uses names field.ty) (λ field. flat_type phase names field.ty) fields

  flat_inputs : (phase : Phase) (receiver : Option SelfParam) (params : List Param)
      → Flat phase (λ (i : Option Target × List NumberedType). receiver_numbers i.0 ++ numbers_of_each i.1) (inputs_run phase names receiver params) (receiver_uses names receiver ++ param_uses names params)
  flat_inputs phase receiver params =
      flat_two (use_run phase) receiver_numbers numbers_of_each (λ (i : Option Target × List NumberedType). receiver_numbers i.0 ++ numbers_of_each i.1)
      (receiver_run phase names receiver) (params_run phase names params) (λ own types. (own, types)) (receiver_uses names receiver) (param_uses names params)
      (flat_receiver phase receiver) (flat_params phase params) (λ own types. refl)

  flat_trait_inputs : (phase : Phase) (method : TraitMethod)
      → Flat phase (λ (i : Option TraitTarget × List NumberedType). trait_receiver_numbers i.0 ++ numbers_of_each i.1) (trait_inputs_run phase names method) (trait_receiver_uses names method.self_param ++ param_uses names method.params)
  flat_trait_inputs phase method =
      flat_two (use_run phase) trait_receiver_numbers numbers_of_each (λ (i : Option TraitTarget × List NumberedType). trait_receiver_numbers i.0 ++ numbers_of_each i.1)
      (trait_receiver_run phase names method.self_param) (params_run phase names method.params) (λ own types. (own, types)) (trait_receiver_uses names method.self_param) (param_uses names method.params)
      (flat_trait_receiver phase method.self_param) (flat_params phase method.params) (λ own types. refl)

  flat_output : (phase : Phase) (output : Option TypeName) → Flat phase output_numbers (output_run phase names output) (output_uses names output)
  flat_output phase None = flat_given (use_run phase) output_numbers None refl
  flat_output phase (Some ty) = flat_one (use_run phase) numbers_in output_numbers (type_run phase names ty) (λ n. Some n) (type_uses names ty) (flat_type phase names ty) (λ n. refl)

  flat_returned : (phase : Phase) (output : Option TypeName) → Flat phase (λ (r : Option NumberedType × Environment). output_numbers r.0) (returned_run phase names output) (output_uses names output)
  flat_returned phase output =
      subst (λ us. Flat phase (λ (r : Option NumberedType × Environment). output_numbers r.0) (returned_run phase names output) us) (append-nil (output_uses names output))
      (flat_two (use_run phase) output_numbers (λ (e : Environment). []) (λ (r : Option NumberedType × Environment). output_numbers r.0)
      (output_run phase names output) finished (λ ty lifetimes. (ty, lifetimes)) (output_uses names output) [] (flat_output phase output) (λ s. refl)
      (λ ty lifetimes. sym (append-nil (output_numbers ty))))

  pub flat_signature : (receiver : Option SelfParam) (params : List Param) (output : Option TypeName)
      → FlatBy placed_run numbers_of (signature_run names receiver params output)
      (signature_uses (receiver_borrow receiver) (receiver_uses names receiver ++ param_uses names params) (Usual Returning) (output_uses names output))
  flat_signature receiver params output =
      flat_three borrow_numbers (λ (i : Option Target × List NumberedType). receiver_numbers i.0 ++ numbers_of_each i.1) (λ (r : Option NumberedType × Environment). output_numbers r.0) numbers_of
      (borrow_run (Using Borrow) (receiver_borrow receiver)) (inputs_run (Using Counting) names receiver params) (returned_run Returning names output)
      (λ borrow inputs returned. record { borrow = borrow; own = inputs.0; params = inputs.1; output = returned.0; lifetimes = returned.1 })
      (placed (Usual (Using Borrow)) (borrow_uses (receiver_borrow receiver))) (placed (Usual (Using Counting)) (receiver_uses names receiver ++ param_uses names params)) (placed (Usual Returning) (output_uses names output))
      (flat_placed (Usual (Using Borrow)) borrow_numbers _ (borrow_uses (receiver_borrow receiver)) (flat_borrow (Using Borrow) (receiver_borrow receiver)))
      (flat_placed (Usual (Using Counting)) _ _ (receiver_uses names receiver ++ param_uses names params) (flat_inputs (Using Counting) receiver params))
      (flat_placed (Usual Returning) _ _ (output_uses names output) (flat_returned Returning output))
      (λ borrow inputs returned. refl)

  pub flat_trait_method : (method : TraitMethod)
      → FlatBy placed_run trait_numbers_of (trait_method_run names method)
      (signature_uses (trait_borrow method.self_param) (trait_receiver_uses names method.self_param ++ param_uses names method.params) TraitReturn (output_uses names method.output_type))
  flat_trait_method method =
      flat_three borrow_numbers (λ (i : Option TraitTarget × List NumberedType). trait_receiver_numbers i.0 ++ numbers_of_each i.1) (λ (r : Option NumberedType × Environment). output_numbers r.0) trait_numbers_of
      (borrow_run (Using Borrow) (trait_borrow method.self_param)) (trait_inputs_run (Using Counting) names method) (returned_run (Using Counting) names method.output_type)
      (λ borrow inputs returned. record { borrow = borrow; own = inputs.0; params = inputs.1; output = returned.0; lifetimes = returned.1 })
      (placed (Usual (Using Borrow)) (borrow_uses (trait_borrow method.self_param))) (placed (Usual (Using Counting)) (trait_receiver_uses names method.self_param ++ param_uses names method.params))
      (placed TraitReturn (output_uses names method.output_type))
      (flat_placed (Usual (Using Borrow)) borrow_numbers _ (borrow_uses (trait_borrow method.self_param)) (flat_borrow (Using Borrow) (trait_borrow method.self_param)))
      (flat_placed (Usual (Using Counting)) _ _ (trait_receiver_uses names method.self_param ++ param_uses names method.params) (flat_trait_inputs (Using Counting) method))
      (flat_placed TraitReturn _ _ (output_uses names method.output_type) (flat_returned (Using Counting) method.output_type))
      (λ borrow inputs returned. refl)

-- ---- what comes, with what then stands

unfoldable pub EndIs : {A : Type 0} → (A → Signature → Type 0) → Result (A × Signature) NumberFault → Type 0
EndIs P (Ok both) = P both.0 both.1
EndIs P (Err e) = ⊤

pub end_of : {A : Type 0} (P : A → Signature → Type 0) (both : A × Signature) → EndIs P (Ok both) → P both.0 both.1
unfolding EndIs
end_of P both h = h

end_given : {A : Type 0} (P : A → Signature → Type 0) (x : A) (s : Signature) → P x s → EndIs P (given x s)
unfolding EndIs
end_given P x s h = h

of_ok : {A : Type 0} (P : A → Type 0) (r : Result (A × Signature) NumberFault) → OkIs P r → EndIs (λ x t. P x) r
unfolding EndIs
of_ok P (Ok both) h = h
of_ok P (Err e) h = tt

-- what a run bears stands at its end
pub end_bears : {A : Type 0} (P : A → Type 0) (run : Run A) → Bears P run → (s : Signature) → EndIs (λ x t. P x) (run s)
end_bears P run h s = of_ok P (run s) (bears_at P run h s)

end_next : {A B : Type 0} (P : A → Signature → Type 0) (Q : B → Signature → Type 0) (r : Result (A × Signature) NumberFault) (next : A → Run B)
    → EndIs P r → ((x : A) (t : Signature) → P x t → EndIs Q (next x t)) → EndIs Q (run_next r next)
unfolding EndIs
end_next P Q (Ok both) next h k = k both.0 both.1 h
end_next P Q (Err e) next h k = tt

-- ---- shapes

module _ (names : Naming) where
  receiver_bears : (phase : Phase) (receiver : Option SelfParam) → Bears (λ own. option_map bare_target own ≡ receiver_shape names receiver) (receiver_run phase names receiver)
  receiver_bears phase None = bears_given (λ own. option_map bare_target own ≡ None) None refl
  receiver_bears phase (Some receiver) =
      bears_next _ _ _ _ (target_bears phase true receiver.path_type (λ f. option_map target_of f) (λ t. Some (bare_target t)) (λ f ns. refl) (type_found (names.type_at receiver.path_type.segments)))
      (λ t e. bears_given (λ own. option_map bare_target own ≡ receiver_shape names (Some receiver)) (Some t) e)

  trait_receiver_bears : (phase : Phase) (receiver : Option TraitSelfParam) → Bears (λ own. option_map bare_trait own ≡ trait_receiver_shape names receiver) (trait_receiver_run phase names receiver)
  trait_receiver_bears phase None = bears_given (λ own. option_map bare_trait own ≡ None) None refl
  trait_receiver_bears phase (Some receiver) =
      bears_next _ _ _ _ (trait_bears phase true receiver.path_trait (λ f. option_map trait_target_of f) (λ t. Some (bare_trait t)) (λ f ns. refl) (trait_found (names.trait_at receiver.path_trait.segments)))
      (λ t e. bears_given (λ own. option_map bare_trait own ≡ trait_receiver_shape names (Some receiver)) (Some t) e)

  params_bear : (phase : Phase) (params : List Param) → Bears (λ xs. map bare xs ≡ map (λ (param : Param). shape names param.ty) params) (params_run phase names params)
  params_bear phase params = bears_each bare (λ (param : Param). type_run phase names param.ty) (λ (param : Param). shape names param.ty) (λ param. type_bears phase names param.ty) params

  pub fields_bear : (phase : Phase) (fields : List Field) → Bears (λ xs. map bare xs ≡ map (λ (field : Field). shape names field.ty) fields) (in_order (map (λ (field : Field). type_run phase names field.ty) fields))
  fields_bear phase fields = bears_each bare (λ (field : Field). type_run phase names field.ty) (λ (field : Field). shape names field.ty) (λ field. type_bears phase names field.ty) fields

  output_bears : (phase : Phase) (output : Option TypeName) → Bears (λ ty. option_map bare ty ≡ option_map (shape names) output) (output_run phase names output)
  output_bears phase None = bears_given (λ ty. option_map bare ty ≡ None) None refl
  output_bears phase (Some ty) = bears_next _ _ _ _ (type_bears phase names ty) (λ n e. bears_given (λ o. option_map bare o ≡ Some (shape names ty)) (Some n) (ap (λ x. Some x) e))

  inputs_end : (phase : Phase) (receiver : Option SelfParam) (params : List Param) (s : Signature)
      → EndIs (λ (i : Option Target × List NumberedType) t. (option_map bare_target i.0 ≡ receiver_shape names receiver) × (map bare i.1 ≡ map (λ (param : Param). shape names param.ty) params))
      (inputs_run phase names receiver params s)
  inputs_end phase receiver params s =
      end_next _ _ (receiver_run phase names receiver s) _ (end_bears _ (receiver_run phase names receiver) (receiver_bears phase receiver) s) (λ own t e.
      end_next _ _ (params_run phase names params t) _ (end_bears _ (params_run phase names params) (params_bear phase params) t) (λ types u f. end_given _ (own, types) u (e, f)))

  trait_inputs_end : (phase : Phase) (method : TraitMethod) (s : Signature)
      → EndIs (λ (i : Option TraitTarget × List NumberedType) t. (option_map bare_trait i.0 ≡ trait_receiver_shape names method.self_param) × (map bare i.1 ≡ map (λ (param : Param). shape names param.ty) method.params))
      (trait_inputs_run phase names method s)
  trait_inputs_end phase method s =
      end_next _ _ (trait_receiver_run phase names method.self_param s) _ (end_bears _ (trait_receiver_run phase names method.self_param) (trait_receiver_bears phase method.self_param) s) (λ own t e.
      end_next _ _ (params_run phase names method.params t) _ (end_bears _ (params_run phase names method.params) (params_bear phase method.params) t) (λ types u f. end_given _ (own, types) u (e, f)))

  returned_end : (phase : Phase) (output : Option TypeName) (s : Signature)
      → EndIs (λ (r : Option NumberedType × Environment) t. (option_map bare r.0 ≡ option_map (shape names) output) × (r.1 ≡ environment_of t)) (returned_run phase names output s)
  returned_end phase output s =
      end_next _ _ (output_run phase names output s) _ (end_bears _ (output_run phase names output) (output_bears phase output) s) (λ ty t e. end_given _ (ty, environment_of t) t (e, refl))

  -- a signature is of its shape
  pub record IsShaped (receiver : Option SelfParam) (inputs : List Param) (returned : Option TypeName) (n : NumberedSignature) (t : Signature) : Type 0 where
    pub borrow : bare_borrow n.borrow ≡ borrow_shape (receiver_borrow receiver)
    pub own : option_map bare_target n.own ≡ receiver_shape names receiver
    pub params : map bare n.params ≡ map (λ (param : Param). shape names param.ty) inputs
    pub output : option_map bare n.output ≡ option_map (shape names) returned
    pub lifetimes : n.lifetimes ≡ environment_of t

  pub signature_end : (receiver : Option SelfParam) (params : List Param) (output : Option TypeName) (s : Signature)
      → EndIs (IsShaped receiver params output) (signature_run names receiver params output s)
  signature_end receiver params output s =
      end_next _ _ (borrow_run (Using Borrow) (receiver_borrow receiver) s) _ (end_bears _ (borrow_run (Using Borrow) (receiver_borrow receiver)) (borrow_bears (Using Borrow) (receiver_borrow receiver)) s) (λ b t eb.
      end_next _ _ (inputs_run (Using Counting) names receiver params t) _ (inputs_end (Using Counting) receiver params t) (λ i u ei.
      end_next _ _ (returned_run Returning names output u) _ (returned_end Returning output u) (λ r v er.
      end_given _ (record { borrow = b; own = i.0; params = i.1; output = r.0; lifetimes = r.1 }) v
      (record { borrow = eb; own = ei.0; params = ei.1; output = er.0; lifetimes = er.1 }))))

  pub record IsTraitShaped (method : TraitMethod) (n : NumberedTraitMethod) (t : Signature) : Type 0 where
    pub borrow : bare_borrow n.borrow ≡ borrow_shape (trait_borrow method.self_param)
    pub own : option_map bare_trait n.own ≡ trait_receiver_shape names method.self_param
    pub params : map bare n.params ≡ map (λ (param : Param). shape names param.ty) method.params
    pub output : option_map bare n.output ≡ option_map (shape names) method.output_type
    pub lifetimes : n.lifetimes ≡ environment_of t

  pub trait_method_end : (method : TraitMethod) (s : Signature) → EndIs (IsTraitShaped method) (trait_method_run names method s)
  trait_method_end method s =
      end_next _ _ (borrow_run (Using Borrow) (trait_borrow method.self_param) s) _ (end_bears _ (borrow_run (Using Borrow) (trait_borrow method.self_param)) (borrow_bears (Using Borrow) (trait_borrow method.self_param)) s) (λ b t eb.
      end_next _ _ (trait_inputs_run (Using Counting) names method t) _ (trait_inputs_end (Using Counting) method t) (λ i u ei.
      end_next _ _ (returned_run (Using Counting) names method.output_type u) _ (returned_end (Using Counting) method.output_type u) (λ r v er.
      end_given _ (record { borrow = b; own = i.0; params = i.1; output = r.0; lifetimes = r.1 }) v
      (record { borrow = eb; own = ei.0; params = ei.1; output = er.0; lifetimes = er.1 }))))
