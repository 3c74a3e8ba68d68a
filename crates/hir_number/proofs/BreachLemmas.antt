-- What is wrong with a signature, part by part.
use Rattle.std.proofs.Common.{◌≡◌, ℕ, List, [], ◌∷◌, ◌++◌, Ok, Err, Result, refl, sym, ap, ◌∙◌, append_assoc}
use Rattle.std.specs.Prelude.{OnOk}
use Rattle.std.specs.List.{flat_map}
use Rattle.std.proofs.lemmas.List.{map-append}
use Rattle.std.proofs.lemmas.Grind.{flat_map-append}
use Rattle.bridge_decl.specs.declared.functions.Function.{Function}
use Rattle.bridge_decl.specs.declared.methods.Method.{Method}
use Rattle.bridge_decl.specs.declared.methods.Param.{Param}
use Rattle.hir_elide.specs.Occurrences.{Borrow, Counting}
use Rattle.bridge_decl.specs.declared.structs.Field.{Field}
use Rattle.hir_elide.specs.Phases.{Defining, Returning, Using}
use Rattle.hir_number.specs.Naming.{Naming}
use Rattle.hir_number.specs.Breaches.{Broken, Demand, breaches_of, use_breaches, uses_of}
use Rattle.hir_number.specs.Signatures.{Section, Placed, Usual, field_uses, function_uses, method_uses, output_uses, param_uses, placed, receiver_borrow, receiver_uses, without_writer}
use Rattle.hir_number.specs.Uses.{Use, borrow_uses, type_uses}

uses_placed : (part : Section) (us : List Use) → uses_of (placed part us) ≡ us
uses_placed part [] = refl
uses_placed part (u ∷ us) = ap (λ vs. u ∷ vs) (uses_placed part us)

module _ (names : List (List ℕ)) (demand : Demand) where
  abbrev Of : List Use → List Broken
  Of us = breaches_of names demand us

  both : (us vs : List Use) → Of (us ++ vs) ≡ Of us ++ Of vs
  both us vs = flat_map-append (use_breaches names demand) us vs

  -- those of placed uses
  pub of_placed : (part : Section) (us : List Use) → Of (uses_of (placed part us)) ≡ Of us
  of_placed part us = ap Of (uses_placed part us)

  placed_both : (ps qs : List Placed) → Of (uses_of (ps ++ qs)) ≡ Of (uses_of ps) ++ Of (uses_of qs)
  placed_both ps qs = ap Of (map-append (λ (p : Placed). p.1) ps qs) ∙ both (uses_of ps) (uses_of qs)

  -- those of a signature: of the receiver's borrow, the receiver's type, the parameters and the return
  pub of_signature : (part another last : Section) (bs rs ps os : List Use)
      → Of (uses_of ((placed part bs ++ placed another (rs ++ ps)) ++ placed last os)) ≡ (Of bs ++ Of rs) ++ (Of ps ++ Of os)
  of_signature part another last bs rs ps os =
      placed_both (placed part bs ++ placed another (rs ++ ps)) (placed last os)
      ∙ ap (λ xs. xs ++ Of (uses_of (placed last os))) (placed_both (placed part bs) (placed another (rs ++ ps)))
      ∙ ap (λ xs. (xs ++ Of (uses_of (placed another (rs ++ ps)))) ++ Of (uses_of (placed last os))) (of_placed part bs)
      ∙ ap (λ xs. (Of bs ++ xs) ++ Of (uses_of (placed last os))) (of_placed another (rs ++ ps) ∙ both rs ps)
      ∙ ap (λ xs. (Of bs ++ (Of rs ++ Of ps)) ++ xs) (of_placed last os)
      ∙ ap (λ xs. xs ++ Of os) (sym (append_assoc (Of bs) (Of rs) (Of ps)))
      ∙ append_assoc (Of bs ++ Of rs) (Of ps) (Of os)

pub on_ok : {A E P Q : Type 0} (r : Result A E) → (P → Q) → OnOk r P → OnOk r Q
on_ok (Ok x) f h = f h
on_ok (Err e) f h = tt

-- what a loop over the parts of a method has told is what is told of its uses
pub method_told : (n : Naming) (all : List (List ℕ)) (demand : Demand) (method : Method) (params : List Param) (old mid new : List Broken) → params ≡ without_writer method.params
    → mid ≡ old ++ (breaches_of all demand (borrow_uses (receiver_borrow method.self_param)) ++ breaches_of all demand (receiver_uses n method.self_param))
    → new ≡ mid ++ (breaches_of all demand (param_uses n params) ++ breaches_of all demand (output_uses n method.return_type))
    → new ≡ old ++ breaches_of all demand (uses_of (method_uses n method))
method_told n all demand method params old mid new is h k =
    let bs : List Broken = breaches_of all demand (borrow_uses (receiver_borrow method.self_param)) in
    let rs : List Broken = breaches_of all demand (receiver_uses n method.self_param) in
    let os : List Broken = breaches_of all demand (output_uses n method.return_type) in
    k
    ∙ ap (λ ps. mid ++ (breaches_of all demand (param_uses n ps) ++ os)) is
    ∙ ap (λ xs. xs ++ (breaches_of all demand (param_uses n (without_writer method.params)) ++ os)) h
    ∙ append_assoc old (bs ++ rs) (breaches_of all demand (param_uses n (without_writer method.params)) ++ os)
    ∙ ap (λ xs. old ++ xs) (sym (of_signature all demand (Usual (Using Borrow)) (Usual (Using Counting)) (Usual Returning) (borrow_uses (receiver_borrow method.self_param)) (receiver_uses n method.self_param)
    (param_uses n (without_writer method.params)) (output_uses n method.return_type)))

-- of a function
pub function_told : (n : Naming) (all : List (List ℕ)) (demand : Demand) (function : Function) (params : List Param) (old new : List Broken) → params ≡ without_writer function.params
    → new ≡ old ++ (breaches_of all demand (param_uses n params) ++ breaches_of all demand (output_uses n function.output_type))
    → new ≡ old ++ breaches_of all demand (uses_of (function_uses n function))
function_told n all demand function params old new is k =
    k
    ∙ ap (λ ps. old ++ (breaches_of all demand (param_uses n ps) ++ breaches_of all demand (output_uses n function.output_type))) is
    ∙ ap (λ xs. old ++ xs) (sym (of_signature all demand (Usual (Using Borrow)) (Usual (Using Counting)) (Usual Returning) [] [] (param_uses n (without_writer function.params)) (output_uses n function.output_type)))

-- of fields
pub fields_told : (n : Naming) (all : List (List ℕ)) (demand : Demand) (fields given : List Field) (old new : List Broken) → given ≡ fields
    → new ≡ old ++ breaches_of all demand (flat_map (λ (field : Field). type_uses n field.ty) given)
    → new ≡ old ++ breaches_of all demand (uses_of (field_uses n fields))
fields_told n all demand fields given old new is k =
    k
    ∙ ap (λ fs. old ++ breaches_of all demand (flat_map (λ (field : Field). type_uses n field.ty) fs)) is
    ∙ ap (λ xs. old ++ xs) (sym (of_placed all demand (Usual Defining) (flat_map (λ (field : Field). type_uses n field.ty) fields)))
