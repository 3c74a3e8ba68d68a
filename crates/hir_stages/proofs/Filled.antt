-- A declaration that is numbered is what comes of its shapes, filled with its numbers.
use Rattle.std.proofs.Common.{◌≡◌, ℕ, List, [], ◌∷◌, ◌++◌, map, Option, Some, None, refl, sym, ap, ◌∙◌, append_assoc}
use Rattle.std.specs.Prelude.{option_map}
use Rattle.bridge_decl.specs.declared.lifetimes.LifetimeEnv.{LifetimeEnv}
use Rattle.bridge_decl.specs.declared.methods.Param.{Param}
use Rattle.bridge_decl.specs.declared.methods.SelfParam.{SelfParam}
use Rattle.bridge_decl.specs.declared.structs.Struct.{Struct}
use Rattle.bridge_decl.specs.declared.traits.TraitMethod.{TraitMethod}
use Rattle.bridge_decl.specs.declared.types.Mutability.{Mutability}
use Rattle.bridge_decl.specs.declared.types.TypeName.{TypeName}
use Rattle.hir_elide.specs.Signature.{environment_of}
use Rattle.hir_life.specs.declared.maybe_static.MaybeStatic.{MaybeStatic}
use Rattle.hir_number.specs.declared.numbered.NumberedType.{NumberedType}
use Rattle.hir_number.specs.declared.numbered.Target.{Target}
use Rattle.hir_number.specs.declared.numbered.TraitTarget.{TraitTarget}
use Rattle.hir_number.specs.declared.signature.NumberedSignature.{NumberedSignature}
use Rattle.hir_number.specs.declared.trait_methods.NumberedTraitMethod.{NumberedTraitMethod}
use Rattle.hir_number.specs.Naming.{Naming}
use Rattle.hir_number.specs.Numbered.{AreNumberedFields, IsNumbered, IsNumberedTraitMethod, numbers_of, numbers_of_each, output_numbers, receiver_numbers, trait_numbers_of, trait_receiver_numbers}
use Rattle.hir_number.specs.Shapes.{NumberLists, bare, bare_borrow, bare_target, bare_trait, borrow_numbers, shape}
use Rattle.hir_number.specs.Occurrences.{signature_with}
use Rattle.hir_number.specs.Signatures.{Placed, trait_method_uses}
use Rattle.hir_stages.specs.Filling.{Fill, fill_borrow, fill_each, fill_output, fill_own, fill_trait_own, fill_type, then_made}
use Rattle.hir_stages.specs.Numbering.{filled_fields, filled_parts, filled_signature, filled_trait_method, with_borrow, with_output, with_receiver, with_params}
use Rattle.hir_stages.proofs.Filling.{Refills, borrow_refills, type_refills, types_refill}

own_refills : (o : Option Target) → Refills fill_own (option_map bare_target) receiver_numbers o
own_refills None rest = refl
own_refills (Some t) rest = refl

trait_own_refills : (o : Option TraitTarget) → Refills fill_trait_own (option_map bare_trait) trait_receiver_numbers o
trait_own_refills None rest = refl
trait_own_refills (Some t) rest = refl

output_refills : (o : Option NumberedType) → Refills fill_output (option_map bare) output_numbers o
output_refills None rest = refl
output_refills (Some t) rest = ap (then_made (λ u. Some u)) (type_refills t rest)

-- a part that has this shape without its numbers, and these numbers first
refilled : {A B : Type 0} (fill : B → Fill A) (strip : A → B) (numbers : A → NumberLists) → ((y : A) → Refills fill strip numbers y)
    → (b : B) (x : A) (rest : NumberLists) → strip x ≡ b → fill b (numbers x ++ rest) ≡ (x, rest)
refilled fill strip numbers refills b x rest bares = ap (λ c. fill c (numbers x ++ rest)) (sym bares) ∙ refills x rest

none_left : (ns : NumberLists) → ns ≡ ns ++ []
none_left [] = refl
none_left (n ∷ ns) = ap (λ ms. n ∷ ms) (none_left ns)

-- a signature of these parts
module _ {B O R : Type 0} (fill : B → Fill O) (strip : O → B) (numbers : O → NumberLists) (refills : (o : O) → Refills fill strip numbers o)
    (make : Option (MaybeStatic ℕ × Mutability) → O → List NumberedType → Option NumberedType → R)
  where
    pub filled_is :
        (b : Option (MaybeStatic ℕ × Mutability)) (o : O) (ps : List NumberedType) (out : Option NumberedType)
        (b_shape : Option (MaybeStatic ℕ × Mutability)) (o_shape : B) (ps_shape : List NumberedType) (out_shape : Option NumberedType)
        → bare_borrow b ≡ b_shape → strip o ≡ o_shape → map bare ps ≡ ps_shape → option_map bare out ≡ out_shape
        → filled_parts fill make b_shape o_shape ps_shape out_shape ((borrow_numbers b ++ (numbers o ++ numbers_of_each ps)) ++ output_numbers out) ≡ make b o ps out
    filled_is b o ps out b_shape o_shape ps_shape out_shape borrows owns inputs outputs =
        let last = output_numbers out in
        let third = numbers_of_each ps ++ last in
        let second = numbers o ++ third in
        let all : (borrow_numbers b ++ (numbers o ++ numbers_of_each ps)) ++ last ≡ borrow_numbers b ++ second =
        append_assoc (borrow_numbers b) (numbers o ++ numbers_of_each ps) last ∙ ap (λ ns. borrow_numbers b ++ ns) (append_assoc (numbers o) (numbers_of_each ps) last) in
        ap (filled_parts fill make b_shape o_shape ps_shape out_shape) all
        ∙ ap (with_borrow fill make o_shape ps_shape out_shape) (refilled fill_borrow bare_borrow borrow_numbers borrow_refills b_shape b second borrows)
        ∙ ap (with_receiver fill make b ps_shape out_shape) (refilled fill strip numbers refills o_shape o third owns)
        ∙ ap (with_params fill make b o out_shape) (refilled (λ ts. fill_each (map fill_type ts)) (map bare) numbers_of_each types_refill ps_shape ps last inputs)
        ∙ ap (with_output fill make b o ps) (ap (fill_output out_shape) (none_left last) ∙ refilled fill_output (option_map bare) output_numbers output_refills out_shape out [] outputs)

pub signature_is_filled :
    (names : Naming) (declared : LifetimeEnv) (receiver : Option SelfParam) (inputs : List Param) (returned : Option TypeName) (us : List Placed) (n : NumberedSignature)
    → IsNumbered names declared receiver inputs returned us n → n ≡ filled_signature names declared receiver inputs returned us (numbers_of n)
signature_is_filled names declared receiver inputs returned us n is =
    ap (λ e. record { borrow = n.borrow; own = n.own; params = n.params; output = n.output; lifetimes = e }) is.lifetimes
    ∙ sym (filled_is fill_own (option_map bare_target) receiver_numbers own_refills (λ b o ps out. record { borrow = b; own = o; params = ps; output = out; lifetimes = environment_of (signature_with declared us) })
    n.borrow n.own n.params n.output _ _ _ _ is.borrow is.own is.params is.output)

pub trait_method_is_filled : (names : Naming) (method : TraitMethod) (n : NumberedTraitMethod) → IsNumberedTraitMethod names method n → n ≡ filled_trait_method names method (trait_numbers_of n)
trait_method_is_filled names method n is =
    ap (λ e. record { borrow = n.borrow; own = n.own; params = n.params; output = n.output; lifetimes = e }) is.lifetimes
    ∙ sym (filled_is fill_trait_own (option_map bare_trait) trait_receiver_numbers trait_own_refills (λ b o ps out. record { borrow = b; own = o; params = ps; output = out; lifetimes = environment_of (signature_with method.lifetimes (trait_method_uses names method)) })
    n.borrow n.own n.params n.output _ _ _ _ is.borrow is.own is.params is.output)

pub fields_are_filled : (names : Naming) (item : Struct) (types : List NumberedType) → AreNumberedFields names item types → types ≡ filled_fields names item (numbers_of_each types)
fields_are_filled names item types are =
    sym (ap (λ p. p.0) (ap (fill_each (map fill_type (map (λ field. shape names field.ty) item.fields))) (none_left (numbers_of_each types))
    ∙ refilled (λ ts. fill_each (map fill_type ts)) (map bare) numbers_of_each types_refill _ types [] are.shapes))
