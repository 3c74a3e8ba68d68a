-- What is told of the types that callables and methods of traits take and return is what breaks a rule.
use Rattle.std.proofs.Common.{◌≡◌, ◌⊎◌, inl, inr, ◌++◌, Bool, refl, sym, subst}
use Rattle.std.specs.List.{Contains, flat_map}
use Rattle.bridge_telling.specs.Telling.{TellsExactly}
use Rattle.bridge_telling.proofs.ExactLemmas.{exactly_as, exactly_both, exactly_each}
use Rattle.hir_context.specs.declared.parts.Definitions.{Definitions}
use Rattle.hir_definitions.specs.declared.methods.Method.{Method}
use Rattle.hir_definitions.specs.declared.methods.Param.{Param}
use Rattle.hir_reports.specs.Texts.{plain_error}
use Rattle.hir_reports.specs.declared.report.LoweringError.{LoweringError}
use Rattle.hir_reports.specs.declared.rule.Rule.TheVariants as rule
use Rattle.hir_types.specs.Named.{ReturnedType}
use Rattle.hir_types.specs.declared.callbacks.Callback.{Callback as HeldCallback}
use Rattle.hir_types.specs.declared.callbacks.CallbackParam.{CallbackParam}
use Rattle.hir_validation.specs.CallbackReturns.{callback_errors}
use Rattle.hir_validation.specs.LoweredSignatureBreaks.{LoweredSignatureBreaks, LoweredTraitMethodBreaks}
use Rattle.hir_validation.specs.Signatures.{called_errors, param_errors, returned_errors, signature_errors, lowered_trait_method_errors, lowered_trait_param_errors, types_returned}
use Rattle.hir_validation.specs.VisitedBreaks.{VisitedBreaks}
use Rattle.hir_validation.specs.WholeTypes.{CalledType, called_whole, param_whole, returned_whole}
use Rattle.hir_validation.specs.rules.CallbackReturn.{CallbackReturn}
use Rattle.hir_validation.proofs.CallbackLemmas.{callback_exactly}
use Rattle.hir_validation.proofs.VisitedLemmas.{visited_exactly}

module _ (must_fail : Bool) (defs : Definitions) where
  abbrev OfParam : Param → LoweringError → Type 0
  OfParam p e = VisitedBreaks must_fail defs (param_whole p.ty) e

  abbrev OfReturned : ReturnedType → LoweringError → Type 0
  OfReturned ty e = VisitedBreaks must_fail defs (returned_whole ty) e

  abbrev OfTaken : CallbackParam → LoweringError → Type 0
  OfTaken p e = OfReturned p.ty e

  abbrev OfCalled : CalledType → LoweringError → Type 0
  OfCalled ty e = VisitedBreaks must_fail defs (called_whole ty) e

  -- ---- methods and functions

  module _ (method : Method) where
    abbrev Params : LoweringError → Type 0
    Params e = (p : Param) × (Contains method.params p × OfParam p e)

    abbrev Outputs : LoweringError → Type 0
    Outputs e = (ty : ReturnedType) × (Contains (types_returned method.output) ty × OfReturned ty e)

    signature_breaks : (e : LoweringError) → Params e ⊎ Outputs e → LoweredSignatureBreaks must_fail defs method e
    signature_breaks e h = elim h [ inl p ↦ LoweredSignatureBreaks.param p.0 p.1.0 p.1.1 | inr t ↦ LoweredSignatureBreaks.returned t.0 t.1.0 t.1.1 ]

    of_signature : (e : LoweringError) → LoweredSignatureBreaks must_fail defs method e → Params e ⊎ Outputs e
    of_signature e (LoweredSignatureBreaks.param p has b) = inl (p, (has, b))
    of_signature e (LoweredSignatureBreaks.returned ty has b) = inr (ty, (has, b))

    pub signature_exactly : TellsExactly (signature_errors must_fail defs method) (LoweredSignatureBreaks must_fail defs method)
    unfolding signature_errors
    signature_exactly =
        let params = flat_map (param_errors must_fail defs) method.params in
        let outputs = flat_map (returned_errors must_fail defs) (types_returned method.output) in
        exactly_as (params ++ outputs) (λ e. Params e ⊎ Outputs e) (LoweredSignatureBreaks must_fail defs method) (λ e. (λ h. signature_breaks e h, λ b. of_signature e b))
        (exactly_both params outputs Params Outputs
        (exactly_each (param_errors must_fail defs) OfParam (λ p. visited_exactly must_fail defs (param_whole p.ty)) method.params)
        (exactly_each (returned_errors must_fail defs) OfReturned (λ ty. visited_exactly must_fail defs (returned_whole ty)) (types_returned method.output)))

  -- ---- methods of traits

  module _ (method : HeldCallback) where
    abbrev Taken : LoweringError → Type 0
    Taken e = (p : CallbackParam) × (Contains method.params p × OfTaken p e)

    abbrev Given : LoweringError → Type 0
    Given e = (ty : CalledType) × (Contains (types_returned method.output) ty × OfCalled ty e)

    abbrev Failing : LoweringError → Type 0
    Failing e = CallbackReturn must_fail defs method.output × (e ≡ plain_error rule.CallbackReturn)

    trait_breaks : (e : LoweringError) → Taken e ⊎ (Given e ⊎ Failing e) → LoweredTraitMethodBreaks must_fail defs method e
    trait_breaks e h = elim h [
      | inl p ↦ LoweredTraitMethodBreaks.param p.0 e p.1.0 p.1.1
      | inr r ↦ elim r [
        | inl t ↦ LoweredTraitMethodBreaks.returned t.0 e t.1.0 t.1.1
        | inr f ↦ subst (LoweredTraitMethodBreaks must_fail defs method) (sym f.1) (LoweredTraitMethodBreaks.callback_return f.0)
      ]
    ]

    of_trait : (e : LoweringError) → LoweredTraitMethodBreaks must_fail defs method e → Taken e ⊎ (Given e ⊎ Failing e)
    of_trait _ (LoweredTraitMethodBreaks.param p e has b) = inl (p, (has, b))
    of_trait _ (LoweredTraitMethodBreaks.returned ty e has b) = inr (inl (ty, (has, b)))
    of_trait _ (LoweredTraitMethodBreaks.callback_return b) = inr (inr (b, refl))

    pub trait_method_exactly : TellsExactly (lowered_trait_method_errors must_fail defs method) (LoweredTraitMethodBreaks must_fail defs method)
    unfolding lowered_trait_method_errors
    trait_method_exactly =
        let taken = flat_map (lowered_trait_param_errors must_fail defs) method.params in
        let given = flat_map (called_errors must_fail defs) (types_returned method.output) in
        let failing = callback_errors must_fail defs method.output in
        exactly_as (taken ++ (given ++ failing)) (λ e. Taken e ⊎ (Given e ⊎ Failing e)) (LoweredTraitMethodBreaks must_fail defs method)
        (λ e. (λ h. trait_breaks e h, λ b. of_trait e b))
        (exactly_both taken (given ++ failing) Taken (λ e. Given e ⊎ Failing e)
        (exactly_each (lowered_trait_param_errors must_fail defs) OfTaken (λ p. visited_exactly must_fail defs (returned_whole p.ty)) method.params)
        (exactly_both given failing Given Failing
        (exactly_each (called_errors must_fail defs) OfCalled (λ ty. visited_exactly must_fail defs (called_whole ty)) (types_returned method.output))
        (callback_exactly must_fail defs method.output)))
