-- What the types of a declaration come to fits, where its numbered signature does.
use Rattle.std.proofs.Common.{◌≡◌, List, [], ◌∷◌, Result, Ok, Err, refl}
use Rattle.bridge_ast.specs.declared.place.ItemPlace.{ItemPlace}
use Rattle.bridge_decl.specs.declared.functions.Function.{Function}
use Rattle.bridge_decl.specs.declared.methods.Method.{Method}
use Rattle.bridge_decl.specs.declared.traits.TraitMethod.{TraitMethod}
use Rattle.bridge_order.specs.declared.catalog.Catalog.{Catalog}
use Rattle.hir_fitting.specs.declared.census.Census.{Census}
use Rattle.hir_heads.specs.Heads.{lifetime_errors}
use Rattle.hir_number.specs.Breaches.{Broken, function_breaches, method_breaches, trait_method_breaches}
use Rattle.hir_number.specs.Naming.{Naming}
use Rattle.hir_number.specs.Numbers.{signature_numbers}
use Rattle.hir_number.specs.Shapes.{NumberLists}
use Rattle.hir_number.specs.Signatures.{function_uses, method_uses, trait_method_uses}
use Rattle.hir_number.specs.declared.fault.NumberFault.{NumberFault}
use Rattle.hir_number.specs.declared.signature.NumberedSignature.{NumberedSignature}
use Rattle.hir_number.specs.declared.trait_methods.NumberedTraitMethod.{NumberedTraitMethod}
use Rattle.hir_reports.specs.declared.report.LoweringError.{LoweringError}
use Rattle.hir_signatures.specs.Stages.{Stage}
use Rattle.hir_stages.specs.Given.{breached_stage, function_stage, method_stage, named_stage, numbered_stage}
use Rattle.hir_stages.specs.Numbering.{filled_function, filled_method, filled_trait_method}
use Rattle.hir_traits.specs.TraitStages.{TraitMethodStage, trait_breached_stage, trait_method_stage, trait_named_stage, trait_numbered_stage}
use Rattle.hir_fitting_forms.specs.Naming.{NamesFit}
use Rattle.hir_fitting_forms.specs.NumberedFits.{SignatureFits, StageFits, TraitMethodFits, TraitStageFits}
use Rattle.hir_fitting_forms.proofs.Declaring.{function_numbered, method_numbered, trait_method_numbered}

module _ (census : Census) (catalog : Catalog) where
  numbered_fits : (filled : NumberLists → NumberedSignature) (r : Result NumberLists NumberFault) → ((nss : NumberLists) → r ≡ Ok nss → SignatureFits census catalog (filled nss))
      → StageFits census catalog (numbered_stage filled r)
  numbered_fits filled (Ok nss) h = h nss refl
  numbered_fits filled (Err fault) h = tt

  named_fits : (stage : Stage) (es : List LoweringError) → StageFits census catalog stage → StageFits census catalog (named_stage stage es)
  named_fits stage [] h = h
  named_fits stage (e ∷ es) h = tt

  breached_fits : (stage : Stage) (bs : List Broken) → (bs ≡ [] → StageFits census catalog stage) → StageFits census catalog (breached_stage stage bs)
  breached_fits stage [] h = h refl
  breached_fits stage (b ∷ bs) h = tt

  staged : (bs : List Broken) (es : List LoweringError) (filled : NumberLists → NumberedSignature) (r : Result NumberLists NumberFault)
      → (bs ≡ [] → (nss : NumberLists) → r ≡ Ok nss → SignatureFits census catalog (filled nss)) → StageFits census catalog (breached_stage (named_stage (numbered_stage filled r) es) bs)
  staged bs es filled r h = breached_fits (named_stage (numbered_stage filled r) es) bs (λ none. named_fits (numbered_stage filled r) es (numbered_fits filled r (h none)))

  -- so of a trait's method
  trait_numbered_fits : (filled : NumberLists → NumberedTraitMethod) (r : Result NumberLists NumberFault) → ((nss : NumberLists) → r ≡ Ok nss → TraitMethodFits census catalog (filled nss))
      → TraitStageFits census catalog (trait_numbered_stage filled r)
  trait_numbered_fits filled (Ok nss) h = h nss refl
  trait_numbered_fits filled (Err fault) h = tt

  trait_named_fits : (stage : TraitMethodStage) (es : List LoweringError) → TraitStageFits census catalog stage → TraitStageFits census catalog (trait_named_stage stage es)
  trait_named_fits stage [] h = h
  trait_named_fits stage (e ∷ es) h = tt

  trait_breached_fits : (stage : TraitMethodStage) (bs : List Broken) → (bs ≡ [] → TraitStageFits census catalog stage) → TraitStageFits census catalog (trait_breached_stage stage bs)
  trait_breached_fits stage [] h = h refl
  trait_breached_fits stage (b ∷ bs) h = tt

  module _ (names : Naming) (fit : NamesFit census catalog names) where
    pub method_staged : (owner : ItemPlace) (method : Method) → StageFits census catalog (method_stage names owner method)
    method_staged owner method =
        staged (method_breaches names owner method) (lifetime_errors method.lifetime_env) (filled_method names method) (signature_numbers method.lifetime_env (method_uses names method))
        (λ none nss is. method_numbered census catalog names fit owner method nss none is)

    pub function_staged : (function : Function) → StageFits census catalog (function_stage names function)
    function_staged function =
        staged (function_breaches names function) (lifetime_errors function.lifetimes) (filled_function names function) (signature_numbers function.lifetimes (function_uses names function))
        (λ none nss is. function_numbered census catalog names fit function nss none is)

    pub trait_method_staged : (owner : ItemPlace) (method : TraitMethod) → TraitStageFits census catalog (trait_method_stage names owner method)
    trait_method_staged owner method =
        trait_breached_fits _ (trait_method_breaches names owner method) (λ none. trait_named_fits _ (lifetime_errors method.lifetimes)
        (trait_numbered_fits (filled_trait_method names method) (signature_numbers method.lifetimes (trait_method_uses names method))
        (λ nss is. trait_method_numbered census catalog names fit owner method nss none is)))
