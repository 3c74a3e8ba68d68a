-- What is told nothing of has a form.
use Rattle.std.proofs.Common.{◌≡◌, List, [], ◌∷◌, length, Option, true, false, Ok, Err, Result, is_some, refl}
use Rattle.std.specs.Prelude.{IfErr, nat_lt, if◌then◌else◌}
use Rattle.bridge_ast.specs.declared.place.ItemPlace.{ItemPlace}
use Rattle.bridge_decl.specs.declared.functions.Function.{Function}
use Rattle.bridge_decl.specs.declared.lifetimes.LifetimeEnv.{LifetimeEnv}
use Rattle.bridge_decl.specs.declared.methods.Method.{Method}
use Rattle.bridge_decl.specs.declared.types.WriteType.{WriteType}
use Rattle.bridge_grid.specs.declared.fault.TypeFault.{TypeFault}
use Rattle.bridge_order.specs.declared.catalog.Catalog.{Catalog}
use Rattle.hir_backends.specs.declared.support.BackendAttrSupport.{BackendAttrSupport}
use Rattle.hir_elide.specs.Numbering.{most}
use Rattle.hir_elide.specs.declared.fault.ElideFault.TheVariants as elide
use Rattle.hir_form.proofs.EmptyLemmas.{map_given}
use Rattle.hir_form.proofs.SignatureLemmas.{signature_given}
use Rattle.hir_form.specs.SignatureForms.{signature_faults, signature_form}
use Rattle.hir_form.specs.declared.signatures.LoweredSignature.{LoweredSignature}
use Rattle.hir_heads.specs.Heads.{lifetime_errors}
use Rattle.hir_config.specs.declared.config.LoweringConfig.{LoweringConfig}
use Rattle.hir_number.proofs.ElisionLemmas.{function_elided, method_elided}
use Rattle.hir_number.proofs.FaultLemmas.{FineBy, IsLowered, answers_lowered}
use Rattle.hir_number.specs.Breaches.{Broken, function_breaches, method_breaches}
use Rattle.hir_number.specs.Faults.{FaultTold, IsOfElision}
use Rattle.hir_number.specs.Naming.{Naming}
use Rattle.hir_number.specs.Numbers.{all_answers, answers, signature_numbers}
use Rattle.hir_number.specs.Shapes.{NumberLists}
use Rattle.hir_number.specs.Signatures.{Placed, function_uses, method_uses}
use Rattle.hir_number.specs.declared.fault.NumberFault.{NumberFault}
use Rattle.hir_number.specs.declared.fault.NumberFault.TheVariants as fault
use Rattle.hir_number.specs.declared.signature.NumberedSignature.{NumberedSignature}
use Rattle.hir_reports.specs.declared.report.LoweringError.{LoweringError}
use Rattle.hir_signatures.specs.Errors.{number_errors}
use Rattle.hir_signatures.specs.Stages.{stage_errors, types_form}
use Rattle.hir_signatures.specs.declared.signatures.SignatureTypes.{SignatureTypes}
use Rattle.hir_stages.specs.Given.{breached_stage, named_stage, numbered_stage}
use Rattle.hir_stages.specs.Numbering.{filled_function, filled_method}
use Rattle.hir_methods.proofs.StageLemmas.{unfaulted}
use Rattle.hir_methods.specs.Types.{function_type_errors, function_types, method_type_errors, method_types, stage_form}
use Rattle.hir_methods.specs.Writers.{trailing_writer}

-- what numbers are refused for is a fault of uses
pub whole_lowered : (declared : LifetimeEnv) (us : List Placed) → FineBy IsLowered (signature_numbers declared us)
whole_lowered declared us =
    elim (nat_lt most (length declared.nodes)) as (λ b. FineBy IsLowered (if b then Err (fault.Elide elide.TooManyLifetimes) else all_answers (answers declared us)))
    [ true ↦ tt | false ↦ answers_lowered declared us ]

pub tells_itself : {A : Type 0} (declared : LifetimeEnv) (q : Result A NumberFault) → FineBy IsLowered q → IfErr q (λ e. FaultTold declared e q)
tells_itself declared (Ok x) fine = tt
tells_itself declared (Err fault.NoMemory) fine = tt
tells_itself declared (Err fault.UnresolvedPath) fine = refl
tells_itself declared (Err fault.LifetimeArity) fine = refl
tells_itself declared (Err (fault.Elide elide.LifetimeUnknown)) fine = refl
tells_itself declared (Err (fault.Elide elide.AnonymousInDefinition)) fine = refl
tells_itself declared (Err (fault.Elide elide.ElisionNoSource)) fine = refl
tells_itself declared (Err (fault.Elide elide.ElisionAmbiguous)) fine = refl
tells_itself declared (Err (fault.Elide elide.TooManyLifetimes)) fine = refl
tells_itself declared (Err (fault.Elide elide.BadIdent)) fine = absurd fine
tells_itself declared (Err (fault.Elide elide.NoMemory)) fine = absurd fine

-- such a fault is told
pub fault_told : (e : NumberFault) → IsLowered e → IsOfElision e → number_errors e ≡ [] → ⊥
fault_told fault.NoMemory lowered of none = lowered
fault_told fault.UnresolvedPath lowered of none = of
fault_told fault.LifetimeArity lowered of none = of
fault_told (fault.Elide elide.LifetimeUnknown) lowered of none = of
fault_told (fault.Elide elide.AnonymousInDefinition) lowered of none = absurd cc
fault_told (fault.Elide elide.ElisionNoSource) lowered of none = absurd cc
fault_told (fault.Elide elide.ElisionAmbiguous) lowered of none = absurd cc
fault_told (fault.Elide elide.TooManyLifetimes) lowered of none = absurd cc
fault_told (fault.Elide elide.BadIdent) lowered of none = lowered
fault_told (fault.Elide elide.NoMemory) lowered of none = lowered

module _ (faults : NumberedSignature → List TypeFault) (form : NumberedSignature → Option SignatureTypes) (fine : (n : NumberedSignature) → faults n ≡ [] → is_some (form n) ≡ true) where
  -- by the numbers
  numbered_formed :
      (bs : List Broken) (filled : NumberLists → NumberedSignature) (q : Result NumberLists NumberFault) → FineBy IsLowered q → IfErr q IsOfElision
      → stage_errors bs faults (numbered_stage filled q) ≡ [] → is_some (stage_form form (numbered_stage filled q)) ≡ true
  numbered_formed bs filled (Ok numbers) lowered of none = fine (filled numbers) (unfaulted (faults (filled numbers)) none)
  numbered_formed bs filled (Err e) lowered of none = absurd (fault_told e lowered of none)

  -- by the names and the breaches
  pub formed :
      (bs : List Broken) (es : List LoweringError) (filled : NumberLists → NumberedSignature) (q : Result NumberLists NumberFault) → FineBy IsLowered q → (bs ≡ [] → IfErr q IsOfElision) → es ≡ []
      → stage_errors bs faults (breached_stage (named_stage (numbered_stage filled q) es) bs) ≡ [] → is_some (stage_form form (breached_stage (named_stage (numbered_stage filled q) es) bs)) ≡ true
  formed (b ∷ bs) es filled q lowered of named none = absurd cc
  formed [] (e ∷ es) filled q lowered of named none = absurd cc
  formed [] [] filled q lowered of named none = numbered_formed [] filled q lowered (of refl) none

-- types with these lifetimes
abbrev with_lifetimes : NumberedSignature → LoweredSignature → SignatureTypes
with_lifetimes n types = record { types = types; lifetimes = n.lifetimes }

module _ (support : BackendAttrSupport) (config : LoweringConfig) (catalog : Catalog) (names : Naming) where
  types_given : (written : Option WriteType) (n : NumberedSignature) → signature_faults support config catalog written n ≡ [] → is_some (types_form catalog written n) ≡ true
  types_given written n none = map_given (with_lifetimes n) (signature_form catalog written n) (signature_given support config catalog written n none)

  pub method_formed :
      (owner : ItemPlace) (method : Method) → lifetime_errors method.lifetime_env ≡ [] → method_type_errors support config catalog names owner method ≡ []
      → is_some (method_types catalog names owner method) ≡ true
  method_formed owner method named none =
      let written = trailing_writer method.params in
      let q = signature_numbers method.lifetime_env (method_uses names method) in
      let lowered = whole_lowered method.lifetime_env (method_uses names method) in
      formed (signature_faults support config catalog written) (types_form catalog written) (types_given written) (method_breaches names owner method)
      (lifetime_errors method.lifetime_env) (filled_method names method) q lowered
      (λ sound. method_elided names owner method q sound (tells_itself method.lifetime_env q lowered)) named none

  pub function_formed :
      (function : Function) → lifetime_errors function.lifetimes ≡ [] → function_type_errors support config catalog names function ≡ []
      → is_some (function_types catalog names function) ≡ true
  function_formed function named none =
      let written = trailing_writer function.params in
      let q = signature_numbers function.lifetimes (function_uses names function) in
      let lowered = whole_lowered function.lifetimes (function_uses names function) in
      formed (signature_faults support config catalog written) (types_form catalog written) (types_given written) (function_breaches names function)
      (lifetime_errors function.lifetimes) (filled_function names function) q lowered
      (λ sound. function_elided names function q sound (tells_itself function.lifetimes q lowered)) named none
