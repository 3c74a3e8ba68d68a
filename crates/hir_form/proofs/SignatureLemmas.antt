-- A signature of which nothing is wrong stands for something.
use Rattle.std.proofs.Common.{◌≡◌, [], ◌++◌, true, Option, Some, None, is_some, refl}
use Rattle.std.specs.Prelude.{ℕ}
use Rattle.std.specs.List.{flat_map}
use Rattle.bridge_decl.specs.declared.types.Mutability.{Mutability}
use Rattle.bridge_decl.specs.declared.types.WriteType.{WriteType}
use Rattle.bridge_grid.specs.Params.{param_faults}
use Rattle.bridge_order.specs.declared.catalog.Catalog.{Catalog}
use Rattle.hir_backends.specs.declared.support.BackendAttrSupport.{BackendAttrSupport}
use Rattle.hir_life.specs.declared.maybe_static.MaybeStatic.{MaybeStatic}
use Rattle.hir_config.specs.declared.config.LoweringConfig.{LoweringConfig}
use Rattle.hir_number.specs.declared.numbered.NumberedType.{NumberedType}
use Rattle.hir_number.specs.declared.numbered.Target.{Target}
use Rattle.hir_number.specs.declared.signature.NumberedSignature.{NumberedSignature}
use Rattle.hir_form.specs.ParamForms.{params_form}
use Rattle.hir_form.specs.SignatureForms.{output_faults, output_form, own_faults, own_form, signature_faults, signature_form, written_faults}
use Rattle.hir_form.proofs.EmptyLemmas.{both_there, left_none, map_given, right_none}
use Rattle.hir_form.proofs.ParamLemmas.{method_return_given, params_given}
use Rattle.hir_form.proofs.ReceiverLemmas.{receiver_given}

own_given : (support : BackendAttrSupport) (catalog : Catalog) (borrow : Option (MaybeStatic ℕ × Mutability)) (own : Option Target)
    → own_faults support catalog borrow own ≡ [] → is_some (own_form catalog borrow own) ≡ true
own_given support catalog borrow (Some target) h = map_given _ _ (receiver_given support catalog borrow target h)
own_given support catalog borrow None h = refl

output_given : (support : BackendAttrSupport) (catalog : Catalog) (written : Option WriteType) (output : Option NumberedType)
    → output_faults support catalog output ≡ [] → is_some (output_form catalog written output) ≡ true
output_given support catalog written (Some ty) h = method_return_given support catalog written ty h
output_given support catalog written None h = refl

pub signature_given : (support : BackendAttrSupport) (config : LoweringConfig) (catalog : Catalog) (written : Option WriteType) (s : NumberedSignature)
    → signature_faults support config catalog written s ≡ [] → is_some (signature_form catalog written s) ≡ true
signature_given support config catalog written s h =
    let own = own_faults support catalog s.borrow s.own in
    let params = flat_map (param_faults support config catalog) s.params in
    let last = output_faults support catalog s.output in
    let after : params ++ (written_faults support written ++ last) ≡ [] = right_none own (params ++ (written_faults support written ++ last)) h in
    both_there _ _ (output_form catalog written s.output)
    (both_there _ (own_form catalog s.borrow s.own) (params_form catalog s.params)
    (own_given support catalog s.borrow s.own (left_none own (params ++ (written_faults support written ++ last)) h))
    (params_given support config catalog s.params (left_none params (written_faults support written ++ last) after)))
    (output_given support catalog written s.output (right_none (written_faults support written) last
    (right_none params (written_faults support written ++ last) after)))
