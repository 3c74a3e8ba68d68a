use Rattle.std.proofs.Common.{subst, refl}
use Rattle.std.specs.List.{AllZip}
use Rattle.bridge_borrow.specs.inside.Returned.{IsListedUnder}
use Rattle.bridge_borrow.proofs.Reporting.{is_reported, keeps_named}
use Rattle.bridge_borrow.proofs.callables.report_of.Goals as goal

pub returned_lifetimes-requires : goal.returned_lifetimes-requires
returned_lifetimes-requires c =
    keeps_named c.args.tcx.now.definitions c.fitting_method-method.result.now c.in_ok-params.params c.in_ok-lifetimes.lifetimes.keys c.in_ok-params.ensures.keys
    c.in_ok-params.ensures.starts c.in_ok-lifetimes.ensures

pub returns : goal.returns
returns c =
    let defs = c.args.tcx.now.definitions in
    let m = c.fitting_method-method.result.now in
    is_reported defs c.args.id.now m m.abi_name c.in_ok-lifetimes.lifetimes.keys (record { callable = c.args.id.now; returned = c.in_ok-returned_lifetimes.field-0 }) refl
    c.in_ok-lifetimes.ensures
    (subst (λ leaves. AllZip (IsListedUnder m leaves) c.in_ok-returned_lifetimes.field-0 c.in_ok-lifetimes.lifetimes.keys) c.in_ok-fields.ensures
    c.in_ok-returned_lifetimes.ensures) c.fitting_method-method.ensures.there
