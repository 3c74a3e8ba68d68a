use Rattle.std.proofs.Common.{◌≡◌, false, take}
use Rattle.std.specs.List.{list_any}
use Rattle.hir_validation.specs.CallbackReturns.{is_ffi_error}
use Rattle.hir_validation.proofs.callbacks.has_ffi_error.Given as goal

abbrev pub invariant-loop-variant : goal.invariant-loop-variant
invariant-loop-variant l = list_any is_ffi_error (take l.variant-index l.variant-items) ≡ false
