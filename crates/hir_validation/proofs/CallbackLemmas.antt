-- What is told of what a callback gives back is what breaks the rule.
use Rattle.std.proofs.Common.{◌≡◌, ℕ, Bool, true, Some, slice_get, refl, ap, ◌∙◌}
use Rattle.std.specs.Prelude.{◌&&◌, not}
use Rattle.std.specs.List.{Contains}
use Rattle.bridge_telling.specs.Telling.{TellsExactly}
use Rattle.bridge_telling.proofs.ExactLemmas.{exactly_as, exactly_if}
use Rattle.bridge_telling.proofs.TestLemmas.{and_parts, false_of_not, not_of_false, parts_and, passes_some, some_passes}
use Rattle.hir_context.specs.declared.parts.Definitions.{Definitions}
use Rattle.hir_definitions.specs.declared.definitions.EnumDef.{EnumDef}
use Rattle.hir_definitions.specs.declared.definitions.EnumVariant.{EnumVariant}
use Rattle.hir_reports.specs.Texts.{plain_error}
use Rattle.hir_reports.specs.declared.rule.Rule.TheVariants as rule
use Rattle.hir_types.specs.Returns.{error_of}
use Rattle.hir_validation.specs.CallbackReturns.{callback_errors, called_tells, can_fail, has_ffi_error, is_ffi_error, tells_interface_errors}
use Rattle.hir_validation.specs.WholeTypes.{CallbackOutput, Whole, Primitive, Enum, Opaque, Struct, Slice, Callback, Other, called_whole}
use Rattle.hir_validation.specs.rules.CallbackReturn.{CallbackReturn, CanFail}
use Rattle.hir_validation.proofs.ExactlyLemmas.{false_isnt, isnt, of_such, such_of}

module _ (defs : Definitions) where
  -- the type is an enum with such a variant
  abbrev Tells : Whole → Type 0
  Tells ty =
      (number : ℕ) × ((ty ≡ Enum number) × ((def : EnumDef) × ((slice_get defs.enums.defs number ≡ Some def)
      × ((v : EnumVariant) × (Contains def.variants v × (is_ffi_error v ≡ true))))))

  tells_of : (ty : Whole) → tells_interface_errors defs ty ≡ true → Tells ty
  tells_of (Enum number) h =
      let at = such_of has_ffi_error (slice_get defs.enums.defs number) h in
      let one = some_passes is_ffi_error at.0.variants at.1.1 in
      (number, (refl, (at.0, (at.1.0, (one.0, (one.1.0, one.1.1))))))
  tells_of Primitive h = cc
  tells_of (Opaque number borrow given) h = cc
  tells_of (Struct id held given) h = cc
  tells_of (Slice element) h = cc
  tells_of (Callback output) h = cc
  tells_of Other h = cc

  of_tells : (ty : Whole) → Tells ty → tells_interface_errors defs ty ≡ true
  of_tells ty h =
      let def = h.1.1.0 in
      ap (tells_interface_errors defs) h.1.0
      ∙ of_such has_ffi_error (slice_get defs.enums.defs h.0) def h.1.1.1.0 (passes_some is_ffi_error def.variants h.1.1.1.1.0 h.1.1.1.1.1.0 h.1.1.1.1.1.1)

  fails_of : (output : CallbackOutput) → can_fail defs output ≡ true → CanFail defs output
  fails_of output h =
      let error = such_of (called_tells defs) (error_of output) h in
      let tells = tells_of (called_whole error.0) error.1.1 in
      record {
        error = error.0;
        fails = error.1.0;
        number = tells.0;
        is_enum = tells.1.0;
        def = tells.1.1.0;
        found = tells.1.1.1.0;
        variant = tells.1.1.1.1.0;
        among = tells.1.1.1.1.1.0;
        marked = tells.1.1.1.1.1.1;
      }

  of_fails : (output : CallbackOutput) → CanFail defs output → can_fail defs output ≡ true
  of_fails output f =
      of_such (called_tells defs) (error_of output) f.error f.fails
      (of_tells (called_whole f.error) (f.number, (f.is_enum, (f.def, (f.found, (f.variant, (f.among, f.marked)))))))

module _ (must_fail : Bool) (defs : Definitions) (output : CallbackOutput) where
  abbrev breaks_test : Bool
  breaks_test = must_fail && not (can_fail defs output)

  return_of : breaks_test ≡ true → CallbackReturn must_fail defs output
  return_of h =
      let parts = and_parts must_fail (not (can_fail defs output)) h in
      record { required = parts.0; can_not = λ f. false_isnt (can_fail defs output) (false_of_not (can_fail defs output) parts.1) (of_fails defs output f) }

  of_return : CallbackReturn must_fail defs output → breaks_test ≡ true
  of_return b =
      parts_and must_fail (not (can_fail defs output)) b.required
      (not_of_false (can_fail defs output) (isnt (can_fail defs output) (λ t. b.can_not (fails_of defs output t))))

  pub callback_exactly : TellsExactly (callback_errors must_fail defs output) (λ e. CallbackReturn must_fail defs output × (e ≡ plain_error rule.CallbackReturn))
  callback_exactly =
      exactly_as (callback_errors must_fail defs output) (λ e. (breaks_test ≡ true) × (e ≡ plain_error rule.CallbackReturn))
      (λ e. CallbackReturn must_fail defs output × (e ≡ plain_error rule.CallbackReturn)) (λ e. (λ h. (return_of h.0, h.1), λ b. (of_return b.0, b.1)))
      (exactly_if breaks_test (plain_error rule.CallbackReturn))
