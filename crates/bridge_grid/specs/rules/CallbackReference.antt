-- CallbackReference: but for slices, what a callback takes has no lifetime other than 'static, unless that is allowed.
use Rattle.std.specs.Prelude.{◌≡◌, true, false}
use Rattle.hir_config.specs.declared.config.LoweringConfig.{LoweringConfig}
use Rattle.hir_number.specs.declared.numbered.NumberedType.{NumberedType}
use Rattle.bridge_grid.specs.Carrying.{carries, is_slice}

abbrev pub CallbackReference : LoweringConfig → NumberedType → Type 0
CallbackReference config ty = ((config.unsafe_references_in_callbacks ≡ false) × (is_slice ty ≡ false)) ×
    (carries ty ≡ true)
