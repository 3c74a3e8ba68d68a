-- What is wrong in parameters. The parameters and the return of a callback are looked into.
use Rattle.std.specs.Prelude.{List, [], ◌++◌, not, ◌&&◌, ◌||◌}
use Rattle.std.specs.List.{flat_map}
use Rattle.hir_backends.specs.declared.support.BackendAttrSupport.{BackendAttrSupport}
use Rattle.hir_config.specs.declared.config.LoweringConfig.{LoweringConfig}
use Rattle.hir_number.specs.declared.numbered.NumberedType.{NumberedType, out-NumberedType}
use Rattle.hir_number.specs.declared.numbered.NumberedType.TheOpen.{NumberedType-F}
use Rattle.hir_reports.specs.declared.rule.Rule.TheVariants as rule
use Rattle.bridge_order.specs.declared.catalog.Catalog.{Catalog}
use Rattle.bridge_rules.specs.declared.position.Position.TheVariants.{Param, CallbackParam, CallbackReturn}
use Rattle.bridge_grid.specs.declared.fault.TypeFault.{TypeFault}
use Rattle.bridge_grid.specs.declared.fault.TypeFault.TheVariants.{Broken}
use Rattle.bridge_grid.specs.declared.part.Part.TheVariants.{Whole}
use Rattle.bridge_grid.specs.Asked.{told_if}
use Rattle.bridge_grid.specs.Carrying.{carries, is_slice}
use Rattle.bridge_grid.specs.Faults.{or_inside, type_faults}
use Rattle.bridge_grid.specs.Returns.{returned_faults}

-- what a callback takes isn't for longer than the call: but for slices it has no lifetime other than 'static,
-- unless that is allowed
abbrev pub reference_faults : LoweringConfig → NumberedType → List TypeFault
reference_faults config ty = told_if
    (not (config.unsafe_references_in_callbacks || is_slice ty) && carries ty) (Broken rule.CallbackReference)

-- a parameter of a callback or of a trait's method
abbrev pub callback_param_faults : BackendAttrSupport → LoweringConfig → Catalog → NumberedType → List TypeFault
callback_param_faults support config catalog ty = type_faults support catalog CallbackParam Whole ty
    ++ reference_faults config ty

-- a callback
abbrev pub callback_faults : BackendAttrSupport → LoweringConfig → Catalog → List NumberedType → NumberedType
    → List TypeFault
callback_faults support config catalog inputs output = flat_map
    (callback_param_faults support config catalog) inputs
    ++ returned_faults support catalog CallbackReturn output

abbrev pub level_in_param : BackendAttrSupport → LoweringConfig → Catalog → NumberedType-F NumberedType
    → List TypeFault
level_in_param support config catalog (NumberedType-F.Function inputs output m) =
    callback_faults support config catalog inputs output
level_in_param support config catalog _ = []

abbrev pub in_param_faults : BackendAttrSupport → LoweringConfig → Catalog → NumberedType → List TypeFault
in_param_faults support config catalog ty = level_in_param support config catalog (out-NumberedType ty)

-- a parameter of a method or a function
abbrev pub param_faults : BackendAttrSupport → LoweringConfig → Catalog → NumberedType → List TypeFault
param_faults support config catalog ty = or_inside (type_faults support catalog Param Whole ty)
    (in_param_faults support config catalog ty)
