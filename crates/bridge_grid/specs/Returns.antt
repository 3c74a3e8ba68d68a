-- What is wrong in what is returned, by methods and functions or by callbacks and traits' methods.
use Rattle.std.specs.Prelude.{List, [], ◌∷◌, ◌++◌, Bool, true, false, if◌then◌else◌}
use Rattle.bridge_decl.specs.declared.types.StdlibOrDiplomat.TheVariants.{Stdlib}
use Rattle.hir_backends.specs.declared.support.BackendAttrSupport.{BackendAttrSupport}
use Rattle.hir_number.specs.declared.numbered.NumberedType.{NumberedType, out-NumberedType}
use Rattle.hir_number.specs.declared.numbered.NumberedType.TheOpen.{NumberedType-F}
use Rattle.hir_reports.specs.declared.rule.Rule.TheVariants as rule
use Rattle.bridge_order.specs.declared.catalog.Catalog.{Catalog}
use Rattle.bridge_rules.specs.declared.position.Position.{Position}
use Rattle.bridge_grid.specs.declared.fault.TypeFault.{TypeFault}
use Rattle.bridge_grid.specs.declared.fault.TypeFault.TheVariants.{Broken}
use Rattle.bridge_grid.specs.declared.part.Part.{Part}
use Rattle.bridge_grid.specs.declared.part.Part.TheVariants.{Whole, Inside, Error}
use Rattle.bridge_grid.specs.Faults.{type_faults}

abbrev pub level_is_pointer : NumberedType-F NumberedType → Bool
level_is_pointer (NumberedType-F.Reference l m t) = true
level_is_pointer (NumberedType-F.Box t) = true
level_is_pointer _ = false

-- a reference or a box
abbrev pub is_pointer : NumberedType → Bool
is_pointer ty = level_is_pointer (out-NumberedType ty)

abbrev pub level_result_part : BackendAttrSupport → Catalog → Position → Part → NumberedType
    → NumberedType-F NumberedType → List TypeFault
level_result_part support catalog at part ty NumberedType-F.Unit = []
level_result_part support catalog at part ty (NumberedType-F.Option t Stdlib) =
    if is_pointer t then type_faults support catalog at part ty else Broken rule.StdOptionPlace ∷ []
level_result_part support catalog at part ty _ = type_faults support catalog at part ty

-- a part of a result: the standard library's option is only of a reference or a box
abbrev pub result_part_faults : BackendAttrSupport → Catalog → Position → Part → NumberedType → List TypeFault
result_part_faults support catalog at part ty = level_result_part support catalog at part ty
    (out-NumberedType ty)

abbrev pub level_returned_option : BackendAttrSupport → Catalog → Position → NumberedType → NumberedType
    → NumberedType-F NumberedType → List TypeFault
level_returned_option support catalog at ty inner NumberedType-F.Unit = []
level_returned_option support catalog at ty inner (NumberedType-F.Reference l m t) = type_faults support catalog at Whole ty
level_returned_option support catalog at ty inner (NumberedType-F.Box t) = type_faults support catalog at Whole ty
level_returned_option support catalog at ty inner _ = type_faults support catalog at Inside inner

-- an option that is returned: of a reference or a box it is a shape of the table, else its inside is
abbrev pub returned_option_faults : BackendAttrSupport → Catalog → Position → NumberedType → NumberedType
    → List TypeFault
returned_option_faults support catalog at ty inner = level_returned_option support catalog at ty inner
    (out-NumberedType inner)

abbrev pub level_returned : BackendAttrSupport → Catalog → Position → NumberedType
    → NumberedType-F NumberedType → List TypeFault
level_returned support catalog at ty NumberedType-F.Unit = []
level_returned support catalog at ty (NumberedType-F.Option t d) = returned_option_faults support catalog at ty t
level_returned support catalog at ty (NumberedType-F.Result t e d) =
    result_part_faults support catalog at Inside t ++ result_part_faults support catalog at Error e
level_returned support catalog at ty _ = type_faults support catalog at Whole ty

-- what is returned
abbrev pub returned_faults : BackendAttrSupport → Catalog → Position → NumberedType → List TypeFault
returned_faults support catalog at ty = level_returned support catalog at ty (out-NumberedType ty)
