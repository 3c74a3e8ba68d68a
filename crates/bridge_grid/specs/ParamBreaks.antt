-- Which rules parameters break.
use Rattle.std.specs.Prelude.{◌≡◌, ◌⊎◌, List}
use Rattle.std.specs.List.{Contains}
use Rattle.hir_backends.specs.declared.support.BackendAttrSupport.{BackendAttrSupport}
use Rattle.hir_config.specs.declared.config.LoweringConfig.{LoweringConfig}
use Rattle.hir_number.specs.declared.numbered.NumberedType.{NumberedType, out-NumberedType}
use Rattle.hir_number.specs.declared.numbered.NumberedType.TheOpen.{NumberedType-F}
use Rattle.hir_reports.specs.declared.rule.Rule.TheVariants as rule
use Rattle.bridge_order.specs.declared.catalog.Catalog.{Catalog}
use Rattle.bridge_rules.specs.declared.position.Position.TheVariants.{Param, CallbackParam, CallbackReturn}
use Rattle.bridge_grid.specs.declared.fault.TypeFault.{TypeFault}
use Rattle.bridge_grid.specs.declared.fault.TypeFault.TheVariants.{Broken}
use Rattle.bridge_grid.specs.declared.part.Part.TheVariants.{Whole}
use Rattle.bridge_grid.specs.Breaks.{TypeBreaks}
use Rattle.bridge_grid.specs.ReturnBreaks.{ReturnBreaks}
use Rattle.bridge_grid.specs.rules.CallbackReference.{CallbackReference}

-- a parameter of a callback or of a trait's method
abbrev pub CallbackParamBreaks : BackendAttrSupport → LoweringConfig → Catalog → NumberedType → TypeFault
    → Type 0
CallbackParamBreaks support config catalog ty f = TypeBreaks support catalog CallbackParam Whole ty f
    ⊎ (CallbackReference config ty × (f ≡ Broken rule.CallbackReference))

-- a callback: one of its parameters, or what it returns
abbrev pub CallbackBreaks : BackendAttrSupport → LoweringConfig → Catalog → List NumberedType → NumberedType
    → TypeFault → Type 0
CallbackBreaks support config catalog inputs output f =
    ((ty : NumberedType) × (Contains inputs ty × CallbackParamBreaks support config catalog ty f))
    ⊎ ReturnBreaks support catalog CallbackReturn output f

abbrev pub LevelInParamBreaks : BackendAttrSupport → LoweringConfig → Catalog → NumberedType-F NumberedType
    → TypeFault → Type 0
LevelInParamBreaks support config catalog (NumberedType-F.Function inputs output m) f =
    CallbackBreaks support config catalog inputs output f
LevelInParamBreaks support config catalog _ f = ⊥

-- a parameter of a method or a function; a callback is looked into where it isn't refused as a whole
abbrev pub ParamBreaks : BackendAttrSupport → LoweringConfig → Catalog → NumberedType → TypeFault → Type 0
ParamBreaks support config catalog ty f = TypeBreaks support catalog Param Whole ty f
    ⊎ (((g : TypeFault) → ¬ TypeBreaks support catalog Param Whole ty g)
    × LevelInParamBreaks support config catalog (out-NumberedType ty) f)
