-- Which rules a type breaks where it stands.
use Rattle.std.specs.Prelude.{◌≡◌, ◌⊎◌, false, Option, Some, None}
use Rattle.hir_backends.specs.declared.support.BackendAttrSupport.{BackendAttrSupport}
use Rattle.hir_backends.specs.declared.support.flag.SupportFlag.{SupportFlag}
use Rattle.hir_backends.specs.Support.{flag_on}
use Rattle.hir_number.specs.declared.numbered.NumberedType.{NumberedType}
use Rattle.hir_reports.specs.declared.rule.Rule.TheVariants as rule
use Rattle.bridge_order.specs.declared.catalog.Catalog.{Catalog}
use Rattle.bridge_rules.specs.declared.position.Position.{Position}
use Rattle.bridge_rules.specs.declared.shape.Shape.{Shape}
use Rattle.bridge_rules.specs.Shapes.{shape_of}
use Rattle.bridge_grid.specs.declared.fault.TypeFault.{TypeFault}
use Rattle.bridge_grid.specs.declared.fault.TypeFault.TheVariants.{Broken, Denied}
use Rattle.bridge_grid.specs.declared.part.Part.{Part}
use Rattle.bridge_grid.specs.Faults.{part_inside, shape_inside}
use Rattle.bridge_grid.specs.rules.OrderingMisplaced.{OrderingMisplaced}
use Rattle.bridge_grid.specs.rules.ZeroSize.{ZeroSize}
use Rattle.bridge_grid.specs.rules.OutStructInput.{OutStructInput}
use Rattle.bridge_grid.specs.rules.OpaqueByValue.{OpaqueByValue}
use Rattle.bridge_grid.specs.rules.MutOpaqueUnmarked.{MutOpaqueUnmarked}
use Rattle.bridge_grid.specs.rules.ReferenceTarget.{ReferenceTarget}
use Rattle.bridge_grid.specs.rules.BoxMisplaced.{BoxMisplaced}
use Rattle.bridge_grid.specs.rules.OptionShape.{OptionShape}
use Rattle.bridge_grid.specs.rules.StdOptionPlace.{StdOptionPlace}
use Rattle.bridge_grid.specs.rules.DiplomatOptionOpaque.{DiplomatOptionOpaque}
use Rattle.bridge_grid.specs.rules.ResultMisplaced.{ResultMisplaced}
use Rattle.bridge_grid.specs.rules.WriteMisplaced.{WriteMisplaced}
use Rattle.bridge_grid.specs.rules.UnitMisplaced.{UnitMisplaced}
use Rattle.bridge_grid.specs.rules.FunctionMisplaced.{FunctionMisplaced}
use Rattle.bridge_grid.specs.rules.TraitMisplaced.{TraitMisplaced}
use Rattle.bridge_grid.specs.rules.SliceElement.{SliceElement}
use Rattle.bridge_grid.specs.rules.OpaqueSliceShape.{OpaqueSliceShape}
use Rattle.bridge_grid.specs.rules.OwnedSliceMisplaced.{OwnedSliceMisplaced}
use Rattle.bridge_grid.specs.rules.StrsOutput.{StrsOutput}
use Rattle.bridge_grid.specs.rules.CallbackReturnShape.{CallbackReturnShape}
use Rattle.bridge_grid.specs.rules.SupportDenied.{Asks}

-- a shape by itself: one case a rule
pub data ShapeBreaks (support : BackendAttrSupport) (at : Position) (part : Part) (s : Shape) : TypeFault
    → Type 0 where
  ordering_misplaced : OrderingMisplaced at s → ShapeBreaks support at part s (Broken rule.OrderingMisplaced)
  zero_size : ZeroSize at part s → ShapeBreaks support at part s (Broken rule.ZeroSize)
  out_struct_input : OutStructInput at s → ShapeBreaks support at part s (Broken rule.OutStructInput)
  opaque_by_value : OpaqueByValue s → ShapeBreaks support at part s (Broken rule.OpaqueByValue)
  mut_opaque_unmarked : MutOpaqueUnmarked at s → ShapeBreaks support at part s (Broken rule.MutOpaqueUnmarked)
  reference_target : ReferenceTarget at s → ShapeBreaks support at part s (Broken rule.ReferenceTarget)
  box_misplaced : BoxMisplaced at s → ShapeBreaks support at part s (Broken rule.BoxMisplaced)
  option_shape : OptionShape at part s → ShapeBreaks support at part s (Broken rule.OptionShape)
  std_option_place : StdOptionPlace at s → ShapeBreaks support at part s (Broken rule.StdOptionPlace)
  diplomat_option_opaque : DiplomatOptionOpaque at part s
      → ShapeBreaks support at part s (Broken rule.DiplomatOptionOpaque)
  result_misplaced : ResultMisplaced s → ShapeBreaks support at part s (Broken rule.ResultMisplaced)
  write_misplaced : WriteMisplaced s → ShapeBreaks support at part s (Broken rule.WriteMisplaced)
  unit_misplaced : UnitMisplaced s → ShapeBreaks support at part s (Broken rule.UnitMisplaced)
  function_misplaced : FunctionMisplaced at s → ShapeBreaks support at part s (Broken rule.FunctionMisplaced)
  trait_misplaced : TraitMisplaced at s → ShapeBreaks support at part s (Broken rule.TraitMisplaced)
  slice_element : SliceElement s → ShapeBreaks support at part s (Broken rule.SliceElement)
  opaque_slice_shape : OpaqueSliceShape at s → ShapeBreaks support at part s (Broken rule.OpaqueSliceShape)
  owned_slice_misplaced : OwnedSliceMisplaced at part s
      → ShapeBreaks support at part s (Broken rule.OwnedSliceMisplaced)
  strs_output : StrsOutput at s → ShapeBreaks support at part s (Broken rule.StrsOutput)
  callback_return_shape : CallbackReturnShape at s
      → ShapeBreaks support at part s (Broken rule.CallbackReturnShape)
  support_denied : (flag : SupportFlag) → Asks at part s flag → flag_on support flag ≡ false
      → ShapeBreaks support at part s (Denied flag)

abbrev pub OptionBreaks : BackendAttrSupport → Position → Part → Option Shape → TypeFault → Type 0
OptionBreaks support at part (Some s) f = ShapeBreaks support at part s f
OptionBreaks support at part None f = ⊥

-- what stands inside is looked into where the shape itself breaks nothing
abbrev pub PartBreaks : BackendAttrSupport → Position → Part → Shape → TypeFault → Type 0
PartBreaks support at part s f = ShapeBreaks support at part s f
    ⊎ (((g : TypeFault) → ¬ ShapeBreaks support at part s g)
    × OptionBreaks support at (part_inside s part) (shape_inside s) f)

-- a part of a type that stands at a position
abbrev pub TypeBreaks : BackendAttrSupport → Catalog → Position → Part → NumberedType → TypeFault → Type 0
TypeBreaks support catalog at part ty f = PartBreaks support at part (shape_of catalog ty) f
