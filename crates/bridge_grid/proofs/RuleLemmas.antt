-- What breaks a rule breaks what the cell asks.
use Rattle.std.proofs.Common.{◌≡◌, inl, inr, false, Some, refl}
use Rattle.bridge_decl.specs.declared.types.Mutability.TheVariants.{Immutable}
use Rattle.bridge_decl.specs.declared.types.StdlibOrDiplomat.{StdlibOrDiplomat}
use Rattle.hir_backends.specs.declared.support.BackendAttrSupport.{BackendAttrSupport}
use Rattle.hir_backends.specs.declared.support.flag.SupportFlag.{SupportFlag}
use Rattle.hir_backends.specs.declared.support.flag.SupportFlag.TheVariants as flag
use Rattle.hir_backends.specs.Support.{flag_on}
use Rattle.hir_reports.specs.declared.rule.Rule.TheVariants as rule
use Rattle.bridge_rules.specs.declared.shape.Element.TheVariants as element
use Rattle.bridge_rules.specs.declared.shape.Value.{Value}
use Rattle.bridge_rules.specs.declared.shape.Value.TheVariants as value
use Rattle.bridge_rules.specs.declared.position.Position.{Position}
use Rattle.bridge_rules.specs.declared.position.Position.TheVariants as at
use Rattle.bridge_rules.specs.declared.shape.Shape.{Shape}
use Rattle.bridge_rules.specs.declared.shape.Shape.TheVariants as shape
use Rattle.bridge_rules.specs.declared.table.Cell.TheVariants as cell
use Rattle.bridge_grid.specs.declared.fault.TypeFault.{TypeFault}
use Rattle.bridge_grid.specs.declared.fault.TypeFault.TheVariants.{Broken, Denied}
use Rattle.bridge_grid.specs.declared.part.Part.{Part}
use Rattle.bridge_rules.specs.Table.{cell_of}
use Rattle.bridge_grid.specs.rules.OrderingMisplaced.{OrderingMisplaced}
use Rattle.bridge_grid.specs.rules.ZeroSize.{ZeroSize, IsEmpty}
use Rattle.bridge_grid.specs.rules.OutStructInput.{OutStructInput}
use Rattle.bridge_grid.specs.rules.OpaqueByValue.{OpaqueByValue}
use Rattle.bridge_grid.specs.rules.MutOpaqueUnmarked.{MutOpaqueUnmarked}
use Rattle.bridge_grid.specs.rules.ReferenceTarget.{ReferenceTarget}
use Rattle.bridge_grid.specs.rules.BoxMisplaced.{BoxMisplaced}
use Rattle.bridge_grid.specs.rules.OptionShape.{OptionShape}
use Rattle.bridge_grid.specs.rules.StdOptionPlace.{StdOptionPlace}
use Rattle.bridge_grid.specs.rules.DiplomatOptionOpaque.{DiplomatOptionOpaque}
use Rattle.bridge_grid.specs.rules.FunctionMisplaced.{FunctionMisplaced}
use Rattle.bridge_grid.specs.rules.TraitMisplaced.{TraitMisplaced}
use Rattle.bridge_grid.specs.rules.SliceElement.{SliceElement}
use Rattle.bridge_grid.specs.rules.OpaqueSliceShape.{OpaqueSliceShape}
use Rattle.bridge_grid.specs.rules.OwnedSliceMisplaced.{OwnedSliceMisplaced}
use Rattle.bridge_grid.specs.rules.StrsOutput.{StrsOutput}
use Rattle.bridge_grid.specs.rules.CallbackReturnShape.{CallbackReturnShape}
use Rattle.bridge_grid.specs.rules.ResultMisplaced.{ResultMisplaced}
use Rattle.bridge_grid.specs.rules.WriteMisplaced.{WriteMisplaced}
use Rattle.bridge_grid.specs.rules.UnitMisplaced.{UnitMisplaced}
use Rattle.bridge_grid.specs.rules.SupportDenied.{Asks}
use Rattle.bridge_grid.specs.Breaks.{ShapeBreaks, ordering_misplaced, zero_size, out_struct_input, opaque_by_value, mut_opaque_unmarked, reference_target, box_misplaced, option_shape, std_option_place, diplomat_option_opaque, result_misplaced, write_misplaced, unit_misplaced, function_misplaced, trait_misplaced, slice_element, opaque_slice_shape, owned_slice_misplaced, strs_output, callback_return_shape, support_denied}
use Rattle.bridge_grid.proofs.CellBreaks.{CellBreaks}
use Rattle.bridge_grid.proofs.WayLemmas.{coming, either_way, going}

ordering_cell : (support : BackendAttrSupport) (part : Part) (at : Position) (s : Shape) → OrderingMisplaced at s → CellBreaks support part (cell_of s at) (Broken rule.OrderingMisplaced)
ordering_cell support part at s OrderingMisplaced.in_field = refl
ordering_cell support part at s OrderingMisplaced.in_parameter = refl
ordering_cell support part at s OrderingMisplaced.from_callback = refl
ordering_cell support part at s OrderingMisplaced.in_out_field = refl

zero_size_cell : (support : BackendAttrSupport) (part : Part) (at : Position) (s : Shape) → ZeroSize at part s → CellBreaks support part (cell_of s at) (Broken rule.ZeroSize)
zero_size_cell support part at _ (ZeroSize.coming_in (IsEmpty.as_struct id) w) = coming (λ c. CellBreaks support part c (Broken rule.ZeroSize)) (cell.Broken rule.ZeroSize) (cell.UnlessInside rule.ZeroSize) at w refl
zero_size_cell support part at _ (ZeroSize.coming_in (IsEmpty.as_out_struct id) w) = coming (λ c. CellBreaks support part c (Broken rule.ZeroSize)) (cell.Broken rule.ZeroSize) (cell.UnlessInside rule.ZeroSize) at w refl
zero_size_cell support part at _ (ZeroSize.going_out (IsEmpty.as_struct id) w is) = going (λ c. CellBreaks support part c (Broken rule.ZeroSize)) (cell.Broken rule.ZeroSize) (cell.UnlessInside rule.ZeroSize) at w (is, refl)
zero_size_cell support part at _ (ZeroSize.going_out (IsEmpty.as_out_struct id) w is) = going (λ c. CellBreaks support part c (Broken rule.ZeroSize)) (cell.Broken rule.ZeroSize) (cell.UnlessInside rule.ZeroSize) at w (is, refl)

out_struct_cell : (support : BackendAttrSupport) (part : Part) (at : Position) (s : Shape) → OutStructInput at s → CellBreaks support part (cell_of s at) (Broken rule.OutStructInput)
out_struct_cell support part _ _ (OutStructInput.by_value at id w) = coming (λ c. CellBreaks support part c (Broken rule.OutStructInput)) (cell.Broken rule.OutStructInput) cell.Fine at w refl
out_struct_cell support part at _ (OutStructInput.by_reference_in_field b id) = refl
out_struct_cell support part at _ (OutStructInput.by_reference_in_parameter b id) = refl

opaque_cell : (support : BackendAttrSupport) (part : Part) (at : Position) (s : Shape) → OpaqueByValue s → CellBreaks support part (cell_of s at) (Broken rule.OpaqueByValue)
opaque_cell support part at s OpaqueByValue.named = refl
opaque_cell support part at _ (OpaqueByValue.element_named b) = either_way (λ c. CellBreaks support part c (Broken rule.OpaqueByValue)) (cell.SliceIn b element.Opaque) (cell.SliceOut b element.Opaque) at (inr refl) (inr refl)

unmarked_cell : (support : BackendAttrSupport) (part : Part) (at : Position) (s : Shape) → MutOpaqueUnmarked at s → CellBreaks support part (cell_of s at) (Broken rule.MutOpaqueUnmarked)
unmarked_cell support part at _ (MutOpaqueUnmarked.reference b id mark w is) = coming (λ c. CellBreaks support part c (Broken rule.MutOpaqueUnmarked)) (cell.Marked b.mutability mark) cell.Fine at w (is, refl)
unmarked_cell support part at _ (MutOpaqueUnmarked.of_slice l b id mark w is) = coming (λ c. CellBreaks support part c (Broken rule.MutOpaqueUnmarked)) (cell.SliceIn l (element.OpaqueReference b id mark)) (cell.SliceOut l (element.OpaqueReference b id mark)) at w (inr (inl (is, refl)))

reference_cell : (support : BackendAttrSupport) (part : Part) (at : Position) (s : Shape) → ReferenceTarget at s → CellBreaks support part (cell_of s at) (Broken rule.ReferenceTarget)
reference_cell support part _ _ (ReferenceTarget.other at) = refl
reference_cell support part at _ (ReferenceTarget.struct_to_callback b id) = refl
reference_cell support part at _ (ReferenceTarget.struct_in_out_field b id) = refl
reference_cell support part at _ (ReferenceTarget.struct_returned b id) = refl
reference_cell support part at _ (ReferenceTarget.out_struct_to_callback b id) = refl
reference_cell support part at _ (ReferenceTarget.out_struct_in_out_field b id) = refl
reference_cell support part at _ (ReferenceTarget.out_struct_returned b id) = refl

box_cell : (support : BackendAttrSupport) (part : Part) (at : Position) (s : Shape) → BoxMisplaced at s → CellBreaks support part (cell_of s at) (Broken rule.BoxMisplaced)
box_cell support part at s BoxMisplaced.other = refl
box_cell support part at _ (BoxMisplaced.coming_in id w) = coming (λ c. CellBreaks support part c (Broken rule.BoxMisplaced)) (cell.Broken rule.BoxMisplaced) cell.Fine at w refl

option_cell : (support : BackendAttrSupport) (part : Part) (at : Position) (s : Shape) → OptionShape at part s → CellBreaks support part (cell_of s at) (Broken rule.OptionShape)
option_cell support _ _ _ (OptionShape.other at part) = refl
option_cell support _ _ _ (OptionShape.other_pointer at part) = refl
option_cell support _ _ _ (OptionShape.strings at part e w) = going (λ c. CellBreaks support part c (Broken rule.OptionShape)) cell.Fine (cell.Broken rule.OptionShape) at w refl
option_cell support _ _ _ (OptionShape.slice at part e w) = going (λ c. CellBreaks support part c (Broken rule.OptionShape)) cell.Inside (cell.Broken rule.OptionShape) at w refl
option_cell support _ at _ (OptionShape.box_in_field part id d) = refl
option_cell support _ at _ (OptionShape.box_in_parameter part id d) = refl
option_cell support _ at _ (OptionShape.box_from_callback part id d isnt) = inr (isnt, refl)

std_option_cell : (support : BackendAttrSupport) (part : Part) (at : Position) (s : Shape) → StdOptionPlace at s → CellBreaks support part (cell_of s at) (Broken rule.StdOptionPlace)
std_option_cell support part at _ (StdOptionPlace.in_field v d is) = inl (is, refl)
std_option_cell support part at _ (StdOptionPlace.in_out_field v d is) = inl (is, refl)

diplomat_option_cell : (support : BackendAttrSupport) (part : Part) (at : Position) (s : Shape) → DiplomatOptionOpaque at part s → CellBreaks support part (cell_of s at) (Broken rule.DiplomatOptionOpaque)
diplomat_option_cell support _ _ _ (DiplomatOptionOpaque.reference at part b id d is) = (is, refl)
diplomat_option_cell support _ _ _ (DiplomatOptionOpaque.element_reference at part l b id d is) = either_way (λ c. CellBreaks support part c (Broken rule.DiplomatOptionOpaque)) (cell.SliceIn l (element.OpaqueOption b id d)) (cell.SliceOut l (element.OpaqueOption b id d)) at (inr (inl (is, refl))) (inr (inl (is, refl)))
diplomat_option_cell support _ at _ (DiplomatOptionOpaque.box_to_callback part id d is) = (is, refl)
diplomat_option_cell support _ at _ (DiplomatOptionOpaque.box_in_out_field part id d is) = (is, refl)
diplomat_option_cell support _ at _ (DiplomatOptionOpaque.box_returned part id d is) = (is, refl)
diplomat_option_cell support _ at _ (DiplomatOptionOpaque.box_from_callback part id d top is) = inl ((top, is), refl)

result_cell : (support : BackendAttrSupport) (part : Part) (at : Position) (s : Shape) → ResultMisplaced s → CellBreaks support part (cell_of s at) (Broken rule.ResultMisplaced)
result_cell support part at s ResultMisplaced.result = refl

write_cell : (support : BackendAttrSupport) (part : Part) (at : Position) (s : Shape) → WriteMisplaced s → CellBreaks support part (cell_of s at) (Broken rule.WriteMisplaced)
write_cell support part at s WriteMisplaced.writer = refl

unit_cell : (support : BackendAttrSupport) (part : Part) (at : Position) (s : Shape) → UnitMisplaced s → CellBreaks support part (cell_of s at) (Broken rule.UnitMisplaced)
unit_cell support part at s UnitMisplaced.unit = refl

function_cell : (support : BackendAttrSupport) (part : Part) (at : Position) (s : Shape) → FunctionMisplaced at s → CellBreaks support part (cell_of s at) (Broken rule.FunctionMisplaced)
function_cell support part at s FunctionMisplaced.in_field = refl
function_cell support part at s FunctionMisplaced.from_callback = refl
function_cell support part at s FunctionMisplaced.to_callback = refl
function_cell support part at s FunctionMisplaced.in_out_field = refl
function_cell support part at s FunctionMisplaced.returned = refl

trait_cell : (support : BackendAttrSupport) (part : Part) (at : Position) (s : Shape) → TraitMisplaced at s → CellBreaks support part (cell_of s at) (Broken rule.TraitMisplaced)
trait_cell support part at _ (TraitMisplaced.in_field id) = refl
trait_cell support part at _ (TraitMisplaced.to_callback id) = refl
trait_cell support part at _ (TraitMisplaced.in_out_field id) = refl
trait_cell support part at _ (TraitMisplaced.returned id) = refl

element_cell : (support : BackendAttrSupport) (part : Part) (at : Position) (s : Shape) → SliceElement s → CellBreaks support part (cell_of s at) (Broken rule.SliceElement)
element_cell support part at _ (SliceElement.other b) = either_way (λ c. CellBreaks support part c (Broken rule.SliceElement)) (cell.SliceIn b element.Other) (cell.SliceOut b element.Other) at (inr refl) (inr refl)
element_cell support part at _ (SliceElement.primitive b p) = either_way (λ c. CellBreaks support part c (Broken rule.SliceElement)) (cell.SliceIn b (element.Value (value.Primitive p))) (cell.SliceOut b (element.Value (value.Primitive p))) at (inr refl) (inr refl)

opaque_slice_cell : (support : BackendAttrSupport) (part : Part) (at : Position) (s : Shape) → OpaqueSliceShape at s → CellBreaks support part (cell_of s at) (Broken rule.OpaqueSliceShape)
opaque_slice_cell support part at _ (OpaqueSliceShape.going_out l b id mark w) = going (λ c. CellBreaks support part c (Broken rule.OpaqueSliceShape)) (cell.SliceIn l (element.OpaqueReference b id mark)) (cell.SliceOut l (element.OpaqueReference b id mark)) at w (inr refl)
opaque_slice_cell support part at _ (OpaqueSliceShape.coming_in l b id mark w is) = coming (λ c. CellBreaks support part c (Broken rule.OpaqueSliceShape)) (cell.SliceIn l (element.OpaqueReference b id mark)) (cell.SliceOut l (element.OpaqueReference b id mark)) at w (inr (inr (inl (is, refl))))
opaque_slice_cell support part at _ (OpaqueSliceShape.options_going_out l b id d w) = going (λ c. CellBreaks support part c (Broken rule.OpaqueSliceShape)) (cell.SliceIn l (element.OpaqueOption b id d)) (cell.SliceOut l (element.OpaqueOption b id d)) at w (inr (inr refl))
opaque_slice_cell support part at _ (OpaqueSliceShape.options_coming_in l b id d w is) = coming (λ c. CellBreaks support part c (Broken rule.OpaqueSliceShape)) (cell.SliceIn l (element.OpaqueOption b id d)) (cell.SliceOut l (element.OpaqueOption b id d)) at w (inr (inr (inl (is, refl))))

owned_slice_cell : (support : BackendAttrSupport) (part : Part) (at : Position) (s : Shape) → OwnedSliceMisplaced at part s → CellBreaks support part (cell_of s at) (Broken rule.OwnedSliceMisplaced)
owned_slice_cell support _ at _ (OwnedSliceMisplaced.text_from_callback part e) = refl
owned_slice_cell support _ at _ (OwnedSliceMisplaced.text_to_callback part e) = refl
owned_slice_cell support _ at _ (OwnedSliceMisplaced.text_in_out_field part e) = refl
owned_slice_cell support _ at _ (OwnedSliceMisplaced.text_returned part e) = refl
owned_slice_cell support _ at _ (OwnedSliceMisplaced.from_callback part p) = refl
owned_slice_cell support _ at _ (OwnedSliceMisplaced.to_callback part p) = refl
owned_slice_cell support _ at _ (OwnedSliceMisplaced.in_out_field part p) = refl
owned_slice_cell support _ at _ (OwnedSliceMisplaced.returned part p isnt) = inr (isnt, refl)

strings_cell : (support : BackendAttrSupport) (part : Part) (at : Position) (s : Shape) → StrsOutput at s → CellBreaks support part (cell_of s at) (Broken rule.StrsOutput)
strings_cell support part at _ (StrsOutput.going_out e w) = going (λ c. CellBreaks support part c (Broken rule.StrsOutput)) cell.Fine (cell.Broken rule.StrsOutput) at w refl

callback_return_cell : (support : BackendAttrSupport) (part : Part) (at : Position) (s : Shape) → CallbackReturnShape at s → CellBreaks support part (cell_of s at) (Broken rule.CallbackReturnShape)
callback_return_cell support part at _ (CallbackReturnShape.reference b id) = refl
callback_return_cell support part at _ (CallbackReturnShape.out_reference b id) = refl

option_asked : (support : BackendAttrSupport) (part : Part) (at : Position) (v : Value) (d : StdlibOrDiplomat) → flag_on support flag.Option ≡ false → CellBreaks support part (cell_of (shape.OptionOfValue v d) at) (Denied flag.Option)
option_asked support part at.Field v d off = inr (off, refl)
option_asked support part at.Param v d off = (off, refl)
option_asked support part at.CallbackReturn v d off = (off, refl)
option_asked support part at.CallbackParam v d off = (off, refl)
option_asked support part at.OutField v d off = inr (off, refl)
option_asked support part at.Return v d off = (off, refl)

asked_cell : (support : BackendAttrSupport) (part : Part) (at : Position) (s : Shape) (flag : SupportFlag) → Asks at part s flag → flag_on support flag ≡ false → CellBreaks support part (cell_of s at) (Denied flag)
asked_cell support _ at _ _ (Asks.trait_in_parameter part id) off = (off, refl)
asked_cell support _ at _ _ (Asks.trait_from_callback part id) off = (off, refl)
asked_cell support _ at _ _ (Asks.reference_in_field part b id) off = (off, refl)
asked_cell support _ at _ _ (Asks.reference_in_parameter part b id) off = (off, refl)
asked_cell support _ _ _ _ (Asks.option at part v d) off = option_asked support part at v d off
asked_cell support _ _ _ _ (Asks.static_text at part l e w is) off = coming (λ c. CellBreaks support part c (Denied flag.StaticSlices)) (cell.Static l Immutable) (cell.Mut Immutable) at w (inl (is, (off, refl)))
asked_cell support _ _ _ _ (Asks.static_slice at part b p w is) off = coming (λ c. CellBreaks support part c (Denied flag.StaticSlices)) (cell.Static b.lifetime b.mutability) (cell.Mut b.mutability) at w (inl (is, (off, refl)))
asked_cell support _ _ _ _ (Asks.static_slice_of_types at part b e is) off = either_way (λ c. CellBreaks support part c (Denied flag.StaticSlices)) (cell.SliceIn (Some b) e) (cell.SliceOut (Some b) e) at (inl (inl (is, (off, refl)))) (inl (inl (is, (off, refl))))
asked_cell support _ _ _ _ (Asks.mutable_slice at part b p is) off = either_way (λ c. CellBreaks support part c (Denied flag.MutableSlices)) (cell.Static b.lifetime b.mutability) (cell.Mut b.mutability) at (inr (is, (off, refl))) (is, (off, refl))
asked_cell support _ _ _ _ (Asks.mutable_slice_of_types at part b e is) off = either_way (λ c. CellBreaks support part c (Denied flag.MutableSlices)) (cell.SliceIn (Some b) e) (cell.SliceOut (Some b) e) at (inl (inr (is, (off, refl)))) (inl (inr (is, (off, refl))))
asked_cell support _ at _ _ (Asks.owned_text_in_field part e) off = (off, refl)
asked_cell support _ at _ _ (Asks.owned_text_in_parameter part e) off = (off, refl)
asked_cell support _ at _ _ (Asks.owned_slice_in_field part p) off = (off, refl)
asked_cell support _ at _ _ (Asks.owned_slice_in_parameter part p) off = (off, refl)
asked_cell support _ at _ _ (Asks.bytes_returned part p is) off = inl (is, (off, refl))
asked_cell support _ _ _ _ (Asks.slice_of_opaques at part l b id mark w) off = coming (λ c. CellBreaks support part c (Denied flag.OpaqueSlices)) (cell.SliceIn l (element.OpaqueReference b id mark)) (cell.SliceOut l (element.OpaqueReference b id mark)) at w (inr (inr (inr (off, refl))))
asked_cell support _ _ _ _ (Asks.slice_of_optional_opaques at part l b id d w) off = coming (λ c. CellBreaks support part c (Denied flag.OpaqueSlices)) (cell.SliceIn l (element.OpaqueOption b id d)) (cell.SliceOut l (element.OpaqueOption b id d)) at w (inr (inr (inr (off, refl))))
asked_cell support _ at _ _ (Asks.callback part) off = (off, refl)

pub cell_of_rule : (support : BackendAttrSupport) (part : Part) (at : Position) (s : Shape) (f : TypeFault) → ShapeBreaks support at part s f → CellBreaks support part (cell_of s at) f
cell_of_rule support part at s f (ordering_misplaced h) = ordering_cell support part at s h
cell_of_rule support part at s f (zero_size h) = zero_size_cell support part at s h
cell_of_rule support part at s f (out_struct_input h) = out_struct_cell support part at s h
cell_of_rule support part at s f (opaque_by_value h) = opaque_cell support part at s h
cell_of_rule support part at s f (mut_opaque_unmarked h) = unmarked_cell support part at s h
cell_of_rule support part at s f (reference_target h) = reference_cell support part at s h
cell_of_rule support part at s f (box_misplaced h) = box_cell support part at s h
cell_of_rule support part at s f (option_shape h) = option_cell support part at s h
cell_of_rule support part at s f (std_option_place h) = std_option_cell support part at s h
cell_of_rule support part at s f (diplomat_option_opaque h) = diplomat_option_cell support part at s h
cell_of_rule support part at s f (result_misplaced h) = result_cell support part at s h
cell_of_rule support part at s f (write_misplaced h) = write_cell support part at s h
cell_of_rule support part at s f (unit_misplaced h) = unit_cell support part at s h
cell_of_rule support part at s f (function_misplaced h) = function_cell support part at s h
cell_of_rule support part at s f (trait_misplaced h) = trait_cell support part at s h
cell_of_rule support part at s f (slice_element h) = element_cell support part at s h
cell_of_rule support part at s f (opaque_slice_shape h) = opaque_slice_cell support part at s h
cell_of_rule support part at s f (owned_slice_misplaced h) = owned_slice_cell support part at s h
cell_of_rule support part at s f (strs_output h) = strings_cell support part at s h
cell_of_rule support part at s f (callback_return_shape h) = callback_return_cell support part at s h
cell_of_rule support part at s f (support_denied flag asks off) = asked_cell support part at s flag asks off
