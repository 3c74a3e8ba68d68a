-- What breaks what a cell asks breaks a rule.
use Rattle.std.proofs.Common.{◌≡◌, inl, inr, Option, Some, None, sym, subst}
use Rattle.bridge_decl.specs.declared.types.Mutability.TheVariants.{Mutable, Immutable}
use Rattle.hir_ids.specs.declared.owners.Borrow.{Borrow}
use Rattle.hir_backends.specs.declared.support.BackendAttrSupport.{BackendAttrSupport}
use Rattle.hir_backends.specs.declared.support.flag.SupportFlag.{SupportFlag}
use Rattle.hir_reports.specs.declared.rule.Rule.TheVariants as rule
use Rattle.bridge_rules.specs.declared.shape.Element.{Element}
use Rattle.bridge_rules.specs.declared.shape.Element.TheVariants as element
use Rattle.bridge_rules.specs.declared.shape.Value.TheVariants as value
use Rattle.bridge_rules.specs.declared.position.Position.{Position}
use Rattle.bridge_rules.specs.declared.position.Position.TheVariants as at
use Rattle.bridge_rules.specs.declared.shape.FlatSlice.TheVariants as flat
use Rattle.bridge_rules.specs.declared.shape.Shape.{Shape}
use Rattle.bridge_rules.specs.declared.shape.Shape.TheVariants as shape
use Rattle.bridge_rules.specs.declared.table.Cell.TheVariants as cell
use Rattle.bridge_grid.specs.declared.fault.TypeFault.{TypeFault}
use Rattle.bridge_grid.specs.declared.part.Part.{Part}
use Rattle.bridge_rules.specs.Table.{cell_of}
use Rattle.bridge_grid.specs.Ways.{ComesIn, GoesOut}
use Rattle.bridge_grid.specs.rules.OrderingMisplaced.{OrderingMisplaced}
use Rattle.bridge_grid.specs.rules.ZeroSize.{ZeroSize, IsEmpty}
use Rattle.bridge_grid.specs.rules.OutStructInput.{OutStructInput}
use Rattle.bridge_grid.specs.rules.OpaqueByValue.{OpaqueByValue}
use Rattle.bridge_grid.specs.rules.MutOpaqueUnmarked.{MutOpaqueUnmarked}
use Rattle.bridge_grid.specs.rules.ReferenceTarget.{ReferenceTarget}
use Rattle.bridge_grid.specs.rules.BoxMisplaced.{BoxMisplaced}
use Rattle.bridge_grid.specs.rules.OptionShape.{OptionShape}
use Rattle.bridge_grid.specs.rules.StdOptionPlace.{StdOptionPlace}
use Rattle.bridge_grid.specs.rules.DiplomatOptionOpaque.{DiplomatOptionOpaque}
use Rattle.bridge_grid.specs.rules.FunctionMisplaced.{FunctionMisplaced}
use Rattle.bridge_grid.specs.rules.TraitMisplaced.{TraitMisplaced}
use Rattle.bridge_grid.specs.rules.SliceElement.{SliceElement}
use Rattle.bridge_grid.specs.rules.OpaqueSliceShape.{OpaqueSliceShape}
use Rattle.bridge_grid.specs.rules.OwnedSliceMisplaced.{OwnedSliceMisplaced}
use Rattle.bridge_grid.specs.rules.StrsOutput.{StrsOutput}
use Rattle.bridge_grid.specs.rules.CallbackReturnShape.{CallbackReturnShape}
use Rattle.bridge_grid.specs.rules.ResultMisplaced.{ResultMisplaced}
use Rattle.bridge_grid.specs.rules.WriteMisplaced.{WriteMisplaced}
use Rattle.bridge_grid.specs.rules.UnitMisplaced.{UnitMisplaced}
use Rattle.bridge_grid.specs.rules.SupportDenied.{Asks, Lacks}
use Rattle.bridge_grid.specs.Breaks.{ShapeBreaks, ordering_misplaced, zero_size, out_struct_input, opaque_by_value, mut_opaque_unmarked, reference_target, box_misplaced, option_shape, std_option_place, diplomat_option_opaque, result_misplaced, write_misplaced, unit_misplaced, function_misplaced, trait_misplaced, slice_element, opaque_slice_shape, owned_slice_misplaced, strs_output, callback_return_shape, support_denied}
use Rattle.bridge_grid.proofs.CellBreaks.{CellBreaks, ElementInBreaks, ElementOutBreaks, SliceBorrowBreaks}
use Rattle.bridge_grid.proofs.WayLemmas.{by_each_way}

breaking : {support : BackendAttrSupport} {at : Position} {part : Part} {s : Shape} {f g : TypeFault} → f ≡ g → ShapeBreaks support at part s g → ShapeBreaks support at part s f
breaking {support} {at} {part} {s} e h = subst (λ y. ShapeBreaks support at part s y) (sym e) h

lacks : {support : BackendAttrSupport} {at : Position} {part : Part} {s : Shape} {f : TypeFault} {flag : SupportFlag} → Lacks support flag f → Asks at part s flag → ShapeBreaks support at part s f
lacks {flag = flag} h asks = breaking h.1 (support_denied flag asks h.0)

borrow_rules : (support : BackendAttrSupport) (at : Position) (part : Part) (f : TypeFault) (b : Option Borrow) (e : Element) → SliceBorrowBreaks support b f → ShapeBreaks support at part (shape.Slice b e) f
borrow_rules support at part f (Some b) e h = elim h [ inl c ↦ lacks c.1 (Asks.static_slice_of_types at part b e c.0) | inr c ↦ lacks c.1 (Asks.mutable_slice_of_types at part b e c.0) ]
borrow_rules support at part f None e h = absurd h

element_in_rules : (support : BackendAttrSupport) (at : Position) (part : Part) (f : TypeFault) (b : Option Borrow) (e : Element) → ComesIn at → ElementInBreaks support b e f → ShapeBreaks support at part (shape.Slice b e) f
element_in_rules support at part f b (element.Value (value.Primitive p)) w h = breaking h (slice_element (SliceElement.primitive b p))
element_in_rules support at part f b (element.Value (value.Enum _)) w h = absurd h
element_in_rules support at part f b (element.Value (value.Struct _)) w h = absurd h
element_in_rules support at part f b (element.Value (value.Empty _)) w h = absurd h
element_in_rules support at part f b (element.Value (value.EmptyOut _)) w h = absurd h
element_in_rules support at part f b (element.Value (value.OutStruct _)) w h = absurd h
element_in_rules support at part f b element.Opaque w h = breaking h (opaque_by_value (OpaqueByValue.element_named b))
element_in_rules support at part f b (element.OpaqueReference e id mark) w h = elim h [
  | inl c ↦ breaking c.1 (mut_opaque_unmarked (MutOpaqueUnmarked.of_slice b e id mark w c.0))
  | inr c ↦ elim c [ inl d ↦ breaking d.1 (opaque_slice_shape (OpaqueSliceShape.coming_in b e id mark w d.0)) | inr d ↦ lacks d (Asks.slice_of_opaques at part b e id mark w) ]
]
element_in_rules support at part f b (element.OpaqueOption e id d) w h = elim h [
  | inl c ↦ breaking c.1 (diplomat_option_opaque (DiplomatOptionOpaque.element_reference at part b e id d c.0))
  | inr c ↦ elim c [ inl g ↦ breaking g.1 (opaque_slice_shape (OpaqueSliceShape.options_coming_in b e id d w g.0)) | inr g ↦ lacks g (Asks.slice_of_optional_opaques at part b e id d w) ]
]
element_in_rules support at part f b element.Other w h = breaking h (slice_element (SliceElement.other b))

element_out_rules : (support : BackendAttrSupport) (at : Position) (part : Part) (f : TypeFault) (b : Option Borrow) (e : Element) → GoesOut at → ElementOutBreaks e f → ShapeBreaks support at part (shape.Slice b e) f
element_out_rules support at part f b (element.Value (value.Primitive p)) w h = breaking h (slice_element (SliceElement.primitive b p))
element_out_rules support at part f b (element.Value (value.Enum _)) w h = absurd h
element_out_rules support at part f b (element.Value (value.Struct _)) w h = absurd h
element_out_rules support at part f b (element.Value (value.Empty _)) w h = absurd h
element_out_rules support at part f b (element.Value (value.EmptyOut _)) w h = absurd h
element_out_rules support at part f b (element.Value (value.OutStruct _)) w h = absurd h
element_out_rules support at part f b element.Opaque w h = breaking h (opaque_by_value (OpaqueByValue.element_named b))
element_out_rules support at part f b (element.OpaqueReference e id mark) w h = breaking h (opaque_slice_shape (OpaqueSliceShape.going_out b e id mark w))
element_out_rules support at part f b (element.OpaqueOption e id d) w h = elim h [
  | inl c ↦ breaking c.1 (diplomat_option_opaque (DiplomatOptionOpaque.element_reference at part b e id d c.0))
  | inr c ↦ breaking c (opaque_slice_shape (OpaqueSliceShape.options_going_out b e id d w))
]
element_out_rules support at part f b element.Other w h = breaking h (slice_element (SliceElement.other b))

not_mutable : Immutable ≡ Mutable → ⊥
not_mutable h = cc

-- a row of the table each
pub rules_of : (support : BackendAttrSupport) (part : Part) (f : TypeFault) (s : Shape) (at : Position) → CellBreaks support part (cell_of s at) f → ShapeBreaks support at part s f
rules_of support part f (shape.Value (value.Primitive p)) at h = absurd h
rules_of support part f (shape.Value (value.Enum id)) at h = absurd h
rules_of support part f (shape.Value (value.Struct id)) at h = absurd h
rules_of support part f (shape.Value (value.Empty id)) at h = by_each_way (λ c. CellBreaks support part c f) (λ y. ShapeBreaks support y part (shape.Value (value.Empty id)) f) (cell.Broken rule.ZeroSize) (cell.UnlessInside rule.ZeroSize) (λ y w c. breaking c (zero_size (ZeroSize.coming_in (IsEmpty.as_struct id) w))) (λ y w c. breaking c.1 (zero_size (ZeroSize.going_out (IsEmpty.as_struct id) w c.0))) at h
rules_of support part f (shape.Value (value.EmptyOut id)) at h = by_each_way (λ c. CellBreaks support part c f) (λ y. ShapeBreaks support y part (shape.Value (value.EmptyOut id)) f) (cell.Broken rule.ZeroSize) (cell.UnlessInside rule.ZeroSize) (λ y w c. breaking c (zero_size (ZeroSize.coming_in (IsEmpty.as_out_struct id) w))) (λ y w c. breaking c.1 (zero_size (ZeroSize.going_out (IsEmpty.as_out_struct id) w c.0))) at h
rules_of support part f (shape.Value (value.OutStruct id)) at h = by_each_way (λ c. CellBreaks support part c f) (λ y. ShapeBreaks support y part (shape.Value (value.OutStruct id)) f) (cell.Broken rule.OutStructInput) cell.Fine (λ y w c. breaking c (out_struct_input (OutStructInput.by_value y id w))) (λ y w c. absurd c) at h
rules_of support part f shape.Ordering at.Field h = breaking h (ordering_misplaced OrderingMisplaced.in_field)
rules_of support part f shape.Ordering at.Param h = breaking h (ordering_misplaced OrderingMisplaced.in_parameter)
rules_of support part f shape.Ordering at.CallbackReturn h = breaking h (ordering_misplaced OrderingMisplaced.from_callback)
rules_of support part f shape.Ordering at.CallbackParam h = absurd h
rules_of support part f shape.Ordering at.OutField h = breaking h (ordering_misplaced OrderingMisplaced.in_out_field)
rules_of support part f shape.Ordering at.Return h = absurd h
rules_of support part f shape.Opaque at h = breaking h (opaque_by_value OpaqueByValue.named)
rules_of support part f (shape.ImplTrait id) at.Field h = breaking h (trait_misplaced (TraitMisplaced.in_field id))
rules_of support part f (shape.ImplTrait id) at.Param h = lacks h (Asks.trait_in_parameter part id)
rules_of support part f (shape.ImplTrait id) at.CallbackReturn h = lacks h (Asks.trait_from_callback part id)
rules_of support part f (shape.ImplTrait id) at.CallbackParam h = breaking h (trait_misplaced (TraitMisplaced.to_callback id))
rules_of support part f (shape.ImplTrait id) at.OutField h = breaking h (trait_misplaced (TraitMisplaced.in_out_field id))
rules_of support part f (shape.ImplTrait id) at.Return h = breaking h (trait_misplaced (TraitMisplaced.returned id))
rules_of support part f (shape.OpaqueReference b id mark) at h = by_each_way (λ c. CellBreaks support part c f) (λ y. ShapeBreaks support y part (shape.OpaqueReference b id mark) f) (cell.Marked b.mutability mark) cell.Fine (λ y w c. breaking c.1 (mut_opaque_unmarked (MutOpaqueUnmarked.reference b id mark w c.0))) (λ y w c. absurd c) at h
rules_of support part f (shape.StructReference b id) at.Field h = lacks h (Asks.reference_in_field part b id)
rules_of support part f (shape.StructReference b id) at.Param h = lacks h (Asks.reference_in_parameter part b id)
rules_of support part f (shape.StructReference b id) at.CallbackReturn h = breaking h (callback_return_shape (CallbackReturnShape.reference b id))
rules_of support part f (shape.StructReference b id) at.CallbackParam h = breaking h (reference_target (ReferenceTarget.struct_to_callback b id))
rules_of support part f (shape.StructReference b id) at.OutField h = breaking h (reference_target (ReferenceTarget.struct_in_out_field b id))
rules_of support part f (shape.StructReference b id) at.Return h = breaking h (reference_target (ReferenceTarget.struct_returned b id))
rules_of support part f (shape.OutStructReference b id) at.Field h = breaking h (out_struct_input (OutStructInput.by_reference_in_field b id))
rules_of support part f (shape.OutStructReference b id) at.Param h = breaking h (out_struct_input (OutStructInput.by_reference_in_parameter b id))
rules_of support part f (shape.OutStructReference b id) at.CallbackReturn h = breaking h (callback_return_shape (CallbackReturnShape.out_reference b id))
rules_of support part f (shape.OutStructReference b id) at.CallbackParam h = breaking h (reference_target (ReferenceTarget.out_struct_to_callback b id))
rules_of support part f (shape.OutStructReference b id) at.OutField h = breaking h (reference_target (ReferenceTarget.out_struct_in_out_field b id))
rules_of support part f (shape.OutStructReference b id) at.Return h = breaking h (reference_target (ReferenceTarget.out_struct_returned b id))
rules_of support part f shape.OtherReference at h = breaking h (reference_target (ReferenceTarget.other at))
rules_of support part f (shape.OpaqueBox id) at h = by_each_way (λ c. CellBreaks support part c f) (λ y. ShapeBreaks support y part (shape.OpaqueBox id) f) (cell.Broken rule.BoxMisplaced) cell.Fine (λ y w c. breaking c (box_misplaced (BoxMisplaced.coming_in id w))) (λ y w c. absurd c) at h
rules_of support part f shape.OtherBox at h = breaking h (box_misplaced BoxMisplaced.other)
rules_of support part f (shape.OptionOfReference b id d) at h = breaking h.1 (diplomat_option_opaque (DiplomatOptionOpaque.reference at part b id d h.0))
rules_of support part f (shape.OptionOfBox id d) at.Field h = breaking h (option_shape (OptionShape.box_in_field part id d))
rules_of support part f (shape.OptionOfBox id d) at.Param h = breaking h (option_shape (OptionShape.box_in_parameter part id d))
rules_of support part f (shape.OptionOfBox id d) at.CallbackReturn h = elim h [ inl c ↦ breaking c.1 (diplomat_option_opaque (DiplomatOptionOpaque.box_from_callback part id d c.0.0 c.0.1)) | inr c ↦ breaking c.1 (option_shape (OptionShape.box_from_callback part id d c.0)) ]
rules_of support part f (shape.OptionOfBox id d) at.CallbackParam h = breaking h.1 (diplomat_option_opaque (DiplomatOptionOpaque.box_to_callback part id d h.0))
rules_of support part f (shape.OptionOfBox id d) at.OutField h = breaking h.1 (diplomat_option_opaque (DiplomatOptionOpaque.box_in_out_field part id d h.0))
rules_of support part f (shape.OptionOfBox id d) at.Return h = breaking h.1 (diplomat_option_opaque (DiplomatOptionOpaque.box_returned part id d h.0))
rules_of support part f shape.OptionOfPointer at h = breaking h (option_shape (OptionShape.other_pointer at part))
rules_of support part f (shape.OptionOfValue v d) at.Field h = elim h [ inl c ↦ breaking c.1 (std_option_place (StdOptionPlace.in_field v d c.0)) | inr c ↦ lacks c (Asks.option _ part v d) ]
rules_of support part f (shape.OptionOfValue v d) at.Param h = lacks h (Asks.option _ part v d)
rules_of support part f (shape.OptionOfValue v d) at.CallbackReturn h = lacks h (Asks.option _ part v d)
rules_of support part f (shape.OptionOfValue v d) at.CallbackParam h = lacks h (Asks.option _ part v d)
rules_of support part f (shape.OptionOfValue v d) at.OutField h = elim h [ inl c ↦ breaking c.1 (std_option_place (StdOptionPlace.in_out_field v d c.0)) | inr c ↦ lacks c (Asks.option _ part v d) ]
rules_of support part f (shape.OptionOfValue v d) at.Return h = lacks h (Asks.option _ part v d)
rules_of support part f (shape.OptionOfStrings e) at h = by_each_way (λ c. CellBreaks support part c f) (λ y. ShapeBreaks support y part (shape.OptionOfStrings e) f) cell.Fine (cell.Broken rule.OptionShape) (λ y w c. absurd c) (λ y w c. breaking c (option_shape (OptionShape.strings y part e w))) at h
rules_of support part f (shape.OptionOfFlat e) at h = by_each_way (λ c. CellBreaks support part c f) (λ y. ShapeBreaks support y part (shape.OptionOfFlat e) f) cell.Inside (cell.Broken rule.OptionShape) (λ y w c. absurd c) (λ y w c. breaking c (option_shape (OptionShape.slice y part e w))) at h
rules_of support part f shape.OtherOption at h = breaking h (option_shape (OptionShape.other at part))
rules_of support part f shape.Result at h = breaking h (result_misplaced ResultMisplaced.result)
rules_of support part f shape.Writer at h = breaking h (write_misplaced WriteMisplaced.writer)
rules_of support part f (shape.Flat (flat.Str l e)) at h = by_each_way (λ c. CellBreaks support part c f) (λ y. ShapeBreaks support y part (shape.Flat (flat.Str l e)) f) (cell.Static l Immutable) (cell.Mut Immutable) (λ y w c. elim c [ inl d ↦ lacks d.1 (Asks.static_text y part l e w d.0) | inr d ↦ absurd (not_mutable d.0) ]) (λ y w c. absurd (not_mutable c.0)) at h
rules_of support part f (shape.Flat (flat.Primitives b p)) at h = by_each_way (λ c. CellBreaks support part c f) (λ y. ShapeBreaks support y part (shape.Flat (flat.Primitives b p)) f) (cell.Static b.lifetime b.mutability) (cell.Mut b.mutability) (λ y w c. elim c [ inl d ↦ lacks d.1 (Asks.static_slice y part b p w d.0) | inr d ↦ lacks d.1 (Asks.mutable_slice y part b p d.0) ]) (λ y w c. lacks c.1 (Asks.mutable_slice y part b p c.0)) at h
rules_of support part f (shape.Flat (flat.OwnedStr e)) at.Field h = lacks h (Asks.owned_text_in_field part e)
rules_of support part f (shape.Flat (flat.OwnedStr e)) at.Param h = lacks h (Asks.owned_text_in_parameter part e)
rules_of support part f (shape.Flat (flat.OwnedStr e)) at.CallbackReturn h = breaking h (owned_slice_misplaced (OwnedSliceMisplaced.text_from_callback part e))
rules_of support part f (shape.Flat (flat.OwnedStr e)) at.CallbackParam h = breaking h (owned_slice_misplaced (OwnedSliceMisplaced.text_to_callback part e))
rules_of support part f (shape.Flat (flat.OwnedStr e)) at.OutField h = breaking h (owned_slice_misplaced (OwnedSliceMisplaced.text_in_out_field part e))
rules_of support part f (shape.Flat (flat.OwnedStr e)) at.Return h = breaking h (owned_slice_misplaced (OwnedSliceMisplaced.text_returned part e))
rules_of support part f (shape.Flat (flat.OwnedPrimitives p)) at.Field h = lacks h (Asks.owned_slice_in_field part p)
rules_of support part f (shape.Flat (flat.OwnedPrimitives p)) at.Param h = lacks h (Asks.owned_slice_in_parameter part p)
rules_of support part f (shape.Flat (flat.OwnedPrimitives p)) at.CallbackReturn h = breaking h (owned_slice_misplaced (OwnedSliceMisplaced.from_callback part p))
rules_of support part f (shape.Flat (flat.OwnedPrimitives p)) at.CallbackParam h = breaking h (owned_slice_misplaced (OwnedSliceMisplaced.to_callback part p))
rules_of support part f (shape.Flat (flat.OwnedPrimitives p)) at.OutField h = breaking h (owned_slice_misplaced (OwnedSliceMisplaced.in_out_field part p))
rules_of support part f (shape.Flat (flat.OwnedPrimitives p)) at.Return h = elim h [ inl c ↦ lacks c.1 (Asks.bytes_returned part p c.0) | inr c ↦ breaking c.1 (owned_slice_misplaced (OwnedSliceMisplaced.returned part p c.0)) ]
rules_of support part f (shape.Strings e) at h = by_each_way (λ c. CellBreaks support part c f) (λ y. ShapeBreaks support y part (shape.Strings e) f) cell.Fine (cell.Broken rule.StrsOutput) (λ y w c. absurd c) (λ y w c. breaking c (strs_output (StrsOutput.going_out e w))) at h
rules_of support part f (shape.Slice b e) at h = by_each_way (λ c. CellBreaks support part c f) (λ y. ShapeBreaks support y part (shape.Slice b e) f) (cell.SliceIn b e) (cell.SliceOut b e) (λ y w c. elim c [ inl d ↦ borrow_rules support y part f b e d | inr d ↦ element_in_rules support y part f b e w d ]) (λ y w c. elim c [ inl d ↦ borrow_rules support y part f b e d | inr d ↦ element_out_rules support y part f b e w d ]) at h
rules_of support part f shape.Function at.Field h = breaking h (function_misplaced FunctionMisplaced.in_field)
rules_of support part f shape.Function at.Param h = lacks h (Asks.callback part)
rules_of support part f shape.Function at.CallbackReturn h = breaking h (function_misplaced FunctionMisplaced.from_callback)
rules_of support part f shape.Function at.CallbackParam h = breaking h (function_misplaced FunctionMisplaced.to_callback)
rules_of support part f shape.Function at.OutField h = breaking h (function_misplaced FunctionMisplaced.in_out_field)
rules_of support part f shape.Function at.Return h = breaking h (function_misplaced FunctionMisplaced.returned)
rules_of support part f shape.Unit at h = breaking h (unit_misplaced UnitMisplaced.unit)
