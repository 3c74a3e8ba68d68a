-- The faults of a cell are what breaks what it asks.
use Rattle.std.proofs.Common.{◌≡◌, ◌⊎◌, ◌↔◌, ℕ, Bool, true, false, not, ◌&&◌, ◌||◌, Option, Some, None, refl}
use Rattle.bridge_decl.specs.declared.types.Mutability.{Mutability}
use Rattle.bridge_decl.specs.declared.types.Mutability.TheVariants.{Mutable, Immutable}
use Rattle.bridge_decl.specs.declared.types.PrimitiveType.{PrimitiveType}
use Rattle.bridge_decl.specs.declared.types.StdlibOrDiplomat.{StdlibOrDiplomat}
use Rattle.bridge_decl.specs.declared.types.StdlibOrDiplomat.TheVariants.{Stdlib, Diplomat}
use Rattle.hir_life.specs.declared.maybe_static.MaybeStatic.{MaybeStatic}
use Rattle.hir_life.specs.declared.maybe_static.MaybeStatic.TheVariants as lifetime
use Rattle.hir_ids.specs.declared.owners.Borrow.{Borrow}
use Rattle.hir_backends.specs.declared.support.BackendAttrSupport.{BackendAttrSupport}
use Rattle.hir_backends.specs.declared.support.flag.SupportFlag.{SupportFlag}
use Rattle.hir_backends.specs.declared.support.flag.SupportFlag.TheVariants as flag
use Rattle.hir_backends.specs.Support.{flag_on}
use Rattle.hir_reports.specs.declared.rule.Rule.TheVariants as rule
use Rattle.bridge_rules.specs.declared.shape.Element.{Element}
use Rattle.bridge_rules.specs.declared.shape.Element.TheVariants as element
use Rattle.bridge_rules.specs.declared.shape.Value.{Value}
use Rattle.bridge_rules.specs.declared.shape.Value.TheVariants as value
use Rattle.bridge_rules.specs.declared.table.Cell.{Cell}
use Rattle.bridge_rules.specs.declared.table.Cell.TheVariants as cell
use Rattle.bridge_grid.specs.declared.fault.TypeFault.TheVariants.{Broken, Denied}
use Rattle.bridge_grid.specs.declared.part.Part.{Part}
use Rattle.bridge_grid.specs.declared.part.Part.TheVariants.{Whole, Inside, Error}
use Rattle.bridge_grid.specs.Exactly.{AreExactly}
use Rattle.bridge_grid.specs.Asked.{denied, denied_if, is_mutable, is_static, is_diplomat, is_whole, is_byte, is_error, is_fixed, is_fixed_slice, mark_faults, of_opaque, of_box, statics, muts, bytes, slice_borrows, opaques_in, value_element, element_in, element_out, cell_faults}
use Rattle.bridge_grid.proofs.CellBreaks.{Unmarked, OfDiplomat, BoxBreaks, StaticBreaks, MutBreaks, BytesBreak, SliceBorrowBreaks, OpaquesInBreak, ValueElementBreaks, ElementInBreaks, ElementOutBreaks, CellBreaks}
use Rattle.bridge_grid.specs.rules.SupportDenied.{Lacks}
use Rattle.bridge_grid.specs.rules.OpaqueSliceShape.{IsFixed, IsFixedSlice}
use Rattle.bridge_grid.proofs.TellsLemmas.{no_false, tells_none, tells_one, tells_both, tells_when, tells_map, tells_if, not_iff, and_iff, or_iff, same_iff}

mutable_iff : (m : Mutability) → (is_mutable m ≡ true) ↔ (m ≡ Mutable)
mutable_iff Mutable = (λ h. refl, λ h. refl)
mutable_iff Immutable = (λ h. absurd (no_false h), λ h. cc)

immutable_iff : (m : Mutability) → (not (is_mutable m) ≡ true) ↔ (m ≡ Immutable)
immutable_iff Immutable = (λ h. refl, λ h. refl)
immutable_iff Mutable = (λ h. absurd (no_false h), λ h. cc)

static_iff : (l : MaybeStatic ℕ) → (is_static l ≡ true) ↔ (l ≡ lifetime.Static)
static_iff lifetime.Static = (λ h. refl, λ h. refl)
static_iff (lifetime.NonStatic n) = (λ h. absurd (no_false h), λ h. cc)

diplomat_iff : (d : StdlibOrDiplomat) → (is_diplomat d ≡ true) ↔ (d ≡ Diplomat)
diplomat_iff Diplomat = (λ h. refl, λ h. refl)
diplomat_iff Stdlib = (λ h. absurd (no_false h), λ h. cc)

stdlib_iff : (d : StdlibOrDiplomat) → (not (is_diplomat d) ≡ true) ↔ (d ≡ Stdlib)
stdlib_iff Stdlib = (λ h. refl, λ h. refl)
stdlib_iff Diplomat = (λ h. absurd (no_false h), λ h. cc)

whole_iff : (part : Part) → (is_whole part ≡ true) ↔ (part ≡ Whole)
whole_iff Whole = (λ h. refl, λ h. refl)
whole_iff Inside = (λ h. absurd (no_false h), λ h. cc)
whole_iff Error = (λ h. absurd (no_false h), λ h. cc)

fixed_iff : (b : Borrow) → (is_fixed b ≡ true) ↔ IsFixed b
fixed_iff b = or_iff (is_mutable b.mutability) (is_static b.lifetime) _ _ (mutable_iff b.mutability) (static_iff b.lifetime)

fixed_slice_iff : (b : Option Borrow) → (is_fixed_slice b ≡ true) ↔ IsFixedSlice b
fixed_slice_iff (Some b) = fixed_iff b
fixed_slice_iff None = (λ h. absurd (no_false h), λ h. absurd h)

pub tells_denied : (support : BackendAttrSupport) (flag : SupportFlag) → AreExactly (denied support flag) (Lacks support flag)
tells_denied support flag = tells_when (not (flag_on support flag)) (flag_on support flag ≡ false) (Denied flag) (not_iff (flag_on support flag))

pub tells_denied_if : (support : BackendAttrSupport) (b : Bool) (B : Type 0) (flag : SupportFlag) → ((b ≡ true) ↔ B) → AreExactly (denied_if support b flag) (λ f. B × Lacks support flag f)
tells_denied_if support b B flag iff = tells_map _ (λ f. (B × (flag_on support flag ≡ false)) × (f ≡ Denied flag)) _ (λ f. (λ h. (h.0.0, (h.0.1, h.1)), λ h. ((h.0, h.1.0), h.1.1)))
    (tells_when (b && not (flag_on support flag)) (B × (flag_on support flag ≡ false)) (Denied flag) (and_iff b (not (flag_on support flag)) B (flag_on support flag ≡ false) iff (not_iff (flag_on support flag))))

pub tells_marked : (m mark : Mutability) → AreExactly (mark_faults m mark) (Unmarked m mark)
tells_marked m mark = tells_when (is_mutable m && not (is_mutable mark)) ((m ≡ Mutable) × (mark ≡ Immutable)) (Broken rule.MutOpaqueUnmarked) (and_iff (is_mutable m) (not (is_mutable mark)) _ _ (mutable_iff m) (immutable_iff mark))

tells_of_opaque : (d : StdlibOrDiplomat) → AreExactly (of_opaque d) (OfDiplomat d)
tells_of_opaque d = tells_when (is_diplomat d) (d ≡ Diplomat) (Broken rule.DiplomatOptionOpaque) (diplomat_iff d)

tells_of_box : (part : Part) (d : StdlibOrDiplomat) → AreExactly (of_box part d) (BoxBreaks part d)
tells_of_box part d = tells_if (is_whole part && is_diplomat d) ((part ≡ Whole) × (d ≡ Diplomat)) _ _ _ _ (and_iff (is_whole part) (is_diplomat d) _ _ (whole_iff part) (diplomat_iff d)) (tells_one (Broken rule.DiplomatOptionOpaque)) (tells_one (Broken rule.OptionShape))

tells_bytes : (support : BackendAttrSupport) (part : Part) (p : PrimitiveType) → AreExactly (bytes support part p) (BytesBreak support part p)
tells_bytes support part p = tells_if (is_byte p && not (is_error part)) ((is_byte p ≡ true) × (is_error part ≡ false)) _ _ _ _ (and_iff (is_byte p) (not (is_error part)) _ _ (same_iff (is_byte p)) (not_iff (is_error part)))
    (tells_denied support flag.OwnedByteSliceReturns) (tells_one (Broken rule.OwnedSliceMisplaced))

tells_statics : (support : BackendAttrSupport) (l : MaybeStatic ℕ) → AreExactly (statics support l) (StaticBreaks support l)
tells_statics support l = tells_denied_if support (is_static l) (l ≡ lifetime.Static) flag.StaticSlices (static_iff l)

tells_muts : (support : BackendAttrSupport) (m : Mutability) → AreExactly (muts support m) (MutBreaks support m)
tells_muts support m = tells_denied_if support (is_mutable m) (m ≡ Mutable) flag.MutableSlices (mutable_iff m)

tells_slice_borrows : (support : BackendAttrSupport) (b : Option Borrow) → AreExactly (slice_borrows support b) (SliceBorrowBreaks support b)
tells_slice_borrows support (Some b) = tells_both _ _ _ _ (tells_statics support b.lifetime) (tells_muts support b.mutability)
tells_slice_borrows support None = tells_none

tells_opaques_in : (support : BackendAttrSupport) (b : Option Borrow) (e : Borrow) → AreExactly (opaques_in support b e) (OpaquesInBreak support b e)
tells_opaques_in support b e = tells_both _ _ _ _ (tells_when (is_fixed_slice b || is_fixed e) (IsFixedSlice b ⊎ IsFixed e) (Broken rule.OpaqueSliceShape) (or_iff (is_fixed_slice b) (is_fixed e) _ _ (fixed_slice_iff b) (fixed_iff e))) (tells_denied support flag.OpaqueSlices)

tells_value_element : (v : Value) → AreExactly (value_element v) (ValueElementBreaks v)
tells_value_element (value.Primitive _) = tells_one (Broken rule.SliceElement)
tells_value_element (value.Enum _) = tells_none
tells_value_element (value.Struct _) = tells_none
tells_value_element (value.Empty _) = tells_none
tells_value_element (value.EmptyOut _) = tells_none
tells_value_element (value.OutStruct _) = tells_none

tells_element_in : (support : BackendAttrSupport) (b : Option Borrow) (e : Element) → AreExactly (element_in support b e) (ElementInBreaks support b e)
tells_element_in support b (element.Value v) = tells_value_element v
tells_element_in support b element.Opaque = tells_one (Broken rule.OpaqueByValue)
tells_element_in support b (element.OpaqueReference e _ mark) = tells_both _ _ _ _ (tells_marked e.mutability mark) (tells_opaques_in support b e)
tells_element_in support b (element.OpaqueOption e _ d) = tells_both _ _ _ _ (tells_of_opaque d) (tells_opaques_in support b e)
tells_element_in support b element.Other = tells_one (Broken rule.SliceElement)

tells_element_out : (e : Element) → AreExactly (element_out e) (ElementOutBreaks e)
tells_element_out (element.Value v) = tells_value_element v
tells_element_out element.Opaque = tells_one (Broken rule.OpaqueByValue)
tells_element_out (element.OpaqueReference e _ mark) = tells_one (Broken rule.OpaqueSliceShape)
tells_element_out (element.OpaqueOption e _ d) = tells_both _ _ _ _ (tells_of_opaque d) (tells_one (Broken rule.OpaqueSliceShape))
tells_element_out element.Other = tells_one (Broken rule.SliceElement)

pub tells_cell : (support : BackendAttrSupport) (part : Part) (c : Cell) → AreExactly (cell_faults support part c) (CellBreaks support part c)
tells_cell support part cell.Fine = tells_none
tells_cell support part (cell.Broken r) = tells_one (Broken r)
tells_cell support part (cell.UnlessInside r) = tells_when (is_whole part) (part ≡ Whole) (Broken r) (whole_iff part)
tells_cell support part (cell.Needs flag) = tells_denied support flag
tells_cell support part cell.Inside = tells_none
tells_cell support part (cell.Marked m mark) = tells_marked m mark
tells_cell support part (cell.OfOpaque d) = tells_of_opaque d
tells_cell support part (cell.OfBox d) = tells_of_box part d
tells_cell support part (cell.OfValue d) = tells_both _ _ _ _ (tells_when (not (is_diplomat d)) (d ≡ Stdlib) (Broken rule.StdOptionPlace) (stdlib_iff d)) (tells_denied support flag.Option)
tells_cell support part (cell.Static l m) = tells_both _ _ _ _ (tells_statics support l) (tells_muts support m)
tells_cell support part (cell.Mut m) = tells_muts support m
tells_cell support part (cell.Bytes p) = tells_bytes support part p
tells_cell support part (cell.SliceIn b e) = tells_both _ _ _ _ (tells_slice_borrows support b) (tells_element_in support b e)
tells_cell support part (cell.SliceOut b e) = tells_both _ _ _ _ (tells_slice_borrows support b) (tells_element_out e)
