-- Which rules a shape breaks of which a cell of the table asks something, as a relation.
use Rattle.std.specs.Prelude.{◌≡◌, ◌⊎◌, ℕ, true, false, Option, Some, None}
use Rattle.bridge_decl.specs.declared.types.Mutability.{Mutability}
use Rattle.bridge_decl.specs.declared.types.Mutability.TheVariants.{Mutable, Immutable}
use Rattle.bridge_decl.specs.declared.types.PrimitiveType.{PrimitiveType}
use Rattle.bridge_decl.specs.declared.types.StdlibOrDiplomat.{StdlibOrDiplomat}
use Rattle.bridge_decl.specs.declared.types.StdlibOrDiplomat.TheVariants.{Stdlib, Diplomat}
use Rattle.hir_life.specs.declared.maybe_static.MaybeStatic.{MaybeStatic}
use Rattle.hir_life.specs.declared.maybe_static.MaybeStatic.TheVariants as lifetime
use Rattle.hir_ids.specs.declared.owners.Borrow.{Borrow}
use Rattle.hir_backends.specs.declared.support.BackendAttrSupport.{BackendAttrSupport}
use Rattle.hir_backends.specs.declared.support.flag.SupportFlag.TheVariants as flag
use Rattle.hir_reports.specs.declared.rule.Rule.TheVariants as rule
use Rattle.bridge_rules.specs.declared.shape.Element.{Element}
use Rattle.bridge_rules.specs.declared.shape.Element.TheVariants as element
use Rattle.bridge_rules.specs.declared.shape.Value.{Value}
use Rattle.bridge_rules.specs.declared.shape.Value.TheVariants as value
use Rattle.bridge_rules.specs.declared.table.Cell.{Cell}
use Rattle.bridge_rules.specs.declared.table.Cell.TheVariants as cell
use Rattle.bridge_grid.specs.declared.fault.TypeFault.{TypeFault}
use Rattle.bridge_grid.specs.declared.fault.TypeFault.TheVariants.{Broken}
use Rattle.bridge_grid.specs.declared.part.Part.{Part}
use Rattle.bridge_grid.specs.declared.part.Part.TheVariants.{Whole}
use Rattle.bridge_grid.specs.Asked.{is_byte, is_error}
use Rattle.bridge_grid.specs.rules.SupportDenied.{Lacks}
use Rattle.bridge_grid.specs.rules.OpaqueSliceShape.{IsFixed, IsFixedSlice}

-- a reference may be written through, and the opaque isn't marked so
abbrev pub Unmarked : Mutability → Mutability → TypeFault → Type 0
Unmarked m mark f = ((m ≡ Mutable) × (mark ≡ Immutable)) × (f ≡ Broken rule.MutOpaqueUnmarked)

abbrev pub OfDiplomat : StdlibOrDiplomat → TypeFault → Type 0
OfDiplomat d f = (d ≡ Diplomat) × (f ≡ Broken rule.DiplomatOptionOpaque)

abbrev pub OfStd : StdlibOrDiplomat → TypeFault → Type 0
OfStd d f = (d ≡ Stdlib) × (f ≡ Broken rule.StdOptionPlace)

abbrev pub BoxBreaks : Part → StdlibOrDiplomat → TypeFault → Type 0
BoxBreaks part d f = (((part ≡ Whole) × (d ≡ Diplomat)) × (f ≡ Broken rule.DiplomatOptionOpaque))
    ⊎ ((¬ ((part ≡ Whole) × (d ≡ Diplomat))) × (f ≡ Broken rule.OptionShape))

abbrev pub StaticBreaks : BackendAttrSupport → MaybeStatic ℕ → TypeFault → Type 0
StaticBreaks support l f = (l ≡ lifetime.Static) × Lacks support flag.StaticSlices f

abbrev pub MutBreaks : BackendAttrSupport → Mutability → TypeFault → Type 0
MutBreaks support m f = (m ≡ Mutable) × Lacks support flag.MutableSlices f

abbrev pub BytesBreak : BackendAttrSupport → Part → PrimitiveType → TypeFault → Type 0
BytesBreak support part p f = (((is_byte p ≡ true) × (is_error part ≡ false)) × Lacks support flag.OwnedByteSliceReturns f)
    ⊎ ((¬ ((is_byte p ≡ true) × (is_error part ≡ false))) × (f ≡ Broken rule.OwnedSliceMisplaced))

abbrev pub SliceBorrowBreaks : BackendAttrSupport → Option Borrow → TypeFault → Type 0
SliceBorrowBreaks support (Some b) f = StaticBreaks support b.lifetime f ⊎ MutBreaks support b.mutability f
SliceBorrowBreaks support None f = ⊥

abbrev pub OpaquesInBreak : BackendAttrSupport → Option Borrow → Borrow → TypeFault → Type 0
OpaquesInBreak support b e f = ((IsFixedSlice b ⊎ IsFixed e) × (f ≡ Broken rule.OpaqueSliceShape)) ⊎ Lacks support flag.OpaqueSlices f

abbrev pub ValueElementBreaks : Value → TypeFault → Type 0
ValueElementBreaks (value.Primitive p) f = f ≡ Broken rule.SliceElement
ValueElementBreaks _ f = ⊥

abbrev pub ElementInBreaks : BackendAttrSupport → Option Borrow → Element → TypeFault → Type 0
ElementInBreaks support b (element.Value v) f = ValueElementBreaks v f
ElementInBreaks support b element.Opaque f = f ≡ Broken rule.OpaqueByValue
ElementInBreaks support b (element.OpaqueReference e id mark) f = Unmarked e.mutability mark f ⊎ OpaquesInBreak support b e f
ElementInBreaks support b (element.OpaqueOption e id d) f = OfDiplomat d f ⊎ OpaquesInBreak support b e f
ElementInBreaks support b element.Other f = f ≡ Broken rule.SliceElement

abbrev pub ElementOutBreaks : Element → TypeFault → Type 0
ElementOutBreaks (element.Value v) f = ValueElementBreaks v f
ElementOutBreaks element.Opaque f = f ≡ Broken rule.OpaqueByValue
ElementOutBreaks (element.OpaqueReference e id mark) f = f ≡ Broken rule.OpaqueSliceShape
ElementOutBreaks (element.OpaqueOption e id d) f = OfDiplomat d f ⊎ (f ≡ Broken rule.OpaqueSliceShape)
ElementOutBreaks element.Other f = f ≡ Broken rule.SliceElement

-- what the cell asks isn't met
abbrev pub CellBreaks : BackendAttrSupport → Part → Cell → TypeFault → Type 0
CellBreaks support part cell.Fine f = ⊥
CellBreaks support part (cell.Broken r) f = f ≡ Broken r
CellBreaks support part (cell.UnlessInside r) f = (part ≡ Whole) × (f ≡ Broken r)
CellBreaks support part (cell.Needs flag) f = Lacks support flag f
CellBreaks support part cell.Inside f = ⊥
CellBreaks support part (cell.Marked m mark) f = Unmarked m mark f
CellBreaks support part (cell.OfOpaque d) f = OfDiplomat d f
CellBreaks support part (cell.OfBox d) f = BoxBreaks part d f
CellBreaks support part (cell.OfValue d) f = OfStd d f ⊎ Lacks support flag.Option f
CellBreaks support part (cell.Static l m) f = StaticBreaks support l f ⊎ MutBreaks support m f
CellBreaks support part (cell.Mut m) f = MutBreaks support m f
CellBreaks support part (cell.Bytes p) f = BytesBreak support part p f
CellBreaks support part (cell.SliceIn b e) f = SliceBorrowBreaks support b f ⊎ ElementInBreaks support b e f
CellBreaks support part (cell.SliceOut b e) f = SliceBorrowBreaks support b f ⊎ ElementOutBreaks e f
