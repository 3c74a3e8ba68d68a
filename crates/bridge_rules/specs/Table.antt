-- The table of positions: a row a shape, a column a position. What a cell asks of a type stands above it, in `bridge_grid`.
use Rattle.bridge_decl.specs.declared.types.Mutability.{Mutability}
use Rattle.bridge_decl.specs.declared.types.Mutability.TheVariants.{Mutable, Immutable}
use Rattle.hir_backends.specs.declared.support.flag.SupportFlag.{SupportFlag}
use Rattle.hir_backends.specs.declared.support.flag.SupportFlag.TheVariants as flag
use Rattle.hir_reports.specs.declared.rule.Rule.TheVariants as rule
use Rattle.bridge_rules.specs.declared.position.Position.{Position}
use Rattle.bridge_rules.specs.declared.position.Position.TheVariants as at
use Rattle.bridge_rules.specs.declared.shape.FlatSlice.TheVariants as flat
use Rattle.bridge_rules.specs.declared.shape.Shape.{Shape}
use Rattle.bridge_rules.specs.declared.shape.Shape.TheVariants as shape
use Rattle.bridge_rules.specs.declared.shape.Value.TheVariants as value
use Rattle.bridge_rules.specs.declared.table.Cell.{Cell}
use Rattle.bridge_rules.specs.declared.table.Cell.TheVariants.{Fine, Broken, UnlessInside, Needs, Inside, Marked, OfOpaque, OfBox, OfValue, Static, Mut, Bytes, SliceIn, SliceOut}

-- a cell for each position
abbrev pub six : Cell → Cell → Cell → Cell → Cell → Cell → Position → Cell
six f p k c g r at.Field = f
six f p k c g r at.Param = p
six f p k c g r at.CallbackReturn = k
six f p k c g r at.CallbackParam = c
six f p k c g r at.OutField = g
six f p k c g r at.Return = r

-- the same in all six
abbrev pub everywhere : Cell → Position → Cell
everywhere c at = c

-- one in what comes in, another in what goes out
abbrev pub by_way : Cell → Cell → Position → Cell
by_way i o = six i i i o o o

-- a struct by reference needs a feature of its own where it may be written through
abbrev pub refs_flag : Mutability → SupportFlag
refs_flag Mutable = flag.MutStructRefs
refs_flag Immutable = flag.StructRefs

abbrev pub refs : Mutability → Cell
refs m = Needs (refs_flag m)

-- a row a shape. Of six cells the first three are for what comes in: a field, a parameter, what a callback returns; and the others
-- for what goes out: a parameter of a callback, a field of an out-struct, a return
abbrev pub cell_of : Shape → Position → Cell
cell_of (shape.Value (value.Primitive _)) = everywhere Fine
cell_of (shape.Value (value.Enum _)) = everywhere Fine
cell_of (shape.Value (value.Struct _)) = everywhere Fine
cell_of shape.Ordering = six
    (Broken rule.OrderingMisplaced) (Broken rule.OrderingMisplaced) (Broken rule.OrderingMisplaced)
    Fine (Broken rule.OrderingMisplaced) Fine
cell_of (shape.Value (value.Empty _)) = by_way (Broken rule.ZeroSize) (UnlessInside rule.ZeroSize)
cell_of (shape.Value (value.EmptyOut _)) = by_way (Broken rule.ZeroSize) (UnlessInside rule.ZeroSize)
cell_of (shape.Value (value.OutStruct _)) = by_way (Broken rule.OutStructInput) Fine
cell_of shape.Opaque = everywhere (Broken rule.OpaqueByValue)
cell_of (shape.ImplTrait _) = six
    (Broken rule.TraitMisplaced) (Needs flag.Traits) (Needs flag.Traits)
    (Broken rule.TraitMisplaced) (Broken rule.TraitMisplaced) (Broken rule.TraitMisplaced)
cell_of (shape.OpaqueReference b _ mark) = by_way (Marked b.mutability mark) Fine
cell_of (shape.StructReference b _) = six
    (refs b.mutability) (refs b.mutability) (Broken rule.CallbackReturnShape)
    (Broken rule.ReferenceTarget) (Broken rule.ReferenceTarget) (Broken rule.ReferenceTarget)
cell_of (shape.OutStructReference b _) = six
    (Broken rule.OutStructInput) (Broken rule.OutStructInput) (Broken rule.CallbackReturnShape)
    (Broken rule.ReferenceTarget) (Broken rule.ReferenceTarget) (Broken rule.ReferenceTarget)
cell_of shape.OtherReference = everywhere (Broken rule.ReferenceTarget)
cell_of (shape.OpaqueBox _) = by_way (Broken rule.BoxMisplaced) Fine
cell_of shape.OtherBox = everywhere (Broken rule.BoxMisplaced)
cell_of (shape.OptionOfReference _ _ d) = everywhere (OfOpaque d)
cell_of (shape.OptionOfBox _ d) = six
    (Broken rule.OptionShape) (Broken rule.OptionShape) (OfBox d)
    (OfOpaque d) (OfOpaque d) (OfOpaque d)
cell_of shape.OptionOfPointer = everywhere (Broken rule.OptionShape)
cell_of (shape.OptionOfValue _ d) = six
    (OfValue d) (Needs flag.Option) (Needs flag.Option)
    (Needs flag.Option) (OfValue d) (Needs flag.Option)
cell_of (shape.OptionOfStrings _) = by_way Fine (Broken rule.OptionShape)
cell_of (shape.OptionOfFlat _) = by_way Inside (Broken rule.OptionShape)
cell_of shape.OtherOption = everywhere (Broken rule.OptionShape)
cell_of shape.Result = everywhere (Broken rule.ResultMisplaced)
cell_of shape.Writer = everywhere (Broken rule.WriteMisplaced)
cell_of (shape.Flat (flat.Str l _)) = by_way (Static l Immutable) (Mut Immutable)
cell_of (shape.Flat (flat.Primitives b _)) = by_way (Static b.lifetime b.mutability) (Mut b.mutability)
cell_of (shape.Flat (flat.OwnedStr _)) = six
    (Needs flag.OwnedSlices) (Needs flag.OwnedSlices) (Broken rule.OwnedSliceMisplaced)
    (Broken rule.OwnedSliceMisplaced) (Broken rule.OwnedSliceMisplaced) (Broken rule.OwnedSliceMisplaced)
cell_of (shape.Flat (flat.OwnedPrimitives p)) = six
    (Needs flag.OwnedSlices) (Needs flag.OwnedSlices) (Broken rule.OwnedSliceMisplaced)
    (Broken rule.OwnedSliceMisplaced) (Broken rule.OwnedSliceMisplaced) (Bytes p)
cell_of (shape.Strings _) = by_way Fine (Broken rule.StrsOutput)
cell_of (shape.Slice b e) = by_way (SliceIn b e) (SliceOut b e)
cell_of shape.Function = six
    (Broken rule.FunctionMisplaced) (Needs flag.Callbacks) (Broken rule.FunctionMisplaced)
    (Broken rule.FunctionMisplaced) (Broken rule.FunctionMisplaced) (Broken rule.FunctionMisplaced)
cell_of shape.Unit = everywhere (Broken rule.UnitMisplaced)
