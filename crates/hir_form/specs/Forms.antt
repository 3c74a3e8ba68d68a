-- What a shape stands for at a position: the lowered type, over what the position makes of its parts. A shape that stands for
-- nothing is refused everywhere, or at the positions that don't have its parts.
use Rattle.std.specs.Prelude.{ℕ, List, Bool, true, false, Option, Some, None, option_map}
use Rattle.bridge_decl.specs.declared.types.PrimitiveType.{PrimitiveType}
use Rattle.bridge_decl.specs.declared.types.PrimitiveType.TheVariants as declared
use Rattle.bridge_rules.specs.declared.shape.Element.{Element}
use Rattle.bridge_rules.specs.declared.shape.Element.TheVariants as element
use Rattle.bridge_rules.specs.declared.shape.FlatSlice.{FlatSlice}
use Rattle.bridge_rules.specs.declared.shape.FlatSlice.TheVariants as flat
use Rattle.bridge_rules.specs.declared.shape.Shape.{Shape}
use Rattle.bridge_rules.specs.declared.shape.Shape.TheVariants as shape
use Rattle.bridge_rules.specs.declared.shape.Value.{Value}
use Rattle.bridge_rules.specs.declared.shape.Value.TheVariants as value
use Rattle.hir_ids.specs.Owners.{owner_of}
use Rattle.hir_ids.specs.declared.owners.MaybeOwn.{MaybeOwn}
use Rattle.hir_ids.specs.declared.owners.MaybeOwn.TheVariants as owner
use Rattle.hir_ids.specs.declared.owners.Optional.{Optional}
use Rattle.hir_ids.specs.declared.primitives.FloatType.TheVariants as float
use Rattle.hir_ids.specs.declared.primitives.Int128Type.TheVariants as wide
use Rattle.hir_ids.specs.declared.primitives.IntSizeType.TheVariants as size
use Rattle.hir_ids.specs.declared.primitives.IntType.TheVariants as int
use Rattle.hir_ids.specs.declared.primitives.PrimitiveType.{PrimitiveType as LoweredPrimitive}
use Rattle.hir_ids.specs.declared.primitives.PrimitiveType.TheVariants as primitive
use Rattle.hir_life.specs.declared.maybe_static.MaybeStatic.{MaybeStatic}
use Rattle.hir_types.specs.declared.paths.EnumPath.{EnumPath}
use Rattle.hir_types.specs.declared.paths.OpaquePath.{OpaquePath}
use Rattle.hir_types.specs.declared.paths.StructPath.{StructPath}
use Rattle.hir_types.specs.declared.paths.TraitPath.{TraitPath}
use Rattle.hir_types.specs.declared.slices.Slice.{Slice}
use Rattle.hir_types.specs.declared.slices.Slice.TheVariants as slice
use Rattle.hir_types.specs.declared.types.HirType.{HirType, roll-HirType}
use Rattle.hir_types.specs.declared.types.HirType.TheOpen.{HirType-F}
use Rattle.hir_form.specs.Makers.{Makers}

-- ---- primitive types, grouped as backends treat them

abbrev pub primitive_form : PrimitiveType → LoweredPrimitive
primitive_form declared.i8 = primitive.Int int.I8
primitive_form declared.u8 = primitive.Int int.U8
primitive_form declared.i16 = primitive.Int int.I16
primitive_form declared.u16 = primitive.Int int.U16
primitive_form declared.i32 = primitive.Int int.I32
primitive_form declared.u32 = primitive.Int int.U32
primitive_form declared.i64 = primitive.Int int.I64
primitive_form declared.u64 = primitive.Int int.U64
primitive_form declared.isize = primitive.IntSize size.Isize
primitive_form declared.usize = primitive.IntSize size.Usize
primitive_form declared.i128 = primitive.Int128 wide.I128
primitive_form declared.u128 = primitive.Int128 wide.U128
primitive_form declared.f32 = primitive.Float float.F32
primitive_form declared.f64 = primitive.Float float.F64
primitive_form declared.bool = primitive.Bool
primitive_form declared.char = primitive.Char
primitive_form declared.byte = primitive.Byte

-- ---- paths

-- what a path gives its definition
abbrev pub Generics : Type 0
Generics = List (MaybeStatic ℕ)

abbrev pub struct_path : Generics → ℕ → MaybeOwn → StructPath
struct_path ls id held = record { lifetimes = ls; tcx_id = id; owner = held }

abbrev pub trait_path : Generics → ℕ → TraitPath
trait_path ls id = record { lifetimes = ls; tcx_id = id }

abbrev pub enum_path : ℕ → EnumPath
enum_path id = record { tcx_id = id }

abbrev pub opaque_path : {O : Type 0} → Generics → Bool → ℕ → O → OpaquePath Optional O
opaque_path ls is_optional id held = record { lifetimes = ls; optional = record { 0 = is_optional }; owner = held; tcx_id = id }

module _ {P C O I S T : Type 0} where
  -- ---- types of one layer

  abbrev pub primitive_type : LoweredPrimitive → HirType P C O I S T
  primitive_type p = roll-HirType _ _ _ _ _ _ (HirType-F.Primitive p)

  abbrev pub opaque_type : OpaquePath Optional O → HirType P C O I S T
  opaque_type path = roll-HirType _ _ _ _ _ _ (HirType-F.Opaque path)

  abbrev pub struct_type : S → HirType P C O I S T
  struct_type path = roll-HirType _ _ _ _ _ _ (HirType-F.Struct path)

  abbrev pub trait_type : T → HirType P C O I S T
  trait_type path = roll-HirType _ _ _ _ _ _ (HirType-F.ImplTrait path)

  abbrev pub enum_type : ℕ → HirType P C O I S T
  enum_type id = roll-HirType _ _ _ _ _ _ (HirType-F.Enum (enum_path id))

  abbrev pub slice_type : Slice P C O I S T → HirType P C O I S T
  slice_type s = roll-HirType _ _ _ _ _ _ (HirType-F.Slice s)

  abbrev pub callback_type : C → HirType P C O I S T
  callback_type c = roll-HirType _ _ _ _ _ _ (HirType-F.Callback c)

  abbrev pub option_type : HirType P C O I S T → HirType P C O I S T
  option_type t = roll-HirType _ _ _ _ _ _ (HirType-F.DiplomatOption t)

  -- ---- texts and lists of primitive types, which are the same everywhere

  abbrev pub flat_form : FlatSlice → Slice P C O I S T
  flat_form (flat.Str l e) = slice.Str (Some l) e
  flat_form (flat.OwnedStr e) = slice.Str None e
  flat_form (flat.Primitives b p) = slice.Primitive (owner.Borrow b) (primitive_form p)
  flat_form (flat.OwnedPrimitives p) = slice.Primitive owner.Own (primitive_form p)

module _ {P C O I S T : Type 0} (m : Makers O S T) (ls : Generics) where
  -- ---- values

  -- a struct of that number, which may be one that only comes out
  abbrev pub struct_form : Bool → ℕ → MaybeOwn → Option (HirType P C O I S T)
  struct_form is_out id held = option_map struct_type (m.named is_out (struct_path ls id held))

  abbrev pub value_form : Value → Option (HirType P C O I S T)
  value_form (value.Primitive p) = Some (primitive_type (primitive_form p))
  value_form (value.Enum id) = Some (enum_type id)
  value_form (value.Struct id) = struct_form false id owner.Own
  value_form (value.Empty id) = struct_form false id owner.Own
  value_form (value.EmptyOut id) = struct_form true id owner.Own
  value_form (value.OutStruct id) = struct_form true id owner.Own

  -- ---- opaques

  abbrev pub boxed_form : Bool → ℕ → Option (HirType P C O I S T)
  boxed_form is_optional id = option_map (λ held. opaque_type (opaque_path ls is_optional id held)) m.boxed

  -- ---- slices of other types, by who holds the slice

  abbrev pub structs_form : MaybeOwn → Bool → ℕ → Option (Slice P C O I S T)
  structs_form held is_out id = option_map (λ path. slice.Struct held path) (m.named is_out (struct_path ls id owner.Own))

  abbrev pub values_form : MaybeOwn → Value → Option (Slice P C O I S T)
  values_form held (value.Primitive p) = None
  values_form held (value.Enum id) = Some (slice.Enum held (enum_path id))
  values_form held (value.Struct id) = structs_form held false id
  values_form held (value.Empty id) = structs_form held false id
  values_form held (value.EmptyOut id) = structs_form held true id
  values_form held (value.OutStruct id) = structs_form held true id

  abbrev pub elements_form : MaybeOwn → Element → Option (Slice P C O I S T)
  elements_form held (element.Value v) = values_form held v
  elements_form held element.Opaque = None
  elements_form held (element.OpaqueReference b id _) = Some (slice.Opaque held (opaque_path ls false id b))
  elements_form held (element.OpaqueOption b id _) = Some (slice.Opaque held (opaque_path ls true id b))
  elements_form held element.Other = None

  -- ---- the whole

  -- what a shape stands for, where the one path in it gives these lifetimes
  abbrev pub shape_form : Shape → Option (HirType P C O I S T)
  shape_form (shape.Value v) = value_form v
  shape_form shape.Ordering = Some (primitive_type primitive.Ordering)
  shape_form shape.Opaque = None
  shape_form (shape.ImplTrait id) = option_map trait_type (m.implementing (trait_path ls id))
  shape_form (shape.OpaqueReference b id _) = Some (opaque_type (opaque_path ls false id (m.borrowed b)))
  shape_form (shape.StructReference b id) = struct_form false id (owner.Borrow b)
  shape_form (shape.OutStructReference b id) = struct_form true id (owner.Borrow b)
  shape_form shape.OtherReference = None
  shape_form (shape.OpaqueBox id) = boxed_form false id
  shape_form shape.OtherBox = None
  shape_form (shape.OptionOfReference b id _) = Some (opaque_type (opaque_path ls true id (m.borrowed b)))
  shape_form (shape.OptionOfBox id _) = boxed_form true id
  shape_form shape.OptionOfPointer = None
  shape_form (shape.OptionOfValue v _) = option_map option_type (value_form v)
  shape_form (shape.OptionOfStrings e) = Some (option_type (slice_type (slice.Strs e)))
  shape_form (shape.OptionOfFlat f) = Some (option_type (slice_type (flat_form f)))
  shape_form shape.OtherOption = None
  shape_form shape.Result = None
  shape_form shape.Writer = None
  shape_form (shape.Flat f) = Some (slice_type (flat_form f))
  shape_form (shape.Strings e) = Some (slice_type (slice.Strs e))
  shape_form (shape.Slice b e) = option_map slice_type (elements_form (owner_of b) e)
  shape_form shape.Function = None
  shape_form shape.Unit = None
