-- The names of primitive types.
use Rattle.std.specs.Prelude.{ℕ, List, codes}
use Rattle.hir_ids.specs.declared.primitives.IntType.{IntType}
use Rattle.hir_ids.specs.declared.primitives.IntType.TheVariants as int
use Rattle.hir_ids.specs.declared.primitives.IntSizeType.{IntSizeType}
use Rattle.hir_ids.specs.declared.primitives.IntSizeType.TheVariants as size
use Rattle.hir_ids.specs.declared.primitives.Int128Type.{Int128Type}
use Rattle.hir_ids.specs.declared.primitives.Int128Type.TheVariants as wide
use Rattle.hir_ids.specs.declared.primitives.FloatType.{FloatType}
use Rattle.hir_ids.specs.declared.primitives.FloatType.TheVariants as float
use Rattle.hir_ids.specs.declared.primitives.PrimitiveType.{PrimitiveType}
use Rattle.hir_ids.specs.declared.primitives.PrimitiveType.TheVariants as primitive

-- integers of up to 64 bits, as Rust names them
abbrev pub int_name : IntType → List ℕ
int_name int.I8 = codes "i8"
int_name int.I16 = codes "i16"
int_name int.I32 = codes "i32"
int_name int.I64 = codes "i64"
int_name int.U8 = codes "u8"
int_name int.U16 = codes "u16"
int_name int.U32 = codes "u32"
int_name int.U64 = codes "u64"

-- integers of the machine's size, as Rust names them
abbrev pub size_name : IntSizeType → List ℕ
size_name size.Isize = codes "isize"
size_name size.Usize = codes "usize"

-- integers of 128 bits, as Rust names them
abbrev pub wide_name : Int128Type → List ℕ
wide_name wide.I128 = codes "i128"
wide_name wide.U128 = codes "u128"

-- floats, as Rust names them
abbrev pub float_name : FloatType → List ℕ
float_name float.F32 = codes "f32"
float_name float.F64 = codes "f64"

-- any primitive type: `byte` and `ordering` are Diplomat's names of a `u8` that stands for raw
-- data and of `std::cmp::Ordering`
abbrev pub lowered_name : PrimitiveType → List ℕ
lowered_name primitive.Bool = codes "bool"
lowered_name primitive.Char = codes "char"
lowered_name primitive.Byte = codes "byte"
lowered_name primitive.Ordering = codes "ordering"
lowered_name (primitive.Int t) = int_name t
lowered_name (primitive.IntSize t) = size_name t
lowered_name (primitive.Int128 t) = wide_name t
lowered_name (primitive.Float t) = float_name t
