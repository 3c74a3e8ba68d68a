-- A field by what it has beside its type, and a variant by what it has beside its number.
use Rattle.std.specs.Prelude.{ℤ}
use Rattle.hir_definitions.specs.declared.definitions.EnumVariant.{EnumVariant}
use Rattle.hir_definitions.specs.declared.definitions.StructField.{StructField}
use Rattle.hir_types.specs.declared.types.HirType.{HirType}
use Rattle.hir_fields.specs.declared.heads.Head.{Head}

-- a field of a type at any position
abbrev pub with_type : {P C O I S T : Type 0} → Head → HirType P C O I S T → StructField P C O I S T
with_type head ty = record { docs = head.notes.docs; name = head.name; ty = ty; attrs = head.notes.attrs }

-- a variant of that number
abbrev pub variant_with : Head → ℤ → EnumVariant
variant_with head discriminant = record { docs = head.notes.docs; name = head.name; discriminant = discriminant; attrs = head.notes.attrs }
