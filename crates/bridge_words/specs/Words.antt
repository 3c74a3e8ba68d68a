-- The words of the form: the names of primitive types, encodings, kinds of items, kinds of documented paths and displays of links.
use Rattle.std.specs.Prelude.{ℕ, List, [], ◌∷◌, codes}
use Rattle.bridge_decl.specs.declared.types.PrimitiveType.{PrimitiveType}
use Rattle.bridge_decl.specs.declared.types.PrimitiveType.TheVariants as primitive
use Rattle.bridge_decl.specs.declared.types.StringEncoding.{StringEncoding}
use Rattle.bridge_decl.specs.declared.types.StringEncoding.TheVariants as encoding
use Rattle.bridge_words.specs.declared.words.ItemKind.{ItemKind}
use Rattle.bridge_words.specs.declared.words.ItemKind.TheVariants as item
use Rattle.bridge_decl.specs.declared.docs.DocType.{DocType}
use Rattle.bridge_decl.specs.declared.docs.DocType.TheVariants as doc
use Rattle.bridge_decl.specs.declared.docs.RustLinkDisplay.{RustLinkDisplay}
use Rattle.bridge_decl.specs.declared.docs.RustLinkDisplay.TheVariants as display

-- the name of a primitive type
unfoldable pub primitive_words : List (List ℕ × PrimitiveType)
primitive_words =
    (codes "i8", primitive.i8) ∷
    (codes "u8", primitive.u8) ∷
    (codes "i16", primitive.i16) ∷
    (codes "u16", primitive.u16) ∷
    (codes "i32", primitive.i32) ∷
    (codes "u32", primitive.u32) ∷
    (codes "i64", primitive.i64) ∷
    (codes "u64", primitive.u64) ∷
    (codes "isize", primitive.isize) ∷
    (codes "usize", primitive.usize) ∷
    (codes "i128", primitive.i128) ∷
    (codes "u128", primitive.u128) ∷
    (codes "f32", primitive.f32) ∷
    (codes "f64", primitive.f64) ∷
    (codes "bool", primitive.bool) ∷
    (codes "char", primitive.char) ∷
    (codes "byte", primitive.byte) ∷
    []

-- the name of an encoding
unfoldable pub encoding_words : List (List ℕ × StringEncoding)
encoding_words =
    (codes "utf8", encoding.Utf8) ∷
    (codes "unvalidated_utf8", encoding.UnvalidatedUtf8) ∷
    (codes "unvalidated_utf16", encoding.UnvalidatedUtf16) ∷
    []

-- the name of a kind of documented path
unfoldable pub doc_words : List (List ℕ × DocType)
doc_words =
    (codes "Struct", doc.Struct) ∷
    (codes "StructField", doc.StructField) ∷
    (codes "Enum", doc.Enum) ∷
    (codes "EnumVariant", doc.EnumVariant) ∷
    (codes "EnumVariantField", doc.EnumVariantField) ∷
    (codes "Trait", doc.Trait) ∷
    (codes "FnInStruct", doc.FnInStruct) ∷
    (codes "FnInTypedef", doc.FnInTypedef) ∷
    (codes "FnInEnum", doc.FnInEnum) ∷
    (codes "FnInTrait", doc.FnInTrait) ∷
    (codes "DefaultFnInTrait", doc.DefaultFnInTrait) ∷
    (codes "Fn", doc.Fn) ∷
    (codes "Mod", doc.Mod) ∷
    (codes "Constant", doc.Constant) ∷
    (codes "AssociatedConstantInEnum", doc.AssociatedConstantInEnum) ∷
    (codes "AssociatedConstantInTrait", doc.AssociatedConstantInTrait) ∷
    (codes "AssociatedConstantInStruct", doc.AssociatedConstantInStruct) ∷
    (codes "Macro", doc.Macro) ∷
    (codes "AssociatedTypeInEnum", doc.AssociatedTypeInEnum) ∷
    (codes "AssociatedTypeInTrait", doc.AssociatedTypeInTrait) ∷
    (codes "AssociatedTypeInStruct", doc.AssociatedTypeInStruct) ∷
    (codes "Typedef", doc.Typedef) ∷
    []

-- the name of a display of a link
unfoldable pub display_words : List (List ℕ × RustLinkDisplay)
display_words =
    (codes "normal", display.Normal) ∷
    (codes "compact", display.Compact) ∷
    (codes "hidden", display.Hidden) ∷
    []

-- the name of a kind of items
unfoldable pub item_kind_words : List (List ℕ × ItemKind)
item_kind_words =
    (codes "struct", item.Struct) ∷
    (codes "out_struct", item.OutStruct) ∷
    (codes "opaque", item.Opaque) ∷
    (codes "enum", item.Enum) ∷
    (codes "trait", item.Trait) ∷
    (codes "function", item.Function) ∷
    []
