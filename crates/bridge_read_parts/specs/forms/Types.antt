-- Types: a word, or an object with one key.
use Rattle.std.specs.Prelude.{ℕ, zero, suc, List, [], ◌∷◌, codes, Bool, true, false, Option, Some, None, option_map, option_and_then, if◌then◌else◌}
use Rattle.std.specs.Str.{bytes_eq}
use Rattle.bridge_decl.specs.declared.lifetimes.Lifetime.{Lifetime}
use Rattle.bridge_decl.specs.declared.types.Mutability.{Mutability}
use Rattle.bridge_decl.specs.declared.types.PrimitiveType.{PrimitiveType}
use Rattle.bridge_decl.specs.declared.types.PrimitiveType.TheVariants as primitive
use Rattle.bridge_decl.specs.declared.types.StringEncoding.{StringEncoding}
use Rattle.bridge_decl.specs.declared.types.StdlibOrDiplomat.{StdlibOrDiplomat}
use Rattle.bridge_decl.specs.declared.types.StdlibOrDiplomat.TheVariants.{Stdlib, Diplomat}
use Rattle.bridge_decl.specs.declared.types.WriteType.{WriteType}
use Rattle.bridge_decl.specs.declared.types.WriteType.TheVariants as write
use Rattle.bridge_decl.specs.declared.types.TypeName.{TypeName}
use Rattle.bridge_decl.specs.declared.types.TypeName.TheVariants as type
use Rattle.bridge_form.specs.declared.keys.Key.{Key}
use Rattle.bridge_form.specs.declared.keys.Key.TheVariants as key
use Rattle.bridge_form.specs.Form.{Form, Parts, object_with, made, ◌&◌, needs, may_be, may_have, refined_at, refined, mapped, word_or, one_of, never, list, text, flag, find_word, one_word}
use Rattle.bridge_words.specs.Words.{primitive_words, encoding_words}
use Rattle.bridge_read_parts.specs.forms.Lifetimes.{lifetime, path, mutability}

-- whose spelling was used
abbrev pub spelling : Bool → StdlibOrDiplomat
spelling true = Stdlib
spelling false = Diplomat

-- ---- words

-- the name of a primitive type
abbrev pub primitive_called : List ℕ → Option PrimitiveType
primitive_called word = find_word primitive_words word

-- the name of a primitive type, `ordering` or `unit`
unfoldable pub type_called : List ℕ → Option TypeName
type_called word = if bytes_eq word (codes "ordering") then Some type.Ordering else (if bytes_eq word (codes "unit") then Some type.Unit else option_map type.Primitive (primitive_called word))

unfoldable pub type_word : Form TypeName
type_word = refined type_called text

-- a primitive type that a writer takes
unfoldable pub written_primitive : PrimitiveType → Option WriteType
written_primitive primitive.bool = None
written_primitive primitive.char = None
written_primitive primitive.byte = None
written_primitive other = Some (write.Primitive other)

-- what a writer takes: `str`, `str16` or a primitive type other than `bool`, `char` and `byte`
unfoldable pub writer_called : List ℕ → Option WriteType
writer_called word = if bytes_eq word (codes "str") then Some write.Str else (if bytes_eq word (codes "str16") then Some write.Str16 else option_and_then written_primitive (primitive_called word))

unfoldable pub writer : Form WriteType
writer = refined writer_called text

unfoldable pub primitive_name : Form PrimitiveType
primitive_name = one_word primitive_words

unfoldable pub encoding : Form StringEncoding
encoding = one_word encoding_words

-- ---- objects under one key

abbrev pub str_slice_of : Option Lifetime → StringEncoding → Bool → TypeName
str_slice_of of encoded std = type.StrReference of encoded (spelling std)

-- {"lifetime": lifetime, "encoding": encoding, "std": bool}
unfoldable pub str_slice : Form TypeName
str_slice = object_with (made str_slice_of & may_have key.Lifetime lifetime & needs key.Encoding encoding & may_be key.Std flag false)

abbrev pub str_list_of : StringEncoding → Bool → TypeName
str_list_of encoded std = type.StrSlice encoded (spelling std)

-- {"encoding": encoding, "std": bool}
unfoldable pub str_list : Form TypeName
str_list = object_with (made str_list_of & needs key.Encoding encoding & may_be key.Std flag false)

-- a slice's lifetime with its mutability; a slice without a lifetime is owned, and not said to be mutable
abbrev pub borrow_of : Option Lifetime × Bool → Option (Option (Lifetime × Mutability))
borrow_of (None, true) = None
borrow_of (None, false) = Some None
borrow_of (Some of, mutable) = Some (Some (of, mutability mutable))

abbrev pub both_of : Option Lifetime → Bool → Option Lifetime × Bool
both_of of mutable = (of, mutable)

unfoldable pub written_borrow : Parts (Option Lifetime × Bool)
written_borrow = made both_of & may_have key.Lifetime lifetime & may_be key.Mutable flag false

unfoldable pub borrow : Parts (Option (Lifetime × Mutability))
borrow = refined_at key.Mutable borrow_of written_borrow

abbrev pub primitive_slice_of : Option (Lifetime × Mutability) → PrimitiveType → Bool → TypeName
primitive_slice_of borrowed of std = type.PrimitiveSlice borrowed of (spelling std)

-- {"lifetime": lifetime, "mutable": bool, "of": primitive type, "std": bool}
unfoldable pub primitive_slice : Form TypeName
primitive_slice = object_with (made primitive_slice_of & borrow & needs key.Of primitive_name & may_be key.Std flag false)

-- ---- types that hold types

abbrev pub type_or_unit : Option TypeName → TypeName
type_or_unit (Some ty) = ty
type_or_unit None = type.Unit

abbrev pub reference_type_of : Lifetime → Bool → TypeName → TypeName
reference_type_of of mutable to = type.Reference of (mutability mutable) to

abbrev pub result_of : StdlibOrDiplomat → TypeName → TypeName → TypeName
result_of whose ok err = type.Result ok err whose

abbrev pub custom_slice_of : Option (Lifetime × Mutability) → TypeName → Bool → TypeName
custom_slice_of borrowed of std = type.CustomTypeSlice borrowed of (spelling std)

abbrev pub callback_of : List TypeName → Option TypeName → Bool → TypeName
callback_of params ret mutable = type.Function params (type_or_unit ret) (mutability mutable)

abbrev pub option_type_of : StdlibOrDiplomat → TypeName → TypeName
option_type_of whose inner = type.Option inner whose

module _ (ty : Form TypeName) where
  -- {"lifetime": lifetime, "mutable": bool, "to": type}
  abbrev pub reference_type : Form TypeName
  reference_type = object_with (made reference_type_of & needs key.Lifetime lifetime & may_be key.Mutable flag false & needs key.To ty)

  -- {"ok": type, "err": type}
  abbrev pub result_type : StdlibOrDiplomat → Form TypeName
  result_type whose = object_with (made (result_of whose) & needs key.OkType ty & needs key.ErrType ty)

  -- {"lifetime": lifetime, "mutable": bool, "of": type, "std": bool}
  abbrev pub custom_slice : Form TypeName
  custom_slice = object_with (made custom_slice_of & borrow & needs key.Of ty & may_be key.Std flag false)

  -- {"params": [types], "ret": type, "mutable": bool}
  abbrev pub callback : Form TypeName
  callback = object_with (made callback_of & may_be key.Params (list ty) [] & may_have key.Ret ty & may_be key.Mutable flag false)

  -- what stands under the key of a type, by the key
  abbrev pub type_under : Key → Form TypeName
  type_under key.Named = mapped type.Named path
  type_under key.Itself = mapped type.SelfType path
  type_under key.ImplTrait = mapped type.ImplTrait path
  type_under key.Ref = reference_type
  type_under key.Boxed = mapped type.Box ty
  type_under key.StdOption = mapped (option_type_of Stdlib) ty
  type_under key.DiplomatOption = mapped (option_type_of Diplomat) ty
  type_under key.StdResult = result_type Stdlib
  type_under key.DiplomatResult = result_type Diplomat
  type_under key.Write = mapped type.Write writer
  type_under key.Str = str_slice
  type_under key.Strs = str_list
  type_under key.Slice = primitive_slice
  type_under key.CustomSlice = custom_slice
  type_under key.Callback = callback
  type_under other = never

abbrev pub type_keys : List Key
type_keys = key.Named ∷ key.Itself ∷ key.ImplTrait ∷ key.Ref ∷ key.Boxed ∷ key.StdOption ∷ key.DiplomatOption ∷ key.StdResult ∷ key.DiplomatResult ∷ key.Write ∷ key.Str ∷ key.Strs ∷ key.Slice ∷ key.CustomSlice ∷ key.Callback ∷ []

-- a type in which types nest at most so deep
abbrev pub type_within : ℕ → Form TypeName
type_within zero = never
type_within (suc levels) = word_or type_word (one_of type_keys (type_under (type_within levels)))

-- a type: a JSON text nests at most 127 deep, and each level of a type is a level of the text
unfoldable pub type_name : Form TypeName
type_name = type_within 128
