-- The laws of the forms of specs/forms/Types.
use Rattle.std.specs.Prelude.{ℕ, zero, suc, [], Bool, false, Option}
use Rattle.bridge_decl.specs.declared.lifetimes.Lifetime.{Lifetime}
use Rattle.bridge_decl.specs.declared.types.Mutability.{Mutability}
use Rattle.bridge_decl.specs.declared.types.PrimitiveType.{PrimitiveType}
use Rattle.bridge_decl.specs.declared.types.StringEncoding.{StringEncoding}
use Rattle.bridge_decl.specs.declared.types.StdlibOrDiplomat.TheVariants.{Stdlib, Diplomat}
use Rattle.bridge_decl.specs.declared.types.WriteType.{WriteType}
use Rattle.bridge_decl.specs.declared.types.TypeName.{TypeName}
use Rattle.bridge_decl.specs.declared.types.TypeName.TheVariants as type
use Rattle.bridge_form.specs.declared.keys.Key.{Key}
use Rattle.bridge_form.specs.declared.keys.Key.TheVariants as key
use Rattle.bridge_words.specs.Words.{primitive_words, encoding_words}
use Rattle.bridge_read_parts.specs.forms.Types.{type_called, type_word, writer_called, writer, primitive_name, encoding, str_slice_of, str_slice, str_list_of, str_list, borrow_of, both_of, written_borrow, borrow, primitive_slice_of, primitive_slice, reference_type_of, result_of, custom_slice_of, callback_of, option_type_of, type_keys, type_within, type_name, type_under}
use Rattle.bridge_form.proofs.FormLaws.{Lawful, LawfulParts}
use Rattle.bridge_form.proofs.Proved.{Proved, ProvedParts, List_of, Object, Made, Needs, May_have, May_be, Never, ◌&&&◌, Refined, Refined_at, Text, Flag, Mapped, One_word}
use Rattle.bridge_form.specs.Form.{Form, one_of}
use Rattle.bridge_form.proofs.ChoiceLaws.{word_or_lawful, one_of_lawful}
use Rattle.bridge_read_parts.proofs.forms.Lifetimes.{P_lifetime, P_path}

pub type_word_lawful : Lawful type_word
unfolding type_word
type_word_lawful = (Refined type_called Text).lawful

abbrev pub P_type_word : Proved TypeName
P_type_word = record { form = type_word; lawful = type_word_lawful }

pub writer_lawful : Lawful writer
unfolding writer
writer_lawful = (Refined writer_called Text).lawful

abbrev pub P_writer : Proved WriteType
P_writer = record { form = writer; lawful = writer_lawful }

pub primitive_name_lawful : Lawful primitive_name
unfolding primitive_name
primitive_name_lawful = (One_word primitive_words).lawful

abbrev pub P_primitive_name : Proved PrimitiveType
P_primitive_name = record { form = primitive_name; lawful = primitive_name_lawful }

pub encoding_lawful : Lawful encoding
unfolding encoding
encoding_lawful = (One_word encoding_words).lawful

abbrev pub P_encoding : Proved StringEncoding
P_encoding = record { form = encoding; lawful = encoding_lawful }

pub str_slice_lawful : Lawful str_slice
unfolding str_slice
str_slice_lawful = (Object (Made str_slice_of &&& May_have key.Lifetime P_lifetime &&& Needs key.Encoding P_encoding &&& May_be key.Std Flag false)).lawful

abbrev pub P_str_slice : Proved TypeName
P_str_slice = record { form = str_slice; lawful = str_slice_lawful }

pub str_list_lawful : Lawful str_list
unfolding str_list
str_list_lawful = (Object (Made str_list_of &&& Needs key.Encoding P_encoding &&& May_be key.Std Flag false)).lawful

abbrev pub P_str_list : Proved TypeName
P_str_list = record { form = str_list; lawful = str_list_lawful }

pub written_borrow_lawful : LawfulParts written_borrow
unfolding written_borrow
written_borrow_lawful = (Made both_of &&& May_have key.Lifetime P_lifetime &&& May_be key.Mutable Flag false).lawful

abbrev pub P_written_borrow : ProvedParts (Option Lifetime × Bool)
P_written_borrow = record { parts = written_borrow; lawful = written_borrow_lawful }

pub borrow_lawful : LawfulParts borrow
unfolding borrow
borrow_lawful = (Refined_at key.Mutable borrow_of P_written_borrow).lawful

abbrev pub P_borrow : ProvedParts (Option (Lifetime × Mutability))
P_borrow = record { parts = borrow; lawful = borrow_lawful }

pub primitive_slice_lawful : Lawful primitive_slice
unfolding primitive_slice
primitive_slice_lawful = (Object (Made primitive_slice_of &&& P_borrow &&& Needs key.Of P_primitive_name &&& May_be key.Std Flag false)).lawful

abbrev pub P_primitive_slice : Proved TypeName
P_primitive_slice = record { form = primitive_slice; lawful = primitive_slice_lawful }

module _ (ty : Form TypeName) (lawful : Lawful ty) where
  abbrev P_ty : Proved TypeName
  P_ty = record { form = ty; lawful = lawful }

  type_under_lawful : (key : Key) → Lawful (type_under ty key)
  type_under_lawful key.Named = (Mapped type.Named P_path).lawful
  type_under_lawful key.Itself = (Mapped type.SelfType P_path).lawful
  type_under_lawful key.ImplTrait = (Mapped type.ImplTrait P_path).lawful
  type_under_lawful key.Ref = (Object (Made reference_type_of &&& Needs key.Lifetime P_lifetime &&& May_be key.Mutable Flag false &&& Needs key.To P_ty)).lawful
  type_under_lawful key.Boxed = (Mapped type.Box P_ty).lawful
  type_under_lawful key.StdOption = (Mapped (option_type_of Stdlib) P_ty).lawful
  type_under_lawful key.DiplomatOption = (Mapped (option_type_of Diplomat) P_ty).lawful
  type_under_lawful key.StdResult = (Object (Made (result_of Stdlib) &&& Needs key.OkType P_ty &&& Needs key.ErrType P_ty)).lawful
  type_under_lawful key.DiplomatResult = (Object (Made (result_of Diplomat) &&& Needs key.OkType P_ty &&& Needs key.ErrType P_ty)).lawful
  type_under_lawful key.Write = (Mapped type.Write P_writer).lawful
  type_under_lawful key.Str = str_slice_lawful
  type_under_lawful key.Strs = str_list_lawful
  type_under_lawful key.Slice = primitive_slice_lawful
  type_under_lawful key.CustomSlice = (Object (Made custom_slice_of &&& P_borrow &&& Needs key.Of P_ty &&& May_be key.Std Flag false)).lawful
  type_under_lawful key.Callback = (Object (Made callback_of &&& May_be key.Params (List_of P_ty) [] &&& May_have key.Ret P_ty &&& May_be key.Mutable Flag false)).lawful
  type_under_lawful other = Never.lawful

pub type_within_lawful : (levels : ℕ) → Lawful (type_within levels)
type_within_lawful zero = Never.lawful
type_within_lawful (suc levels) = word_or_lawful type_word (one_of type_keys (type_under (type_within levels))) type_word_lawful (one_of_lawful type_keys (type_under (type_within levels)) (type_under_lawful (type_within levels) (type_within_lawful levels)))

pub type_name_lawful : Lawful type_name
unfolding type_name
type_name_lawful = type_within_lawful 128

abbrev pub P_type_name : Proved TypeName
P_type_name = record { form = type_name; lawful = type_name_lawful }
