-- The laws of the forms of specs/forms/Items.
use Rattle.std.specs.Prelude.{[], Bool, true, false}
use Rattle.bridge_decl.specs.declared.enums.Variant.{Variant}
use Rattle.bridge_decl.specs.declared.modules.Item.{Item}
use Rattle.bridge_decl.specs.declared.structs.Field.{Field}
use Rattle.bridge_form.specs.declared.keys.Key.TheVariants as key
use Rattle.bridge_words.specs.declared.words.ItemKind.{ItemKind}
use Rattle.bridge_words.specs.declared.words.ItemKind.TheVariants as kind
use Rattle.bridge_words.specs.Words.{item_kind_words}
use Rattle.bridge_read.specs.forms.Items.{field_of, field, variant_of, variant, struct_of, struct_parts, opaque_of, opaque_parts, enum_of, enum_parts, trait_of, trait_parts, function_of, function_parts, parts_of, item_form}
use Rattle.bridge_form.proofs.FormLaws.{Lawful, LawfulParts}
use Rattle.bridge_form.proofs.Proved.{Proved, ProvedParts, List_of, Object, Made, Needs, May_have, May_be, Skips, Grouped, ◌&&&◌, Text, Flag, Integer, One_word}
use Rattle.bridge_form.specs.Form.{object_with, one_word}
use Rattle.bridge_form.proofs.ChoiceLaws.{chosen_lawful}
use Rattle.bridge_form.proofs.ObjectLaws.{object_lawful}
use Rattle.bridge_read_parts.proofs.forms.Docs.{P_documented}
use Rattle.bridge_read_parts.proofs.forms.Lifetimes.{P_node}
use Rattle.bridge_read.proofs.forms.Methods.{P_method, P_trait_method, P_signature}
use Rattle.bridge_read_parts.proofs.forms.Types.{P_type_name}

pub field_lawful : Lawful field
unfolding field
field_lawful = (Object (Made field_of &&& Needs key.Name Text &&& Needs key.Ty P_type_name &&& Grouped P_documented)).lawful

abbrev pub P_field : Proved Field
P_field = record { form = field; lawful = field_lawful }

pub variant_lawful : Lawful variant
unfolding variant
variant_lawful = (Object (Made variant_of &&& Needs key.Name Text &&& Needs key.Discriminant Integer &&& Grouped P_documented)).lawful

abbrev pub P_variant : Proved Variant
P_variant = record { form = variant; lawful = variant_lawful }

pub struct_parts_lawful : (output_only : Bool) → LawfulParts (struct_parts output_only)
struct_parts_lawful output_only = (Made (struct_of output_only) &&& Skips key.Kind &&& Needs key.Name Text &&& May_be key.Lifetimes (List_of P_node) [] &&& May_be key.Fields (List_of P_field) [] &&& May_be key.Methods (List_of P_method) [] &&& Grouped P_documented).lawful

pub opaque_parts_lawful : LawfulParts opaque_parts
unfolding opaque_parts
opaque_parts_lawful = (Made opaque_of &&& Skips key.Kind &&& Needs key.Name Text &&& May_be key.Lifetimes (List_of P_node) [] &&& May_be key.Mutable Flag false &&& May_be key.Methods (List_of P_method) [] &&& May_have key.DtorAbiName Text &&& Grouped P_documented).lawful

abbrev pub P_opaque_parts : ProvedParts Item
P_opaque_parts = record { parts = opaque_parts; lawful = opaque_parts_lawful }

pub enum_parts_lawful : LawfulParts enum_parts
unfolding enum_parts
enum_parts_lawful = (Made enum_of &&& Skips key.Kind &&& Needs key.Name Text &&& May_be key.Variants (List_of P_variant) [] &&& May_be key.Methods (List_of P_method) [] &&& Grouped P_documented).lawful

abbrev pub P_enum_parts : ProvedParts Item
P_enum_parts = record { parts = enum_parts; lawful = enum_parts_lawful }

pub trait_parts_lawful : LawfulParts trait_parts
unfolding trait_parts
trait_parts_lawful = (Made trait_of &&& Skips key.Kind &&& Needs key.Name Text &&& May_be key.Lifetimes (List_of P_node) [] &&& May_be key.Methods (List_of P_trait_method) [] &&& May_be key.IsSend Flag false &&& May_be key.IsSync Flag false &&& Grouped P_documented).lawful

abbrev pub P_trait_parts : ProvedParts Item
P_trait_parts = record { parts = trait_parts; lawful = trait_parts_lawful }

pub function_parts_lawful : LawfulParts function_parts
unfolding function_parts
function_parts_lawful = (Made function_of &&& Skips key.Kind &&& Needs key.Name Text &&& May_have key.AbiName Text &&& Grouped P_signature &&& Grouped P_documented).lawful

abbrev pub P_function_parts : ProvedParts Item
P_function_parts = record { parts = function_parts; lawful = function_parts_lawful }

parts_of_lawful : (of_kind : ItemKind) → LawfulParts (parts_of of_kind)
parts_of_lawful kind.Struct = struct_parts_lawful false
parts_of_lawful kind.OutStruct = struct_parts_lawful true
parts_of_lawful kind.Opaque = opaque_parts_lawful
parts_of_lawful kind.Enum = enum_parts_lawful
parts_of_lawful kind.Trait = trait_parts_lawful
parts_of_lawful kind.Function = function_parts_lawful

pub item_form_lawful : Lawful item_form
unfolding item_form
item_form_lawful = chosen_lawful key.Kind (one_word item_kind_words) (λ of_kind. object_with (parts_of of_kind)) (One_word item_kind_words).lawful (λ of_kind. object_lawful (parts_of of_kind) (parts_of_lawful of_kind))

abbrev pub P_item_form : Proved Item
P_item_form = record { form = item_form; lawful = item_form_lawful }
