-- Items: an object whose other keys depend on its kind.
use Rattle.std.specs.Prelude.{ℕ, ℤ, List, [], Bool, true, false, Option}
use Rattle.bridge_decl.specs.declared.attrs.Attrs.{Attrs}
use Rattle.bridge_decl.specs.declared.docs.Docs.{Docs}
use Rattle.bridge_decl.specs.declared.enums.Variant.{Variant}
use Rattle.bridge_decl.specs.declared.lifetimes.LifetimeNode.{LifetimeNode}
use Rattle.bridge_decl.specs.declared.methods.Method.{Method}
use Rattle.bridge_decl.specs.declared.modules.Item.{Item}
use Rattle.bridge_decl.specs.declared.modules.Item.TheVariants as item
use Rattle.bridge_decl.specs.declared.structs.Field.{Field}
use Rattle.bridge_decl.specs.declared.traits.TraitMethod.{TraitMethod}
use Rattle.bridge_decl.specs.declared.types.TypeName.{TypeName}
use Rattle.bridge_read.specs.declared.methods.Signature.{Signature}
use Rattle.bridge_form.specs.declared.keys.Key.TheVariants as key
use Rattle.bridge_words.specs.declared.words.ItemKind.{ItemKind}
use Rattle.bridge_words.specs.declared.words.ItemKind.TheVariants as kind
use Rattle.bridge_form.specs.Form.{Form, Parts, object_with, made, ◌&◌, needs, may_be, may_have, skips, grouped, chosen_by, list, text, flag, integer, one_word}
use Rattle.bridge_words.specs.Words.{item_kind_words}
use Rattle.bridge_read_parts.specs.forms.Docs.{documented}
use Rattle.bridge_read_parts.specs.forms.Lifetimes.{node, mutability}
use Rattle.bridge_read.specs.forms.Methods.{method, trait_method, signature, or_else}
use Rattle.bridge_read_parts.specs.forms.Types.{type_name}

abbrev pub field_of : List ℕ → TypeName → Docs × Attrs → Field
field_of name ty about = record { name = name; ty = ty; docs = about.0; attrs = about.1 }

-- {"name": text, "ty": type, "docs": documentation, "attrs": attributes}
unfoldable pub field : Form Field
field = object_with (made field_of & needs key.Name text & needs key.Ty type_name & grouped documented)

abbrev pub variant_of : List ℕ → ℤ → Docs × Attrs → Variant
variant_of name discriminant about = record { name = name; discriminant = discriminant; docs = about.0; attrs = about.1 }

-- {"name": text, "discriminant": whole number of 64 bits, "docs": documentation, "attrs": attributes}
unfoldable pub variant : Form Variant
variant = object_with (made variant_of & needs key.Name text & needs key.Discriminant integer & grouped documented)

abbrev pub struct_of : Bool → Unit {0} → List ℕ → List LifetimeNode → List Field → List Method → Docs × Attrs → Item
struct_of output_only of_kind name nodes fields methods about = item.Struct (record { name = name; lifetimes = record { nodes = nodes }; fields = fields; methods = methods; output_only = output_only; docs = about.0; attrs = about.1 })

-- the keys of a struct or an out-struct
abbrev pub struct_parts : Bool → Parts Item
struct_parts output_only = made (struct_of output_only)
    & skips key.Kind & needs key.Name text & may_be key.Lifetimes (list node) [] & may_be key.Fields (list field) [] & may_be key.Methods (list method) [] & grouped documented

abbrev pub opaque_of : Unit {0} → List ℕ → List LifetimeNode → Bool → List Method → Option (List ℕ) → Docs × Attrs → Item
opaque_of of_kind name nodes mutable methods dtor about = item.Opaque (record { name = name; lifetimes = record { nodes = nodes }; mutability = mutability mutable; methods = methods; dtor_abi_name = or_else name dtor; docs = about.0; attrs = about.1 })

-- the keys of an opaque; an absent `dtor_abi_name` is the name
unfoldable pub opaque_parts : Parts Item
opaque_parts = made opaque_of
    & skips key.Kind & needs key.Name text & may_be key.Lifetimes (list node) [] & may_be key.Mutable flag false & may_be key.Methods (list method) [] & may_have key.DtorAbiName text & grouped documented

abbrev pub enum_of : Unit {0} → List ℕ → List Variant → List Method → Docs × Attrs → Item
enum_of of_kind name variants methods about = item.Enum (record { name = name; variants = variants; methods = methods; docs = about.0; attrs = about.1 })

-- the keys of an enum
unfoldable pub enum_parts : Parts Item
enum_parts = made enum_of
    & skips key.Kind & needs key.Name text & may_be key.Variants (list variant) [] & may_be key.Methods (list method) [] & grouped documented

abbrev pub trait_of : Unit {0} → List ℕ → List LifetimeNode → List TraitMethod → Bool → Bool → Docs × Attrs → Item
trait_of of_kind name nodes methods is_send is_sync about = item.Trait (record { name = name; lifetimes = record { nodes = nodes }; methods = methods; is_send = is_send; is_sync = is_sync; docs = about.0; attrs = about.1 })

-- the keys of a trait
unfoldable pub trait_parts : Parts Item
trait_parts = made trait_of
    & skips key.Kind & needs key.Name text & may_be key.Lifetimes (list node) [] & may_be key.Methods (list trait_method) [] & may_be key.IsSend flag false & may_be key.IsSync flag false & grouped documented

abbrev pub function_of : Unit {0} → List ℕ → Option (List ℕ) → Signature → Docs × Attrs → Item
function_of of_kind name abi_name signed about = item.Function (record { name = name; abi_name = or_else name abi_name; lifetimes = record { nodes = signed.nodes }; params = signed.params; output_type = signed.returned; docs = about.0; attrs = about.1 })

-- the keys of a function; an absent `abi_name` is the name
unfoldable pub function_parts : Parts Item
function_parts = made function_of
    & skips key.Kind & needs key.Name text & may_have key.AbiName text & grouped signature & grouped documented

abbrev pub parts_of : ItemKind → Parts Item
parts_of kind.Struct = struct_parts false
parts_of kind.OutStruct = struct_parts true
parts_of kind.Opaque = opaque_parts
parts_of kind.Enum = enum_parts
parts_of kind.Trait = trait_parts
parts_of kind.Function = function_parts

-- an item: its kind is read before anything else
unfoldable pub item_form : Form Item
item_form = chosen_by key.Kind (one_word item_kind_words) (λ of_kind. object_with (parts_of of_kind))
