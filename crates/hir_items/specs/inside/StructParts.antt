-- A struct by its parts.
use Rattle.std.specs.Prelude.{ℕ, List, Option, option_map, Result, Ok, Err}
use Rattle.bridge_decl.specs.declared.structs.Struct.{Struct}
use Rattle.hir_attrs.specs.declared.attrs.Attrs.{Attrs}
use Rattle.hir_definitions.specs.Usage.{unused}
use Rattle.hir_definitions.specs.declared.definitions.StructDef.{StructDef}
use Rattle.hir_definitions.specs.declared.definitions.StructField.{StructField}
use Rattle.hir_definitions.specs.declared.methods.Method.{Method}
use Rattle.hir_fields.specs.Fields.{fields_form, out_fields_form}
use Rattle.hir_heads.specs.declared.notes.Notes.{Notes}
use Rattle.hir_ids.specs.declared.owners.Borrow.{Borrow}
use Rattle.hir_ids.specs.declared.owners.MaybeOwn.{MaybeOwn}
use Rattle.hir_methods.specs.Choosing.{paired}
use Rattle.hir_presence.specs.Presence.{special_methods}
use Rattle.hir_types.specs.declared.callbacks.NoCallback.{NoCallback}
use Rattle.hir_types.specs.declared.paths.NoTraitPath.{NoTraitPath}
use Rattle.hir_types.specs.declared.paths.ReturnableStructPath.{ReturnableStructPath}
use Rattle.hir_types.specs.declared.paths.StructPath.{StructPath}
use Rattle.hir_types.specs.declared.positions.Everywhere.{Everywhere}
use Rattle.hir_types.specs.declared.positions.OutputOnly.{OutputOnly}
use Rattle.hir_items.specs.Setting.{Setting}
use Rattle.hir_items.specs.Structs.{type_fields_form}
use Rattle.hir_items.specs.declared.heads.Title.{Title}
use Rattle.hir_items.specs.declared.structs.StructOwn.{StructOwn}
use Rattle.hir_items.specs.inside.Titles.{title_form}

module _ {P C O I S T : Type 0} where
  -- of this title
  abbrev pub own_of : Title → List (StructField P C O I S T) → StructOwn P C O I S T
  own_of title fields = record { title = title; fields = fields }

  -- a title with fields, where there are both
  abbrev pub both_parts : Option Title → Option (List (StructField P C O I S T)) → Option (StructOwn P C O I S T)
  both_parts title fields = option_map (λ p. own_of p.0 p.1) (paired title fields)

  -- unless there was no memory for the fields
  abbrev pub struct_own : {E : Type 0} → Option Title → Result (Option (List (StructField P C O I S T))) E → Result (Option (StructOwn P C O I S T)) E
  struct_own title (Ok fields) = Ok (both_parts title fields)
  struct_own title (Err e) = Err e

  -- with those
  abbrev pub defined_struct : Notes → StructOwn P C O I S T → List Method → StructDef P C O I S T
  defined_struct notes own methods =
      record {
        docs = notes.docs;
        name = record { 0 = own.title.name };
        fields = own.fields;
        methods = methods;
        attrs = notes.attrs;
        lifetimes = own.title.lifetimes;
        special_method_presence = special_methods methods;
        usage = unused;
      }

-- what a struct with these marks has beside its notes and its methods
abbrev pub struct_own_form : Setting → Attrs → Struct → Option (StructOwn Everywhere NoCallback Borrow ℕ StructPath NoTraitPath)
struct_own_form s marks item =
    option_map (own_of (title_form item.name item.lifetimes)) (type_fields_form marks (fields_form s.backend s.catalog s.names item))

-- so an out-struct
abbrev pub out_struct_own_form : Setting → Attrs → Struct → Option (StructOwn OutputOnly NoCallback MaybeOwn ℕ ReturnableStructPath NoTraitPath)
out_struct_own_form s marks item =
    option_map (own_of (title_form item.name item.lifetimes)) (type_fields_form marks (out_fields_form s.backend s.catalog s.names item))
