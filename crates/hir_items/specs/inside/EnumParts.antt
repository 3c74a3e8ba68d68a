-- An enum by its parts.
use Rattle.std.specs.Prelude.{ℕ, List, Option, option_map}
use Rattle.bridge_decl.specs.declared.enums.Enum.{Enum}
use Rattle.hir_attrs.specs.declared.attrs.Attrs.{Attrs}
use Rattle.hir_backends.specs.Backend.{Backend}
use Rattle.hir_definitions.specs.Usage.{unused}
use Rattle.hir_definitions.specs.declared.definitions.EnumDef.{EnumDef}
use Rattle.hir_definitions.specs.declared.definitions.EnumVariant.{EnumVariant}
use Rattle.hir_definitions.specs.declared.methods.Method.{Method}
use Rattle.hir_fields.specs.Variants.{variants_form}
use Rattle.hir_heads.specs.declared.notes.Notes.{Notes}
use Rattle.hir_methods.specs.Choosing.{paired}
use Rattle.hir_presence.specs.Presence.{special_methods}
use Rattle.hir_items.specs.declared.enums.EnumOwn.{EnumOwn}

-- a name with variants, where there are both
abbrev pub enum_own : Option (List ℕ) → Option (List EnumVariant) → Option EnumOwn
enum_own name variants = option_map (λ p. record { name = p.0; variants = p.1 }) (paired name variants)

-- what an enum with these marks has beside its notes and its methods
abbrev pub enum_own_form : Backend → Attrs → Enum → EnumOwn
enum_own_form backend marks item = record { name = item.name; variants = variants_form backend marks item.variants }

-- with those
abbrev pub defined_enum : Notes → EnumOwn → List Method → EnumDef
defined_enum notes own methods =
    record {
      docs = notes.docs;
      name = record { 0 = own.name };
      variants = own.variants;
      methods = methods;
      attrs = notes.attrs;
      special_method_presence = special_methods methods;
      usage = unused;
    }
