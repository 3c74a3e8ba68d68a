-- What is asked of the definition of any type.
use Rattle.std.specs.Prelude.{ℕ, List}
use Rattle.hir_attrs.specs.declared.attrs.Attrs.{Attrs}
use Rattle.hir_docs.specs.declared.docs.Docs.{Docs}
use Rattle.hir_definitions.specs.declared.methods.Method.{Method}
use Rattle.hir_definitions.specs.declared.special.SpecialMethodPresence.{SpecialMethodPresence}
use Rattle.hir_definitions.specs.declared.type_defs.TypeDef.{TypeDef}
use Rattle.hir_definitions.specs.declared.type_defs.TypeDef.TheVariants as defined

-- its name
abbrev pub defined_name : TypeDef → List ℕ
defined_name (defined.Struct def) = def.now.name.0
defined_name (defined.OutStruct def) = def.now.name.0
defined_name (defined.Opaque def) = def.now.name.0
defined_name (defined.Enum def) = def.now.name.0

-- what is documented
abbrev pub defined_docs : TypeDef → Docs
defined_docs (defined.Struct def) = def.now.docs
defined_docs (defined.OutStruct def) = def.now.docs
defined_docs (defined.Opaque def) = def.now.docs
defined_docs (defined.Enum def) = def.now.docs

-- its methods, in order
abbrev pub defined_methods : TypeDef → List Method
defined_methods (defined.Struct def) = def.now.methods
defined_methods (defined.OutStruct def) = def.now.methods
defined_methods (defined.Opaque def) = def.now.methods
defined_methods (defined.Enum def) = def.now.methods

-- its marks
abbrev pub defined_attrs : TypeDef → Attrs
defined_attrs (defined.Struct def) = def.now.attrs
defined_attrs (defined.OutStruct def) = def.now.attrs
defined_attrs (defined.Opaque def) = def.now.attrs
defined_attrs (defined.Enum def) = def.now.attrs

-- which of its methods are more than methods
abbrev pub defined_specials : TypeDef → SpecialMethodPresence
defined_specials (defined.Struct def) = def.now.special_method_presence
defined_specials (defined.OutStruct def) = def.now.special_method_presence
defined_specials (defined.Opaque def) = def.now.special_method_presence
defined_specials (defined.Enum def) = def.now.special_method_presence
