-- An opaque by its parts.
use Rattle.std.specs.Prelude.{ℕ, List, Option, option_map}
use Rattle.bridge_decl.specs.declared.structs.OpaqueType.{OpaqueType}
use Rattle.hir_definitions.specs.Usage.{unused}
use Rattle.hir_definitions.specs.declared.definitions.OpaqueDef.{OpaqueDef}
use Rattle.hir_definitions.specs.declared.methods.Method.{Method}
use Rattle.hir_heads.specs.declared.notes.Notes.{Notes}
use Rattle.hir_methods.specs.Choosing.{paired}
use Rattle.hir_presence.specs.Presence.{special_methods}
use Rattle.hir_items.specs.declared.heads.Title.{Title}
use Rattle.hir_items.specs.declared.opaques.OpaqueOwn.{OpaqueOwn}
use Rattle.hir_items.specs.inside.Titles.{title_form}

-- a title with the name of a destructor, where there are both
abbrev pub opaque_own : Option Title → Option (List ℕ) → Option OpaqueOwn
opaque_own title dtor_abi_name = option_map (λ p. record { title = p.0; dtor_abi_name = p.1 }) (paired title dtor_abi_name)

-- what an opaque has beside its notes and its methods
abbrev pub opaque_own_form : OpaqueType → OpaqueOwn
opaque_own_form item = record { title = title_form item.name item.lifetimes; dtor_abi_name = item.dtor_abi_name }

-- with those
abbrev pub defined_opaque : Notes → OpaqueOwn → List Method → OpaqueDef
defined_opaque notes own methods =
    record {
      docs = notes.docs;
      name = record { 0 = own.title.name };
      methods = methods;
      attrs = notes.attrs;
      lifetimes = own.title.lifetimes;
      special_method_presence = special_methods methods;
      dtor_abi_name = own.dtor_abi_name;
      usage = unused;
    }
