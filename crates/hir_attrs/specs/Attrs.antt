-- Sets of marks: the empty one, and what is handed on of one.
use Rattle.std.specs.Prelude.{ℕ, List, [], Bool, false, Option, None}
use Rattle.bridge_text.specs.Rename.{inherited_pattern}
use Rattle.bridge_text.specs.declared.rename.AttrInheritContext.{AttrInheritContext}
use Rattle.bridge_text.specs.declared.rename.AttrInheritContext.TheVariants.{Variant, OfType, MethodOrImplFromModule, Module}
use Rattle.hir_attrs.specs.declared.attrs.Attrs.{Attrs}

-- no marks
abbrev pub empty_attrs : Attrs
empty_attrs =
    record {
      disable = false;
      unstable = false;
      deprecated = None;
      namespace = None;
      rename = None;
      abi_rename = None;
      special_method = None;
      custom_errors = false;
      default = false;
      generate_mocking_interface = false;
      manually_disposable = false;
      abi_compatible = false;
      ffi_error = false;
      mut_struct_ref = false;
      tuple = false;
      precondition_violation = false;
      custom_extra_code = [];
      default_value = None;
    }

-- what is disabled disables what stands in it, but for variants
abbrev pub kept_disable : Bool → AttrInheritContext → Bool
kept_disable disable Variant = false
kept_disable disable OfType = disable
kept_disable disable MethodOrImplFromModule = disable
kept_disable disable Module = disable

-- a namespace is handed on to submodules and to types, traits and functions
abbrev pub kept_namespace : Option (List ℕ) → AttrInheritContext → Option (List ℕ)
kept_namespace namespace Variant = None
kept_namespace namespace OfType = namespace
kept_namespace namespace MethodOrImplFromModule = None
kept_namespace namespace Module = namespace

-- what is handed on of a set
abbrev pub inherited : Attrs → AttrInheritContext → Attrs
inherited attrs context =
    record empty_attrs {
      disable = kept_disable attrs.disable context;
      unstable = attrs.unstable;
      namespace = kept_namespace attrs.namespace context;
      rename = inherited_pattern attrs.rename context;
    }
