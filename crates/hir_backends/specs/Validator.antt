-- What a backend says of itself.
use Rattle.std.specs.Prelude.{ℕ, List, [], Bool, ◌||◌, Option, Some, option_map, codes, if◌then◌else◌}
use Rattle.std.specs.Str.{bytes_eq}
use Rattle.hir_backends.specs.Backend.{Backend}
use Rattle.hir_backends.specs.Known.{is_named, is_paired}
use Rattle.hir_backends.specs.Support.{no_flags, flag_on, flag_named}
use Rattle.hir_backends.specs.declared.support.BackendAttrSupport.{BackendAttrSupport}
use Rattle.hir_backends.specs.declared.validator.BasicAttributeValidator.{BasicAttributeValidator}

-- the backend of that name that has no other name, supports nothing, and knows no named values and no features
abbrev pub plain_validator : List ℕ → BasicAttributeValidator
plain_validator name =
    record {
      backend_name = name;
      support = no_flags;
      other_backend_names = [];
      name_values = [];
      features_enabled = [];
      semver_unstable_features = [];
    }

-- whether the flag of that name is on; none where no flag has the name
abbrev pub flag_support : BackendAttrSupport → List ℕ → Option Bool
flag_support support name = option_map (flag_on support) (flag_named name)

-- what a pair comes to: `supports` asks for a flag, `feature` for an enabled feature, and any other name for a pair that is known
abbrev pub basic_pair : BasicAttributeValidator → List ℕ → List ℕ → Option Bool
basic_pair backend name value =
    if bytes_eq name (codes "supports") then flag_support backend.support value else
    (if bytes_eq name (codes "feature") then Some (is_named backend.features_enabled value) else
    Some (is_paired backend.name_values name value))

-- what such a backend says of itself
abbrev pub basic_meaning : BasicAttributeValidator → Backend
basic_meaning backend =
    record {
      primary_name = backend.backend_name;
      is_backend = λ name. bytes_eq backend.backend_name name || is_named backend.other_backend_names name;
      is_name_value = basic_pair backend;
      supports = backend.support;
      is_unstable = is_named backend.semver_unstable_features;
    }
