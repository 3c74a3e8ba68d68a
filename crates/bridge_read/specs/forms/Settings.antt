-- What an input says besides declarations: the backend, the configuration, and where documentation lies.
use Rattle.std.specs.Prelude.{ℕ, List, [], ◌∷◌, map, Bool, false, Option, None}
use Rattle.std.specs.BTreeMap.{insert_entry}
use Rattle.std.specs.Cmp.Lexicographic.{slice_cmp}
use Rattle.std.specs.Ordering.{nat_cmp}
use Rattle.hir_backends.specs.declared.support.BackendAttrSupport.{BackendAttrSupport}
use Rattle.hir_backends.specs.declared.support.flag.SupportFlag.{SupportFlag}
use Rattle.hir_backends.specs.declared.validator.BasicAttributeValidator.{BasicAttributeValidator}
use Rattle.hir_backends.specs.Support.{every_flag, flag_text, no_flags, with_flag}
use Rattle.hir_docs.specs.Urls.{BaseUrls}
use Rattle.hir_config.specs.declared.config.LoweringConfig.{LoweringConfig}
use Rattle.bridge_form.specs.declared.keys.Key.TheVariants as key
use Rattle.bridge_form.specs.Form.{Form, Parts, object_with, made, ◌&◌, needs, may_be, may_have, mapped, grouped, dictionary, list, text, flag, one_word}

-- ---- the backend

-- the support with these flags on besides
abbrev pub turned_on : BackendAttrSupport → List SupportFlag → BackendAttrSupport
turned_on support [] = support
turned_on support (first ∷ flags) = turned_on (with_flag support first) flags

-- the flags with their names
abbrev pub flag_words : List (List ℕ × SupportFlag)
flag_words = map (λ flag. (flag_text flag, flag)) every_flag

unfoldable pub support_flag : Form SupportFlag
support_flag = one_word flag_words

-- [names of flags]
unfoldable pub supported : Form BackendAttrSupport
supported = mapped (turned_on no_flags) (list support_flag)

abbrev pub pair_of : List ℕ → List ℕ → List ℕ × List ℕ
pair_of name value = (name, value)

-- {"name": text, "value": text}
unfoldable pub name_value : Form (List ℕ × List ℕ)
name_value = object_with (made pair_of & needs key.Name text & needs key.Value text)

abbrev pub names_of : List ℕ → List (List ℕ) → BackendAttrSupport → List ℕ × List (List ℕ) × BackendAttrSupport
names_of name others support = (name, others, support)

-- the keys that the backend begins with
unfoldable pub backend_names : Parts (List ℕ × List (List ℕ) × BackendAttrSupport)
backend_names = made names_of & may_be key.Name text [] & may_be key.OtherNames (list text) [] & may_be key.Supports supported no_flags

abbrev pub backend_of : List ℕ × List (List ℕ) × BackendAttrSupport → List (List ℕ × List ℕ) → List (List ℕ) → List (List ℕ) → BasicAttributeValidator
backend_of names pairs features unstable =
    record {
      backend_name = names.0;
      support = names.2;
      other_backend_names = names.1;
      name_values = pairs;
      features_enabled = features;
      semver_unstable_features = unstable;
    }

-- {"name": text, "other_names": [texts], "supports": [names of flags], "pairs": [pairs], "features": [texts], "unstable": [texts]}
unfoldable pub backend : Form BasicAttributeValidator
backend = object_with (made backend_of & grouped backend_names & may_be key.Pairs (list name_value) [] & may_be key.Features (list text) [] & may_be key.Unstable (list text) [])

-- ---- the configuration

abbrev pub config_of : Bool → LoweringConfig
config_of unsafe_references = record { unsafe_references_in_callbacks = unsafe_references }

-- {"unsafe_references_in_callbacks": boolean}
unfoldable pub config : Form LoweringConfig
config = object_with (made config_of & may_be key.UnsafeReferences flag false)

abbrev pub no_config : LoweringConfig
no_config = config_of false

-- ---- where documentation lies

-- entries put at their places in the order of their names, one after the other
abbrev pub entered : List (List ℕ × List ℕ) → List (List ℕ × List ℕ) → List (List ℕ × List ℕ)
entered before [] = before
entered before (first ∷ others) = entered (insert_entry (slice_cmp nat_cmp) before first.0 first.1) others

-- {crate: text}
unfoldable pub bases : Form (List (List ℕ × List ℕ))
bases = mapped (entered []) (dictionary text)

abbrev pub urls_of : Option (List ℕ) → List (List ℕ × List ℕ) → BaseUrls
urls_of default crates = record { default = default; bases = crates }

-- {"default": text, "bases": {crate: text}}
unfoldable pub urls : Form BaseUrls
urls = object_with (made urls_of & may_have key.Default text & may_be key.Bases bases [])

abbrev pub no_urls : BaseUrls
no_urls = urls_of None []
