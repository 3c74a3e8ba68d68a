-- The whole input: its declarations, the backend, the configuration, and where documentation lies.
use Rattle.std.specs.Prelude.{List, []}
use Rattle.bridge_decl.specs.declared.modules.Module.{Module}
use Rattle.hir_backends.specs.Validator.{plain_validator}
use Rattle.hir_backends.specs.declared.validator.BasicAttributeValidator.{BasicAttributeValidator}
use Rattle.hir_docs.specs.Urls.{BaseUrls}
use Rattle.hir_config.specs.declared.config.LoweringConfig.{LoweringConfig}
use Rattle.bridge_read.specs.declared.input.Declared.{Declared}
use Rattle.bridge_form.specs.declared.keys.Key.TheVariants as key
use Rattle.bridge_form.specs.Form.{Form, object_with, made, ◌&◌, needs, may_be}
use Rattle.bridge_read.specs.forms.Modules.{root}
use Rattle.bridge_read.specs.forms.Settings.{backend, config, no_config, urls, no_urls}

abbrev pub declared_of : List Module → BasicAttributeValidator → LoweringConfig → BaseUrls → Declared
declared_of modules validator chosen links = record { modules = modules; validator = validator; config = chosen; urls = links }

-- the backend that has no name, supports nothing, and knows no pairs and no features
abbrev pub no_backend : BasicAttributeValidator
no_backend = plain_validator []

-- {"root": module, "backend": backend, "config": configuration, "docs": where documentation lies}
unfoldable pub whole : Form Declared
whole = object_with (made declared_of & needs key.Root root & may_be key.Backend backend no_backend & may_be key.Config config no_config & may_be key.Docs urls no_urls)
