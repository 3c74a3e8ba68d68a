-- The laws of the forms of specs/forms/Settings.
use Rattle.std.specs.Prelude.{ℕ, List, [], false}
use Rattle.hir_backends.specs.declared.support.BackendAttrSupport.{BackendAttrSupport}
use Rattle.hir_backends.specs.declared.support.flag.SupportFlag.{SupportFlag}
use Rattle.hir_backends.specs.declared.validator.BasicAttributeValidator.{BasicAttributeValidator}
use Rattle.hir_backends.specs.Support.{no_flags}
use Rattle.hir_docs.specs.Urls.{BaseUrls}
use Rattle.hir_config.specs.declared.config.LoweringConfig.{LoweringConfig}
use Rattle.bridge_form.specs.declared.keys.Key.TheVariants as key
use Rattle.bridge_read.specs.forms.Settings.{flag_words, turned_on, support_flag, supported, pair_of, name_value, names_of, backend_names, backend_of, backend, config_of, config, entered, bases, urls_of, urls}
use Rattle.bridge_form.proofs.FormLaws.{Lawful, LawfulParts}
use Rattle.bridge_form.proofs.Proved.{Proved, ProvedParts, List_of, Object, Made, Needs, May_have, May_be, Dictionary, Grouped, ◌&&&◌, Text, Flag, Mapped, One_word}

pub support_flag_lawful : Lawful support_flag
unfolding support_flag
support_flag_lawful = (One_word flag_words).lawful

abbrev pub P_support_flag : Proved SupportFlag
P_support_flag = record { form = support_flag; lawful = support_flag_lawful }

pub supported_lawful : Lawful supported
unfolding supported
supported_lawful = (Mapped (turned_on no_flags) (List_of P_support_flag)).lawful

abbrev pub P_supported : Proved BackendAttrSupport
P_supported = record { form = supported; lawful = supported_lawful }

pub name_value_lawful : Lawful name_value
unfolding name_value
name_value_lawful = (Object (Made pair_of &&& Needs key.Name Text &&& Needs key.Value Text)).lawful

abbrev pub P_name_value : Proved (List ℕ × List ℕ)
P_name_value = record { form = name_value; lawful = name_value_lawful }

pub backend_names_lawful : LawfulParts backend_names
unfolding backend_names
backend_names_lawful = (Made names_of &&& May_be key.Name Text [] &&& May_be key.OtherNames (List_of Text) [] &&& May_be key.Supports P_supported no_flags).lawful

abbrev pub P_backend_names : ProvedParts (List ℕ × List (List ℕ) × BackendAttrSupport)
P_backend_names = record { parts = backend_names; lawful = backend_names_lawful }

pub backend_lawful : Lawful backend
unfolding backend
backend_lawful = (Object (Made backend_of &&& Grouped P_backend_names &&& May_be key.Pairs (List_of P_name_value) [] &&& May_be key.Features (List_of Text) [] &&& May_be key.Unstable (List_of Text) [])).lawful

abbrev pub P_backend : Proved BasicAttributeValidator
P_backend = record { form = backend; lawful = backend_lawful }

pub config_lawful : Lawful config
unfolding config
config_lawful = (Object (Made config_of &&& May_be key.UnsafeReferences Flag false)).lawful

abbrev pub P_config : Proved LoweringConfig
P_config = record { form = config; lawful = config_lawful }

pub bases_lawful : Lawful bases
unfolding bases
bases_lawful = (Mapped (entered []) (Dictionary Text)).lawful

abbrev pub P_bases : Proved (List (List ℕ × List ℕ))
P_bases = record { form = bases; lawful = bases_lawful }

pub urls_lawful : Lawful urls
unfolding urls
urls_lawful = (Object (Made urls_of &&& May_have key.Default Text &&& May_be key.Bases P_bases [])).lawful

abbrev pub P_urls : Proved BaseUrls
P_urls = record { form = urls; lawful = urls_lawful }
