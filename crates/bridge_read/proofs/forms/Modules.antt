-- The laws of the forms of specs/forms/Modules.
use Rattle.std.specs.Prelude.{ℕ, zero, suc, List, []}
use Rattle.bridge_decl.specs.declared.modules.Alias.{Alias}
use Rattle.bridge_decl.specs.declared.modules.Module.{Module}
use Rattle.bridge_form.specs.declared.keys.Key.TheVariants as key
use Rattle.bridge_read.specs.declared.modules.Contents.{Contents}
use Rattle.bridge_read.specs.forms.Modules.{alias_of, alias, contents_of, contents, in_a_row, module_of, named_module, nothing_of, any_text, path_in, module_parts, module_within, nested_in, root}
use Rattle.bridge_form.proofs.FormLaws.{Lawful, LawfulParts}
use Rattle.bridge_form.proofs.Proved.{Proved, ProvedParts, List_of, Object, Made, Needs, May_be, May_be_by, Told, Grouped, Never, ◌&&&◌, Text, Mapped}
use Rattle.bridge_read_parts.specs.forms.Attrs.{no_attrs}
use Rattle.bridge_form.specs.Form.{Form}
use Rattle.bridge_form.proofs.ObjectLaws.{object_lawful}
use Rattle.bridge_read_parts.proofs.forms.Attrs.{P_attrs}
use Rattle.bridge_read.proofs.forms.Items.{P_item_form}

pub alias_lawful : Lawful alias
unfolding alias
alias_lawful = (Object (Made alias_of &&& Needs key.Name Text &&& Needs key.Target (List_of Text))).lawful

abbrev pub P_alias : Proved Alias
P_alias = record { form = alias; lawful = alias_lawful }

pub contents_lawful : LawfulParts contents
unfolding contents
contents_lawful = (Made contents_of &&& May_be key.Attrs P_attrs no_attrs &&& May_be key.Items (List_of P_item_form) [] &&& May_be key.Aliases (List_of P_alias) []).lawful

abbrev pub P_contents : ProvedParts Contents
P_contents = record { parts = contents; lawful = contents_lawful }

pub any_text_lawful : Lawful any_text
unfolding any_text
any_text_lawful = (Mapped nothing_of Text).lawful

abbrev pub P_any_text : Proved (Unit {0})
P_any_text = record { form = any_text; lawful = any_text_lawful }

module _ (nested : List (List ℕ) → Form (List Module)) (lawful : (path : List (List ℕ)) → Lawful (nested path)) (parent : List (List ℕ)) where
  module_parts_lawful : LawfulParts (module_parts nested parent)
  module_parts_lawful = (Made named_module &&& Needs key.Name P_any_text &&& Told (path_in parent) &&& Grouped P_contents &&& May_be_by key.Modules (λ d. record { form = nested (path_in parent d); lawful = lawful (path_in parent d) }) []).lawful

pub module_within_lawful : (levels : ℕ) (parent : List (List ℕ)) → Lawful (module_within levels parent)
module_within_lawful zero parent = Never.lawful
module_within_lawful (suc levels) parent = object_lawful (module_parts (nested_in levels) parent) (module_parts_lawful (nested_in levels) (λ path. (Mapped in_a_row (List_of (record { form = module_within levels path; lawful = module_within_lawful levels path }))).lawful) parent)

pub root_lawful : Lawful root
unfolding root
root_lawful = (Object (Made (module_of []) &&& Grouped P_contents &&& May_be key.Modules (Mapped in_a_row (List_of (record { form = module_within 64 []; lawful = module_within_lawful 64 [] }))) [])).lawful
