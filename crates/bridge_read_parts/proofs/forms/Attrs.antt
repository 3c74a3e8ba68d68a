-- The laws of the forms of specs/forms/Attrs.
use Rattle.std.specs.Prelude.{ℕ, zero, suc, List, [], Option, None}
use Rattle.bridge_decl.specs.declared.attrs.Attrs.{Attrs}
use Rattle.bridge_decl.specs.declared.attrs.Assign.{Assign}
use Rattle.bridge_decl.specs.declared.attrs.DiplomatBackendAttr.{DiplomatBackendAttr}
use Rattle.bridge_decl.specs.declared.attrs.DiplomatBackendAttrCfg.{DiplomatBackendAttrCfg}
use Rattle.bridge_decl.specs.declared.attrs.DiplomatBackendAttrCfg.TheVariants as cfg
use Rattle.bridge_decl.specs.declared.attrs.Lit.{Lit}
use Rattle.bridge_decl.specs.declared.attrs.Lit.TheVariants as lit
use Rattle.bridge_form.specs.declared.keys.Key.{Key}
use Rattle.bridge_form.specs.declared.keys.Key.TheVariants as key
use Rattle.bridge_read_parts.specs.forms.Attrs.{condition_called, condition_word, pair_condition, condition_keys, condition_within, condition, sole_char, digits_of, digits, literal_called, literal_word, any_float, literal_under, literal_keys, literal, assign_of, assign, mark_by, self, mark, pattern_of, pattern, attrs_of, attrs, condition_under}
use Rattle.bridge_form.proofs.FormLaws.{Lawful}
use Rattle.bridge_form.proofs.Proved.{Proved, List_of, Two, Object, Made, Needs, May_have, May_be, Never, ◌&&&◌, Refined, Text, Flag, Byte, Mapped, Some_list}
use Rattle.bridge_form.specs.Form.{Form, one_of}
use Rattle.bridge_form.proofs.ChoiceLaws.{word_or_lawful, one_of_lawful}

pub condition_word_lawful : Lawful condition_word
unfolding condition_word
condition_word_lawful = (Refined condition_called Text).lawful

abbrev pub P_condition_word : Proved DiplomatBackendAttrCfg
P_condition_word = record { form = condition_word; lawful = condition_word_lawful }

module _ (inner : Form DiplomatBackendAttrCfg) (lawful : Lawful inner) where
  abbrev P_inner : Proved DiplomatBackendAttrCfg
  P_inner = record { form = inner; lawful = lawful }

  condition_under_lawful : (key : Key) → Lawful (condition_under inner key)
  condition_under_lawful key.Backend = (Mapped cfg.BackendName Text).lawful
  condition_under_lawful key.Pair = (Mapped pair_condition (Two Text)).lawful
  condition_under_lawful key.Not = (Mapped cfg.Not P_inner).lawful
  condition_under_lawful key.Any = (Mapped cfg.Any (List_of P_inner)).lawful
  condition_under_lawful key.All = (Mapped cfg.All (List_of P_inner)).lawful
  condition_under_lawful other = Never.lawful

condition_within_lawful : (levels : ℕ) → Lawful (condition_within levels)
condition_within_lawful zero = Never.lawful
condition_within_lawful (suc levels) = word_or_lawful condition_word (one_of condition_keys (condition_under (condition_within levels))) condition_word_lawful (one_of_lawful condition_keys (condition_under (condition_within levels)) (condition_under_lawful (condition_within levels) (condition_within_lawful levels)))

pub condition_lawful : Lawful condition
unfolding condition
condition_lawful = condition_within_lawful 128

abbrev pub P_condition : Proved DiplomatBackendAttrCfg
P_condition = record { form = condition; lawful = condition_lawful }

pub digits_lawful : Lawful digits
unfolding digits
digits_lawful = (Refined digits_of Text).lawful

abbrev pub P_digits : Proved (List ℕ)
P_digits = record { form = digits; lawful = digits_lawful }

pub literal_word_lawful : Lawful literal_word
unfolding literal_word
literal_word_lawful = (Refined literal_called Text).lawful

abbrev pub P_literal_word : Proved Lit
P_literal_word = record { form = literal_word; lawful = literal_word_lawful }

literal_under_lawful : (key : Key) → Lawful (literal_under key)
literal_under_lawful key.Bool = (Mapped lit.Bool Flag).lawful
literal_under_lawful key.Char = (Mapped lit.Char (Refined sole_char Text)).lawful
literal_under_lawful key.Byte = (Mapped lit.Byte Byte).lawful
literal_under_lawful key.Int = (Mapped lit.Int P_digits).lawful
literal_under_lawful key.Float = (Mapped any_float Text).lawful
literal_under_lawful key.Str = (Mapped lit.Str Text).lawful
literal_under_lawful other = Never.lawful

pub literal_lawful : Lawful literal
unfolding literal
literal_lawful = word_or_lawful literal_word (one_of literal_keys literal_under) literal_word_lawful (one_of_lawful literal_keys literal_under literal_under_lawful)

abbrev pub P_literal : Proved Lit
P_literal = record { form = literal; lawful = literal_lawful }

pub assign_lawful : Lawful assign
unfolding assign
assign_lawful = (Object (Made assign_of &&& Needs key.Name Text &&& Needs key.Value P_literal)).lawful

abbrev pub P_assign : Proved Assign
P_assign = record { form = assign; lawful = assign_lawful }

pub mark_lawful : Lawful mark
unfolding mark
mark_lawful = (Refined self (Object (Made mark_by &&& Needs key.Condition P_condition &&& Needs key.Mark (Some_list Text) &&& May_have key.Value P_literal &&& May_have key.List (List_of P_assign)))).lawful

abbrev pub P_mark : Proved DiplomatBackendAttr
P_mark = record { form = mark; lawful = mark_lawful }

pub pattern_lawful : Lawful pattern
unfolding pattern
pattern_lawful = (Refined pattern_of Text).lawful

abbrev pub P_pattern : Proved (Option (List ℕ))
P_pattern = record { form = pattern; lawful = pattern_lawful }

pub attrs_lawful : Lawful attrs
unfolding attrs
attrs_lawful = (Object (Made attrs_of &&& May_be key.Features (List_of Text) [] &&& May_be key.Marks (List_of P_mark) [] &&& May_be key.AbiRename P_pattern None &&& May_have key.Deprecated Text)).lawful

abbrev pub P_attrs : Proved Attrs
P_attrs = record { form = attrs; lawful = attrs_lawful }
