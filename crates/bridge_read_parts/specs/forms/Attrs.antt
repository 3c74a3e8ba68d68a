-- Attributes: conditions, literals and marks.
use Rattle.std.specs.Prelude.{ℕ, zero, suc, List, [], ◌∷◌, codes, length, ◌==◌, nat_lt, Bool, true, false, Option, Some, None, if◌then◌else◌}
use Rattle.std.specs.Str.{bytes_eq, chars, all_ascii_digits}
use Rattle.bridge_text.specs.Rename.{placeholder_count}
use Rattle.bridge_decl.specs.declared.attrs.Attrs.{Attrs}
use Rattle.bridge_decl.specs.declared.attrs.Assign.{Assign}
use Rattle.bridge_decl.specs.declared.attrs.DiplomatBackendAttr.{DiplomatBackendAttr}
use Rattle.bridge_decl.specs.declared.attrs.DiplomatBackendAttrCfg.{DiplomatBackendAttrCfg}
use Rattle.bridge_decl.specs.declared.attrs.DiplomatBackendAttrCfg.TheVariants as cfg
use Rattle.bridge_decl.specs.declared.attrs.Lit.{Lit}
use Rattle.bridge_decl.specs.declared.attrs.Lit.TheVariants as lit
use Rattle.bridge_decl.specs.declared.attrs.MetaValue.{MetaValue}
use Rattle.bridge_decl.specs.declared.attrs.MetaValue.TheVariants.{Empty, Literal, Assignments}
use Rattle.bridge_form.specs.declared.keys.Key.{Key}
use Rattle.bridge_form.specs.declared.keys.Key.TheVariants as key
use Rattle.bridge_form.specs.Form.{Form, object_with, made, ◌&◌, needs, may_be, may_have, refined, mapped, word_or, one_of, never, list, some_list, two, text, flag, byte}

-- ---- conditions

-- `*` or `auto`
unfoldable pub condition_called : List ℕ → Option DiplomatBackendAttrCfg
condition_called word = if bytes_eq word (codes "*") then Some cfg.Star else (if bytes_eq word (codes "auto") then Some cfg.Auto else None)

unfoldable pub condition_word : Form DiplomatBackendAttrCfg
condition_word = refined condition_called text

abbrev pub pair_condition : List ℕ × List ℕ → DiplomatBackendAttrCfg
pair_condition pair = cfg.NameValue pair.0 pair.1

module _ (condition : Form DiplomatBackendAttrCfg) where
  -- what stands under the key of a condition, by the key
  abbrev pub condition_under : Key → Form DiplomatBackendAttrCfg
  condition_under key.Backend = mapped cfg.BackendName text
  condition_under key.Pair = mapped pair_condition (two text)
  condition_under key.Not = mapped cfg.Not condition
  condition_under key.Any = mapped cfg.Any (list condition)
  condition_under key.All = mapped cfg.All (list condition)
  condition_under other = never

abbrev pub condition_keys : List Key
condition_keys = key.Backend ∷ key.Pair ∷ key.Not ∷ key.Any ∷ key.All ∷ []

-- a condition in which conditions nest at most so deep
abbrev pub condition_within : ℕ → Form DiplomatBackendAttrCfg
condition_within zero = never
condition_within (suc levels) = word_or condition_word (one_of condition_keys (condition_under (condition_within levels)))

-- a condition: a JSON text nests at most 127 deep, and each level of a condition is a level of the text
unfoldable pub condition : Form DiplomatBackendAttrCfg
condition = condition_within 128

-- ---- literals

-- a text of one character
abbrev pub sole_of_list : List ℕ → Option ℕ
sole_of_list [] = None
sole_of_list (c ∷ []) = Some c
sole_of_list (c ∷ d ∷ rest) = None

unfoldable pub sole_char : List ℕ → Option ℕ
sole_char written = sole_of_list (chars written)

-- a text of one or more decimal digits
abbrev pub digits_if : Bool → Bool → List ℕ → Option (List ℕ)
digits_if true all written = None
digits_if false true written = Some written
digits_if false false written = None

abbrev pub digits_of : List ℕ → Option (List ℕ)
digits_of written = digits_if (length written == 0) (all_ascii_digits written) written

unfoldable pub digits : Form (List ℕ)
digits = refined digits_of text

-- the literal for which `other` stands
unfoldable pub literal_called : List ℕ → Option Lit
literal_called word = if bytes_eq word (codes "other") then Some lit.Other else None

unfoldable pub literal_word : Form Lit
literal_word = refined literal_called text

abbrev pub any_float : List ℕ → Lit
any_float written = lit.Float

-- what stands under the key of a literal, by the key
abbrev pub literal_under : Key → Form Lit
literal_under key.Bool = mapped lit.Bool flag
literal_under key.Char = mapped lit.Char (refined sole_char text)
literal_under key.Byte = mapped lit.Byte byte
literal_under key.Int = mapped lit.Int digits
literal_under key.Float = mapped any_float text
literal_under key.Str = mapped lit.Str text
literal_under other = never

abbrev pub literal_keys : List Key
literal_keys = key.Bool ∷ key.Char ∷ key.Byte ∷ key.Int ∷ key.Float ∷ key.Str ∷ []

unfoldable pub literal : Form Lit
literal = word_or literal_word (one_of literal_keys literal_under)

-- ---- marks

abbrev pub assign_of : List ℕ → Lit → Assign
assign_of name value = record { name = name; value = value }

-- {"name": text, "value": literal}
unfoldable pub assign : Form Assign
assign = object_with (made assign_of & needs key.Name text & needs key.Value literal)

-- a mark has a value or a list, and not both
abbrev pub argument_of : Option Lit → Option (List Assign) → Option MetaValue
argument_of None None = Some Empty
argument_of (Some value) None = Some (Literal value)
argument_of None (Some assigns) = Some (Assignments assigns)
argument_of (Some value) (Some assigns) = None

abbrev pub mark_of : DiplomatBackendAttrCfg → List (List ℕ) → Option MetaValue → Option DiplomatBackendAttr
mark_of where_ path None = None
mark_of where_ path (Some argument) = Some (record { cfg = where_; meta = record { path = path; value = argument } })

abbrev pub mark_by : DiplomatBackendAttrCfg → List (List ℕ) → Option Lit → Option (List Assign) → Option DiplomatBackendAttr
mark_by where_ path value assigns = mark_of where_ path (argument_of value assigns)

abbrev pub self : {A : Type 0} → A → A
self x = x

-- {"if": condition, "mark": [texts, at least one], "value": literal, "list": [assignments]}; not both of the last two
unfoldable pub mark : Form DiplomatBackendAttr
mark = refined self (object_with (made mark_by & needs key.Condition condition & needs key.Mark (some_list text) & may_have key.Value literal & may_have key.List (list assign)))

-- ---- attributes

-- a pattern in which `{0}` stands at most once
abbrev pub pattern_if : Bool → List ℕ → Option (Option (List ℕ))
pattern_if true pattern = None
pattern_if false pattern = Some (Some pattern)

unfoldable pub pattern_of : List ℕ → Option (Option (List ℕ))
pattern_of pattern = pattern_if (nat_lt 1 (placeholder_count pattern)) pattern

unfoldable pub pattern : Form (Option (List ℕ))
pattern = refined pattern_of text

abbrev pub attrs_of : List (List ℕ) → List DiplomatBackendAttr → Option (List ℕ) → Option (List ℕ) → Attrs
attrs_of features marks renamed deprecated = record { features = features; marks = marks; abi_rename = renamed; deprecated = deprecated }

-- {"features": [texts], "marks": [marks], "abi_rename": pattern, "deprecated": text}
unfoldable pub attrs : Form Attrs
attrs = object_with (made attrs_of & may_be key.Features (list text) [] & may_be key.Marks (list mark) [] & may_be key.AbiRename pattern None & may_have key.Deprecated text)

-- no feature, no mark, no renaming, no note of deprecation
abbrev pub no_attrs : Attrs
no_attrs = record { features = []; marks = []; abi_rename = None; deprecated = None }
