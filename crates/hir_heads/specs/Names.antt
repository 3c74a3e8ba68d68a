-- Which names are identifiers, as a test. `IsIdent` of `bridge_text` says the same as a relation.
use Rattle.std.specs.Prelude.{ℕ, List, [], ◌∷◌, Bool, false, ◌&&◌, ◌||◌, not, ◌==◌, codes, take, drop, if◌then◌else◌}
use Rattle.std.specs.Cmp.Lexicographic.{pointwise}
use Rattle.std.specs.List.{list_all, list_any}
use Rattle.std.specs.Str.{chars}
use Rattle.unicode_ident.specs.Ident.{is_xid_start, is_xid_continue}
use Rattle.bridge_text.specs.Ident.{path_words, reserved_words, underscore}
use Rattle.hir_attrs.specs.Reading.{about}
use Rattle.hir_reports.specs.declared.report.LoweringError.{LoweringError}
use Rattle.hir_reports.specs.declared.rule.Rule.TheVariants as rule

-- whether the text is one of the words
abbrev pub is_word_of : List (List ℕ) → List ℕ → Bool
is_word_of words text = list_any (λ word. pointwise ◌==◌ word text) words

-- whether the characters are one that may begin an identifier, and then such as may go on with it
abbrev pub has_shape : List ℕ → Bool
has_shape [] = false
has_shape (c ∷ cs) = (is_xid_start c || c == underscore) && list_all is_xid_continue cs

-- whether it is an identifier without `r#`
abbrev pub is_plain : List ℕ → Bool
is_plain text = has_shape (chars text) && (not (pointwise ◌==◌ text (codes "_")) && not (is_word_of reserved_words text))

-- whether it may follow `r#`
abbrev pub may_be_raw : List ℕ → Bool
may_be_raw name = is_plain name || (is_word_of reserved_words name && not (is_word_of path_words name))

-- whether it is an identifier with `r#`
abbrev pub is_raw : List ℕ → Bool
is_raw text = pointwise ◌==◌ (take 2 text) (codes "r#") && may_be_raw (drop 2 text)

-- whether the text is an identifier
unfoldable pub is_ident : List ℕ → Bool
is_ident text = is_plain text || is_raw text

-- what is told of a name: that it is no identifier, where it is none
unfoldable pub name_errors : List ℕ → List LoweringError
name_errors name = if is_ident name then [] else about rule.BadIdent name ∷ []
