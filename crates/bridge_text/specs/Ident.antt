-- Which texts are identifiers. A text is the list of its bytes, and `chars` gives its characters.
use Rattle.std.specs.Prelude.{◌≡◌, ◌≢◌, ℕ, IsTrue, List, [], ◌∷◌, ◌++◌, ◌⊎◌, codes, All, Contains}
use Rattle.std.specs.Str.{chars}
use Rattle.unicode_ident.specs.Ident.{is_xid_start, is_xid_continue}

-- the words that only a raw identifier may be
abbrev pub reserved_words : List (List ℕ)
reserved_words =
    codes "Self" ∷ codes "abstract" ∷ codes "as" ∷ codes "async" ∷ codes "await" ∷ codes "become"
    ∷ codes "box" ∷ codes "break" ∷ codes "const" ∷ codes "continue" ∷ codes "crate" ∷ codes "do"
    ∷ codes "dyn" ∷ codes "else" ∷ codes "enum" ∷ codes "extern" ∷ codes "false" ∷ codes "final"
    ∷ codes "fn" ∷ codes "for" ∷ codes "if" ∷ codes "impl" ∷ codes "in" ∷ codes "let" ∷ codes "loop"
    ∷ codes "macro" ∷ codes "match" ∷ codes "mod" ∷ codes "move" ∷ codes "mut" ∷ codes "override"
    ∷ codes "priv" ∷ codes "pub" ∷ codes "ref" ∷ codes "return" ∷ codes "self" ∷ codes "static"
    ∷ codes "struct" ∷ codes "super" ∷ codes "trait" ∷ codes "true" ∷ codes "try" ∷ codes "type"
    ∷ codes "typeof" ∷ codes "unsafe" ∷ codes "unsized" ∷ codes "use" ∷ codes "virtual"
    ∷ codes "where" ∷ codes "while" ∷ codes "yield" ∷ []

-- those that no raw identifier may be either, since they begin paths
abbrev pub path_words : List (List ℕ)
path_words = codes "Self" ∷ codes "crate" ∷ codes "self" ∷ codes "super" ∷ []

-- the character `_`
abbrev pub underscore : ℕ
underscore = 95

-- the character may begin an identifier: it has the property XID_Start, or is `_`
abbrev pub MayStart : ℕ → Type 0
MayStart c = IsTrue (is_xid_start c) ⊎ (c ≡ underscore)

-- the characters are one that may begin an identifier, and then any number with the property XID_Continue
abbrev pub HasShape : List ℕ → Type 0
HasShape [] = ⊥
HasShape (c ∷ cs) = MayStart c × All (λ d. IsTrue (is_xid_continue d)) cs

-- the text is an identifier without `r#`
pub record IsPlain (text : List ℕ) : Type 0 where
  pub shape : HasShape (chars text)
  pub not_underscore : text ≢ codes "_"
  pub not_reserved : ¬ (Contains reserved_words text)

-- the text may follow `r#`
abbrev pub MayBeRaw : List ℕ → Type 0
MayBeRaw name = IsPlain name ⊎ (Contains reserved_words name × ¬ (Contains path_words name))

-- the text is an identifier with `r#`
abbrev pub IsRaw : List ℕ → Type 0
IsRaw text = (name : List ℕ) × (text ≡ codes "r#" ++ name) × MayBeRaw name

-- the text is an identifier
unfoldable pub IsIdent : List ℕ → Type 0
IsIdent text = IsPlain text ⊎ IsRaw text
