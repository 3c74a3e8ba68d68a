-- Where `{0}` stands in a pattern, what a pattern makes of a name, and where it is handed on. A text is the list of its bytes.
use Rattle.std.specs.Prelude.{◌≡◌, ℕ, suc, List, [], ◌∷◌, ◌++◌, Option, Some, None, if◌then◌else◌, codes, nat_eq, nat_lt}
use Rattle.std.specs.List.{starts_with}
use Rattle.bridge_text.specs.declared.rename.AttrInheritContext.{AttrInheritContext}
use Rattle.bridge_text.specs.declared.rename.AttrInheritContext.TheVariants.{Variant, OfType, MethodOrImplFromModule, Module}

-- what stands for the name in a pattern
abbrev pub placeholder : List ℕ
placeholder = codes "{0}"

-- at how many positions of the text the placeholder stands
abbrev pub placeholder_count : List ℕ → ℕ
placeholder_count [] = 0
placeholder_count (byte ∷ rest) =
    if starts_with nat_eq (byte ∷ rest) placeholder then suc (placeholder_count rest) else placeholder_count rest

-- what a pattern makes of a name: where it has a place for the name, the text before the place, the name and the text after it;
-- any other pattern is itself the text
pub record IsFilled (pattern name text : List ℕ) : Type 0 where
  pub around : (front back : List ℕ) → pattern ≡ front ++ placeholder ++ back → text ≡ front ++ name ++ back
  pub whole : placeholder_count pattern ≡ 0 → text ≡ pattern

-- the text is the new name, where a name is changed by the pattern or, with no pattern, stays
abbrev pub IsRenamed : Option (List ℕ) → List ℕ → List ℕ → Type 0
IsRenamed None name text = text ≡ name
IsRenamed (Some pattern) name text = IsFilled pattern name text

-- what is handed on of a pattern to what may be renamed as a whole: only a pattern that keeps the name keeps names apart
abbrev pub kept_pattern : Option (List ℕ) → Option (List ℕ)
kept_pattern None = None
kept_pattern (Some pattern) = if nat_lt 0 (placeholder_count pattern) then Some pattern else None

-- what is handed on at a context: types, traits and functions of a module and submodules take the pattern over
abbrev pub inherited_pattern : Option (List ℕ) → AttrInheritContext → Option (List ℕ)
inherited_pattern pattern Variant = None
inherited_pattern pattern OfType = kept_pattern pattern
inherited_pattern pattern MethodOrImplFromModule = None
inherited_pattern pattern Module = kept_pattern pattern
