-- Which arguments suit, as tests and as facts.
use Rattle.std.proofs.Common.{◌≡◌, ℕ, List, Bool, true, false, cond, Option, Some, None, refl, ap, ◌∙◌, subst}
use Rattle.std.specs.Prelude.{nat_le}
use Rattle.std.proofs.lemmas.Bool.{leb-true, le-leb}
use Rattle.bridge_text.specs.Rename.{placeholder_count}
use Rattle.bridge_decl.specs.declared.attrs.Lit.{Lit}
use Rattle.bridge_decl.specs.declared.attrs.Lit.TheVariants as lit
use Rattle.bridge_decl.specs.declared.attrs.MetaValue.{MetaValue}
use Rattle.bridge_decl.specs.declared.attrs.MetaValue.TheVariants.{Empty, Literal, Assignments}
use Rattle.hir_attrs.specs.Reading.{literal_in, no_argument, renaming_pattern, text_in}
use Rattle.hir_attrs.specs.Special.{given_name, given_to, takes_name}
use Rattle.hir_attrs.specs.declared.special.kind.SpecialKind.{SpecialKind}
use Rattle.hir_mark_rules.specs.Arguments.{IsLiteral, IsPattern, IsText, IsTextIfAny, SuitsSpecial}

pub none_given : (value : MetaValue) → no_argument value ≡ true → value ≡ Empty
none_given Empty h = refl
none_given (Literal literal) h = cc
none_given (Assignments assigns) h = cc

pub some_given : (value : MetaValue) → no_argument value ≡ false → ¬ (value ≡ Empty)
some_given value h is = let there : no_argument Empty ≡ false = subst (λ v. no_argument v ≡ false) is h in cc

-- ---- strings

text_of_literal : (literal : Lit) (text : List ℕ) → text_in (Literal literal) ≡ Some text → literal ≡ lit.Str text
text_of_literal (lit.Str bytes) text h = cc
text_of_literal (lit.Bool b) text h = cc
text_of_literal (lit.Char c) text h = cc
text_of_literal (lit.Byte b) text h = cc
text_of_literal (lit.Int digits) text h = cc
text_of_literal lit.Float text h = cc
text_of_literal lit.Other text h = cc

text_of : (value : MetaValue) (text : List ℕ) → text_in value ≡ Some text → value ≡ Literal (lit.Str text)
text_of Empty text h = cc
text_of (Literal literal) text h = ap Literal (text_of_literal literal text h)
text_of (Assignments assigns) text h = cc

pub no_text_in : (value : MetaValue) → text_in value ≡ None → ¬ IsText value
no_text_in value h is = let there : text_in value ≡ Some is.0 = ap text_in is.1 in cc (there, h)

none_inside : (value : MetaValue) (found : Option (List ℕ)) → text_in value ≡ found → ¬ IsText value → found ≡ None
none_inside value None is h = refl
none_inside value (Some text) is h = absurd (h (text, text_of value text is))

pub text_inside : (value : MetaValue) → ¬ IsText value → text_in value ≡ None
text_inside value h = none_inside value (text_in value) refl h

-- ---- patterns

fits_once : (value : MetaValue) (text pattern : List ℕ) (b : Bool) → nat_le (placeholder_count text) 1 ≡ b → text_in value ≡ Some text → cond b (Some text) None ≡ Some pattern → IsPattern value
fits_once value text pattern true few is h = (text, (text_of value text is, leb-true (placeholder_count text) 1 few))
fits_once value text pattern false few is h = cc

pattern_found : (value : MetaValue) (found : Option (List ℕ)) (pattern : List ℕ) → text_in value ≡ found → renaming_pattern found ≡ Some pattern → IsPattern value
pattern_found value None pattern is h = cc
pattern_found value (Some text) pattern is h = fits_once value text pattern (nat_le (placeholder_count text) 1) refl is h

pub pattern_is : (value : MetaValue) (pattern : List ℕ) → renaming_pattern (text_in value) ≡ Some pattern → IsPattern value
pattern_is value pattern h = pattern_found value (text_in value) pattern refl h

pub is_pattern : (value : MetaValue) → (h : IsPattern value) → renaming_pattern (text_in value) ≡ Some h.0
is_pattern value h = ap (λ v. renaming_pattern (text_in v)) h.1.0 ∙ ap (λ b. cond b (Some h.0) None) (le-leb (placeholder_count h.0) 1 h.1.1)

pub no_pattern : (value : MetaValue) → renaming_pattern (text_in value) ≡ None → ¬ IsPattern value
no_pattern value h is = let there : renaming_pattern (text_in value) ≡ Some is.0 = is_pattern value is in cc (there, h)

absent_pattern : (value : MetaValue) (found : Option (List ℕ)) → renaming_pattern (text_in value) ≡ found → ¬ IsPattern value → found ≡ None
absent_pattern value None is h = refl
absent_pattern value (Some pattern) is h = absurd (h (pattern_is value pattern is))

pub pattern_absent : (value : MetaValue) → ¬ IsPattern value → renaming_pattern (text_in value) ≡ None
pattern_absent value h = absent_pattern value (renaming_pattern (text_in value)) refl h

-- ---- literals

pub literal_is : (value : MetaValue) (literal : Lit) → literal_in value ≡ Some literal → value ≡ Literal literal
literal_is Empty literal h = cc
literal_is (Literal it) literal h = cc
literal_is (Assignments assigns) literal h = cc

pub no_literal : (value : MetaValue) → literal_in value ≡ None → ¬ IsLiteral value
no_literal value h is = let there : literal_in value ≡ Some is.0 = ap literal_in is.1 in cc (there, h)

pub literal_absent : (value : MetaValue) → ¬ IsLiteral value → literal_in value ≡ None
literal_absent Empty h = refl
literal_absent (Literal it) h = absurd (h (it, refl))
literal_absent (Assignments assigns) h = refl

-- ---- what special methods are given

literal_name : (literal : Lit) (name : Option (List ℕ)) → given_name (Literal literal) ≡ Some name → IsTextIfAny (Literal literal)
literal_name (lit.Str bytes) name h = IsTextIfAny.text bytes
literal_name (lit.Bool b) name h = cc
literal_name (lit.Char c) name h = cc
literal_name (lit.Byte b) name h = cc
literal_name (lit.Int digits) name h = cc
literal_name lit.Float name h = cc
literal_name lit.Other name h = cc

name_given : (value : MetaValue) (name : Option (List ℕ)) → given_name value ≡ Some name → IsTextIfAny value
name_given Empty name h = IsTextIfAny.absent
name_given (Literal literal) name h = literal_name literal name h
name_given (Assignments assigns) name h = cc

given_by : (value : MetaValue) → IsTextIfAny value → (name : Option (List ℕ)) × (given_name value ≡ Some name)
given_by value IsTextIfAny.absent = (None, refl)
given_by value (IsTextIfAny.text bytes) = (Some bytes, refl)

suits_by : (it : SpecialKind) (value : MetaValue) (takes : Bool) (name : Option (List ℕ)) → takes_name it ≡ takes → cond takes (given_name value) (Some None) ≡ Some name → SuitsSpecial it value
suits_by it value true name is h does = name_given value name h
suits_by it value false name is h does = cc

-- what is given suits
pub given_suits : (it : SpecialKind) (value : MetaValue) (name : Option (List ℕ)) → given_to it value ≡ Some name → SuitsSpecial it value
given_suits it value name h = suits_by it value (takes_name it) name refl h

given_if : (it : SpecialKind) (value : MetaValue) (takes : Bool) → takes_name it ≡ takes → SuitsSpecial it value → (name : Option (List ℕ)) × (cond takes (given_name value) (Some None) ≡ Some name)
given_if it value true is h = given_by value (h is)
given_if it value false is h = (None, refl)

-- and what suits gives a name, or none
pub suits_given : (it : SpecialKind) (value : MetaValue) → SuitsSpecial it value → (name : Option (List ℕ)) × (given_to it value ≡ Some name)
suits_given it value h = given_if it value (takes_name it) refl h

pub unsuited : (it : SpecialKind) (value : MetaValue) → given_to it value ≡ None → ¬ SuitsSpecial it value
unsuited it value h suits = let given = suits_given it value suits in cc (given.1, h)

absent_name : (it : SpecialKind) (value : MetaValue) (found : Option (Option (List ℕ))) → given_to it value ≡ found → ¬ SuitsSpecial it value → found ≡ None
absent_name it value None is h = refl
absent_name it value (Some name) is h = absurd (h (given_suits it value name is))

pub not_given : (it : SpecialKind) (value : MetaValue) → ¬ SuitsSpecial it value → given_to it value ≡ None
not_given it value h = absent_name it value (given_to it value) refl h
