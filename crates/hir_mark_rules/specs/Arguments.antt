-- Which arguments suit which marks.
use Rattle.std.specs.Prelude.{◌≡◌, ◌≤◌, ℕ, List, true, ⊤}
use Rattle.bridge_text.specs.Rename.{placeholder_count}
use Rattle.bridge_decl.specs.declared.attrs.Lit.{Lit}
use Rattle.bridge_decl.specs.declared.attrs.Lit.TheVariants.{Str}
use Rattle.bridge_decl.specs.declared.attrs.MetaValue.{MetaValue}
use Rattle.bridge_decl.specs.declared.attrs.MetaValue.TheVariants.{Empty, Literal}
use Rattle.hir_attrs.specs.Special.{takes_name}
use Rattle.hir_attrs.specs.declared.names.MarkName.{MarkName}
use Rattle.hir_attrs.specs.declared.names.MarkName.TheVariants as mark
use Rattle.hir_attrs.specs.declared.special.kind.SpecialKind.{SpecialKind}

-- any literal
abbrev pub IsLiteral : MetaValue → Type 0
IsLiteral value = (literal : Lit) × (value ≡ Literal literal)

-- a string
abbrev pub IsText : MetaValue → Type 0
IsText value = (text : List ℕ) × (value ≡ Literal (Str text))

-- a string with one place for the name at most
abbrev pub IsPattern : MetaValue → Type 0
IsPattern value = (text : List ℕ) × ((value ≡ Literal (Str text)) × (placeholder_count text ≤ 1))

-- no argument, or a string
pub data IsTextIfAny : MetaValue → Type 0 where
  absent : IsTextIfAny Empty
  text : (bytes : List ℕ) → IsTextIfAny (Literal (Str bytes))

-- what suits the mark of a special method: where it takes a name, a string or nothing; else anything
abbrev pub SuitsSpecial : SpecialKind → MetaValue → Type 0
SuitsSpecial kind value = takes_name kind ≡ true → IsTextIfAny value

-- what suits each other mark; the argument of `custom_extra_code` has a rule of its own
abbrev pub Suits : MarkName → MetaValue → Type 0
Suits mark.Disable value = value ≡ Empty
Suits mark.Default value = value ≡ Empty
Suits mark.ManuallyDisposable value = value ≡ Empty
Suits mark.Rename value = IsPattern value
Suits mark.Namespace value = IsText value
Suits mark.Error value = ⊤
Suits mark.PreconditionViolation value = ⊤
Suits mark.GenerateMockingInterface value = ⊤
Suits mark.AbiCompatible value = ⊤
Suits mark.FfiError value = ⊤
Suits mark.MutStructRef value = ⊤
Suits mark.Tuple value = ⊤
Suits mark.CustomExtraCode value = ⊤
Suits mark.DefaultValue value = IsLiteral value
