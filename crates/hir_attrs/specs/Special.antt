-- Special methods: their kinds by the names that marks have for them, and what a mark's argument gives them.
use Rattle.std.specs.Prelude.{ℕ, List, [], ◌∷◌, codes, Bool, true, false, Option, Some, None, if◌then◌else◌}
use Rattle.std.specs.List.{find}
use Rattle.std.specs.Str.{bytes_eq}
use Rattle.bridge_decl.specs.declared.attrs.MetaValue.{MetaValue}
use Rattle.bridge_decl.specs.declared.attrs.MetaValue.TheVariants.{Empty, Literal}
use Rattle.bridge_decl.specs.declared.attrs.Lit.TheVariants.{Str}
use Rattle.hir_attrs.specs.declared.special.SpecialMethod.{SpecialMethod}
use Rattle.hir_attrs.specs.declared.special.SpecialMethod.TheVariants as method
use Rattle.hir_attrs.specs.declared.special.kind.SpecialKind.{SpecialKind}
use Rattle.hir_attrs.specs.declared.special.kind.SpecialKind.TheVariants as kind

-- the name of a kind
unfoldable pub special_text : SpecialKind → List ℕ
special_text kind.Constructor = codes "constructor"
special_text kind.NamedConstructor = codes "named_constructor"
special_text kind.Getter = codes "getter"
special_text kind.Setter = codes "setter"
special_text kind.Stringifier = codes "stringifier"
special_text kind.Comparison = codes "comparison"
special_text kind.Iterator = codes "iterator"
special_text kind.Iterable = codes "iterable"
special_text kind.Indexer = codes "indexer"
special_text kind.Add = codes "add"
special_text kind.Sub = codes "sub"
special_text kind.Mul = codes "mul"
special_text kind.Div = codes "div"
special_text kind.AddAssign = codes "add_assign"
special_text kind.SubAssign = codes "sub_assign"
special_text kind.MulAssign = codes "mul_assign"
special_text kind.DivAssign = codes "div_assign"

-- all kinds
unfoldable pub every_special : List SpecialKind
every_special =
    kind.Constructor
    ∷ kind.NamedConstructor
    ∷ kind.Getter
    ∷ kind.Setter
    ∷ kind.Stringifier
    ∷ kind.Comparison
    ∷ kind.Iterator
    ∷ kind.Iterable
    ∷ kind.Indexer
    ∷ kind.Add
    ∷ kind.Sub
    ∷ kind.Mul
    ∷ kind.Div
    ∷ kind.AddAssign
    ∷ kind.SubAssign
    ∷ kind.MulAssign
    ∷ kind.DivAssign
    ∷ []

abbrev pub is_special_called : List ℕ → SpecialKind → Bool
is_special_called name it = bytes_eq (special_text it) name

-- the kind of a name, if there is one
abbrev pub special_named : List ℕ → Option SpecialKind
special_named name = find (is_special_called name) every_special

-- a named constructor and an accessor take a name; other kinds take any argument, and leave it aside
unfoldable pub takes_name : SpecialKind → Bool
takes_name kind.Constructor = false
takes_name kind.NamedConstructor = true
takes_name kind.Getter = true
takes_name kind.Setter = true
takes_name kind.Stringifier = false
takes_name kind.Comparison = false
takes_name kind.Iterator = false
takes_name kind.Iterable = false
takes_name kind.Indexer = false
takes_name kind.Add = false
takes_name kind.Sub = false
takes_name kind.Mul = false
takes_name kind.Div = false
takes_name kind.AddAssign = false
takes_name kind.SubAssign = false
takes_name kind.MulAssign = false
takes_name kind.DivAssign = false

-- the special method of a kind, with that name where the kind takes one
abbrev pub special_of : SpecialKind → Option (List ℕ) → SpecialMethod
special_of kind.Constructor name = method.Constructor
special_of kind.NamedConstructor name = method.NamedConstructor name
special_of kind.Getter name = method.Getter name
special_of kind.Setter name = method.Setter name
special_of kind.Stringifier name = method.Stringifier
special_of kind.Comparison name = method.Comparison false
special_of kind.Iterator name = method.Iterator
special_of kind.Iterable name = method.Iterable
special_of kind.Indexer name = method.Indexer
special_of kind.Add name = method.Add
special_of kind.Sub name = method.Sub
special_of kind.Mul name = method.Mul
special_of kind.Div name = method.Div
special_of kind.AddAssign name = method.AddAssign
special_of kind.SubAssign name = method.SubAssign
special_of kind.MulAssign name = method.MulAssign
special_of kind.DivAssign name = method.DivAssign

-- the kind of a special method
unfoldable pub special_kind : SpecialMethod → SpecialKind
special_kind method.Constructor = kind.Constructor
special_kind (method.NamedConstructor _) = kind.NamedConstructor
special_kind (method.Getter _) = kind.Getter
special_kind (method.Setter _) = kind.Setter
special_kind method.Stringifier = kind.Stringifier
special_kind (method.Comparison _) = kind.Comparison
special_kind method.Iterator = kind.Iterator
special_kind method.Iterable = kind.Iterable
special_kind method.Indexer = kind.Indexer
special_kind method.Add = kind.Add
special_kind method.Sub = kind.Sub
special_kind method.Mul = kind.Mul
special_kind method.Div = kind.Div
special_kind method.AddAssign = kind.AddAssign
special_kind method.SubAssign = kind.SubAssign
special_kind method.MulAssign = kind.MulAssign
special_kind method.DivAssign = kind.DivAssign

-- the operator that a special method overloads
unfoldable pub operator_text : SpecialMethod → Option (List ℕ)
operator_text method.Constructor = None
operator_text (method.NamedConstructor _) = None
operator_text (method.Getter _) = None
operator_text (method.Setter _) = None
operator_text method.Stringifier = None
operator_text (method.Comparison _) = None
operator_text method.Iterator = None
operator_text method.Iterable = None
operator_text method.Indexer = Some (codes "[]")
operator_text method.Add = Some (codes "+")
operator_text method.Sub = Some (codes "-")
operator_text method.Mul = Some (codes "*")
operator_text method.Div = Some (codes "/")
operator_text method.AddAssign = Some (codes "+=")
operator_text method.SubAssign = Some (codes "-=")
operator_text method.MulAssign = Some (codes "*=")
operator_text method.DivAssign = Some (codes "/=")

-- the name that an argument gives: no argument leaves it to the method, and anything but a string gives none
abbrev pub given_name : MetaValue → Option (Option (List ℕ))
given_name Empty = Some None
given_name (Literal (Str text)) = Some (Some text)
given_name _ = None

abbrev pub given_to : SpecialKind → MetaValue → Option (Option (List ℕ))
given_to it value = if takes_name it then given_name value else Some None

-- what a mark is, as far as special methods go
pub data SpecialReading : Type 0 where
  -- no special method has its name
  Ordinary : SpecialReading
  -- it is one whose argument is wrong
  WrongArgument : SpecialReading
  -- it is this one
  Special : SpecialMethod → SpecialReading

abbrev pub special_with : SpecialKind → Option (Option (List ℕ)) → SpecialReading
special_with it None = SpecialReading.WrongArgument
special_with it (Some name) = SpecialReading.Special (special_of it name)

abbrev pub special_found : Option SpecialKind → MetaValue → SpecialReading
special_found None value = SpecialReading.Ordinary
special_found (Some it) value = special_with it (given_to it value)

abbrev pub special_reading : List ℕ → MetaValue → SpecialReading
special_reading name value = special_found (special_named name) value

-- that of a special method, or of none
abbrev pub as_reading : Option SpecialMethod → SpecialReading
as_reading None = SpecialReading.Ordinary
as_reading (Some found) = SpecialReading.Special found
