-- Names and what they name: the tables of marks, special methods and locations.
use Rattle.std.proofs.Common.{◌≡◌, ℕ, List, [], ◌∷◌, Bool, true, false, cond, Option, Some, None, refl, sym, subst}
use Rattle.std.specs.List.{find}
use Rattle.std.specs.Str.{bytes_eq}
use Rattle.std.proofs.lemmas.Slice.Eq.{bytes_eq-Decides}
use Rattle.hir_attrs.specs.Includes.{every_location, location_named, location_word}
use Rattle.hir_attrs.specs.Marks.{every_mark, mark_named, mark_text}
use Rattle.hir_attrs.specs.Special.{every_special, special_named, special_text}
use Rattle.hir_attrs.specs.declared.includes.IncludeLocation.{IncludeLocation}
use Rattle.hir_attrs.specs.declared.includes.IncludeLocation.TheVariants as location
use Rattle.hir_attrs.specs.declared.names.MarkName.{MarkName}
use Rattle.hir_attrs.specs.declared.names.MarkName.TheVariants as mark
use Rattle.hir_attrs.specs.declared.special.kind.SpecialKind.{SpecialKind}
use Rattle.hir_attrs.specs.declared.special.kind.SpecialKind.TheVariants as kind

passes_first : {X : Type 0} (p : X → Bool) (y x : X) (rest : Option X) (b : Bool) → p y ≡ b → (rest ≡ Some x → p x ≡ true) → cond b (Some y) rest ≡ Some x → p x ≡ true
passes_first p y x rest true is more h = cc
passes_first p y x rest false is more h = more h

-- what is found passes the test
found_passes : {X : Type 0} (p : X → Bool) (xs : List X) (x : X) → find p xs ≡ Some x → p x ≡ true
found_passes p [] x h = cc
found_passes p (y ∷ ys) x h = passes_first p y x (find p ys) (p y) refl (found_passes p ys x) h

-- what is found by a name has that name
called : {X : Type 0} (text : X → List ℕ) (xs : List X) (name : List ℕ) (x : X) → find (λ it. bytes_eq (text it) name) xs ≡ Some x → name ≡ text x
called text xs name x h = sym ((bytes_eq-Decides (text x) name).0 (found_passes (λ it. bytes_eq (text it) name) xs x h))

-- each is found by its own name
pub named_mark : (row : MarkName) → mark_named (mark_text row) ≡ Some row
unfolding every_mark mark_text
named_mark mark.Disable = refl
named_mark mark.Default = refl
named_mark mark.ManuallyDisposable = refl
named_mark mark.Rename = refl
named_mark mark.Namespace = refl
named_mark mark.Error = refl
named_mark mark.PreconditionViolation = refl
named_mark mark.GenerateMockingInterface = refl
named_mark mark.AbiCompatible = refl
named_mark mark.FfiError = refl
named_mark mark.MutStructRef = refl
named_mark mark.Tuple = refl
named_mark mark.CustomExtraCode = refl
named_mark mark.DefaultValue = refl

pub named_special : (it : SpecialKind) → special_named (special_text it) ≡ Some it
unfolding every_special special_text
named_special kind.Constructor = refl
named_special kind.NamedConstructor = refl
named_special kind.Getter = refl
named_special kind.Setter = refl
named_special kind.Stringifier = refl
named_special kind.Comparison = refl
named_special kind.Iterator = refl
named_special kind.Iterable = refl
named_special kind.Indexer = refl
named_special kind.Add = refl
named_special kind.Sub = refl
named_special kind.Mul = refl
named_special kind.Div = refl
named_special kind.AddAssign = refl
named_special kind.SubAssign = refl
named_special kind.MulAssign = refl
named_special kind.DivAssign = refl

pub named_location : (it : IncludeLocation) → location_named (location_word it) ≡ Some it
unfolding every_location location_word
named_location location.PreDefBlock = refl
named_location location.DefBlock = refl
named_location location.PostDefBlock = refl
named_location location.ImplBlock = refl
named_location location.PreImplBlock = refl
named_location location.PreInitializationBlock = refl
named_location location.InitializationBlock = refl

-- no row of the table has the name of a special method
pub row_is_no_special : (row : MarkName) → special_named (mark_text row) ≡ None
unfolding every_special special_text mark_text
row_is_no_special mark.Disable = refl
row_is_no_special mark.Default = refl
row_is_no_special mark.ManuallyDisposable = refl
row_is_no_special mark.Rename = refl
row_is_no_special mark.Namespace = refl
row_is_no_special mark.Error = refl
row_is_no_special mark.PreconditionViolation = refl
row_is_no_special mark.GenerateMockingInterface = refl
row_is_no_special mark.AbiCompatible = refl
row_is_no_special mark.FfiError = refl
row_is_no_special mark.MutStructRef = refl
row_is_no_special mark.Tuple = refl
row_is_no_special mark.CustomExtraCode = refl
row_is_no_special mark.DefaultValue = refl

pub mark_called : (name : List ℕ) (row : MarkName) → mark_named name ≡ Some row → name ≡ mark_text row
mark_called name row h = called mark_text every_mark name row h

pub special_called : (name : List ℕ) (it : SpecialKind) → special_named name ≡ Some it → name ≡ special_text it
special_called name it h = called special_text every_special name it h

pub location_called : (name : List ℕ) (it : IncludeLocation) → location_named name ≡ Some it → name ≡ location_word it
location_called name it h = called location_word every_location name it h

-- what isn't found has no name of the table, and the other way round
pub no_mark_called : (name : List ℕ) → mark_named name ≡ None → (row : MarkName) → ¬ (name ≡ mark_text row)
no_mark_called name h row is = let there : mark_named (mark_text row) ≡ None = subst (λ n. mark_named n ≡ None) is h in cc (there, named_mark row)

pub no_special_called : (name : List ℕ) → special_named name ≡ None → (it : SpecialKind) → ¬ (name ≡ special_text it)
no_special_called name h it is = let there : special_named (special_text it) ≡ None = subst (λ n. special_named n ≡ None) is h in cc (there, named_special it)

pub no_location_called : (name : List ℕ) → location_named name ≡ None → (it : IncludeLocation) → ¬ (name ≡ location_word it)
no_location_called name h it is = let there : location_named (location_word it) ≡ None = subst (λ n. location_named n ≡ None) is h in cc (there, named_location it)

absent : {X : Type 0} (found : Option X) → ((x : X) → ¬ (found ≡ Some x)) → found ≡ None
absent None h = refl
absent (Some x) h = absurd (h x refl)

pub mark_absent : (name : List ℕ) → ((row : MarkName) → ¬ (name ≡ mark_text row)) → mark_named name ≡ None
mark_absent name h = absent (mark_named name) (λ row is. h row (mark_called name row is))

pub special_absent : (name : List ℕ) → ((it : SpecialKind) → ¬ (name ≡ special_text it)) → special_named name ≡ None
special_absent name h = absent (special_named name) (λ it is. h it (special_called name it is))

pub location_absent : (name : List ℕ) → ((it : IncludeLocation) → ¬ (name ≡ location_word it)) → location_named name ≡ None
location_absent name h = absent (location_named name) (λ it is. h it (location_called name it is))
