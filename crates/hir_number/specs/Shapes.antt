-- The numbers in a numbered type, and the type without them: a type is numbered where the latter is that of the declared type,
-- and the numbers are those of its uses.
use Rattle.std.specs.Prelude.{ℕ, List, [], ◌∷◌, ◌++◌, Option, Some, None}
use Rattle.bridge_decl.specs.declared.lifetimes.Lifetime.{Lifetime}
use Rattle.bridge_decl.specs.declared.types.Mutability.{Mutability}
use Rattle.bridge_decl.specs.declared.types.TypeName.{TypeName, fold-TypeName}
use Rattle.bridge_decl.specs.declared.types.TypeName.TheOpen.{TypeName-F}
use Rattle.hir_life.specs.declared.maybe_static.MaybeStatic.{MaybeStatic}
use Rattle.hir_life.specs.declared.maybe_static.MaybeStatic.TheVariants.{Static}
use Rattle.hir_number.specs.declared.numbered.Kind.{Kind}
use Rattle.hir_number.specs.declared.numbered.Target.{Target}
use Rattle.hir_number.specs.declared.numbered.TraitTarget.{TraitTarget}
use Rattle.hir_number.specs.declared.numbered.NumberedType.{NumberedType, fold-NumberedType, roll-NumberedType}
use Rattle.hir_number.specs.declared.numbered.NumberedType.TheOpen.{NumberedType-F}
use Rattle.hir_number.specs.Naming.{Definition, Naming, trait_found, type_found}
use Rattle.hir_number.specs.Uses.{concatenated}

-- ---- numbers

-- the numbers in a type, a list for each use
abbrev pub NumberLists : Type 0
NumberLists = List (List (MaybeStatic ℕ))

-- that of a borrow
abbrev pub borrow_numbers : Option (MaybeStatic ℕ × Mutability) → NumberLists
borrow_numbers None = []
borrow_numbers (Some borrow) = (borrow.0 ∷ []) ∷ []

-- that of a string slice
abbrev pub optional_numbers : Option (MaybeStatic ℕ) → NumberLists
optional_numbers None = []
optional_numbers (Some n) = (n ∷ []) ∷ []

-- those of one level of a type, with those of the types in it
abbrev pub level_numbers : NumberedType-F NumberLists → NumberLists
level_numbers (NumberedType-F.Named t) = t.lifetimes ∷ []
level_numbers (NumberedType-F.SelfType t) = t.lifetimes ∷ []
level_numbers (NumberedType-F.ImplTrait t) = t.lifetimes ∷ []
level_numbers (NumberedType-F.Reference n m t) = (n ∷ []) ∷ t
level_numbers (NumberedType-F.Box t) = t
level_numbers (NumberedType-F.Option t d) = t
level_numbers (NumberedType-F.Result t e d) = t ++ e
level_numbers (NumberedType-F.StrReference n e d) = optional_numbers n
level_numbers (NumberedType-F.PrimitiveSlice b p d) = borrow_numbers b
level_numbers (NumberedType-F.CustomTypeSlice b t d) = borrow_numbers b ++ t
level_numbers (NumberedType-F.Function ts t m) = concatenated ts ++ t
level_numbers _ = []

-- those of a type
abbrev pub numbers_in : NumberedType → NumberLists
numbers_in = fold-NumberedType NumberLists level_numbers

-- ---- types without numbers

-- what a path leads to, without numbers
abbrev pub bare_target : Target → Target
bare_target t = record { place = t.place; kind = t.kind; lifetimes = [] }

abbrev pub bare_trait : TraitTarget → TraitTarget
bare_trait t = record { place = t.place; lifetimes = [] }

-- a borrow, without its number
abbrev pub bare_borrow : Option (MaybeStatic ℕ × Mutability) → Option (MaybeStatic ℕ × Mutability)
bare_borrow None = None
bare_borrow (Some borrow) = Some (Static, borrow.1)

abbrev pub bare_optional : Option (MaybeStatic ℕ) → Option (MaybeStatic ℕ)
bare_optional None = None
bare_optional (Some n) = Some Static

-- one level of a type without numbers
abbrev pub level_bare : NumberedType-F NumberedType → NumberedType-F NumberedType
level_bare (NumberedType-F.Named t) = NumberedType-F.Named (bare_target t)
level_bare (NumberedType-F.SelfType t) = NumberedType-F.SelfType (bare_target t)
level_bare (NumberedType-F.ImplTrait t) = NumberedType-F.ImplTrait (bare_trait t)
level_bare (NumberedType-F.Reference n m t) = NumberedType-F.Reference Static m t
level_bare (NumberedType-F.StrReference n e d) = NumberedType-F.StrReference (bare_optional n) e d
level_bare (NumberedType-F.PrimitiveSlice b p d) = NumberedType-F.PrimitiveSlice (bare_borrow b) p d
level_bare (NumberedType-F.CustomTypeSlice b t d) = NumberedType-F.CustomTypeSlice (bare_borrow b) t d
level_bare x = x

-- a numbered type without its numbers
abbrev pub bare : NumberedType → NumberedType
bare = fold-NumberedType NumberedType (λ x. roll-NumberedType (level_bare x))

-- ---- declared types without lifetimes

-- the type that a path names; `()` stands for one that names none, and is the shape of no numbered type then
abbrev pub target_shape : Option (Definition × Kind) → (Target → NumberedType-F NumberedType) → NumberedType-F NumberedType
target_shape None make = NumberedType-F.Unit
target_shape (Some found) make = make (record { place = found.0.place; kind = found.1; lifetimes = [] })

abbrev pub trait_shape : Option Definition → NumberedType-F NumberedType
trait_shape None = NumberedType-F.Unit
trait_shape (Some found) = NumberedType-F.ImplTrait (record { place = found.place; lifetimes = [] })

-- a borrow, as one without a number
abbrev pub borrow_shape : Option (Lifetime × Mutability) → Option (MaybeStatic ℕ × Mutability)
borrow_shape None = None
borrow_shape (Some borrow) = Some (Static, borrow.1)

abbrev pub optional_shape : Option Lifetime → Option (MaybeStatic ℕ)
optional_shape None = None
optional_shape (Some l) = Some Static

-- one level of a declared type, as one without numbers
abbrev pub level_shape : Naming → TypeName-F NumberedType → NumberedType-F NumberedType
level_shape names (TypeName-F.Primitive p) = NumberedType-F.Primitive p
level_shape names TypeName-F.Ordering = NumberedType-F.Ordering
level_shape names (TypeName-F.Named p) = target_shape (type_found (names.type_at p.segments)) (λ t. NumberedType-F.Named t)
level_shape names (TypeName-F.SelfType p) = target_shape (type_found (names.type_at p.segments)) (λ t. NumberedType-F.SelfType t)
level_shape names (TypeName-F.ImplTrait p) = trait_shape (trait_found (names.trait_at p.segments))
level_shape names (TypeName-F.Reference l m t) = NumberedType-F.Reference Static m t
level_shape names (TypeName-F.Box t) = NumberedType-F.Box t
level_shape names (TypeName-F.Option t d) = NumberedType-F.Option t d
level_shape names (TypeName-F.Result t e d) = NumberedType-F.Result t e d
level_shape names (TypeName-F.Write w) = NumberedType-F.Write w
level_shape names (TypeName-F.StrReference l e d) = NumberedType-F.StrReference (optional_shape l) e d
level_shape names (TypeName-F.StrSlice e d) = NumberedType-F.StrSlice e d
level_shape names (TypeName-F.PrimitiveSlice b p d) = NumberedType-F.PrimitiveSlice (borrow_shape b) p d
level_shape names (TypeName-F.CustomTypeSlice b t d) = NumberedType-F.CustomTypeSlice (borrow_shape b) t d
level_shape names (TypeName-F.Function ts t m) = NumberedType-F.Function ts t m
level_shape names TypeName-F.Unit = NumberedType-F.Unit

-- a declared type, as one without numbers
abbrev pub shape : Naming → TypeName → NumberedType
shape names = fold-TypeName NumberedType (λ x. roll-NumberedType (level_shape names x))
