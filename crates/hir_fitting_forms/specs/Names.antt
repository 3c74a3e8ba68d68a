-- What a numbered type names, in order: the lifetime of a reference or of a slice before what stands inside. In `&'p Page<'a>` it
-- is 'p, and then `Page` with 'a.
use Rattle.std.specs.Prelude.{ℕ, List, [], ◌∷◌, ◌++◌, map, Option, Some, None}
use Rattle.bridge_decl.specs.declared.types.Mutability.{Mutability}
use Rattle.hir_life.specs.declared.maybe_static.MaybeStatic.{MaybeStatic}
use Rattle.hir_number.specs.Uses.{concatenated}
use Rattle.hir_number.specs.declared.numbered.NumberedType.{NumberedType, fold-NumberedType}
use Rattle.hir_number.specs.declared.numbered.NumberedType.TheOpen.{NumberedType-F}
use Rattle.hir_number.specs.declared.numbered.Target.{Target}
use Rattle.hir_number.specs.declared.numbered.TraitTarget.{TraitTarget}
use Rattle.hir_number.specs.declared.signature.NumberedSignature.{NumberedSignature}
use Rattle.hir_number.specs.declared.trait_methods.NumberedTraitMethod.{NumberedTraitMethod}

-- something that is named
pub data NumberedName : Type 0 where
  -- a type by a path, with the lifetimes that the path gives it: `Page` with 'a
  OfType : Target → NumberedName
  -- a trait by a path
  OfTrait : TraitTarget → NumberedName
  -- the lifetime of a reference or of a slice: 'p
  OfBorrow : MaybeStatic ℕ → NumberedName

-- ---- types

-- the lifetime of a slice or of a receiver, where it is borrowed
abbrev pub borrow_names : Option (MaybeStatic ℕ × Mutability) → List NumberedName
borrow_names None = []
borrow_names (Some b) = OfBorrow b.0 ∷ []

-- that of a text
abbrev pub text_names : Option (MaybeStatic ℕ) → List NumberedName
text_names None = []
text_names (Some l) = OfBorrow l ∷ []

-- one level of a type, with what the types in it name
abbrev pub level_names : NumberedType-F (List NumberedName) → List NumberedName
level_names (NumberedType-F.Named t) = OfType t ∷ []
level_names (NumberedType-F.SelfType t) = OfType t ∷ []
level_names (NumberedType-F.ImplTrait t) = OfTrait t ∷ []
level_names (NumberedType-F.Reference l m t) = OfBorrow l ∷ t
level_names (NumberedType-F.Box t) = t
level_names (NumberedType-F.Option t d) = t
level_names (NumberedType-F.Result t e d) = t ++ e
level_names (NumberedType-F.StrReference l e d) = text_names l
level_names (NumberedType-F.PrimitiveSlice b p d) = borrow_names b
level_names (NumberedType-F.CustomTypeSlice b t d) = borrow_names b ++ t
level_names (NumberedType-F.Function ts t m) = concatenated ts ++ t
level_names _ = []

-- a type
abbrev pub names_in_type : NumberedType → List NumberedName
names_in_type = fold-NumberedType (List NumberedName) level_names

-- types, one after another
abbrev pub names_in_types : List NumberedType → List NumberedName
names_in_types types = concatenated (map names_in_type types)

-- ---- signatures

-- the receiver's type, and what is returned, where there is anything
abbrev pub own_names : Option Target → List NumberedName
own_names None = []
own_names (Some t) = OfType t ∷ []

abbrev pub trait_own_names : Option TraitTarget → List NumberedName
trait_own_names None = []
trait_own_names (Some t) = OfTrait t ∷ []

abbrev pub output_names : Option NumberedType → List NumberedName
output_names None = []
output_names (Some ty) = names_in_type ty

-- a method or a function: the borrow of the receiver, its type, the parameters and the return
abbrev pub names_in_signature : NumberedSignature → List NumberedName
names_in_signature n = borrow_names n.borrow ++ own_names n.own ++ names_in_types n.params ++ output_names n.output

-- a trait's method
abbrev pub names_in_trait_method : NumberedTraitMethod → List NumberedName
names_in_trait_method n = borrow_names n.borrow ++ trait_own_names n.own ++ names_in_types n.params ++ output_names n.output
