-- The lifetimes that a type uses, in order, each where it stands: that of a reference or slice before those inside, and a
-- path's generics filled up to as many as its definition has. In `&'a Foo<'b>` these are `'a`, and then `'b` with those that
-- `Foo` has more.
use Rattle.std.specs.Prelude.{List, [], ◌∷◌, ◌++◌, option_map, Bool, true, false, Option, Some, None}
use Rattle.std.specs.List.{flat_map}
use Rattle.bridge_decl.specs.declared.lifetimes.Lifetime.{Lifetime}
use Rattle.bridge_decl.specs.declared.paths.PathType.{PathType}
use Rattle.bridge_decl.specs.declared.types.Mutability.{Mutability}
use Rattle.bridge_decl.specs.declared.types.TypeName.{TypeName, fold-TypeName}
use Rattle.bridge_decl.specs.declared.types.TypeName.TheOpen.{TypeName-F}
use Rattle.hir_elide.specs.Generics.{filled}
use Rattle.hir_number.specs.Naming.{Definition, Naming, trait_found, type_found}

-- a use of lifetimes
pub data Use : Type 0 where
  -- of one
  One : Lifetime → Use
  -- of the generics of a path, which may be that of `Self`, to a definition, if it names one
  Path : Bool → PathType → Option Definition → Use

-- a path to a type
abbrev pub type_use : Naming → Bool → PathType → Use
type_use names is_self path = Path is_self path (option_map (λ found. found.0) (type_found (names.type_at path.segments)))

-- a path to a trait
abbrev pub trait_use : Naming → Bool → PathType → Use
trait_use names is_self path = Path is_self path (trait_found (names.trait_at path.segments))

-- the borrow of a slice or of a receiver
abbrev pub borrow_uses : Option (Lifetime × Mutability) → List Use
borrow_uses None = []
borrow_uses (Some borrow) = One borrow.0 ∷ []

-- the lifetime of a string slice
abbrev pub optional_uses : Option Lifetime → List Use
optional_uses None = []
optional_uses (Some l) = One l ∷ []

-- those of lists, one after another
abbrev pub concatenated : {A : Type 0} → List (List A) → List A
concatenated xss = flat_map (λ xs. xs) xss

-- those of one level of a type, with those of the types in it
abbrev pub level_uses : Naming → TypeName-F (List Use) → List Use
level_uses names (TypeName-F.Named p) = type_use names false p ∷ []
level_uses names (TypeName-F.SelfType p) = type_use names true p ∷ []
level_uses names (TypeName-F.ImplTrait p) = trait_use names false p ∷ []
level_uses names (TypeName-F.Reference l m t) = One l ∷ t
level_uses names (TypeName-F.Box t) = t
level_uses names (TypeName-F.Option t d) = t
level_uses names (TypeName-F.Result t e d) = t ++ e
level_uses names (TypeName-F.StrReference l e d) = optional_uses l
level_uses names (TypeName-F.PrimitiveSlice b p d) = borrow_uses b
level_uses names (TypeName-F.CustomTypeSlice b t d) = borrow_uses b ++ t
level_uses names (TypeName-F.Function ts t m) = concatenated ts ++ t
level_uses names _ = []

-- those of a type
abbrev pub type_uses : Naming → TypeName → List Use
type_uses names = fold-TypeName (List Use) (level_uses names)

-- the lifetimes of a use: the generics of a path are filled up with anonymous ones; those of a path that names nothing, or
-- writes too many, stand as they are written
abbrev pub lifetimes_used : Use → List Lifetime
lifetimes_used (One l) = l ∷ []
lifetimes_used (Path is_self path None) = path.lifetimes
lifetimes_used (Path is_self path (Some found)) = filled path.lifetimes found.count
