-- When a numbered type fits: each path in it leads to a definition that is there, which has as many lifetimes as the path gives it,
-- and each lifetime is `'static` or one of so many. The catalog says which id the item at a place has.
use Rattle.std.specs.Prelude.{⊤, ℕ, List, ◌++◌, Option, Some, None}
use Rattle.std.specs.List.{All}
use Rattle.bridge_order.specs.Catalog.{entry_at}
use Rattle.bridge_order.specs.declared.catalog.Catalog.{Catalog}
use Rattle.bridge_order.specs.declared.catalog.Entry.{Entry}
use Rattle.bridge_order.specs.declared.catalog.Entry.TheVariants as entry
use Rattle.bridge_decl.specs.declared.types.Mutability.{Mutability}
use Rattle.hir_fitting.specs.Fitting.{Fits}
use Rattle.hir_fitting.specs.declared.census.Census.{Census}
use Rattle.hir_ids.specs.declared.ids.SymbolId.{SymbolId}
use Rattle.hir_ids.specs.declared.ids.SymbolId.TheVariants as symbol
use Rattle.hir_ids.specs.declared.ids.TypeId.TheVariants as type
use Rattle.hir_life.specs.Substitution.{IsBelow}
use Rattle.hir_life.specs.declared.maybe_static.MaybeStatic.{MaybeStatic}
use Rattle.hir_mentions.specs.Mentions.{Path}
use Rattle.hir_number.specs.declared.numbered.NumberedType.{NumberedType}
use Rattle.hir_number.specs.declared.numbered.Target.{Target}
use Rattle.hir_number.specs.declared.signature.NumberedSignature.{NumberedSignature}
use Rattle.hir_number.specs.declared.trait_methods.NumberedTraitMethod.{NumberedTraitMethod}
use Rattle.hir_signatures.specs.Stages.{Stage, Judged}
use Rattle.hir_traits.specs.TraitStages.{TraitMethodStage, TraitJudged}
use Rattle.hir_fitting_forms.specs.Names.{NumberedName, OfType, OfTrait, OfBorrow, borrow_names, names_in_signature, names_in_trait_method, names_in_type, names_in_types, own_names}

-- the id of an item, where it is a type
abbrev pub type_entered : Entry → Option SymbolId
type_entered (entry.Struct id has_fields) = Some (symbol.TypeId (type.Struct id))
type_entered (entry.OutStruct id has_fields) = Some (symbol.TypeId (type.OutStruct id))
type_entered (entry.Opaque id mark) = Some (symbol.TypeId (type.Opaque id))
type_entered (entry.Enum id) = Some (symbol.TypeId (type.Enum id))
type_entered (entry.Trait id) = None
type_entered (entry.Function id) = None

-- the id of an item, where it is a trait
abbrev pub trait_entered : Entry → Option SymbolId
trait_entered (entry.Trait id) = Some (symbol.TraitId id)
trait_entered _ = None

-- there is a definition, it has as many lifetimes as a path gives it, and each of these is one of so many
abbrev pub PathFits : Census → ℕ → Option SymbolId → List (MaybeStatic ℕ) → Type 0
PathFits census count (Some id) lifetimes = Fits census (Some count) (Path id lifetimes)
PathFits census count None lifetimes = ⊥

-- what is named fits, in an environment of so many lifetimes: a path to a type leads to a type, and one to a trait to a trait
abbrev pub NameFits : Census → Catalog → ℕ → NumberedName → Type 0
NameFits census catalog count (OfType t) = PathFits census count (type_entered (entry_at catalog t.place)) t.lifetimes
NameFits census catalog count (OfTrait t) = PathFits census count (trait_entered (entry_at catalog t.place)) t.lifetimes
NameFits census catalog count (OfBorrow l) = IsBelow count l

-- a type: all that it names
abbrev pub TypeFits : Census → Catalog → ℕ → NumberedType → Type 0
TypeFits census catalog count ty = All (NameFits census catalog count) (names_in_type ty)

-- types, as those of fields
abbrev pub TypesFit : Census → Catalog → ℕ → List NumberedType → Type 0
TypesFit census catalog count types = All (NameFits census catalog count) (names_in_types types)

-- a receiver with its borrow
abbrev pub ReceiverFits : Census → Catalog → ℕ → Option (MaybeStatic ℕ × Mutability) → Target → Type 0
ReceiverFits census catalog count borrow target = All (NameFits census catalog count) (borrow_names borrow ++ own_names (Some target))

-- a method or a function, with its own lifetimes
abbrev pub SignatureFits : Census → Catalog → NumberedSignature → Type 0
SignatureFits census catalog n = All (NameFits census catalog n.lifetimes.count) (names_in_signature n)

-- a trait's method
abbrev pub TraitMethodFits : Census → Catalog → NumberedTraitMethod → Type 0
TraitMethodFits census catalog n = All (NameFits census catalog n.lifetimes.count) (names_in_trait_method n)

-- what the types of a declaration come to: the signature, where they are judged
abbrev pub StageFits : Census → Catalog → Stage → Type 0
StageFits census catalog (Judged n) = SignatureFits census catalog n
StageFits census catalog _ = ⊤

-- so of a trait's method
abbrev pub TraitStageFits : Census → Catalog → TraitMethodStage → Type 0
TraitStageFits census catalog (TraitJudged n) = TraitMethodFits census catalog n
TraitStageFits census catalog _ = ⊤
