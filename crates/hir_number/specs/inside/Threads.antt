-- Numbering as it goes: each part of a signature is numbered after what was gone through before it.
use Rattle.std.specs.Prelude.{◌≡◌, ⊤, ℕ, List, [], ◌∷◌, map, Bool, true, false, Option, Some, None, Result, Ok, Err}
use Rattle.bridge_decl.specs.declared.lifetimes.Lifetime.{Lifetime}
use Rattle.bridge_decl.specs.declared.paths.PathType.{PathType}
use Rattle.bridge_decl.specs.declared.types.Mutability.{Mutability}
use Rattle.bridge_decl.specs.declared.types.TypeName.{TypeName, fold-TypeName}
use Rattle.bridge_decl.specs.declared.types.TypeName.TheOpen.{TypeName-F}
use Rattle.bridge_ast.specs.declared.place.ItemPlace.{ItemPlace}
use Rattle.hir_elide.specs.Generics.{filled, with_generics}
use Rattle.hir_elide.specs.Occurrences.{Signature}
use Rattle.hir_elide.specs.Phases.{Phase, lowered, with_uses}
use Rattle.hir_life.specs.declared.maybe_static.MaybeStatic.{MaybeStatic}
use Rattle.hir_number.specs.declared.fault.NumberFault.{NumberFault}
use Rattle.hir_number.specs.declared.fault.NumberFault.TheVariants as fault
use Rattle.hir_number.specs.declared.numbered.Kind.{Kind}
use Rattle.hir_number.specs.declared.numbered.Target.{Target}
use Rattle.hir_number.specs.declared.numbered.TraitTarget.{TraitTarget}
use Rattle.hir_number.specs.declared.numbered.NumberedType.{NumberedType, roll-NumberedType}
use Rattle.hir_number.specs.declared.numbered.NumberedType.TheOpen.{NumberedType-F}
use Rattle.hir_number.specs.Faults.{of_elided}
use Rattle.hir_number.specs.Naming.{Definition, Naming, trait_found, type_found}
use Rattle.hir_number.specs.Numbers.{use_answer}
use Rattle.hir_number.specs.Uses.{Path}

-- what comes of a part of a signature, after those before it
abbrev pub Run : Type 0 → Type 0
Run A = Signature → Result (A × Signature) NumberFault

abbrev pub run_next : {A B : Type 0} → Result (A × Signature) NumberFault → (A → Run B) → Result (B × Signature) NumberFault
run_next (Ok both) next = next both.0 both.1
run_next (Err e) next = Err e

-- one part and then the next
infixl 10 ◌>>◌
abbrev pub ◌>>◌ : {A B : Type 0} → Run A → (A → Run B) → Run B
(run >> next) s = run_next (run s) next

abbrev pub given : {A : Type 0} → A → Run A
given x s = Ok (x, s)

-- an answer, after which that signature stands
abbrev pub standing : {A : Type 0} → Signature → Result A NumberFault → Result (A × Signature) NumberFault
standing s (Ok x) = Ok (x, s)
standing s (Err e) = Err e

abbrev pub lifetime_run : Phase → Lifetime → Run (MaybeStatic ℕ)
lifetime_run phase l s = standing (with_uses phase s (l ∷ [])) (of_elided (lowered phase s l))

abbrev pub borrow_run : Phase → Option (Lifetime × Mutability) → Run (Option (MaybeStatic ℕ × Mutability))
borrow_run phase None = given None
borrow_run phase (Some borrow) = lifetime_run phase borrow.0 >> (λ n. given (Some (n, borrow.1)))

abbrev pub optional_run : Phase → Option Lifetime → Run (Option (MaybeStatic ℕ))
optional_run phase None = given None
optional_run phase (Some l) = lifetime_run phase l >> (λ n. given (Some n))

-- the generics of a path to that definition
abbrev pub generics_run : Phase → Bool → PathType → Definition → Run (List (MaybeStatic ℕ))
generics_run phase is_self path found s =
    standing (with_generics phase is_self s (filled path.lifetimes found.count)) (use_answer phase s (Path is_self path (Some found)))

abbrev pub target : ItemPlace → Kind → List (MaybeStatic ℕ) → Target
target place kind lifetimes = record { place = place; kind = kind; lifetimes = lifetimes }

abbrev pub target_run : Phase → Bool → PathType → Option (Definition × Kind) → Run Target
target_run phase is_self path None s = Err fault.UnresolvedPath
target_run phase is_self path (Some found) s =
    (generics_run phase is_self path found.0 >> (λ ns. given (target found.0.place found.1 ns))) s

abbrev pub path_run : Phase → Naming → Bool → PathType → Run Target
path_run phase names is_self path = target_run phase is_self path (type_found (names.type_at path.segments))

abbrev pub trait_target : ItemPlace → List (MaybeStatic ℕ) → TraitTarget
trait_target place lifetimes = record { place = place; lifetimes = lifetimes }

abbrev pub trait_target_run : Phase → Bool → PathType → Option Definition → Run TraitTarget
trait_target_run phase is_self path None s = Err fault.UnresolvedPath
trait_target_run phase is_self path (Some found) s =
    (generics_run phase is_self path found >> (λ ns. given (trait_target found.place ns))) s

abbrev pub trait_run : Phase → Naming → Bool → PathType → Run TraitTarget
trait_run phase names is_self path = trait_target_run phase is_self path (trait_found (names.trait_at path.segments))

abbrev pub in_order : {A : Type 0} → List (Run A) → Run (List A)
in_order [] = given []
in_order (run ∷ runs) = run >> (λ x. in_order runs >> (λ xs. given (x ∷ xs)))

-- a numbered type by its outermost level
abbrev pub rolled : NumberedType-F NumberedType → Run NumberedType
rolled x = given (roll-NumberedType x)

-- one level of a type
abbrev pub level_run : Phase → Naming → TypeName-F (Run NumberedType) → Run NumberedType
level_run phase names (TypeName-F.Primitive p) = rolled (NumberedType-F.Primitive p)
level_run phase names TypeName-F.Ordering = rolled NumberedType-F.Ordering
level_run phase names (TypeName-F.Named p) = path_run phase names false p >> (λ t. rolled (NumberedType-F.Named t))
level_run phase names (TypeName-F.SelfType p) = path_run phase names true p >> (λ t. rolled (NumberedType-F.SelfType t))
level_run phase names (TypeName-F.ImplTrait p) = trait_run phase names false p >> (λ t. rolled (NumberedType-F.ImplTrait t))
level_run phase names (TypeName-F.Reference l m t) = lifetime_run phase l >> (λ n. t >> (λ i. rolled (NumberedType-F.Reference n m i)))
level_run phase names (TypeName-F.Box t) = t >> (λ i. rolled (NumberedType-F.Box i))
level_run phase names (TypeName-F.Option t d) = t >> (λ i. rolled (NumberedType-F.Option i d))
level_run phase names (TypeName-F.Result t e d) = t >> (λ i. e >> (λ j. rolled (NumberedType-F.Result i j d)))
level_run phase names (TypeName-F.Write w) = rolled (NumberedType-F.Write w)
level_run phase names (TypeName-F.StrReference l e d) = optional_run phase l >> (λ n. rolled (NumberedType-F.StrReference n e d))
level_run phase names (TypeName-F.StrSlice e d) = rolled (NumberedType-F.StrSlice e d)
level_run phase names (TypeName-F.PrimitiveSlice b p d) = borrow_run phase b >> (λ n. rolled (NumberedType-F.PrimitiveSlice n p d))
level_run phase names (TypeName-F.CustomTypeSlice b t d) = borrow_run phase b >> (λ n. t >> (λ i. rolled (NumberedType-F.CustomTypeSlice n i d)))
level_run phase names (TypeName-F.Function ts t m) = in_order ts >> (λ is. t >> (λ o. rolled (NumberedType-F.Function is o m)))
level_run phase names TypeName-F.Unit = rolled NumberedType-F.Unit

abbrev pub type_run : Phase → Naming → TypeName → Run NumberedType
type_run phase names = fold-TypeName (Run NumberedType) (level_run phase names)

abbrev pub each_run : Phase → Naming → List TypeName → Run (List NumberedType)
each_run phase names ts = in_order (map (type_run phase names) ts)

-- a fault is that of the answer, unless it is want of memory
abbrev pub RunTells : {A : Type 0} → NumberFault → Result A NumberFault → Type 0
RunTells fault.NoMemory answer = ⊤
RunTells fault.UnresolvedPath answer = answer ≡ Err fault.UnresolvedPath
RunTells fault.LifetimeArity answer = answer ≡ Err fault.LifetimeArity
RunTells (fault.Elide e) answer = answer ≡ Err (fault.Elide e)

-- a value, and what then stands
abbrev pub Comes : {A : Type 0} → (Signature → Type 0) → A → Result (A × Signature) NumberFault → Type 0
Comes stands x (Ok both) = (x ≡ both.0) × stands both.1
Comes stands x (Err e) = ⊥

-- a call that takes memory gives so, unless there is none
abbrev pub Meets : {A : Type 0} → (Signature → Type 0) → Result A NumberFault → Result (A × Signature) NumberFault → Type 0
Meets stands (Ok x) r = Comes stands x r
Meets stands (Err e) r = RunTells e r
