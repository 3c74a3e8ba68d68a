-- Which rules the paths and the lifetimes of a signature or a definition break by themselves.
use Rattle.std.specs.Prelude.{◌≡◌, ◌⊎◌, ◌++◌, ℕ, List, [], ◌∷◌, true}
use Rattle.std.specs.List.{Contains}
use Rattle.bridge_ast.specs.declared.place.ItemPlace.{ItemPlace}
use Rattle.bridge_decl.specs.Lifetimes.{lifetime_names}
use Rattle.bridge_decl.specs.declared.functions.Function.{Function}
use Rattle.bridge_decl.specs.declared.lifetimes.Lifetime.{Lifetime}
use Rattle.bridge_decl.specs.declared.lifetimes.LifetimeEnv.{LifetimeEnv}
use Rattle.bridge_decl.specs.declared.methods.Method.{Method}
use Rattle.bridge_decl.specs.declared.structs.Struct.{Struct}
use Rattle.bridge_decl.specs.declared.traits.TraitMethod.{TraitMethod}
use Rattle.hir_number.specs.Breaches.{Broken, Demand, Anything, Nothing, Equal, At, TooManyLifetimes, uses_of}
use Rattle.hir_number.specs.Naming.{Naming}
use Rattle.hir_number.specs.Signatures.{field_uses, function_uses, method_uses, output_uses, param_uses, trait_borrow, trait_receiver_uses}
use Rattle.hir_number.specs.Uses.{Use, One, Path, borrow_uses, type_use}
use Rattle.hir_rules.specs.rules.LifetimeArity.{LifetimeArity}
use Rattle.hir_rules.specs.rules.LifetimeUnknown.{LifetimeUnknown}
use Rattle.hir_rules.specs.rules.SelfMismatch.{SelfMismatch}
use Rattle.hir_rules.specs.rules.TooManyLifetimes.{DeclaresTooMany}
use Rattle.hir_rules.specs.rules.UnresolvedPath.{UnresolvedPath}

-- one of the lifetimes that a path writes, where these are declared
abbrev pub WrittenBreak : List (List ℕ) → List Lifetime → Broken → Type 0
WrittenBreak names written broken = (l : Lifetime) × (Contains written l × LifetimeUnknown names l broken)

-- a use of lifetimes, where these are declared and `Self` has to be that: one lifetime; or a path as one to a definition, as one that may
-- be `Self`, and by what it writes
abbrev pub UseBreaks : List (List ℕ) → Demand → Use → Broken → Type 0
UseBreaks names demand (One l) broken = LifetimeUnknown names l broken
UseBreaks names demand (Path is_self path found) broken =
    ((UnresolvedPath found path broken ⊎ LifetimeArity found path broken) ⊎ SelfMismatch is_self demand path found broken)
    ⊎ WrittenBreak names path.lifetimes broken

-- one of some uses
abbrev pub UsesBreak : List (List ℕ) → Demand → List Use → Broken → Type 0
UsesBreak names demand uses broken = (u : Use) × (Contains uses u × UseBreaks names demand u broken)

-- or that more lifetimes are declared than there may be
abbrev pub LimitedBreak : LifetimeEnv → (Broken → Type 0) → Broken → Type 0
LimitedBreak declared Others broken = (DeclaresTooMany declared × (broken ≡ TooManyLifetimes)) ⊎ Others broken

-- a method of the type there: its own path to the type, and its uses
abbrev pub MethodPathsBreak : Naming → ItemPlace → Method → Broken → Type 0
MethodPathsBreak names owner method = LimitedBreak method.lifetime_env (λ broken.
    UsesBreak (lifetime_names method.lifetime_env) (At owner) (type_use names true method.self_type ∷ []) broken
    ⊎ UsesBreak (lifetime_names method.lifetime_env) (Equal method.self_type) (uses_of (method_uses names method)) broken)

-- a function
abbrev pub FunctionPathsBreak : Naming → Function → Broken → Type 0
FunctionPathsBreak names function = LimitedBreak function.lifetimes
    (UsesBreak (lifetime_names function.lifetimes) Nothing (uses_of (function_uses names function)))

-- a method of the trait there: its receiver, and its other uses
abbrev pub TraitMethodPathsBreak : Naming → ItemPlace → TraitMethod → Broken → Type 0
TraitMethodPathsBreak names owner method = LimitedBreak method.lifetimes (λ broken.
    UsesBreak (lifetime_names method.lifetimes) (At owner) (borrow_uses (trait_borrow method.self_param) ++ trait_receiver_uses names method.self_param) broken
    ⊎ UsesBreak (lifetime_names method.lifetimes) Nothing (param_uses names method.params ++ output_uses names method.output_type) broken)

-- the fields of a struct
abbrev pub FieldPathsBreak : Naming → Struct → Broken → Type 0
FieldPathsBreak names item = LimitedBreak item.lifetimes
    (UsesBreak (lifetime_names item.lifetimes) Anything (uses_of (field_uses names item.fields)))
