-- What is wrong with the paths and lifetimes of a signature or a definition by themselves: a path that names nothing or writes too
-- many lifetimes, a `Self` that isn't the type that declares it, a lifetime that isn't declared. All of it is told, in the order in
-- which it stands; but where more lifetimes are declared than there may be, that alone is told.
use Rattle.std.specs.Prelude.{ℕ, List, [], ◌∷◌, ◌++◌, length, map, Bool, true, false, ◌&&◌, Option, Some, None, is_some, nat_eq, nat_lt, if◌then◌else◌}
use Rattle.std.specs.List.{flat_map}
use Rattle.std.specs.Str.{bytes_eq}
use Rattle.std.specs.Cmp.Lexicographic.{pointwise}
use Rattle.bridge_decl.specs.declared.functions.Function.{Function}
use Rattle.bridge_decl.specs.declared.lifetimes.Lifetime.{Lifetime}
use Rattle.bridge_decl.specs.declared.lifetimes.Lifetime.TheVariants as written
use Rattle.bridge_decl.specs.declared.lifetimes.LifetimeEnv.{LifetimeEnv}
use Rattle.bridge_decl.specs.declared.methods.Method.{Method}
use Rattle.bridge_decl.specs.declared.paths.PathType.{PathType}
use Rattle.bridge_decl.specs.declared.structs.Struct.{Struct}
use Rattle.bridge_decl.specs.declared.traits.TraitMethod.{TraitMethod}
use Rattle.bridge_decl.specs.Lifetimes.{lifetime_names}
use Rattle.bridge_text.specs.NameIndex.{number_of}
use Rattle.bridge_ast.specs.declared.place.ItemPlace.{ItemPlace}
use Rattle.hir_elide.specs.Numbering.{most}
use Rattle.hir_number.specs.declared.breach.Breach.{Breach}
use Rattle.hir_number.specs.declared.breach.Breach.TheVariants as code
use Rattle.hir_number.specs.Naming.{Definition, Naming}
use Rattle.hir_number.specs.Signatures.{Placed, field_uses, function_uses, method_uses, output_uses, param_uses, trait_borrow, trait_receiver_uses}
use Rattle.hir_number.specs.Uses.{Use, One, Path, borrow_uses, type_use}

-- a rule that is broken, with its argument
pub data Broken : Type 0 where
  -- the path names nothing
  UnresolvedPath : PathType → Broken
  -- the path writes more lifetimes than its definition declares
  LifetimeArity : PathType → Broken
  -- `Self` isn't the declaring type
  SelfMismatch : Broken
  -- the lifetime isn't declared
  LifetimeUnknown : List ℕ → Broken
  -- more lifetimes are declared than a signature or a definition may have
  TooManyLifetimes : Broken

-- what the code lends, as that
abbrev pub broken : Breach → Broken
broken (code.UnresolvedPath path) = UnresolvedPath path.now
broken (code.LifetimeArity path) = LifetimeArity path.now
broken code.SelfMismatch = SelfMismatch
broken (code.LifetimeUnknown name) = LifetimeUnknown name.now
broken code.TooManyLifetimes = TooManyLifetimes

-- what `Self` has to be in a signature or a definition
pub data Demand : Type 0 where
  -- anything: a field's `Self`
  Anything : Demand
  -- nothing may be `Self`: in a function, and in a trait's method
  Nothing : Demand
  -- the path of the method's type
  Equal : PathType → Demand
  -- a path that names the item there
  At : ItemPlace → Demand

-- whether two lifetimes are written alike
abbrev pub same_lifetime : Lifetime → Lifetime → Bool
same_lifetime written.Static written.Static = true
same_lifetime (written.Named one) (written.Named other) = bytes_eq one other
same_lifetime written.Anonymous written.Anonymous = true
same_lifetime _ _ = false

-- whether two paths are: the segments and the lifetimes
abbrev pub same_path : PathType → PathType → Bool
same_path one other = pointwise bytes_eq one.segments other.segments && pointwise same_lifetime one.lifetimes other.lifetimes

-- whether a definition is the item there
abbrev pub is_at : ItemPlace → Option Definition → Bool
is_at place None = false
is_at place (Some found) = nat_eq place.«module» found.place.«module» && nat_eq place.item found.place.item

-- `Self` is another
abbrev pub unless_own : Bool → List Broken
unless_own true = []
unless_own false = SelfMismatch ∷ []

-- what is wrong with a path as `Self`
abbrev pub own_breaches : Demand → PathType → Option Definition → List Broken
own_breaches Anything path found = []
own_breaches Nothing path found = SelfMismatch ∷ []
own_breaches (Equal own) path found = unless_own (same_path own path)
own_breaches (At place) path found = unless_own (is_at place found)

-- with a path that may be that of `Self`
abbrev pub self_breaches : Bool → Demand → PathType → Option Definition → List Broken
self_breaches true demand path found = own_breaches demand path found
self_breaches false demand path found = []

-- with a path as one to a definition
abbrev pub arity_breaches : Option Definition → PathType → List Broken
arity_breaches None path = UnresolvedPath path ∷ []
arity_breaches (Some found) path = if nat_lt found.count (length path.lifetimes) then LifetimeArity path ∷ [] else []

-- with a lifetime, where these are declared
abbrev pub unknown : List (List ℕ) → Lifetime → List Broken
unknown names written.Static = []
unknown names (written.Named name) = if is_some (number_of names name) then [] else LifetimeUnknown name ∷ []
unknown names written.Anonymous = []

-- with a use
abbrev pub use_breaches : List (List ℕ) → Demand → Use → List Broken
use_breaches names demand (One l) = unknown names l
use_breaches names demand (Path is_self path found) =
    (arity_breaches found path ++ self_breaches is_self demand path found) ++ flat_map (unknown names) path.lifetimes

-- with uses
abbrev pub breaches_of : List (List ℕ) → Demand → List Use → List Broken
breaches_of names demand us = flat_map (use_breaches names demand) us

-- the uses, wherever they stand
abbrev pub uses_of : List Placed → List Use
uses_of ps = map (λ p. p.1) ps

-- with what declares these lifetimes: they are too many, or there is what else is wrong
abbrev pub within_limit : LifetimeEnv → List Broken → List Broken
within_limit declared others = if nat_lt most (length declared.nodes) then TooManyLifetimes ∷ [] else others

-- with a method of the type there
abbrev pub method_breaches : Naming → ItemPlace → Method → List Broken
method_breaches names owner method = within_limit method.lifetime_env
    (breaches_of (lifetime_names method.lifetime_env) (At owner) (type_use names true method.self_type ∷ [])
    ++ breaches_of (lifetime_names method.lifetime_env) (Equal method.self_type) (uses_of (method_uses names method)))

-- with a function
abbrev pub function_breaches : Naming → Function → List Broken
function_breaches names function = within_limit function.lifetimes
    (breaches_of (lifetime_names function.lifetimes) Nothing (uses_of (function_uses names function)))

-- with a method of the trait there
abbrev pub trait_method_breaches : Naming → ItemPlace → TraitMethod → List Broken
trait_method_breaches names owner method = within_limit method.lifetimes
    (breaches_of (lifetime_names method.lifetimes) (At owner) (borrow_uses (trait_borrow method.self_param) ++ trait_receiver_uses names method.self_param)
    ++ breaches_of (lifetime_names method.lifetimes) Nothing (param_uses names method.params ++ output_uses names method.output_type))

-- with the fields of a struct
abbrev pub field_breaches : Naming → Struct → List Broken
field_breaches names item = within_limit item.lifetimes
    (breaches_of (lifetime_names item.lifetimes) Anything (uses_of (field_uses names item.fields)))
