-- When modules fit together: what an environment keeps.
use Rattle.std.specs.Prelude.{◌≡◌, ◌≢◌, ℕ, List, [], ◌∷◌, ◌++◌, map, take, slice_get, Some, ◌⊎◌}
use Rattle.std.specs.List.{All, AllPairs, Contains}
use Rattle.bridge_decl.specs.declared.lifetimes.LifetimeEnv.{LifetimeEnv}
use Rattle.bridge_decl.specs.declared.modules.Item.{Item}
use Rattle.bridge_decl.specs.declared.modules.Item.TheVariants.{Struct, Opaque, Enum, Trait, Function}
use Rattle.bridge_decl.specs.declared.modules.Module.{Module}
use Rattle.bridge_decl.specs.Lifetimes.{IsSoundEnvironment}
use Rattle.bridge_text.specs.NameIndex.{AreDistinct}
use Rattle.bridge_decl.specs.Names.{item_name}

-- the lifetimes that an item declares itself, and then those that each of its methods declares
abbrev pub lifetimes_of : Item → List LifetimeEnv
lifetimes_of (Struct item) = item.lifetimes ∷ map (λ method. method.lifetime_env) item.methods
lifetimes_of (Opaque item) = item.lifetimes ∷ map (λ method. method.lifetime_env) item.methods
lifetimes_of (Enum item) = map (λ method. method.lifetime_env) item.methods
lifetimes_of (Trait item) = item.lifetimes ∷ map (λ method. method.lifetimes) item.methods
lifetimes_of (Function item) = item.lifetimes ∷ []

-- the lifetimes of each item and of each method fit together
abbrev pub HasSoundLifetimes : Item → Type 0
HasSoundLifetimes item = All IsSoundEnvironment (lifetimes_of item)

-- the names of the items of a module and then those of its aliases
abbrev pub names_in : Module → List (List ℕ)
names_in m = map item_name m.items ++ map (λ alias. alias.name) m.aliases

-- the path is that of one of the modules with one name more, which no item and no alias there has
pub record HasParent (modules : List Module) (path : List (List ℕ)) : Type 0 where
  pub parent : Module
  pub name : List ℕ
  pub stands : Contains modules parent
  pub ends : path ≡ parent.path ++ name ∷ []
  pub free : ¬ Contains (names_in parent) name

-- the modules fit together: no two have one path; each is the root, whose path is empty, or stands after its parent; no two items
-- or aliases of one module have one name; and the lifetimes of each declaration fit together
pub record AreSound (modules : List Module) : Type 0 where
  pub paths : AllPairs (λ earlier later. earlier.path ≢ later.path) modules
  pub parents : (n : ℕ) (m : Module) → slice_get modules n ≡ Some m → (m.path ≡ []) ⊎ HasParent (take n modules) m.path
  pub names : All (λ m. AreDistinct (names_in m)) modules
  pub lifetimes : All (λ m. All HasSoundLifetimes m.items) modules
