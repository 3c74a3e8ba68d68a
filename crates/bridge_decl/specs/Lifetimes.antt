-- What a declared environment of lifetimes says, and when its declarations fit together.
use Rattle.std.specs.Prelude.{ℕ, ◌<◌, List, [], length, map, slice_index_or}
use Rattle.std.specs.List.{Contains}
use Rattle.bridge_text.specs.NameIndex.{AreDistinct}
use Rattle.bridge_decl.specs.declared.lifetimes.LifetimeEnv.{LifetimeEnv}

-- the names of the lifetimes, in order
abbrev pub lifetime_names : LifetimeEnv → List (List ℕ)
lifetime_names env = map (λ node. node.name) env.nodes

-- the lifetimes that are declared to outlive s: that of b for a in `fn f<'a, 'b: 'a>`
abbrev pub declared_longer : LifetimeEnv → ℕ → List ℕ
declared_longer env s = slice_index_or (map (λ node. node.longer) env.nodes) s []

-- the lifetimes that l is declared to outlive: that of a for b in `fn f<'a, 'b: 'a>`
abbrev pub declared_shorter : LifetimeEnv → ℕ → List ℕ
declared_shorter env l = slice_index_or (map (λ node. node.shorter) env.nodes) l []

-- bounds are between lifetimes with names, and each stands at both of its ends
pub record AreMutual (named : ℕ) (longer shorter : ℕ → List ℕ) : Type 0 where
  pub longer_named : (s l : ℕ) → Contains (longer s) l → l < named
  pub shorter_named : (l s : ℕ) → Contains (shorter l) s → s < named
  pub longer_has_shorter : (l s : ℕ) → Contains (longer s) l → Contains (shorter l) s
  pub shorter_has_longer : (l s : ℕ) → Contains (shorter l) s → Contains (longer s) l

-- names are distinct; bounds are between lifetimes of the environment, and each stands at both of its ends
pub record IsSoundEnvironment (env : LifetimeEnv) : Type 0 where
  pub distinct : AreDistinct (lifetime_names env)
  pub bounds : AreMutual (length env.nodes) (declared_longer env) (declared_shorter env)
