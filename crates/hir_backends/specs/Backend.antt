-- What a backend says of itself: all that conditions and marks ask of one.
use Rattle.std.specs.Prelude.{ℕ, List, Bool, Option}
use Rattle.hir_backends.specs.declared.support.BackendAttrSupport.{BackendAttrSupport}

pub record Backend : Type 0 where
  -- the name by which reports call it
  pub primary_name : List ℕ
  -- the names that it answers to
  pub is_backend : List ℕ → Bool
  -- whether the pair of a name and a value holds for it; none where it doesn't know what the pair asks
  pub is_name_value : List ℕ → List ℕ → Option Bool
  -- what it supports
  pub supports : BackendAttrSupport
  -- the features of the library whose interface may still change
  pub is_unstable : List ℕ → Bool
