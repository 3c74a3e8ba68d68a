-- When a mention fits: it names what there is, with as many lifetimes as that has, and each of its
-- lifetimes is one of the environment that it stands in. What stands in no environment may have any
-- lifetimes.
use Rattle.std.specs.Prelude.{⊤, ◌≡◌, ◌≢◌, ℕ, List, [], ◌∷◌, Option, Some, None, length}
use Rattle.std.specs.List.{All, Any}
use Rattle.hir_life.specs.Substitution.{IsBelow}
use Rattle.hir_life.specs.declared.maybe_static.MaybeStatic.{MaybeStatic}
use Rattle.hir_ids.specs.declared.ids.SymbolId.{SymbolId}
use Rattle.hir_mentions.specs.Mentions.{Mentioned, Path, Plain, Borrow, named_by, given_by}
use Rattle.hir_fitting.specs.Census.{IsThere, arity_in}
use Rattle.hir_fitting.specs.declared.census.Census.{Census}

-- the lifetime is `'static` or one of so many; where there is no environment it may be any
abbrev pub IsKnown : Option ℕ → MaybeStatic ℕ → Type 0
IsKnown None lifetime = ⊤
IsKnown (Some count) lifetime = IsBelow count lifetime

-- the lifetimes that a mention has: those of a path, or that of a reference or slice
abbrev pub mentioned_lifetimes : Mentioned → List (MaybeStatic ℕ)
mentioned_lifetimes (Path id lifetimes) = lifetimes
mentioned_lifetimes (Plain id) = []
mentioned_lifetimes (Borrow lifetime) = lifetime ∷ []

-- the mention fits, where its environment has `count` lifetimes
abbrev pub Fits : Census → Option ℕ → Mentioned → Type 0
Fits census count (Path id lifetimes) =
    (arity_in census id ≡ Some (length lifetimes)) × All (IsKnown count) lifetimes
Fits census count (Plain id) = IsThere census id
Fits census count (Borrow lifetime) = IsKnown count lifetime

-- the mention in `holder` doesn't fit, and what is told of it is `named`
pub data Misfits (census : Census) (count : Option ℕ) (holder : SymbolId) (m : Mentioned) (named : SymbolId) : Type 0 where
  -- it names an id of which there is no definition
  OutOfRange : named_by m ≡ Some named → ¬ IsThere census named → Misfits census count holder m named
  -- it is a path of another number of lifetimes than the definition that it names
  OfOtherArity : {lifetimes : List (MaybeStatic ℕ)} {arity : ℕ} → named_by m ≡ Some named → given_by m ≡ Some lifetimes → arity_in census named ≡ Some arity → arity ≢ length lifetimes → Misfits census count holder m named
  -- a lifetime of it is outside of its environment: what holds it is told
  OutsideOfEnvironment : named ≡ holder → Any (λ l. ¬ IsKnown count l) (mentioned_lifetimes m) → Misfits census count holder m named
