-- The lifetimes of a signature or of a definition.
use Rattle.std.specs.Prelude.{ℕ, List, [], length, map, slice_index_or, ◌≤◌}
use Rattle.bridge_decl.specs.Lifetimes.{AreMutual}
use Rattle.hir_life.specs.declared.bounds.BoundedLifetime.{BoundedLifetime}
use Rattle.hir_life.specs.declared.walks.Direction.{Direction}
use Rattle.hir_life.specs.declared.walks.Direction.TheVariants.{Longer, Shorter}

-- the named lifetimes with their bounds, and the number of all lifetimes: `fn f<'a, 'b: 'a>(x: &u8)` has two bounds and
-- the count three
pub record Environment : Type 0 where
  pub bounds : List BoundedLifetime
  pub count : ℕ

-- the lifetimes that are declared to outlive s: b for a in `fn f<'a, 'b: 'a>`, and none for an anonymous s
abbrev pub longer_of : Environment → ℕ → List ℕ
longer_of e s = slice_index_or (map (λ b. b.longer) e.bounds) s []

-- the lifetimes that l is declared to outlive: a for b in `fn f<'a, 'b: 'a>`, and none for an anonymous l
abbrev pub shorter_of : Environment → ℕ → List ℕ
shorter_of e l = slice_index_or (map (λ b. b.shorter) e.bounds) l []

-- the direct bounds that a walk in this direction follows
abbrev pub followed : Environment → Direction → ℕ → List ℕ
followed e Longer = longer_of e
followed e Shorter = shorter_of e

-- bounds are between named lifetimes, each stands at both of its ends, and the named lifetimes are counted among all
pub record IsSound (e : Environment) : Type 0 where
  pub bounds : AreMutual (length e.bounds) (longer_of e) (shorter_of e)
  pub counted : length e.bounds ≤ e.count
