-- A definition's lifetimes where it is used. The example throughout is the opaque `Page<'a, 'b>`
-- used as `&'x Page<'static, 'x>`.
use Rattle.std.specs.Prelude.{ℕ, ◌+◌, List, [], ◌∷◌, Option, Some, None, map}
use Rattle.hir_life.specs.Environment.{Environment}
use Rattle.hir_life.specs.declared.maybe_static.MaybeStatic.{MaybeStatic}

-- the definition's own lifetimes, the lifetime of the reference where there is one, and the
-- lifetimes at the use in the order of those of the definition: a and b, x, and the list of
-- `'static` and x
pub record Link : Type 0 where
  pub environment : Environment
  pub self_lifetime : Option (MaybeStatic ℕ)
  pub uses : List (MaybeStatic ℕ)

-- each lifetime at the use with the number at the definition, counted from n on: `'static` with 0
-- and x with 1
abbrev pub pairs_from : ℕ → List (MaybeStatic ℕ) → List (MaybeStatic ℕ × ℕ)
pairs_from n [] = []
pairs_from n (l ∷ ls) = (l, n) ∷ pairs_from (n + 1) ls

-- the same of all
abbrev pub pairs : Link → List (MaybeStatic ℕ × ℕ)
pairs link = pairs_from 0 link.uses

-- those pairs as pairs with what may be at the definition
abbrev pub at_definition : List (MaybeStatic ℕ × ℕ) → List (MaybeStatic ℕ × Option ℕ)
at_definition ps = map (λ p. (p.0, Some p.1)) ps

-- the lifetime of the reference first, where there is one, and nothing at the definition for it
abbrev pub with_self : Option (MaybeStatic ℕ) → List (MaybeStatic ℕ × ℕ) → List (MaybeStatic ℕ × Option ℕ)
with_self None ps = at_definition ps
with_self (Some l) ps = (l, None) ∷ at_definition ps

-- all pairs: x with nothing, `'static` with 0, x with 1
abbrev pub all_pairs : Link → List (MaybeStatic ℕ × Option ℕ)
all_pairs link = with_self link.self_lifetime (pairs link)
