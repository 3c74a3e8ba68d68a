-- Lists of lifetimes by their numbers, and substitution in them.
use Rattle.std.proofs.Common.{◌≡◌, ℕ, ◌+◌, ◌-◌, ◌<◌, zero, suc, List, [], ◌∷◌, ◌++◌, get_or, map, refl, arith}
use Rattle.std.specs.List.{range_with_len}
use Rattle.std.proofs.lemmas.List.FromFn.{map-range_with_len_more}
use Rattle.hir_life.specs.Substitution.{subst, subst_each, identity}
use Rattle.hir_life.specs.declared.maybe_static.MaybeStatic.{MaybeStatic}
use Rattle.hir_life.specs.declared.maybe_static.MaybeStatic.TheVariants.{Static, NonStatic}

-- the first of the numbers from a up to b
pub range_front : (a b : ℕ) → a < b → range_with_len a (b - a) ≡ a ∷ range_with_len (a + 1) (b - (a + 1))
range_front a b h =
    let e : b - a ≡ suc (b - (a + 1)) = omega (arith, h) in
    rw e refl

-- one lifetime more
pub identity_more : (n : ℕ) → identity (n + 1) ≡ identity n ++ NonStatic n ∷ []
identity_more n = map-range_with_len_more (λ (l : ℕ). NonStatic l) 0 n n (omega arith)

-- what a number becomes after two substitutions
substituted_twice :
    (l : ℕ) (a b : List (MaybeStatic ℕ)) → subst (get_or a l Static) b ≡ get_or (map (λ x. subst x b) a) l Static
substituted_twice l [] b = refl
substituted_twice zero (x ∷ a) b = refl
substituted_twice (suc l) (x ∷ a) b = substituted_twice l a b

pub subst_through : (l : MaybeStatic ℕ) (a b : List (MaybeStatic ℕ)) → subst (subst l a) b ≡ subst l (subst_each a b)
subst_through Static a b = refl
subst_through (NonStatic l) a b = substituted_twice l a b
