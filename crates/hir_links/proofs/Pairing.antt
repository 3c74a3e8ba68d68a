-- The pairs of a link by place.
use Rattle.std.proofs.Common.{◌≡◌, ℕ, ◌+◌, List, [], ◌∷◌, length, slice_get, Some, suc, zero, refl, ap, arith}
use Rattle.hir_life.specs.declared.maybe_static.MaybeStatic.{MaybeStatic}
use Rattle.hir_links.specs.Links.{pairs_from}

pub length-pairs_from : (n : ℕ) (ls : List (MaybeStatic ℕ)) → length (pairs_from n ls) ≡ length ls
length-pairs_from n [] = refl
length-pairs_from n (l ∷ ls) = ap (λ k. suc k) (length-pairs_from (n + 1) ls)

pub get-pairs_from : (n d e : ℕ) (ls : List (MaybeStatic ℕ)) (l : MaybeStatic ℕ) → n + d ≡ e → slice_get ls d ≡ Some l → slice_get (pairs_from n ls) d ≡ Some (l, e)
get-pairs_from n d e [] l at found = cc
get-pairs_from n zero e (k ∷ ls) l at found = let same : n ≡ e = omega arith in cc
get-pairs_from n (suc d) e (k ∷ ls) l at found = get-pairs_from (n + 1) d e ls l (omega arith) found
