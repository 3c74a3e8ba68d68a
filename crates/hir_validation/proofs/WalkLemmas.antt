-- Lifetimes of a definition one after another.
use Rattle.std.proofs.Common.{◌≡◌, ◌+◌, ℕ, zero, suc, List, [], ◌∷◌, ◌++◌, take, slice_get, refl, sym, ap, ◌∙◌, append_assoc, arith}
use Rattle.std.specs.List.{enumerate_from, flat_map}
use Rattle.hir_mentions.specs.Mentions.{where_any}
use Rattle.hir_reports.proofs.StoreLaws.{added_more}
use Rattle.hir_reports.specs.Store.{Held, added}
use Rattle.hir_reports.specs.declared.report.LoweringError.{LoweringError}

nothing_more : (es : List LoweringError) → es ++ [] ≡ es
nothing_more [] = refl
nothing_more (e ∷ es) = ap (λ rest. e ∷ rest) (nothing_more es)

module _ {X : Type 0} (f : ℕ × X → List LoweringError) where
  next_told : (k j : ℕ) (xs : List X) (n : ℕ) → k + n ≡ j
      → flat_map f (enumerate_from k (take (suc n) xs)) ≡ flat_map f (enumerate_from k (take n xs)) ++ where_any (λ x. f (j, x)) (slice_get xs n)
  next_told k j [] zero is = refl
  next_told k j [] (suc n) is = refl
  next_told k j (x ∷ xs) zero is = nothing_more (f (k, x)) ∙ ap (λ i. f (i, x)) same where
    same : k ≡ j
    same = omega (arith, is)
  next_told k j (x ∷ xs) (suc n) is =
      ap (λ es. f (k, x) ++ es) (next_told (k + 1) j xs n next)
      ∙ sym (append_assoc (f (k, x)) (flat_map f (enumerate_from (k + 1) (take n xs))) (where_any (λ y. f (j, y)) (slice_get xs n)))
    where
      next : k + 1 + n ≡ j
      next = omega (arith, is)

  -- what is told of those before and then of the next
  pub number_step : (start old new : Held) (xs : List X) (n : ℕ) → old ≡ added start (flat_map f (enumerate_from 0 (take n xs)))
      → new ≡ added old (where_any (λ x. f (n, x)) (slice_get xs n)) → new ≡ added start (flat_map f (enumerate_from 0 (take (n + 1) xs)))
  number_step start old new xs n before step =
      let one : n + 1 ≡ suc n = omega arith in
      let same : 0 + n ≡ n = omega arith in
      step ∙ ap (λ held. added held (where_any (λ x. f (n, x)) (slice_get xs n))) before
      ∙ added_more start (flat_map f (enumerate_from 0 (take n xs))) (where_any (λ x. f (n, x)) (slice_get xs n))
      ∙ ap (added start) (sym (next_told 0 n xs n same))
      ∙ ap (λ i. added start (flat_map f (enumerate_from 0 (take i xs)))) (sym one)
