-- What is made is kept exactly where there are no more reports than before.
use Rattle.std.proofs.Common.{◌≡◌, ℕ, ◌<◌, Bool, true, false, Option, None, refl, ap, ◌∙◌, arith}
use Rattle.std.specs.Prelude.{◌==◌}
use Rattle.std.specs.Bool.{Decides}
use Rattle.std.specs.Cmp.{unsigned_Decides}
use Rattle.hir_methods.specs.Choosing.{kept_if}

apart : (m n : ℕ) → m ≡ n → n < m → ⊥
apart m n is h = omega (arith, is, h)

unequal : (b : Bool) (m n : ℕ) → Decides b (m ≡ n) → n < m → b ≡ false
unequal true m n d h = absurd (apart m n (d.0 refl) h)
unequal false m n d h = refl

module _ {A : Type 0} (m n : ℕ) (made kept : Option A) (is : kept ≡ kept_if (m == n) made) where
  -- with as many reports as before it is what was made
  pub same_kept : m ≡ n → kept ≡ made
  same_kept h = is ∙ ap (λ b. kept_if b made) ((unsigned_Decides m n).1 h)

  -- with more it is nothing
  pub more_kept : n < m → kept ≡ None
  more_kept h = is ∙ ap (λ b. kept_if b made) (unequal (m == n) m n (unsigned_Decides m n) h)
