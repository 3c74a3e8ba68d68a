-- Alias steps that are taken from a number of steps.
use Rattle.std.proofs.Common.{◌≡◌, ℕ, zero, suc, ◌+◌, ◌<◌, ◌≤◌, Option, Some, None, refl, ap, ◌∙◌, arith}
use Rattle.std.specs.Prelude.{option_and_then}
use Rattle.bridge_ast.specs.inside.Trails.{after_taking}

pub taking_too_many : (taken steps : ℕ) → steps < taken → after_taking taken steps ≡ None
taking_too_many zero steps over = absurd (omega arith)
taking_too_many (suc taken) zero over = refl
taking_too_many (suc taken) (suc steps) over = taking_too_many taken steps (omega arith)

pub taking_enough : (taken steps : ℕ) → taken ≤ steps → (left : ℕ) × (after_taking taken steps ≡ Some left)
taking_enough zero steps enough = (steps, refl)
taking_enough (suc taken) zero enough = absurd (omega arith)
taking_enough (suc taken) (suc steps) enough = taking_enough taken steps (omega arith)

pub taking_adds : (taken steps left : ℕ) → after_taking taken steps ≡ Some left → left + taken ≡ steps
taking_adds zero steps left h = let same : steps ≡ left = cc in omega (arith, same)
taking_adds (suc taken) zero left h = absurd cc
taking_adds (suc taken) (suc steps) left h = omega (arith, taking_adds taken steps left h)

module _ {A : Type 0} where
  -- two functions that agree on what is left
  pub taking_same : (taken steps bound : ℕ) (f g : ℕ → Option A) → steps < bound → ((left : ℕ) → left < bound → f left ≡ g left)
      → option_and_then f (after_taking taken steps) ≡ option_and_then g (after_taking taken steps)
  taking_same zero steps bound f g few same = same steps few
  taking_same (suc taken) zero bound f g few same = refl
  taking_same (suc taken) (suc steps) bound f g few same = taking_same taken steps bound f g (omega arith) same

  -- a function that finds nothing with what is left
  pub taking_none : (taken steps bound : ℕ) (f : ℕ → Option A) → steps < bound → ((left : ℕ) → left < bound → f left ≡ None)
      → option_and_then f (after_taking taken steps) ≡ None
  taking_none zero steps bound f few none = none steps few
  taking_none (suc taken) zero bound f few none = refl
  taking_none (suc taken) (suc steps) bound f few none = taking_none taken steps bound f (omega arith) none

  -- steps that are taken in two parts
  pub taking_both : (taken more steps : ℕ) (f : ℕ → Option A) → option_and_then
      (λ left. option_and_then f (after_taking more left)) (after_taking taken steps) ≡ option_and_then f
      (after_taking (taken + more) steps)
  taking_both zero more steps f = let e : more ≡ 0 + more = omega arith in ap (λ n. option_and_then f (after_taking n steps)) e
  taking_both (suc taken) more zero f =
      let e : suc (taken + more) ≡ suc taken + more = omega arith in ap (λ n. option_and_then f (after_taking n zero)) e
  taking_both (suc taken) more (suc steps) f =
      let e : suc (taken + more) ≡ suc taken + more = omega arith in taking_both taken more steps f
      ∙ ap (λ n. option_and_then f (after_taking n (suc steps))) e
