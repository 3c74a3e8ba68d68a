-- Calls of a function at names that are lent.
use Rattle.std.specs.Prelude.{◌≡◌, ◌⊎◌, ℕ, List, [], ◌∷◌, Result, Ok, Err}
use Rattle.std.specs.Fn.{Mut, Called}
use denote.Ref.{Bor}

-- a call at a number and a `&` to a name, which answers r and leaves f' of f: at 0 and `mark`, and at 1 and `page`
pub record CalledAtName {F A R : Type 0} (g : Mut F (ℕ × (Bor A × Unit {0})) R) (f : F) (x : ℕ × A) (r : R) (f' : F) : Type 0 where
  pub shown : Bor A
  pub shows : shown.now ≡ x.1
  pub called : Called g f (x.0, (shown, tt)) r f'

-- a call at each of some, one after another, up to the first that answers with an error, which is the answer then
abbrev pub TriesEach : {F A E : Type 0} → (F → A → Result (Unit {0}) E → F → Type 0) → F → List A → Result (Unit {0}) E → F → Type 0
TriesEach call f [] r last = (r ≡ Ok tt) × (f ≡ last)
TriesEach {F} {A} {E} call f (x ∷ xs) r last =
    ((e : E) × (r ≡ Err e) × call f x (Err e) last) ⊎ ((next : F) × call f x (Ok tt) next × TriesEach call next xs r last)
