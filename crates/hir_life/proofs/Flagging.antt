-- A loop over a walk that sets a flag for each lifetime that is given.
use Rattle.std.proofs.Common.{◌≡◌, ℕ, ◌<◌, inl, inr, Bool, true, false, List, [], ◌∷◌, ◌++◌, length, get_or, set, sym, ◌∙◌, ap, subst, arith, length-set}
use Rattle.std.specs.List.{Contains}
use Rattle.std.proofs.lemmas.List.Elements.{Contains-push_cases}
use Rattle.hir_life.specs.declared.walks.Direction.TheVariants.{Longer}
use Rattle.hir_life.specs.Environment.{Environment, followed}
use Rattle.hir_life.specs.Outlives.{Outlives}
use Rattle.hir_life.specs.Walk.{Walk, Belongs, GivesNext}
use Rattle.hir_life.proofs.Marking.{flag_of_old, flag_of_new, flag_was}

-- the flags are those of what the walk from s to the longer has given
pub record FlagsGiven (e : Environment) (s : ℕ) (w : Walk) (flags : List Bool) : Type 0 where
  pub environment : w.environment ≡ e
  pub direction : w.direction ≡ Longer
  pub start : w.start ≡ s
  pub each : length flags ≡ e.count
  pub given : (k : ℕ) → Contains w.given k → get_or flags k false ≡ true
  pub belong : (k : ℕ) → get_or flags k false ≡ true → Outlives (followed e Longer) k s

-- what belongs to the walk outlives its start
pub belongs_to :
    (e : Environment) (s : ℕ) (w : Walk) (k : ℕ) → w.environment ≡ e → w.direction ≡ Longer → w.start ≡ s → Belongs w k
    → Outlives (followed e Longer) k s
belongs_to e s w k environment direction start belongs =
    subst (λ x. Outlives (followed e Longer) k x) start
    (subst (λ x. Outlives (followed e x) k w.start) direction
    (subst (λ x. Outlives (followed x w.direction) k w.start) environment belongs))

-- what outlives its start belongs to the walk
pub belonging :
    (e : Environment) (s : ℕ) (w : Walk) (k : ℕ) → w.environment ≡ e → w.direction ≡ Longer → w.start ≡ s
    → Outlives (followed e Longer) k s → Belongs w k
belonging e s w k environment direction start o =
    subst (λ x. Outlives (followed x w.direction) k w.start) (sym environment)
    (subst (λ x. Outlives (followed e x) k w.start) (sym direction)
    (subst (λ x. Outlives (followed e Longer) k x) (sym start) o))

-- what is given has a flag
pub flag_within :
    (e : Environment) (s : ℕ) (w after : Walk) (flags : List Bool) (l : ℕ) → FlagsGiven e s w flags → GivesNext w l after
    → l < length flags
flag_within e s w after flags l is gives = omega (arith, is.each, gives.within, ap (λ x. x.count) is.environment)

-- the flag of what is given is set
pub flags_more :
    (e : Environment) (s : ℕ) (w after : Walk) (flags : List Bool) (l : ℕ) → FlagsGiven e s w flags → GivesNext w l after
    → FlagsGiven e s after (set flags l true)
flags_more e s w after flags l is gives =
    let within = flag_within e s w after flags l is gives in
    let next : FlagsGiven e s (record w { given = w.given ++ l ∷ [] }) (set flags l true) =
    record {
      environment = is.environment;
      direction = is.direction;
      start = is.start;
      each = length-set flags l true ∙ is.each;
      given = λ k h.
          elim (Contains-push_cases w.given l k h) [
            | inl was ↦ flag_of_old flags l k within (is.given k was)
            | inr now ↦ flag_of_new flags l k within now
          ];
      belong = λ k h.
          elim (flag_was flags l k h) [
            | inl was ↦ is.belong k was
            | inr now ↦
                subst (λ x. Outlives (followed e Longer) x s) now
                (belongs_to e s w l is.environment is.direction is.start gives.belongs)
          ];
    } in
    subst (λ x. FlagsGiven e s x (set flags l true)) (sym gives.follows) next
