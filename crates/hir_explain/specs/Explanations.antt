-- Why a leaf is listed under a lifetime t, or why it isn't. The example throughout is `fn f<'a, 'b: 'a, 'c>`, where a, b and c have
-- the numbers 0, 1 and 2, and t is a: a leaf that carries b is listed under a, and one that carries c alone isn't.
use Rattle.std.specs.Prelude.{ℕ, List, [], ◌∷◌, ◌<◌}
use Rattle.std.specs.List.{All, Contains}
use Rattle.hir_life.specs.Environment.{Environment, longer_of}
use Rattle.hir_life.specs.Outlives.{Direct, Linked, Outlives}
use Rattle.hir_life.specs.Substitution.{AreBelow}
use Rattle.hir_life.specs.declared.maybe_static.MaybeStatic.{MaybeStatic}
use Rattle.hir_life.specs.declared.maybe_static.MaybeStatic.TheVariants.{NonStatic}
use Rattle.hir_explain.specs.declared.explanations.Explanation.{Explanation}
use Rattle.hir_explain.specs.declared.explanations.Explanation.TheVariants.{Chain, Separating}

-- the leaf carries the lifetime with this number: `'static` has none
abbrev pub IsCarried : List (MaybeStatic ℕ) → ℕ → Type 0
IsCarried carried l = Contains carried (NonStatic l)

-- some lifetime that the leaf carries outlives t, so that the leaf is listed under t: b does
pub record IsListed (e : Environment) (carried : List (MaybeStatic ℕ)) (t : ℕ) : Type 0 where
  pub carrier : ℕ
  pub is_carried : IsCarried carried carrier
  pub outlives : Outlives (longer_of e) carrier t

-- where s is among the long lifetimes, so is each that is declared to outlive s: a, b are steady, and a alone isn't
abbrev pub IsSteady : Environment → List ℕ → Type 0
IsSteady e long = (l s : ℕ) → Contains long s → Direct (longer_of e) l s → Contains long l

-- some lifetime that the leaf carries is among the long ones: b among a, b
pub record HasCarried (carried : List (MaybeStatic ℕ)) (long : List ℕ) : Type 0 where
  pub carrier : ℕ
  pub is_carried : IsCarried carried carrier
  pub has : Contains long carrier

-- the list begins with a carried lifetime and ends with t, and each of its lifetimes is a direct bound of its successor: b, a
abbrev pub IsChainTo : Environment → List (MaybeStatic ℕ) → ℕ → List ℕ → Type 0
IsChainTo e carried t [] = ⊥
IsChainTo e carried t (first ∷ rest) = IsCarried carried first × Linked (longer_of e) first rest t

-- the long lifetimes are steady, t is one of them, and none of them is carried: a, b for a leaf that carries c
pub record Separates (e : Environment) (carried : List (MaybeStatic ℕ)) (t : ℕ) (long : List ℕ) : Type 0 where
  pub steady : IsSteady e long
  pub has_t : Contains long t
  pub apart : (l : ℕ) → IsCarried carried l → Contains long l → ⊥

-- the numbers that stand in an explanation
abbrev pub explained_by : Explanation → List ℕ
explained_by (Chain chain) = chain
explained_by (Separating long) = long

-- the list of the explanation is what its kind says
abbrev pub Shows : Environment → List (MaybeStatic ℕ) → ℕ → Explanation → Type 0
Shows e carried t (Chain chain) = IsChainTo e carried t chain
Shows e carried t (Separating long) = Separates e carried t long

-- all numbers are those of lifetimes, and the explanation shows what its kind says
pub record Proves (e : Environment) (carried : List (MaybeStatic ℕ)) (t : ℕ) (x : Explanation) : Type 0 where
  pub t_within : t < e.count
  pub carried_within : AreBelow e.count carried
  pub within : All (λ l. l < e.count) (explained_by x)
  pub shows : Shows e carried t x

-- the explanation says that the leaf is listed
abbrev pub SaysListed : Explanation → Type 0
SaysListed (Chain chain) = Unit {0}
SaysListed (Separating long) = ⊥
