-- A search for the lifetimes that outlive t. The example throughout is `fn f<'a, 'b: 'a, 'c: 'b, 'd>`, where a to d have the numbers
-- 0 to 3, and the search from a when it is over: it has reached a, b, c.
use Rattle.std.specs.Prelude.{◌≡◌, ℕ, List, [], ◌∷◌, ◌++◌, ◌<◌, ◌⊎◌, length, slice_index}
use Rattle.std.specs.List.{Contains}
use Rattle.hir_life.specs.Environment.{Environment, longer_of}
use Rattle.hir_life.specs.Outlives.{Direct, Linked}

-- the lifetimes that were reached, and for each of them the place in this list of the one from which it was: a, b, c with the
-- places 0, 0, 1
pub record Found : Type 0 where
  pub environment : Environment
  pub reached : List ℕ
  pub origins : List ℕ

-- l is declared to outlive the lifetime at this place: c that at 1
pub record IsBoundAt (f : Found) (l place : ℕ) : Type 0 where
  pub within : place < length f.reached
  pub direct : Direct (longer_of f.environment) l (slice_index f.reached place)

-- the lifetime at place j is declared to outlive the one at this earlier place: that at 2 the one at 1
pub record ComesFrom (f : Found) (j place : ℕ) : Type 0 where
  pub earlier : place < j
  pub direct : Direct (longer_of f.environment) (slice_index f.reached j) (slice_index f.reached place)

-- each lifetime but the first leads to the one from which it was reached, and all are the environment's
pub record IsFound (f : Found) : Type 0 where
  pub parallel : length f.origins ≡ length f.reached
  pub leads : (j : ℕ) → 0 < j → j < length f.reached → ComesFrom f j (slice_index f.origins j)
  pub within : (k : ℕ) → Contains f.reached k → k < f.environment.count

-- l is reached: it goes to the end, unless it was reached before
pub record HasReached (f : Found) (l : ℕ) (after : Found) : Type 0 where
  pub same : after.environment ≡ f.environment
  pub grown : (after.reached ≡ f.reached) ⊎ (after.reached ≡ f.reached ++ l ∷ [])
  pub has : Contains after.reached l

-- more lifetimes are reached
pub record Grows (f after : Found) : Type 0 where
  pub same : after.environment ≡ f.environment
  pub more : List ℕ
  pub grown : after.reached ≡ f.reached ++ more

-- the lifetimes that are declared to outlive the one at this place were reached
abbrev pub IsFollowed : Found → ℕ → Type 0
IsFollowed f place = (l : ℕ) → Direct (longer_of f.environment) l (slice_index f.reached place) → Contains f.reached l

-- the search from t is over: t is the first that was reached, and with each lifetime those that are declared to outlive it were
pub record IsExhausted (e : Environment) (t : ℕ) (f : Found) : Type 0 where
  pub over : f.environment ≡ e
  pub some : 0 < length f.reached
  pub first : slice_index f.reached 0 ≡ t
  pub followed : (place : ℕ) → place < length f.reached → IsFollowed f place

-- the lifetime first and those of the list after it end with last, and each is a direct bound of its successor: c, b, a from c to a
abbrev pub IsChainFrom : Environment → ℕ → List ℕ → ℕ → Type 0
IsChainFrom e first [] last = ⊥
IsChainFrom e first (l ∷ rest) last = (l ≡ first) × Linked (longer_of e) first rest last
