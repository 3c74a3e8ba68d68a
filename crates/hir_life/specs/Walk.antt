-- What a walk over lifetimes gives.
use Rattle.std.specs.Prelude.{◌≡◌, ℕ, List, [], ◌∷◌, ◌++◌, ◌<◌, Option, Some, None}
use Rattle.std.specs.List.{Contains, flat_map}
use Rattle.hir_life.specs.First.{IsFirstNotIn}
use Rattle.hir_life.specs.Outlives.{Outlives}
use Rattle.hir_life.specs.Environment.{Environment, followed}
use Rattle.hir_life.specs.declared.walks.Direction.{Direction}

-- the environment that is walked over, the bounds that are followed, where the walk began, and what it gave so far
pub record Walk : Type 0 where
  pub environment : Environment
  pub direction : Direction
  pub start : ℕ
  pub given : List ℕ

-- a walk that has given nothing, as one that begins
abbrev pub walk_from : Environment → Direction → ℕ → Walk
walk_from environment direction start = record { environment = environment; direction = direction; start = start; given = [] }

-- l belongs to the walk: for `fn f<'a, 'b: 'a>` a walk to the longer from a has a and b, and from b only b
abbrev pub Belongs : Walk → ℕ → Type 0
Belongs w l = Outlives (followed w.environment w.direction) l w.start

-- the start, and after it the bounds of the lifetimes that were given, in the order in which these were given and in which
-- their bounds are declared: among these the walk looks for its next. From a in `fn f<'a, 'b: 'a, 'c: 'a>` they are a at
-- first, and a, b, c when a was given
abbrev pub candidates : Walk → List ℕ
candidates w = w.start ∷ flat_map (followed w.environment w.direction) w.given

-- the walk gives l: a lifetime that belongs to it and was not given, and of the candidates that were not given the first.
-- From a in `fn f<'a, 'b: 'a, 'c: 'a>` it gives a, then b, and then c
pub record GivesNext (w : Walk) (l : ℕ) (after : Walk) : Type 0 where
  pub belongs : Belongs w l
  pub within : l < w.environment.count
  pub fresh : Contains w.given l → ⊥
  pub next : IsFirstNotIn w.given (candidates w) l
  pub follows : after ≡ record w { given = w.given ++ l ∷ [] }

-- the walk is over: it has given all that belongs to it, as a and b
pub record Ends (w after : Walk) : Type 0 where
  pub complete : (l : ℕ) → Belongs w l → Contains w.given l
  pub stays : after ≡ w

-- what one call of `next` does, by what it returns
abbrev pub WalksOn : Walk → Option ℕ → Walk → Type 0
WalksOn w None after = Ends w after
WalksOn w (Some l) after = GivesNext w l after
