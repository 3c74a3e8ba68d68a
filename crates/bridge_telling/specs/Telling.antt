-- What a list tells of things of which something may be said: of errors, that a rule is broken.
use Rattle.std.specs.Prelude.{◌≡◌, ◌↔◌, List, [], ◌∷◌, Bool, if◌then◌else◌}
use Rattle.std.specs.List.{Contains}

-- one, where a test passes
abbrev pub one_if : {E : Type 0} → Bool → E → List E
one_if passes e = if passes then e ∷ [] else []

-- the list has all of which it is said, and nothing else
abbrev pub TellsExactly : {E : Type 0} → List E → (E → Type 0) → Type 0
TellsExactly {E} told Says = (e : E) → Contains told e ↔ Says e

-- it is said of each in the list; and wherever it is said of anything, the list has something at the same place
pub record TellsPlaces {E C : Type 0} (place : E → C) (told : List E) (Says : E → Type 0) : Type 0 where
  pub each : (e : E) → Contains told e → Says e
  pub every : (e : E) → Says e → (one : E) × (Contains told one × (place one ≡ place e))
