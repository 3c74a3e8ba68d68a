-- What a list tells up to the first step in which something is wrong.
use Rattle.std.specs.Prelude.{List}
use Rattle.std.specs.List.{Contains}

-- it is said of each in the list; and, given that `Given` holds, the list isn't empty where it is said of anything
pub record TellsGiven (Given : Type 0) {E : Type 0} (told : List E) (Says : E → Type 0) : Type 0 where
  pub each : (e : E) → Contains told e → Says e
  pub some : Given → (e : E) → Says e → (one : E) × Contains told one
