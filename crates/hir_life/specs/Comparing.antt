-- Order, equality and hash of a type.
use Rattle.std.specs.Prelude.{◌≡◌, ℕ, List, Bool, ◌↔◌, IsTrue}
use Rattle.std.specs.declared.cmp.Ordering.{Ordering}
use Rattle.std.specs.declared.cmp.Ordering.TheVariants.{Equal}

-- they agree on which values are equal: two values that are the same, and no others, compare as equal both by order and by
-- equality, and have the same hash
pub record Agree {T : Type 0} (cmp : T → T → Ordering) (eq : T → T → Bool) (hash_input : T → List (List ℕ)) : Type 0 where
  pub equal : (x y : T) → (IsTrue (eq x y) ↔ (x ≡ y))
  pub ordered : (x y : T) → ((cmp x y ≡ Equal) ↔ (x ≡ y))
  pub hashed : (x y : T) → IsTrue (eq x y) → hash_input x ≡ hash_input y
