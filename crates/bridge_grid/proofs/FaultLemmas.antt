use Rattle.std.proofs.Common.{◌≡◌, ◌↔◌, [], ◌∷◌, List, Bool, true, false, IsTrue, refl}
use Rattle.bridge_grid.specs.declared.fault.TypeFault.{TypeFault}
use Rattle.bridge_grid.specs.Faults.{or_inside}

pub refused : (b : Bool) (xs inside : List TypeFault) → (IsTrue b ↔ (xs ≡ [])) → b ≡ false → xs ≡ or_inside xs inside
refused b [] inside both is_false = let h : b ≡ true = both.1 refl in cc
refused b (x ∷ xs) inside both is_false = refl
