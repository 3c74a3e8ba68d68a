use Rattle.std.proofs.Common.{◌≡◌, [], length}
use Rattle.std.specs.Prelude.{All}
use Rattle.bridge_places.proofs.numbering.unknown.Given as goal

abbrev pub invariant-loop : goal.invariant-loop
invariant-loop l = (length l.modules ≡ l.counter) × All (λ entries. entries ≡ []) l.modules
