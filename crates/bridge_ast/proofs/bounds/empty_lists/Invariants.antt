use Rattle.std.proofs.Common.{◌≡◌, ℕ, [], length, get_or}
use Rattle.bridge_ast.proofs.bounds.empty_lists.Given as goal

abbrev pub invariant-loop : goal.invariant-loop
invariant-loop l = record {
  count : length l.lists.items ≡ l.counter;
  empty : (at : ℕ) → get_or l.lists.items at [] ≡ [];
}
