use Rattle.std.proofs.Common.{◌≡◌, ◌++◌, take}
use Rattle.hir_borrowing_fields.proofs.carried.add_each.Given as goal

abbrev pub invariant-loop-lifetime : goal.invariant-loop-lifetime
invariant-loop-lifetime l = l.list ≡ l.initial.list ++ take l.lifetime-index l.lifetimes
