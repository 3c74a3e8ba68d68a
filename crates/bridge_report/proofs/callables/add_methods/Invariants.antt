use Rattle.std.proofs.Common.{◌≡◌, ◌++◌, drop}
use Rattle.bridge_report.specs.inside.Ids.{method_ids}
use Rattle.bridge_report.proofs.callables.add_methods.Given as goal

-- the ids with those of the methods that are left are all
abbrev pub invariant-loop-number : goal.invariant-loop-number
invariant-loop-number l = l.ids ++ method_ids l.id l.number (drop l.number l.methods) ≡ l.fn.ids ++ method_ids l.id 0 l.methods
