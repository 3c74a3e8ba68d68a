use Rattle.std.proofs.Common.{◌≡◌}
use Rattle.std.specs.List.{list_any}
use Rattle.bridge_validation.specs.Told.{is_unnamed}
use Rattle.bridge_validation.proofs.callables.has_unnamed.Given as goal

abbrev pub invariant-loop-lifetime : goal.invariant-loop-lifetime
invariant-loop-lifetime l =
    list_any (is_unnamed l.env) l.lifetime-iterator ≡ list_any (is_unnamed l.env) l.initial.lifetime-iterator
