-- TooManyLeaves: the inputs of a method or a function have more than 1,048,576 leaves.
use Rattle.std.specs.Prelude.{◌<◌, length}
use Rattle.bridge_leaves.specs.Limits.{most_leaves}
use Rattle.bridge_report.specs.Callables.{Callable}

abbrev pub TooManyLeaves : Callable → Type 0
TooManyLeaves c = most_leaves < length c.leaves
