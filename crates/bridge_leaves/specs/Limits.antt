-- How many leaves a callable may have.
use Rattle.std.specs.Prelude.{ℕ, Bool, length, nat_lt}
use Rattle.bridge_report.specs.Callables.{Callable}

-- 2^20
abbrev pub most_leaves : ℕ
most_leaves = 1048576

-- its inputs have more
abbrev pub has_too_many : Callable → Bool
has_too_many c = nat_lt most_leaves (length c.leaves)
