use Rattle.std.proofs.Common.{◌≡◌, ◌++◌, ℕ, List}
use Rattle.std.specs.List.{AllZip}
use Rattle.bridge_borrow.specs.inside.Returned.{IsListedUnder}
use Rattle.bridge_borrow.proofs.callables.returned_lifetimes.Given as goal

-- what is returned so far, and then the lifetimes that are left
abbrev pub invariant-loop-lifetime : goal.invariant-loop-lifetime
invariant-loop-lifetime l =
    (done : List ℕ) × (done ++ l.lifetime-iterator ≡ l.lifetimes.keys) × AllZip (IsListedUnder l.method l.fields) l.returned done
