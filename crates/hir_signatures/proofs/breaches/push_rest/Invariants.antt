use Rattle.std.proofs.Common.{◌≡◌, ◌++◌, take}
use Rattle.std.specs.Prelude.{codes, string_bytes}
use Rattle.std.specs.List.{flat_map}
use Rattle.hir_signatures.proofs.breaches.push_rest.Given as goal

abbrev pub invariant-loop-segment : goal.invariant-loop-segment
invariant-loop-segment l =
    string_bytes l.text ≡ string_bytes l.fn.text ++ flat_map (λ segment. codes "::" ++ segment) (take l.segment-index l.segments)
