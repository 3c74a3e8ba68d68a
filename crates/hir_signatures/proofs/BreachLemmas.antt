-- Breaches as reports.
use Rattle.std.proofs.Common.{◌≡◌, List, [], ◌∷◌, map, sym, ap}
use Rattle.std.proofs.lemmas.Simd.{map-map}
use Rattle.hir_number.specs.declared.breach.Breach.{Breach}
use Rattle.hir_number.specs.Breaches.{broken}
use Rattle.hir_reports.specs.Store.{Held, added}
use Rattle.hir_signatures.specs.Errors.{breach_error}

-- each of what the code lends, and each of what that is
pub composed : (held : Held) (breaches : List Breach) → added held (map (λ b. breach_error (broken b)) breaches) ≡ added held (map breach_error (map broken breaches))
composed held breaches = ap (added held) (sym (map-map breach_error broken breaches))

-- something isn't nothing
pub some_left : (b : Breach) (breaches : List Breach) → map broken (b ∷ breaches) ≡ [] → ⊥
some_left b breaches h = absurd cc
