-- Numbers that rise stand apart.
use Rattle.std.proofs.Common.{◌≡◌, ℕ, zero, suc, ◌+◌, ◌-◌, ◌<◌, List, arith, ap, subst, sym, refl, length, slice_index}
use Rattle.std.specs.List.Sorted.{IsStrictlyIncreasing, IsStrictlySortedBy}
use Rattle.std.specs.Ordering.{nat_cmp}
use Rattle.std.proofs.lemmas.Map.Keys.{IsStrictlyIncreasing-from_sorted}
use Rattle.hir_borrowing_params.specs.inside.Candidates.{AreApart}

rising : (keys : List ℕ) → IsStrictlyIncreasing keys → (i n j : ℕ) → j ≡ i + 1 + n → j < length keys → slice_index keys i < slice_index keys j
rising keys up i zero j is within =
    let next : j ≡ i + 1 = omega arith in
    subst (λ x. slice_index keys i < slice_index keys x) (sym next) (up i (omega arith))
rising keys up i (suc n) j is within =
    let before = rising keys up i n (i + 1 + n) refl (omega arith) in
    let step = up (i + 1 + n) (omega arith) in
    let here : j ≡ i + 1 + n + 1 = omega arith in
    let at = ap (slice_index keys) here in
    omega (arith, before, step, at)

pub apart_from_sorted : (keys : List ℕ) → IsStrictlySortedBy nat_cmp keys → AreApart keys
apart_from_sorted keys sorted i j below within same =
    let up = rising keys (IsStrictlyIncreasing-from_sorted keys sorted) i (j - (i + 1)) j (omega arith) within in
    omega (arith, up, same)
