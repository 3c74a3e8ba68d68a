-- Chains that are read off one lifetime after another.
use Rattle.std.proofs.Common.{◌≡◌, ℕ, ◌<◌, ◌≤◌, List, [], ◌∷◌, ◌++◌, arith, get_or, refl, sym, subst}
use Rattle.std.specs.List.{All}
use Rattle.std.proofs.lemmas.List.Elements.{All-push}
use Rattle.hir_life.specs.Environment.{Environment, longer_of}
use Rattle.hir_life.specs.Outlives.{Direct, Linked}
use Rattle.hir_explain.specs.inside.Searching.{IsChainFrom}

-- the list begins with first, each of its lifetimes is a direct bound of its successor, and its last is one of next. The empty
-- list is where next is first
abbrev pub IsRun : Environment → ℕ → List ℕ → ℕ → Type 0
IsRun e first [] next = first ≡ next
IsRun e first (l ∷ rest) next = (m : ℕ) × (l ≡ first) × Direct (longer_of e) first m × IsRun e m rest next

-- next joins, with a bound of its own
pub run_more :
    (e : Environment) (first : ℕ) (run : List ℕ) (next after : ℕ) → IsRun e first run next
    → Direct (longer_of e) next after → IsRun e first (run ++ next ∷ []) after
run_more e first [] next after is direct =
    (after, sym is, subst (λ x. Direct (longer_of e) x after) (sym is) direct, refl)
run_more e first (l ∷ rest) next after (m, here, to, is) direct = (m, here, to, run_more e m rest next after is direct)

-- a lifetime in front
chain_front :
    (e : Environment) (first m last : ℕ) (chain : List ℕ) → Direct (longer_of e) first m → IsChainFrom e m chain last
    → Linked (longer_of e) first chain last
chain_front e first m last [] direct none = absurd none
chain_front e first m last (l ∷ rest) direct is = (
  subst (λ x. Direct (longer_of e) first x) (sym is.0) direct,
  subst (λ x. Linked (longer_of e) x rest last) (sym is.0) is.1,
)

-- next joins as the last
pub run_ends :
    (e : Environment) (first : ℕ) (run : List ℕ) (last : ℕ) → IsRun e first run last
    → IsChainFrom e first (run ++ last ∷ []) last
run_ends e first [] last is = (sym is, is)
run_ends e first (l ∷ rest) last (m, here, to, is) =
    (here, chain_front e first m last (rest ++ last ∷ []) to (run_ends e m rest last is))

-- next joins, as it was read and written
pub run_pushed :
    (e : Environment) (first : ℕ) (run : List ℕ) (next item after : ℕ) (list : List ℕ) → item ≡ next
    → list ≡ run ++ item ∷ [] → IsRun e first run next → Direct (longer_of e) next after → IsRun e first list after
run_pushed e first run next item after list same is before direct =
    subst (λ x. IsRun e first x after) (sym is)
    (subst (λ x. IsRun e first (run ++ x ∷ []) after) (sym same) (run_more e first run next after before direct))

-- the last joins, as it was read and written
pub run_finishes :
    (e : Environment) (first : ℕ) (run reached : List ℕ) (at item : ℕ) (list : List ℕ) → at ≤ 0
    → item ≡ get_or reached 0 0 → list ≡ run ++ item ∷ [] → IsRun e first run (get_or reached at 0)
    → IsChainFrom e first list (get_or reached 0 0)
run_finishes e first run reached at item list end same is before =
    let none : at ≡ 0 = omega (arith, end) in
    subst (λ x. IsChainFrom e first x (get_or reached 0 0)) (sym is)
    (subst (λ x. IsChainFrom e first (run ++ x ∷ []) (get_or reached 0 0)) (sym same)
    (run_ends e first run (get_or reached 0 0) (subst (λ x. IsRun e first run (get_or reached x 0)) none before)))

-- what is written is the environment's
pub within_pushed :
    (n : ℕ) (xs ys : List ℕ) (x : ℕ) → ys ≡ xs ++ x ∷ [] → All (λ k. k < n) xs → x < n → All (λ k. k < n) ys
within_pushed n xs ys x is before below =
    subst (λ zs. All (λ k. k < n) zs) (sym is) (All-push (λ k. k < n) xs x before below)
