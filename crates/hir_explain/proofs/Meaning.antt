-- What explanations mean.
use Rattle.std.proofs.Common.{◌≡◌, ℕ, ◌<◌, ◌↔◌, List, [], ◌∷◌, get_or, sym, ◌∙◌, subst}
use Rattle.std.specs.List.{All, Contains}
use Rattle.std.proofs.lemmas.Grind.{get_or_default_zero}
use Rattle.std.proofs.lemmas.List.Elements.{All-contains, Contains-get_or}
use Rattle.hir_life.specs.Environment.{Environment, IsSound, longer_of}
use Rattle.hir_life.specs.Outlives.{Direct, Linked}
use Rattle.hir_life.specs.declared.maybe_static.MaybeStatic.{MaybeStatic}
use Rattle.hir_life.specs.declared.walks.Direction.TheVariants.{Longer}
use Rattle.hir_life.proofs.Chains.{closed_has_longer}
use Rattle.hir_life.proofs.Following.{bound_within}
use Rattle.hir_explain.specs.Explanations.{IsCarried, IsChainTo, IsListed, Separates}
use Rattle.hir_explain.specs.inside.Searching.{Found, IsChainFrom, IsExhausted}

-- a chain shows that the leaf is listed
pub chain_lists :
    (e : Environment) (carried : List (MaybeStatic ℕ)) (t : ℕ) (chain : List ℕ) → IsChainTo e carried t chain
    → IsListed e carried t
chain_lists e carried t [] none = absurd none
chain_lists e carried t (first ∷ rest) is =
    record { carrier = first; is_carried = is.0; outlives = record { chain = rest; linked = is.1 } }

-- long lifetimes that separate show that it isn't
pub separates_not :
    (e : Environment) (carried : List (MaybeStatic ℕ)) (t : ℕ) (long : List ℕ) → Separates e carried t long
    → IsListed e carried t → ⊥
separates_not e carried t long is listed =
    is.apart listed.carrier listed.is_carried
    (closed_has_longer (longer_of e) (λ x. Contains long x) t is.has_t (λ k l has direct. is.steady l k has direct) listed.carrier listed.outlives)

-- the chain that was read off is one from a carried lifetime to t
pub chain_read :
    (e : Environment) (carried : List (MaybeStatic ℕ)) (first last t : ℕ) (chain : List ℕ) → IsCarried carried first
    → last ≡ t → IsChainFrom e first chain last → IsChainTo e carried t chain
chain_read e carried first last t [] carries end none = none
chain_read e carried first last t (l ∷ rest) carries end is = (
  subst (λ x. IsCarried carried x) (sym is.0) carries,
  subst (λ x. Linked (longer_of e) l rest x) end (subst (λ x. Linked (longer_of e) x rest last) (sym is.0) is.1),
)

-- what was reached when the search was over separates, where none of it is carried
pub reached_separates :
    (e : Environment) (carried : List (MaybeStatic ℕ)) (t : ℕ) (f : Found) (long : List ℕ) → IsSound e → t < e.count
    → IsExhausted e t f → ((l : ℕ) → IsCarried carried l → Contains f.reached l → ⊥)
    → ((l : ℕ) → l < e.count → (Contains long l ↔ Contains f.reached l)) → All (λ l. l < e.count) long
    → Separates e carried t long
reached_separates e carried t f long sound below complete apart same within =
    record {
      steady = λ l s has direct.
          let here = (same s (All-contains (λ k. k < e.count) long s within has)).0 has in
          let at : get_or f.reached here.0 0 ≡ s = sym (get_or_default_zero f.reached here.0 s here.1) ∙ here.2 in
          let reached : Contains f.reached l =
          complete.followed here.0 here.1 l
          (subst (λ x. Direct (longer_of x) l (get_or f.reached here.0 0)) (sym complete.over)
          (subst (λ x. Direct (longer_of e) l x) (sym at) direct)) in
          (same l (bound_within e Longer s l sound direct)).1 reached;
      has_t =
          (same t below).1
          (subst (λ x. Contains f.reached x) complete.first (Contains-get_or f.reached 0 0 complete.some));
      apart = λ l carries has. apart l carries ((same l (All-contains (λ k. k < e.count) long l within has)).0 has);
    }
