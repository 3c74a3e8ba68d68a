-- What tests need of lists of lifetimes.
use Rattle.std.proofs.Common.{◌≡◌, ℕ, ◌<◌, ◌≤◌, inl, inr, Bool, true, false, List, [], length, get_or, set, map, sym, ◌∙◌, ap, subst, arith}
use Rattle.std.specs.List.{Contains}
use Rattle.std.proofs.lemmas.List.{get_or_past, get_or_default, length-map}
use Rattle.std.proofs.lemmas.List.Elements.{Contains-get_or, All-contains, All-from_get_or}
use Rattle.hir_life.specs.Outlives.{Direct, Outlives}
use Rattle.hir_life.proofs.Chains.{outlives_by_longer, closed_has_longer}
use Rattle.hir_life.proofs.Marking.{flag_was}
use Rattle.hir_life.specs.declared.bounds.BoundedLifetime.{BoundedLifetime}
use Rattle.hir_life.specs.declared.walks.Direction.{Direction}
use Rattle.hir_life.specs.declared.walks.Direction.TheVariants.{Longer, Shorter}
use Rattle.hir_life.specs.Environment.{followed}

-- what holds at each place holds of each element
pub each_by_place :
    (xs : List ℕ) (P : ℕ → Type 0) → ((j : ℕ) → j < length xs → P (get_or xs j 0)) → (l : ℕ) → Contains xs l → P l
each_by_place xs P at_each l h = All-contains P xs l (All-from_get_or P xs 0 at_each) h

-- an element that was read is in the list
pub item_there :
    (xs : List ℕ) (i item l : ℕ) → i < length xs → item ≡ get_or xs i item → l ≡ item → Contains xs l
item_there xs i item l within is same =
    subst (λ x. Contains xs x) (sym is ∙ sym same) (Contains-get_or xs i item within)

none_in_nothing : (xs : List ℕ) (l : ℕ) → xs ≡ [] → Contains xs l → ⊥
none_in_nothing xs l none h =
    let h' : Contains [] l = subst (λ x. Contains x l) none h in
    omega (arith, h'.1)

-- past the named lifetimes there are no bounds
pub none_past :
    (nodes : List BoundedLifetime) (d : Direction) (at l : ℕ) → length nodes ≤ at
    → Contains (followed (record { bounds = nodes; count = 0 }) d at) l → ⊥
none_past nodes Longer at l past h =
    none_in_nothing _ l (get_or_past (map (λ b. b.longer) nodes) at [] (omega (arith, length-map nodes (λ (b : BoundedLifetime). b.longer)))) h
none_past nodes Shorter at l past h =
    none_in_nothing _ l (get_or_past (map (λ b. b.shorter) nodes) at [] (omega (arith, length-map nodes (λ (b : BoundedLifetime). b.shorter)))) h

-- a lifetime is held that outlives the start, where the held one that it bounds does
pub belong_more :
    (longer : ℕ → List ℕ) (s : ℕ) (held : List Bool) (l : ℕ)
    → (m : ℕ) × (get_or held m false ≡ true) × Direct longer l m
    → ((k : ℕ) → get_or held k false ≡ true → Outlives longer k s) → (k : ℕ) → get_or (set held l true) k false ≡ true
    → Outlives longer k s
belong_more longer s held l bound belong k h =
    elim (flag_was held l k h) [
      | inl was ↦ belong k was
      | inr now ↦
          subst (λ x. Outlives longer x s) now (outlives_by_longer longer l bound.0 s bound.2 (belong bound.0 bound.1))
    ]

-- the same, by the flags as they were lent
pub bound_held :
    (longer : ℕ → List ℕ) (lent held : List Bool) (l : ℕ) → lent ≡ held
    → (m : ℕ) × (get_or lent m false ≡ true) × Direct longer l m
    → (m : ℕ) × (get_or held m false ≡ true) × Direct longer l m
bound_held longer lent held l same bound =
    (bound.0, subst (λ x. get_or x bound.0 false ≡ true) same bound.1, bound.2)

-- what is held when no bound is missing
pub held_all :
    (longer : ℕ → List ℕ) (s l : ℕ) (lent held : List Bool) (flag : Bool) (at : ℕ) → lent ≡ held → at ≡ l
    → l < length held → flag ≡ get_or held at flag → get_or held s false ≡ true
    → ((k : ℕ) → get_or held k false ≡ true → Outlives longer k s)
    → ((k m : ℕ) → get_or lent k false ≡ true → Direct longer m k → get_or lent m false ≡ true)
    → (flag ≡ true → Outlives longer l s) × (Outlives longer l s → flag ≡ true)
held_all longer s l lent held flag at same here within is start belong closed =
    let read : flag ≡ get_or held l false =
    is ∙ get_or_default held at flag false (subst (λ x. x < length held) (sym here) within)
    ∙ ap (λ x. get_or held x false) here in
    let closed' : (k m : ℕ) → get_or held k false ≡ true → Direct longer m k → get_or held m false ≡ true =
    subst
    (λ (x : List Bool). (k m : ℕ) → get_or x k false ≡ true → Direct longer m k → get_or x m false ≡ true) same
    closed in (
      λ yes. belong l (sym read ∙ yes),
      λ o. read ∙ closed_has_longer longer (λ k. get_or held k false ≡ true) s start closed' l o,
    )
