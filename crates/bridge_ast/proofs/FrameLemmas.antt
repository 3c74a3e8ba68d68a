-- Trails along the targets of aliases.
use Rattle.std.proofs.Common.{◌≡◌, ℕ, zero, suc, ◌+◌, ◌<◌, ◌≤◌, ◌^◌, List, [], ◌∷◌, ◌++◌, length, take, drop, get_or, true, false}
use Rattle.std.proofs.Common.{Option, Some, None, refl, sym, ap, ◌∙◌, arith, subst, inl, inr, ◌⊎◌}
use Rattle.std.specs.Prelude.{option_and_then, ◌↔◌}
use Rattle.std.specs.BTreeMap.{BTreeMap, is_at}
use Rattle.std.specs.BTreeSet.{BTreeSet, Updates, contains}
use Rattle.std.specs.List.{list_any}
use Rattle.std.proofs.lemmas.List.{drop_all, take_all, take_more}
use Rattle.bridge_decl.specs.declared.modules.Module.{Module}
use Rattle.bridge_ast.specs.declared.trail.Advance.TheVariants.{Comes, Waits, Stops}
use Rattle.bridge_ast.specs.declared.trail.Head.TheVariants.{Start}
use Rattle.bridge_ast.specs.declared.place.ItemPlace.{ItemPlace}
use Rattle.bridge_ast.specs.declared.trail.Stand.TheVariants as stand
use Rattle.bridge_ast.specs.declared.trail.Trail.{Trail}
use Rattle.bridge_ast.specs.inside.AliasEnds.{IsAlias, IsEnd, LeadsNowhere, TrailAdvances, alias_leads, waits_at}
use Rattle.bridge_ast.specs.inside.Pairs.{HasPair, pair_cmp}
use Rattle.bridge_ast.specs.inside.Resolution.{target_at}
use Rattle.bridge_ast.specs.inside.Searches.{IsFrame, IsLater, IsWaiting}
use Rattle.bridge_ast.specs.inside.Trails.{after_taking, carried_on, IsInside, IsModule}
use Rattle.bridge_ast.proofs.AdvanceLemmas.{ahead}
use Rattle.bridge_ast.proofs.PairLemmas.{pair_more}
use Rattle.bridge_ast.proofs.EachLemmas.{length_front}
use Rattle.bridge_ast.proofs.StepLemmas.{taking_adds}
use Rattle.bridge_ast.proofs.TrailLemmas.{begun}

-- ---- the aliases of modules

alias_module : (modules : List Module) (number alias : ℕ) → IsAlias modules (number, alias) → IsModule modules number
alias_module [] number alias h = absurd (omega (arith, h))
alias_module (m ∷ modules) zero alias h = (m, refl)
alias_module (m ∷ modules) (suc number) alias h = alias_module modules number alias h

alias_push : (modules : List Module) (m : Module) (first second : ℕ) → IsAlias (modules ++ m ∷ []) (first, second)
    ↔ (IsAlias modules (first, second) ⊎ ((first ≡ length modules) × (second < length m.aliases)))
alias_push [] m zero second = (λ h. inr (refl, h), λ h. elim h [ inl w ↦ absurd (omega (arith, w)) | inr w ↦ w.1 ])
alias_push [] m (suc first) second = (λ h. inl h, λ h. elim h [ inl w ↦ w | inr w ↦ absurd (omega (arith, w.0)) ])
alias_push (x ∷ modules) m zero second = (λ h. inl h, λ h. elim h [ inl w ↦ w | inr w ↦ absurd (omega (arith, w.0)) ])
alias_push (x ∷ modules) m (suc first) second =
    let rest = alias_push modules m first second in (
      λ h. elim (rest.0 h) [ inl w ↦ inl w | inr w ↦ inr (ap suc w.0, w.1) ],
      λ h. elim h [ inl w ↦ rest.1 (inl w) | inr w ↦ rest.1 (inr (omega (arith, w.0), w.1)) ],
    )

-- a loop over modules that adds their aliases
pub aliases_more : (modules : List Module) (i : ℕ) (m : Module) (count : ℕ) (old new : BTreeSet (ℕ × ℕ)) → i < length modules
    → m ≡ get_or modules i m → count ≡ length m.aliases
    → ((first second : ℕ) → HasPair old first second ↔ IsAlias (take i modules) (first, second))
    → ((first second : ℕ) → HasPair new first second ↔ (HasPair old first second ⊎ ((first ≡ i) × (second < count))))
    → (first second : ℕ) → HasPair new first second ↔ IsAlias (take (i + 1) modules) (first, second)
aliases_more modules i m count old new within is counted before adds first second =
    let all : take (i + 1) modules ≡ take i modules ++ m ∷ [] = take_more modules i m within
    ∙ ap (λ (x : Module). take i modules ++ x ∷ []) (sym is) in
    let longer = alias_push (take i modules) m first second in
    let at_end : length (take i modules) ≡ i = length_front modules i within in
    let added = adds first second in
    let was = before first second in (
      λ h. subst (λ ms. IsAlias ms (first, second)) (sym all) (longer.1 (elim
          (added.0 h) [ inl w ↦ inl (was.0 w) | inr w ↦ inr (w.0 ∙ sym at_end, omega (arith, w.1, counted)) ])),
      λ h. added.1 (elim (longer.0 (subst (λ ms. IsAlias ms (first, second)) all h)) [
        | inl w ↦ inl (was.1 w)
        | inr w ↦ inr
            (w.0 ∙ at_end, omega (arith, w.1, counted))
      ]),
    )

-- a loop that adds the aliases of one module
pub numbers_more : (begin old new : BTreeSet (ℕ × ℕ)) (number i : ℕ) → ((first second : ℕ)
    → HasPair old first second ↔ (HasPair begin first second ⊎ ((first ≡ number) × (second < i))))
    → Updates pair_cmp old new (number, i) true
    → (first second : ℕ) → HasPair new first second ↔ (HasPair begin first second ⊎ ((first ≡ number) × (second < i + 1)))
numbers_more begin old new number i before updates first second =
    let more = pair_more old new number i updates first second in
    let was = before first second in (
      λ h. elim (more.0 h) [
        | inl w ↦ elim (was.0 w) [ inl v ↦ inl v | inr v ↦ inr (v.0, omega (arith, v.1)) ]
        | inr w ↦ inr (w.0, omega (arith, w.1))
      ],
      λ h. elim h [
        | inl w ↦ more.1 (inl (was.1 (inl w)))
        | inr w ↦ elim (last second i w.1) [ inl v ↦ more.1 (inl (was.1 (inr (w.0, v)))) | inr v ↦ more.1 (inr (w.0, v)) ]
      ],
    )
  where
    last : (k n : ℕ) → k < n + 1 → (k < n) ⊎ (k ≡ n)
    last zero zero h = inr refl
    last zero (suc n) h = inl (omega arith)
    last (suc k) zero h = absurd (omega (arith, h))
    last (suc k) (suc n) h = elim (last k n (omega (arith, h))) [ inl w ↦ inl (omega (arith, w)) | inr w ↦ inr (ap suc w) ]

pub numbers_none : (begin : BTreeSet (ℕ × ℕ)) (number : ℕ) (first second : ℕ)
    → HasPair begin first second ↔ (HasPair begin first second ⊎ ((first ≡ number) × (second < 0)))
numbers_none begin number first second = (λ h. inl h, λ h. elim h [ inl w ↦ w | inr w ↦ absurd (omega (arith, w.1)) ])

pub numbers_all : (begin now : BTreeSet (ℕ × ℕ)) (number i count : ℕ) → count ≤ i → i ≤ count
    → ((first second : ℕ) → HasPair now first second ↔ (HasPair begin first second ⊎ ((first ≡ number) × (second < i))))
    → (first second : ℕ) → HasPair now first second ↔ (HasPair begin first second ⊎ ((first ≡ number) × (second < count)))
numbers_all begin now number i count past within all =
    let same : i ≡ count = omega (arith, past, within) in
    subst (λ n. (first second : ℕ) → HasPair now first second ↔ (HasPair begin first second ⊎ ((first ≡ number) × (second < n))))
    same all

pub aliases_all : (modules : List Module) (i : ℕ) (aliases : BTreeSet (ℕ × ℕ)) → length modules ≤ i
    → ((first second : ℕ) → HasPair aliases first second ↔ IsAlias (take i modules) (first, second)) → (first second : ℕ)
    → HasPair aliases first second ↔ IsAlias modules (first, second)
aliases_all modules i aliases past all =
    subst (λ ms. (first second : ℕ) → HasPair aliases first second ↔ IsAlias ms (first, second)) (take_all i modules past) all

pub aliases_none : (modules : List Module) (aliases : BTreeSet (ℕ × ℕ)) → aliases.keys ≡ [] → (first second : ℕ)
    → HasPair aliases first second ↔ IsAlias (take 0 modules) (first, second)
aliases_none modules aliases empty first second = (
  λ h. absurd (let none : contains pair_cmp aliases (first, second) ≡ false =
      ap (list_any (is_at (pair_cmp (first, second)))) empty in cc),
  λ h. absurd (none_there first second h),
)
  where
    none_there : (n k : ℕ) → IsAlias [] (n, k) → ⊥
    none_there n k h = omega (arith, h)

-- ---- a trail along a target

pub frame_begun : (modules : List Module) (alias : ℕ × ℕ) → IsAlias modules alias
    → IsFrame modules (record { alias = alias; position = 0; trail = record { stand = stand.Module alias.0 Start; steps = 1 } })
frame_begun modules alias is_alias = record {
  is_alias = is_alias;
  inside = alias_module modules alias.0 alias.1 is_alias;
  counts = omega arith;
  leads = λ steps rest few. begins steps rest;
}
  where
    begins : (steps : ℕ) (rest : List (List ℕ)) → alias_leads steps modules alias rest ≡ carried_on steps modules
        (record { stand = stand.Module alias.0 Start; steps = 1 }) (target_at modules alias.0 alias.1 ++ rest)
    begins zero rest = refl
    begins (suc steps) rest = begun steps modules alias.0 (target_at modules alias.0 alias.1 ++ rest)

module _ (modules : List Module) (ends : BTreeMap (ℕ × ℕ) Trail) (alias : ℕ × ℕ) (i : ℕ) (trail : Trail)
    (is_frame : IsFrame modules (record { alias = alias; position = i; trail = trail })) where
  -- no segment is left
  pub frame_ends : (target : List (List ℕ)) → target ≡ target_at modules alias.0 alias.1 → length target ≤ i
      → IsEnd modules alias trail × IsInside modules trail.stand
  frame_ends target is past = (
    λ steps rest few. is_frame.leads steps rest few ∙ ap (λ segments. carried_on steps modules trail (segments ++ rest))
        (ap (drop i) (sym is) ∙ drop_all i target past),
    is_frame.inside,
  )

  module _ (target : List (List ℕ)) (segment : List ℕ) (is : target ≡ target_at modules alias.0 alias.1)
      (within : i < length target) (at_place : segment ≡ get_or target i segment) where
    so_far : (steps : ℕ) (rest : List (List ℕ)) → steps < 2 ^ 128 → alias_leads steps modules alias rest
        ≡ carried_on steps modules trail (segment ∷ (drop (i + 1) target ++ rest))
    so_far steps rest few =
        is_frame.leads steps rest few ∙ ap (λ segments. carried_on steps modules trail (segments ++ rest))
        (ap (drop i) (sym is) ∙ ahead target i segment within at_place)

    pub frame_further : (after : Trail) → TrailAdvances modules ends trail segment (Comes after)
        → IsFrame modules (record { alias = alias; position = i + 1; trail = after })
    frame_further after told = record {
      is_alias = is_frame.is_alias;
      inside = told.0;
      counts = omega (arith, is_frame.counts, told.1);
      leads =
          λ steps rest few. so_far steps rest few ∙ told.2 steps (drop (i + 1) target ++ rest) few
          ∙ ap (λ segments. carried_on steps modules after (drop (i + 1) segments ++ rest)) is;
    }

    pub frame_stops : TrailAdvances modules ends trail segment Stops → LeadsNowhere modules alias
    frame_stops told = λ steps rest few. so_far steps rest few ∙ told steps (drop (i + 1) target ++ rest) few

    later : (steps taken : ℕ) (next : ℕ × ℕ) (rest : List (List ℕ)) (found : Option ItemPlace) (left : Option ℕ)
        → after_taking taken steps ≡ left → 0 < taken → found ≡ waits_at steps modules taken next rest
        → (found ≡ None) ⊎ IsLater modules (λ other. next ≡ other) steps found
    later steps taken next rest found None is_left counts same =
        inl (same ∙ ap (λ o. option_and_then (λ n. alias_leads n modules next rest) o) is_left)
    later steps taken next rest found (Some left) is_left counts same =
        inr (record {
          next = next;
          among = refl;
          fewer = left;
          less = omega (arith, taking_adds taken steps left is_left, counts);
          rest = rest;
          same = same ∙ ap (λ o. option_and_then (λ n. alias_leads n modules next rest) o) is_left;
        })

    pub frame_waits : (next : ℕ × ℕ) → TrailAdvances modules ends trail segment (Waits next) → IsWaiting modules ends alias next
    frame_waits next told = record {
      waits = λ steps rest few.
          later steps trail.steps next (drop (i + 1) target ++ rest) (alias_leads steps modules alias rest)
          (after_taking trail.steps steps) refl is_frame.counts (so_far steps rest few
          ∙ told.2 steps (drop (i + 1) target ++ rest));
      is_alias = told.0;
      unknown = told.1;
    }
